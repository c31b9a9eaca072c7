-- The kinds in the tree of any text have from 1 to 64 bits, as the grammar allows no other width.
use Rattle.std.proofs.Common.{ℕ, suc, ◌+◌, Bool, true, false, List, [], ◌∷◌, map, arith}
use Rattle.std.specs.List.{AllByRecursion}
use Rattle.dh_value.specs.Words.{IsKind}
use Rattle.dh_tree.specs.Widths.{IsSized, AreSized, AreAllSized, MaybeSized, PlanSized, ActionSized, FormSized, OtherSized, ActionsSized, GroupsSized, DefinedSized, HasWidths}
use Rattle.dh_tree.specs.PlainTrees.{Declared, Formal, Suffixed}
use Rattle.dh_parser.specs.Allowed.{level, KindFits, ExpressionFits, AccessFits, IndexFits, IndicesFit, MoreArgumentsFit, ArgumentsFit, SuffixFits, OffsetFits, AllFit, ViewFits, ValueFits, SimpleFits, DeclaredFits, BlockFits, AllPartsFit, PartFits, CompoundFits, IfFits, ElseFits, CombineFits, MoreParametersFit, ParametersFit, ItemsFit, ProgramFits}
use Rattle.dh_parser.specs.Grammar.{NameText, KindText, bool_kind, bit_kind, ubit_kind, TypeText, ExprText, literal, negative, truth, variable, access, bracket, cast, binary, AccessText, element, physical, IndexText, index, MoreIndicesText, no_indices, index_then, MoreArgumentsText, no_more_arguments, argument_then, ArgumentsText, no_arguments, some_arguments, SuffixText, OffsetText, ViewText, shrink, split, suffix, shift, ValueText, no_value, some_value, SimpleText, let_typed, let_value, view, assign, store, reduce, call, DeclaredText, no_declared, some_declared, BlockText, block, PartsText, last_part, part_then, PartText, end_of_part, last_simple, simple_then, compound_then, semicolon_then, CompoundText, block_alone, if_alone, while_loop, for_loop, IfText, if_else, ElseText, no_else, else_block, else_if, CombineText, no_combine, some_combine, MoreParametersText, no_more_parameters, parameter_then, ParametersText, no_parameters, some_parameters, ItemsText, no_items, decl_then, def_then, ProgramText}
use Rattle.dh_parser.specs.TreesOfTexts.{kind_of_text, is_memory_type, term_of, access_of_text, index_of, indices_of, more_arguments_of, arguments_of, suffix_of, view_of_text, value_of_text, let_of, simple_form, declared_kind_of_text, count_block, count_part, count_compound, count_items, block_of_text, parts_of, part_of, compound_of, if_of, else_of, combine_of, formals_of, more_formals, decls_of, functions_of, program_of}

kind_sized : (k : KindText) → KindFits k → IsKind (kind_of_text k)
kind_sized (bool_kind word) h = (omega arith, omega arith)
kind_sized (bit_kind word less width greater) h = h
kind_sized (ubit_kind word less width greater) h = h

mutual
  expression_sized : (k : ℕ) (e : ExprText) → ExpressionFits k e → AreSized (term_of e)
  expression_sized k (literal n) h = tt
  expression_sized k (negative minus n) h = tt
  expression_sized k (truth holds word) h = tt
  expression_sized k (variable n) h = tt
  expression_sized k (access a) h = access_sized a h
  expression_sized k (bracket opener e closer) h = expression_sized 0 e h
  expression_sized k (cast opener e word kd closer) h = (kind_sized kd h.1, expression_sized 0 e h.0)
  expression_sized k (binary o sign l r) h = (expression_sized (level o) l h.1.0, expression_sized (suc (level o)) r h.1.1)

  access_sized : (a : AccessText) → AccessFits a → AreSized (access_of_text a)
  access_sized (element n i more) h = (index_sized i h.0, indices_sized more h.1)
  access_sized (physical n opener bank closer i) h = index_sized i h

  index_sized : (i : IndexText) → IndexFits i → AreSized (index_of i)
  index_sized (index opener e closer) h = expression_sized 0 e h

  indices_sized : (more : MoreIndicesText) → IndicesFit more → AreAllSized (indices_of more)
  indices_sized no_indices h = tt
  indices_sized (index_then i more) h = (index_sized i h.0, indices_sized more h.1)

more_arguments_sized : (a : MoreArgumentsText) → MoreArgumentsFit a → AllByRecursion AreSized (more_arguments_of a)
more_arguments_sized (no_more_arguments closer) h = tt
more_arguments_sized (argument_then comma e more) h = (expression_sized 0 e h.0, more_arguments_sized more h.1)

arguments_sized : (a : ArgumentsText) → ArgumentsFit a → AllByRecursion AreSized (arguments_of a)
arguments_sized (no_arguments closer) h = tt
arguments_sized (some_arguments e more) h = (expression_sized 0 e h.0, more_arguments_sized more h.1)

suffixes_sized : (ss : List SuffixText) → AllFit SuffixFits ss → AllByRecursion (λ (s : Suffixed). AreSized s.offset) (map suffix_of ss)
suffixes_sized [] h = tt
suffixes_sized (s ∷ more) h = (expression_sized 10 s.offset h.0, suffixes_sized more h.1)

offsets_sized : (os : List OffsetText) → AllFit OffsetFits os → AllByRecursion AreSized (map (λ (o : OffsetText). term_of o.offset) os)
offsets_sized [] h = tt
offsets_sized (o ∷ more) h = (expression_sized 0 o.offset h.0, offsets_sized more h.1)

view_sized : (v : ViewText) → ViewFits v → PlanSized (view_of_text v)
view_sized (shrink word parent f more) h = tt
view_sized (split word parent f more) h = tt
view_sized (suffix word parent s more) h = suffixes_sized (s ∷ more) h
view_sized (shift word parent o more) h = offsets_sized (o ∷ more) h

value_sized : (v : ValueText) → ValueFits v → MaybeSized (value_of_text v)
value_sized no_value h = tt
value_sized (some_value equal e) h = expression_sized 0 e h

let_sized : (b : Bool) (n : NameText) (t : TypeText) (v : ValueText) → KindFits t.kind → ValueFits v → FormSized (let_of b n t v)
let_sized true n t v k h = (kind_sized t.kind k, value_sized v h)
let_sized false n t v k h = (kind_sized t.kind k, value_sized v h)

simple_sized : (s : SimpleText) → SimpleFits s → FormSized (simple_form s)
simple_sized (let_typed word n colon t value) h = let_sized (is_memory_type t.ports t.dims) n t value h.0 h.1
simple_sized (let_value word n equal e) h = (tt, expression_sized 0 e h)
simple_sized (view word n equal v) h = view_sized v h
simple_sized (assign n becomes e) h = expression_sized 0 e h
simple_sized (store a becomes e) h = (access_sized a h.0, expression_sized 0 e h.1)
simple_sized (reduce n r sign e) h = expression_sized 0 e h
simple_sized (call n opener arguments) h = arguments_sized arguments h

declared_sized : (d : DeclaredText) → DeclaredFits d → IsSized (declared_kind_of_text d)
declared_sized no_declared h = tt
declared_sized (some_declared colon k) h = kind_sized k h

mutual
  block_sized : (id : ℕ) (b : BlockText) → BlockFits b → ActionSized (block_of_text id b)
  block_sized id (block opener parts closer) h = parts_sized (suc id) parts h

  parts_sized : (id : ℕ) (ps : PartsText) → AllPartsFit ps → GroupsSized (parts_of id ps)
  parts_sized id (last_part p) h = (part_sized id p h, tt)
  parts_sized id (part_then p dashes more) h = (part_sized id p h.0, parts_sized (id + count_part p) more h.1)

  part_sized : (id : ℕ) (p : PartText) → PartFits p → ActionsSized (part_of id p)
  part_sized id end_of_part h = tt
  part_sized id (last_simple s) h = (simple_sized s h, tt)
  part_sized id (simple_then s semicolon more) h = (simple_sized s h.0, part_sized (suc id) more h.1)
  part_sized id (compound_then c more) h = (compound_sized id c h.0, part_sized (id + count_compound c) more h.1)
  part_sized id (semicolon_then semicolon more) h = part_sized id more h

  compound_sized : (id : ℕ) (c : CompoundText) → CompoundFits c → ActionSized (compound_of id c)
  compound_sized id (block_alone b) h = block_sized id b h
  compound_sized id (if_alone i) h = if_sized id i h
  compound_sized id (while_loop word opener e closer b) h = (expression_sized 0 e h.0, block_sized (suc id) b h.1)
  compound_sized id (for_loop head b combined) h = (declared_sized head.declared h.0, (block_sized (suc id) b h.1.0, combine_sized (suc (id + count_block b)) combined h.1.1))

  if_sized : (id : ℕ) (i : IfText) → IfFits i → ActionSized (if_of id i)
  if_sized id (if_else word opener e closer b other) h = (expression_sized 0 e h.0, (block_sized (suc id) b h.1.0, else_sized (suc (id + count_block b)) other h.1.1))

  else_sized : (id : ℕ) (other : ElseText) → ElseFits other → OtherSized (else_of id other)
  else_sized id no_else h = tt
  else_sized id (else_block word b) h = block_sized id b h
  else_sized id (else_if word i) h = ((if_sized (suc id) i h, tt), tt)

  combine_sized : (id : ℕ) (c : CombineText) → CombineFits c → OtherSized (combine_of id c)
  combine_sized id no_combine h = tt
  combine_sized id (some_combine word b) h = block_sized id b h

more_formals_sized : (ps : MoreParametersText) → MoreParametersFit ps → AllByRecursion (λ (m : Formal). IsKind m.kind) (more_formals ps)
more_formals_sized (no_more_parameters closer) h = tt
more_formals_sized (parameter_then comma p more) h = (kind_sized p.written.kind h.0, more_formals_sized more h.1)

formals_sized : (ps : ParametersText) → ParametersFit ps → AllByRecursion (λ (m : Formal). IsKind m.kind) (formals_of ps)
formals_sized (no_parameters closer) h = tt
formals_sized (some_parameters p more) h = (kind_sized p.written.kind h.0, more_formals_sized more h.1)

decls_sized : (items : ItemsText) → ItemsFit items → AllByRecursion (λ (d : Declared). IsKind d.shape.kind) (decls_of items)
decls_sized no_items h = tt
decls_sized (decl_then word n colon t semicolon more) h = (kind_sized t.kind h.0, decls_sized more h.1)
decls_sized (def_then word n opener ps equal b more) h = decls_sized more h.1.1

functions_sized : (id : ℕ) (items : ItemsText) → ItemsFit items → AllByRecursion DefinedSized (functions_of id items)
functions_sized id no_items h = tt
functions_sized id (decl_then word n colon t semicolon more) h = functions_sized id more h.1
functions_sized id (def_then word n opener ps equal b more) h = ((formals_sized ps h.0, block_sized id b h.1.0), functions_sized (id + count_block b) more h.1.1)

-- the tree of a text has its widths
pub program_sized : (p : ProgramText) → ProgramFits p → HasWidths (program_of p)
program_sized p h = record { decls = decls_sized p.items h.0; functions = functions_sized 0 p.items h.0; body = parts_sized (suc (count_items p.items)) p.parts h.1 }
