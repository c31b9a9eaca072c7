-- The tree of a text. Its commands are numbered from a first number on, in the order of the text,
-- a command before those inside it.
use Rattle.std.specs.Prelude.{ℕ, suc, ◌+◌, Bool, true, false, List, [], ◌∷◌, map, Option, Some, None}
use Rattle.dh_base.specs.declared.places.Place.{Place}
use Rattle.dh_value.specs.declared.kinds.Kind.{Kind}
use Rattle.dh_value.specs.declared.kinds.Kind.TheVariants as kinds
use Rattle.dh_tree.specs.declared.tables.Dim.{Dim}
use Rattle.dh_tree.specs.declared.tables.Shape.{Shape}
use Rattle.dh_value.specs.declared.operators.Op.{Op}
use Rattle.dh_value.specs.declared.operators.Op.TheVariants as op
use Rattle.dh_tree.specs.declared.trees.expressions.Ref.{Ref}
use Rattle.dh_tree.specs.declared.trees.programs.DimPlaces.{DimPlaces}
use Rattle.dh_tree.specs.declared.trees.programs.ShapePlaces.{ShapePlaces}
use Rattle.dh_parser.specs.Grammar.{NameText, NumberText, KindText, bool_kind, bit_kind, ubit_kind, PortsText, no_ports, some_ports, BanksText, no_banks, some_banks, DimsText, no_dims, dim_then, TypeText, ExprText, literal, negative, truth, variable, access, bracket, cast, binary, AccessText, element, physical, IndexText, index, MoreIndicesText, no_indices, index_then, MoreArgumentsText, no_more_arguments, argument_then, ArgumentsText, no_arguments, some_arguments, FactorText, SuffixText, OffsetText, ViewText, shrink, split, suffix, shift, ValueText, no_value, some_value, ReducerText, adds, subtracts, multiplies, SimpleText, let_typed, let_value, view, assign, store, reduce, call, DeclaredText, no_declared, some_declared, UnrollText, no_unroll, some_unroll, BlockText, block, PartsText, last_part, part_then, PartText, end_of_part, last_simple, simple_then, compound_then, semicolon_then, CompoundText, block_alone, if_alone, while_loop, for_loop, IfText, if_else, ElseText, no_else, else_block, else_if, CombineText, no_combine, some_combine, ParameterText, MoreParametersText, no_more_parameters, parameter_then, ParametersText, no_parameters, some_parameters, ItemsText, no_items, decl_then, def_then, ProgramText}
use Rattle.dh_tree.specs.PlainTrees.{Term, term, TermForm, number, truth_value, named, accessed, in_bank, applied, converted, Terms, no_terms, term_then, Suffixed, ViewPlan, shrinks, splits, suffixes, shifts, Placed, Unrolled, Action, action, ActionForm, lets, lets_memory, views, assigns, stores, reduces, calls, blocks, decides, repeats, counts, MaybeAction, no_action, one_action, Actions, no_actions, action_then, Groups, no_groups, group_then, Declared, Formal, Defined, Program}
use Rattle.dh_tree.specs.Kinds.{place_of}
use Rattle.dh_tree.specs.Seen.{placed, unrolled}

-- a name that is not yet resolved
abbrev pub ref_of : NameText → Ref
ref_of n = record { name = n.name; place = n.place; entity = None }

-- the text of a name, of which it may be the name that is not yet resolved
abbrev pub text_of_name : Ref → NameText
text_of_name r = record { name = r.name; place = r.place }

abbrev pub placed_of : NumberText → Placed
placed_of n = record { value = n.value; place = n.place }

abbrev pub kind_of_text : KindText → Kind
kind_of_text (bool_kind word) = kinds.Bool
kind_of_text (bit_kind word less width greater) = kinds.Signed width.value
kind_of_text (ubit_kind word less width greater) = kinds.Unsigned width.value

abbrev pub kind_place : KindText → Place
kind_place (bool_kind word) = word
kind_place (bit_kind word less width greater) = word
kind_place (ubit_kind word less width greater) = word

-- the ports of a type: 1, at the place of the type, where none are written
abbrev pub ports_of_text : Place → PortsText → Placed
ports_of_text start no_ports = placed 1 start
ports_of_text start (some_ports opener ports closer) = placed_of ports

-- the banks of a dimension: 1, at the place of the size, where none are written
abbrev pub banks_of_text : Place → BanksText → Placed
banks_of_text size no_banks = placed 1 size
banks_of_text size (some_banks word banks) = placed_of banks

abbrev pub dim_at : ℕ → Placed → Dim
dim_at size banks = record { size = size; banks = banks.value }

-- where the word stands
abbrev pub bank_word_place : BanksText → Option Place
bank_word_place no_banks = None
bank_word_place (some_banks word banks) = Some word

abbrev pub dim_places : Place → Place → BanksText → DimPlaces
dim_places opener size banks = record { open_place = opener; size_place = size; word_place = bank_word_place banks; banks_place = (banks_of_text size banks).place }

abbrev pub dimensions_of_text : DimsText → List Dim
dimensions_of_text no_dims = []
dimensions_of_text (dim_then opener size banks closer more) = dim_at size.value (banks_of_text size.place banks) ∷ dimensions_of_text more

abbrev pub dimension_places_of_text : DimsText → List DimPlaces
dimension_places_of_text no_dims = []
dimension_places_of_text (dim_then opener size banks closer more) = dim_places opener size.place banks ∷ dimension_places_of_text more

abbrev pub shape_of_text : TypeText → Shape
shape_of_text t = record { kind = kind_of_text t.kind; ports = (ports_of_text (kind_place t.kind) t.ports).value; dims = dimensions_of_text t.dims }

-- where the braces begin
abbrev pub braces_of : PortsText → Option Place
braces_of no_ports = None
braces_of (some_ports opener ports closer) = Some opener

abbrev pub shape_places_of : TypeText → ShapePlaces
shape_places_of t = record { kind_place = kind_place t.kind; braces_place = braces_of t.ports; ports_place = (ports_of_text (kind_place t.kind) t.ports).place; dims = dimension_places_of_text t.dims }

-- whether a type is that of a memory: it has ports or dimensions
abbrev pub is_memory_type : PortsText → DimsText → Bool
is_memory_type (some_ports opener ports closer) dims = true
is_memory_type no_ports (dim_then opener size banks closer more) = true
is_memory_type no_ports no_dims = false

-- an expression whose kind is not yet found
abbrev pub untyped_term : Place → TermForm → Term
untyped_term place form = term place None form

-- two operands and an operator, at the place of the left one
abbrev pub joined_terms : Op → Term → Term → Term
joined_terms o l r = untyped_term (place_of l) (applied o l r)

abbrev mutual
  pub term_of : ExprText → Term
  term_of (literal n) = untyped_term n.place (number false n.value)
  term_of (negative minus n) = untyped_term minus (number true n.value)
  term_of (truth holds word) = untyped_term word (truth_value holds)
  term_of (variable n) = untyped_term n.place (named (ref_of n))
  term_of (access a) = access_of_text a
  term_of (bracket opener e closer) = term_of e
  term_of (cast opener e word k closer) = untyped_term opener (converted (term_of e) (kind_of_text k))
  term_of (binary o sign l r) = joined_terms o (term_of l) (term_of r)

  pub access_of_text : AccessText → Term
  access_of_text (element n i more) = untyped_term n.place (accessed (ref_of n) (term_then (index_of i) (indices_of more)))
  access_of_text (physical n opener bank closer i) = untyped_term n.place (in_bank (ref_of n) bank.value bank.place (index_of i))

  pub index_of : IndexText → Term
  index_of (index opener e closer) = term_of e

  pub indices_of : MoreIndicesText → Terms
  indices_of no_indices = no_terms
  indices_of (index_then i more) = term_then (index_of i) (indices_of more)

abbrev pub more_arguments_of : MoreArgumentsText → List Term
more_arguments_of (no_more_arguments closer) = []
more_arguments_of (argument_then comma e more) = term_of e ∷ more_arguments_of more

abbrev pub arguments_of : ArgumentsText → List Term
arguments_of (no_arguments closer) = []
arguments_of (some_arguments e more) = term_of e ∷ more_arguments_of more

abbrev pub suffix_of : SuffixText → Suffixed
suffix_of s = record { factor = s.factor.value; offset = term_of s.offset }

abbrev pub view_of_text : ViewText → ViewPlan
view_of_text (shrink word parent f more) =
    shrinks (map (λ (g : FactorText). g.factor.value) (f ∷ more)) (map (λ (g : FactorText). g.factor.place) (f ∷ more))
view_of_text (split word parent f more) =
    splits (map (λ (g : FactorText). g.factor.value) (f ∷ more)) (map (λ (g : FactorText). g.factor.place) (f ∷ more))
view_of_text (suffix word parent s more) =
    suffixes (map suffix_of (s ∷ more)) (map (λ (t : SuffixText). t.factor.place) (s ∷ more))
view_of_text (shift word parent o more) = shifts (map (λ (p : OffsetText). term_of p.offset) (o ∷ more))

abbrev pub parent_of_view_text : ViewText → Ref
parent_of_view_text (shrink word parent f more) = ref_of parent
parent_of_view_text (split word parent f more) = ref_of parent
parent_of_view_text (suffix word parent s more) = ref_of parent
parent_of_view_text (shift word parent o more) = ref_of parent

abbrev pub value_of_text : ValueText → Option Term
value_of_text no_value = None
value_of_text (some_value equal e) = Some (term_of e)

abbrev pub reducer_op : ReducerText → Op
reducer_op adds = op.Add
reducer_op subtracts = op.Sub
reducer_op multiplies = op.Mul

-- a `let` with a type of this shape, that of a memory or that of a scalar
abbrev pub let_written : Bool → Ref → Shape → ShapePlaces → Option Term → ActionForm
let_written true name shape places value = lets_memory name shape places value
let_written false name shape places value = lets name (Some shape.kind) value

-- a `let` with a type
abbrev pub let_of : Bool → NameText → TypeText → ValueText → ActionForm
let_of true n t value = lets_memory (ref_of n) (shape_of_text t) (shape_places_of t) (value_of_text value)
let_of false n t value = lets (ref_of n) (Some (kind_of_text t.kind)) (value_of_text value)

abbrev pub simple_form : SimpleText → ActionForm
simple_form (let_typed word n colon t value) = let_of (is_memory_type t.ports t.dims) n t value
simple_form (let_value word n equal e) = lets (ref_of n) None (Some (term_of e))
simple_form (view word n equal v) = views (ref_of n) (parent_of_view_text v) (view_of_text v)
simple_form (assign n becomes e) = assigns (ref_of n) (term_of e)
simple_form (store a becomes e) = stores (access_of_text a) (term_of e)
simple_form (reduce n r sign e) = reduces (ref_of n) (reducer_op r) (term_of e)
simple_form (call n opener arguments) = calls (ref_of n) (arguments_of arguments)

abbrev pub simple_place : SimpleText → Place
simple_place (let_typed word n colon t value) = word
simple_place (let_value word n equal e) = word
simple_place (view word n equal v) = word
simple_place (assign n becomes e) = n.place
simple_place (store a becomes e) = place_of (access_of_text a)
simple_place (reduce n r sign e) = n.place
simple_place (call n opener arguments) = n.place

abbrev pub declared_kind_of_text : DeclaredText → Option Kind
declared_kind_of_text no_declared = None
declared_kind_of_text (some_declared colon k) = Some (kind_of_text k)

-- the copies of a loop's body: 1, where none are written, and then both places are that of the loop
abbrev pub factor_of : Place → UnrollText → Unrolled
factor_of start no_unroll = unrolled 1 start start
factor_of start (some_unroll word factor) = unrolled factor.value factor.place word

-- how many commands a text has
abbrev mutual
  pub count_block : BlockText → ℕ
  count_block (block opener parts closer) = suc (count_parts parts)

  pub count_parts : PartsText → ℕ
  count_parts (last_part p) = count_part p
  count_parts (part_then p dashes more) = count_part p + count_parts more

  pub count_part : PartText → ℕ
  count_part end_of_part = 0
  count_part (last_simple s) = 1
  count_part (simple_then s semicolon more) = suc (count_part more)
  count_part (compound_then c more) = count_compound c + count_part more
  count_part (semicolon_then semicolon more) = count_part more

  pub count_compound : CompoundText → ℕ
  count_compound (block_alone b) = count_block b
  count_compound (if_alone i) = count_if i
  count_compound (while_loop word opener e closer b) = suc (count_block b)
  count_compound (for_loop h b combine) = suc (count_block b + count_combine combine)

  pub count_if : IfText → ℕ
  count_if (if_else word opener e closer b other) = suc (count_block b + count_else other)

  pub count_else : ElseText → ℕ
  count_else no_else = 0
  count_else (else_block word b) = count_block b
  count_else (else_if word i) = suc (count_if i)

  pub count_combine : CombineText → ℕ
  count_combine no_combine = 0
  count_combine (some_combine word b) = count_block b

abbrev pub if_place : IfText → Place
if_place (if_else word opener e closer b other) = word

abbrev mutual
  pub block_of_text : ℕ → BlockText → Action
  block_of_text id (block opener parts closer) = action id opener (blocks (parts_of (suc id) parts))

  pub parts_of : ℕ → PartsText → Groups
  parts_of id (last_part p) = group_then (part_of id p) no_groups
  parts_of id (part_then p dashes more) = group_then (part_of id p) (parts_of (id + count_part p) more)

  pub part_of : ℕ → PartText → Actions
  part_of id end_of_part = no_actions
  part_of id (last_simple s) = action_then (action id (simple_place s) (simple_form s)) no_actions
  part_of id (simple_then s semicolon more) = action_then (action id (simple_place s) (simple_form s)) (part_of (suc id) more)
  part_of id (compound_then c more) = action_then (compound_of id c) (part_of (id + count_compound c) more)
  part_of id (semicolon_then semicolon more) = part_of id more

  pub compound_of : ℕ → CompoundText → Action
  compound_of id (block_alone b) = block_of_text id b
  compound_of id (if_alone i) = if_of id i
  compound_of id (while_loop word opener e closer b) = action id word (repeats (term_of e) (block_of_text (suc id) b))
  compound_of id (for_loop h b combine) =
      action id h.word (counts (ref_of h.iterator) (declared_kind_of_text h.declared) (placed_of h.low) (placed_of h.high) (factor_of h.word h.unroll)
      (block_of_text (suc id) b) (combine_of (suc (id + count_block b)) combine) (combine_place_of h.word combine))

  pub if_of : ℕ → IfText → Action
  if_of id (if_else word opener e closer b other) =
      action id word (decides (term_of e) (block_of_text (suc id) b) (else_of (suc (id + count_block b)) other))

  -- an `if` after `else` stands for a block of it alone
  pub else_of : ℕ → ElseText → MaybeAction
  else_of id no_else = no_action
  else_of id (else_block word b) = one_action (block_of_text id b)
  else_of id (else_if word i) =
      one_action (action id (if_place i) (blocks (group_then (action_then (if_of (suc id) i) no_actions) no_groups)))

  pub combine_of : ℕ → CombineText → MaybeAction
  combine_of id no_combine = no_action
  combine_of id (some_combine word b) = one_action (block_of_text id b)

  -- where the word stands; the place of the loop where it does not
  pub combine_place_of : Place → CombineText → Place
  combine_place_of start no_combine = start
  combine_place_of start (some_combine word b) = word

-- the shape of a memory parameter
abbrev pub formal_shape : Bool → TypeText → Option Shape
formal_shape true t = Some (shape_of_text t)
formal_shape false t = None

abbrev pub formal_of : ParameterText → Formal
formal_of p = record { name = ref_of p.name; shape = formal_shape (is_memory_type p.written.ports p.written.dims) p.written; shape_places = shape_places_of p.written; kind = kind_of_text p.written.kind }

abbrev pub more_formals : MoreParametersText → List Formal
more_formals (no_more_parameters closer) = []
more_formals (parameter_then comma p more) = formal_of p ∷ more_formals more

abbrev pub formals_of : ParametersText → List Formal
formals_of (no_parameters closer) = []
formals_of (some_parameters p more) = formal_of p ∷ more_formals more

abbrev pub declared_at : NameText → TypeText → Declared
declared_at n t = record { name = ref_of n; shape = shape_of_text t; shape_places = shape_places_of t }

abbrev pub defined_at : ℕ → Place → NameText → ParametersText → BlockText → Defined
defined_at id word n ps b = record { place = word; name = ref_of n; parameters = formals_of ps; body = block_of_text id b }

abbrev pub decls_of : ItemsText → List Declared
decls_of no_items = []
decls_of (decl_then word n colon t semicolon more) = declared_at n t ∷ decls_of more
decls_of (def_then word n opener ps equal b more) = decls_of more

abbrev pub functions_of : ℕ → ItemsText → List Defined
functions_of id no_items = []
functions_of id (decl_then word n colon t semicolon more) = functions_of id more
functions_of id (def_then word n opener ps equal b more) = defined_at id word n ps b ∷ functions_of (id + count_block b) more

abbrev pub count_items : ItemsText → ℕ
count_items no_items = 0
count_items (decl_then word n colon t semicolon more) = count_items more
count_items (def_then word n opener ps equal b more) = count_block b + count_items more

-- the place of the first token of a body: that of the end, where there is no other
abbrev pub compound_place : CompoundText → Place
compound_place (block_alone (block opener parts closer)) = opener
compound_place (if_alone i) = if_place i
compound_place (while_loop word opener e closer b) = word
compound_place (for_loop h b _) = h.word

abbrev pub part_place : Place → PartText → Place
part_place next end_of_part = next
part_place next (last_simple s) = simple_place s
part_place next (simple_then s semicolon more) = simple_place s
part_place next (compound_then c more) = compound_place c
part_place next (semicolon_then semicolon more) = semicolon

abbrev pub parts_place : Place → PartsText → Place
parts_place next (last_part p) = part_place next p
parts_place next (part_then p dashes more) = part_place dashes p

abbrev pub body_of : ℕ → PartsText → Place → Action
body_of id parts end = action id (parts_place end parts) (blocks (parts_of (suc id) parts))

-- the tree of a program
abbrev pub program_of : ProgramText → Program
program_of p = record { decls = decls_of p.items; functions = functions_of 0 p.items; body = body_of (count_items p.items) p.parts p.end; entities = [] }
