-- Which texts of the grammar are allowed: the operands of an operator bind tightly enough, and the
-- width of a kind is 1 to 64. An operator groups to the left: its right operand binds more tightly
-- than it does.
use Rattle.std.specs.Prelude.{ℕ, suc, ◌≤◌, List, [], ◌∷◌}
use Rattle.dh_value.specs.declared.operators.Op.{Op}
use Rattle.dh_value.specs.declared.operators.Op.TheVariants as op
use Rattle.dh_parser.specs.Grammar.{NumberText, KindText, bool_kind, bit_kind, ubit_kind, ExprText, literal, negative, truth, variable, access, bracket, cast, binary, AccessText, element, physical, IndexText, index, MoreIndicesText, no_indices, index_then, MoreArgumentsText, no_more_arguments, argument_then, ArgumentsText, no_arguments, some_arguments, SuffixText, OffsetText, ViewText, shrink, split, suffix, shift, ValueText, no_value, some_value, SimpleText, let_typed, let_value, view, assign, store, reduce, call, DeclaredText, no_declared, some_declared, BlockText, block, PartsText, last_part, part_then, PartText, end_of_part, last_simple, simple_then, compound_then, semicolon_then, CompoundText, block_alone, if_alone, while_loop, for_loop, IfText, if_else, ElseText, no_else, else_block, else_if, CombineText, no_combine, some_combine, MoreParametersText, no_more_parameters, parameter_then, ParametersText, no_parameters, some_parameters, ItemsText, no_items, decl_then, def_then, ProgramText}

-- how tightly an operator binds, from 0 for the loosest
abbrev pub level : Op → ℕ
level op.Either = 0
level op.Both = 1
level op.Eq = 2
level op.Ne = 2
level op.Lt = 3
level op.Gt = 3
level op.Le = 3
level op.Ge = 3
level op.Or = 4
level op.Xor = 5
level op.And = 6
level op.Shl = 7
level op.Shr = 7
level op.Add = 8
level op.Sub = 8
level op.Mul = 9

abbrev pub WidthFits : NumberText → Type 0
WidthFits n = (1 ≤ n.value) × (n.value ≤ 64)

abbrev pub KindFits : KindText → Type 0
KindFits (bool_kind word) = Unit {0}
KindFits (bit_kind word less width greater) = WidthFits width
KindFits (ubit_kind word less width greater) = WidthFits width

abbrev mutual
  -- an expression of operators of at least this level
  pub ExpressionFits : ℕ → ExprText → Type 0
  ExpressionFits k (literal n) = Unit {0}
  ExpressionFits k (negative minus n) = Unit {0}
  ExpressionFits k (truth holds word) = Unit {0}
  ExpressionFits k (variable n) = Unit {0}
  ExpressionFits k (access a) = AccessFits a
  ExpressionFits k (bracket opener e closer) = ExpressionFits 0 e
  ExpressionFits k (cast opener e word kd closer) = ExpressionFits 0 e × KindFits kd
  ExpressionFits k (binary o sign l r) = (k ≤ level o) × (ExpressionFits (level o) l × ExpressionFits (suc (level o)) r)

  pub AccessFits : AccessText → Type 0
  AccessFits (element n i more) = IndexFits i × IndicesFit more
  AccessFits (physical n opener bank closer i) = IndexFits i

  pub IndexFits : IndexText → Type 0
  IndexFits (index opener e closer) = ExpressionFits 0 e

  pub IndicesFit : MoreIndicesText → Type 0
  IndicesFit no_indices = Unit {0}
  IndicesFit (index_then i more) = IndexFits i × IndicesFit more

abbrev pub MoreArgumentsFit : MoreArgumentsText → Type 0
MoreArgumentsFit (no_more_arguments closer) = Unit {0}
MoreArgumentsFit (argument_then comma e more) = ExpressionFits 0 e × MoreArgumentsFit more

abbrev pub ArgumentsFit : ArgumentsText → Type 0
ArgumentsFit (no_arguments closer) = Unit {0}
ArgumentsFit (some_arguments e more) = ExpressionFits 0 e × MoreArgumentsFit more

-- an operand alone: no operator has level 10
abbrev pub SuffixFits : SuffixText → Type 0
SuffixFits s = ExpressionFits 10 s.offset

abbrev pub OffsetFits : OffsetText → Type 0
OffsetFits o = ExpressionFits 0 o.offset

abbrev pub AllFit : {A : Type 0} → (A → Type 0) → List A → Type 0
AllFit P [] = Unit {0}
AllFit P (a ∷ more) = P a × AllFit P more

abbrev pub ViewFits : ViewText → Type 0
ViewFits (shrink word parent f more) = Unit {0}
ViewFits (split word parent f more) = Unit {0}
ViewFits (suffix word parent s more) = SuffixFits s × AllFit SuffixFits more
ViewFits (shift word parent o more) = OffsetFits o × AllFit OffsetFits more

abbrev pub ValueFits : ValueText → Type 0
ValueFits no_value = Unit {0}
ValueFits (some_value equal e) = ExpressionFits 0 e

abbrev pub SimpleFits : SimpleText → Type 0
SimpleFits (let_typed word n colon t value) = KindFits t.kind × ValueFits value
SimpleFits (let_value word n equal e) = ExpressionFits 0 e
SimpleFits (view word n equal v) = ViewFits v
SimpleFits (assign n becomes e) = ExpressionFits 0 e
SimpleFits (store a becomes e) = AccessFits a × ExpressionFits 0 e
SimpleFits (reduce n r sign e) = ExpressionFits 0 e
SimpleFits (call n opener arguments) = ArgumentsFit arguments

abbrev pub DeclaredFits : DeclaredText → Type 0
DeclaredFits no_declared = Unit {0}
DeclaredFits (some_declared colon k) = KindFits k

abbrev mutual
  pub BlockFits : BlockText → Type 0
  BlockFits (block opener parts closer) = AllPartsFit parts

  pub AllPartsFit : PartsText → Type 0
  AllPartsFit (last_part p) = PartFits p
  AllPartsFit (part_then p dashes more) = PartFits p × AllPartsFit more

  pub PartFits : PartText → Type 0
  PartFits end_of_part = Unit {0}
  PartFits (last_simple s) = SimpleFits s
  PartFits (simple_then s semicolon more) = SimpleFits s × PartFits more
  PartFits (compound_then c more) = CompoundFits c × PartFits more
  PartFits (semicolon_then semicolon more) = PartFits more

  pub CompoundFits : CompoundText → Type 0
  CompoundFits (block_alone b) = BlockFits b
  CompoundFits (if_alone i) = IfFits i
  CompoundFits (while_loop word opener e closer b) = ExpressionFits 0 e × BlockFits b
  CompoundFits (for_loop h b combine) = DeclaredFits h.declared × (BlockFits b × CombineFits combine)

  pub IfFits : IfText → Type 0
  IfFits (if_else word opener e closer b other) = ExpressionFits 0 e × (BlockFits b × ElseFits other)

  pub ElseFits : ElseText → Type 0
  ElseFits no_else = Unit {0}
  ElseFits (else_block word b) = BlockFits b
  ElseFits (else_if word i) = IfFits i

  pub CombineFits : CombineText → Type 0
  CombineFits no_combine = Unit {0}
  CombineFits (some_combine word b) = BlockFits b

abbrev pub MoreParametersFit : MoreParametersText → Type 0
MoreParametersFit (no_more_parameters closer) = Unit {0}
MoreParametersFit (parameter_then comma p more) = KindFits p.written.kind × MoreParametersFit more

abbrev pub ParametersFit : ParametersText → Type 0
ParametersFit (no_parameters closer) = Unit {0}
ParametersFit (some_parameters p more) = KindFits p.written.kind × MoreParametersFit more

abbrev pub ItemsFit : ItemsText → Type 0
ItemsFit no_items = Unit {0}
ItemsFit (decl_then word n colon t semicolon more) = KindFits t.kind × ItemsFit more
ItemsFit (def_then word n opener ps equal b more) = ParametersFit ps × (BlockFits b × ItemsFit more)

abbrev pub ProgramFits : ProgramText → Type 0
ProgramFits p = ItemsFit p.items × AllPartsFit p.parts
