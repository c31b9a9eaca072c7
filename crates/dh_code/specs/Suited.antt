-- What it is for the expressions and commands of a program's core to suit their operators, and for the variables
-- that they name to have slots where they stand.
use Rattle.std.specs.Prelude.{◌≡◌, ℕ, suc, ◌<◌, ◌≤◌, List, length, take}
use Rattle.dh_value.specs.declared.kinds.Kind.{Kind}
use Rattle.dh_value.specs.declared.kinds.Kind.TheVariants as kind
use Rattle.dh_value.specs.Words.{IsKind, IsInteger}
use Rattle.dh_value.specs.Operations.{Suits, result_of}
use Rattle.dh_tree.specs.declared.tables.MemEntry.{MemEntry}
use Rattle.dh_meaning.specs.Core.{CoreTerm, literal, truth_literal, variable, read, binary, convert, Target, by_indices, by_row, by_views, CoreTerms, no_terms, term_and, count_terms, CoreCommand, store, assign, choose, keep, CoreCommands, no_commands, command_and}
use Rattle.dh_tree.specs.Elements.{dims_at}
use Rattle.dh_meaning.specs.Effects.{kind_in}
use Rattle.dh_code.specs.Banks.{HasBank}
use Rattle.dh_code.specs.Passing.{StepsFit}
use Rattle.dh_code.specs.Slots.{Placing, held_at}

-- the kind of the value of an expression
abbrev pub term_kind : List MemEntry → CoreTerm → Kind
term_kind table (literal kind negative n) = kind
term_kind table (truth_literal value) = kind.Bool
term_kind table (variable kind depth entity) = kind
term_kind table (read reach target) = kind_in table reach.memory
term_kind table (binary o left right) = result_of o (term_kind table left)
term_kind table (convert to inner) = to

abbrev mutual
  -- operators have operands of their kinds, kinds have their widths, and memories are there
  pub IsSuited : List MemEntry → CoreTerm → Type 0
  IsSuited table (literal kind negative n) = IsKind kind
  IsSuited table (truth_literal value) = Unit {0}
  IsSuited table (variable kind depth entity) = IsKind kind
  IsSuited table (read reach target) = IsSuitedTarget table reach.memory target
  IsSuited table (binary o left right) = Suits o (term_kind table left) (term_kind table right) × (IsSuited table left × IsSuited table right)
  IsSuited table (convert to inner) = IsInteger to × IsSuited table inner

  pub IsSuitedTarget : List MemEntry → (memory : ℕ) → Target → Type 0
  IsSuitedTarget table memory (by_indices indices) = (memory < length table) × AreSuited table indices
  IsSuitedTarget table memory (by_views steps n terms) =
      (memory < length table) × (StepsFit (dims_at table memory) steps n (count_terms terms) × AreSuited table terms)
  IsSuitedTarget table memory (by_row bank row) = HasBank table memory bank × IsSuited table row

  pub AreSuited : List MemEntry → CoreTerms → Type 0
  AreSuited table no_terms = Unit {0}
  AreSuited table (term_and t ts) = IsSuited table t × AreSuited table ts

-- a variable of this depth that is named inside loops of these factors was declared inside the first of them
pub record IsInside (p : Placing) (loops : List ℕ) (depth entity : ℕ) : Type 0 where
  pub known : entity < length p.held
  pub deep : depth ≤ length loops
  pub held : (held_at p.held entity).depth ≡ depth
  pub round : p.factors entity ≡ take depth loops

abbrev mutual
  -- each variable of an expression is named so
  pub AreInside : Placing → (loops : List ℕ) → CoreTerm → Type 0
  AreInside p loops (literal kind negative n) = Unit {0}
  AreInside p loops (truth_literal value) = Unit {0}
  AreInside p loops (variable kind depth entity) = IsInside p loops depth entity
  AreInside p loops (read reach target) = TargetInside p loops target
  AreInside p loops (binary o left right) = AreInside p loops left × AreInside p loops right
  AreInside p loops (convert to inner) = AreInside p loops inner

  pub TargetInside : Placing → (loops : List ℕ) → Target → Type 0
  TargetInside p loops (by_indices indices) = AllInside p loops indices
  TargetInside p loops (by_views steps n terms) = AllInside p loops terms
  TargetInside p loops (by_row bank row) = AreInside p loops row

  pub AllInside : Placing → (loops : List ℕ) → CoreTerms → Type 0
  AllInside p loops no_terms = Unit {0}
  AllInside p loops (term_and t ts) = AreInside p loops t × AllInside p loops ts

-- an expression that can be evaluated inside these loops
abbrev pub CanEvaluate : List MemEntry → Placing → (loops : List ℕ) → CoreTerm → Type 0
CanEvaluate table p loops t = IsSuited table t × AreInside p loops t

-- values that can be evaluated so
abbrev pub CanEvaluateAll : List MemEntry → Placing → (loops : List ℕ) → CoreTerms → Type 0
CanEvaluateAll table p loops ts = AreSuited table ts × AllInside p loops ts

-- variables whose entities follow one another, one for each of these values
abbrev pub AreInsideFrom : Placing → (loops : List ℕ) → (depth first : ℕ) → CoreTerms → Type 0
AreInsideFrom p loops depth first no_terms = Unit {0}
AreInsideFrom p loops depth first (term_and t ts) = IsInside p loops depth first × AreInsideFrom p loops depth (suc first) ts

-- a condition
abbrev pub CanTest : List MemEntry → Placing → (loops : List ℕ) → CoreTerm → Type 0
CanTest table p loops test = (term_kind table test ≡ kind.Bool) × CanEvaluate table p loops test

abbrev mutual
  -- a command that can be done inside these loops
  pub CanDo : List MemEntry → Placing → (loops : List ℕ) → CoreCommand → Type 0
  CanDo table p loops (store reach target value) = (IsSuitedTarget table reach.memory target × TargetInside p loops target) × CanEvaluate table p loops value
  CanDo table p loops (assign depth entity value) = IsInside p loops depth entity × CanEvaluate table p loops value
  CanDo table p loops (keep depth first values) = AreInsideFrom p loops depth first values × CanEvaluateAll table p loops values
  CanDo table p loops (choose test chosen other) = CanTest table p loops test × (CanDoAll table p loops chosen × CanDoAll table p loops other)

  pub CanDoAll : List MemEntry → Placing → (loops : List ℕ) → CoreCommands → Type 0
  CanDoAll table p loops no_commands = Unit {0}
  CanDoAll table p loops (command_and c cs) = CanDo table p loops c × CanDoAll table p loops cs
