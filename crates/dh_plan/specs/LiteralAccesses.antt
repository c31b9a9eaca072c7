-- Accesses whose elements are named by literals: which accesses of a program are so, and what its plan states of them. Such
-- an access leads to an element in every run: each literal index of an accepted program is within the sizes of what it
-- names, each literal row is one of the rows of a bank, and a view that stands still takes an index of its own to one of
-- its parent. So none of its checks can fail, and all that its address is made of is constant.
use Rattle.std.specs.Prelude.{◌≡◌, ℕ, ◌+◌, List, slice_get, Option, Some, None}
use Rattle.std.specs.List.{AllByRecursion}
use Rattle.dh_value.specs.declared.words.Word.{Word}
use Rattle.dh_tree.specs.declared.viewing.ViewSort.{ViewSort}
use Rattle.dh_tree.specs.declared.viewing.ViewSort.TheVariants.{Shrink, Split, Suffix, Shift}
use Rattle.dh_tree.specs.Elements.{Spot}
use Rattle.dh_tree.specs.PlainTrees as plain
use Rattle.dh_tree.specs.PlainTrees.{Program}
use Rattle.dh_meaning.specs.Ways.{WayStep, Way, way_to}
use Rattle.dh_meets.specs.SourceEvents.{Element, with_indices, in_row, SourceAccess, accesses_in, trace}
use Rattle.dh_plan.specs.declared.operations.OperationForm.TheVariants.{Constant, Check, Probe}
use Rattle.dh_plan.specs.declared.operations.Reach.{Reach}
use Rattle.dh_plan.specs.Blocks.{spot_of_reach}
use Rattle.dh_plan.specs.Ordered.{offsets_taken}
use Rattle.dh_plan.specs.PlainPlans.{PlainPlan, first_in, operations_in}
use Rattle.dh_plan.specs.PlanRuns.{start_at, block_values}
use Rattle.dh_plan.specs.SoundPlans.{HasAccess}

-- Of a program.

-- a number that is written
abbrev pub IsLiteralForm : plain.TermForm → Type 0
IsLiteralForm (plain.number negative n) = Unit {0}
IsLiteralForm (plain.truth_value value) = ⊥
IsLiteralForm (plain.named r) = ⊥
IsLiteralForm (plain.accessed r indices) = ⊥
IsLiteralForm (plain.in_bank r bank bank_place row) = ⊥
IsLiteralForm (plain.applied op left right) = ⊥
IsLiteralForm (plain.converted inner to) = ⊥

abbrev pub IsLiteral : plain.Term → Type 0
IsLiteral (plain.term place kind form) = IsLiteralForm form

abbrev pub AreLiteral : plain.Terms → Type 0
AreLiteral plain.no_terms = Unit {0}
AreLiteral (plain.term_then t ts) = IsLiteral t × AreLiteral ts

-- an element that is named by literal indices alone, or by a literal row of a bank
abbrev pub IsLiteralElement : Element → Type 0
IsLiteralElement (with_indices indices) = AreLiteral indices
IsLiteralElement (in_row bank row) = IsLiteral row

-- a view of this sort does not move
abbrev pub StandsStill : ViewSort → Type 0
StandsStill Shrink = Unit {0}
StandsStill Split = Unit {0}
StandsStill Suffix = ⊥
StandsStill Shift = ⊥

-- none on the way does; a memory has no way
abbrev pub IsStill : Option Way → Type 0
IsStill None = Unit {0}
IsStill (Some w) = AllByRecursion (λ (s : WayStep). StandsStill s.is.sort) w.steps

-- an access of the program whose element is named by literals, through views that stand still
pub record IsLiteralSource (p : Program) (a : SourceAccess) : Type 0 where
  pub element : IsLiteralElement a.element
  pub way : IsStill (way_to p a.entity)

-- Of a plan.

-- the value of this number is a constant of the block; under a guard it would be one of two values
pub record IsConstantAt (plan : PlainPlan) (block number : ℕ) : Type 0 where
  pub place : ℕ
  pub own : number ≡ first_in plan block + place
  pub word : Word
  pub there : slice_get (operations_in plan block) place ≡ Some (record { guard = None; form = Constant word })

abbrev pub IsConstantOr : PlainPlan → (block : ℕ) → Option ℕ → Type 0
IsConstantOr plan block None = Unit {0}
IsConstantOr plan block (Some number) = IsConstantAt plan block number

-- the element is named by constants: by indices and offsets, or by a row and the bank that is picked
abbrev pub NamedByConstants : PlainPlan → (block : ℕ) → Reach → (row : Option ℕ) → Type 0
NamedByConstants plan block r None = AllByRecursion (IsConstantAt plan block) r.indices × AllByRecursion (IsConstantAt plan block) (offsets_taken r.steps)
NamedByConstants plan block r (Some row) = IsConstantAt plan block row × IsConstantOr plan block r.select

-- an access leads to an element, whatever registers and memories hold
abbrev pub IsAlwaysInside : PlainPlan → (block : ℕ) → Reach → Type 0
IsAlwaysInside plan block r =
    (registers : List ℕ) (memories : List (List ℕ))
    → (spot : Spot) × (spot_of_reach (start_at plan registers memories) (first_in plan block) (block_values plan (start_at plan registers memories) block) r ≡ Some spot)

-- so is an access of a literal: every literal index of an accepted program is within its memory's sizes
pub record HasLiterals (plan : PlainPlan) (block : ℕ) (r : Reach) : Type 0 where
  pub constants : NamedByConstants plan block r r.row
  pub inside : IsAlwaysInside plan block r

-- a fault that probes of such accesses alone can have
pub record IsOfLiterals (plan : PlainPlan) (fault : ℕ) : Type 0 where
  pub probes : (b i : ℕ) (guard : Option ℕ) (r : Reach) → slice_get (operations_in plan b) i ≡ Some (record { guard = guard; form = Probe r fault }) → HasLiterals plan b r
  pub checks : (b i ok : ℕ) (guard : Option ℕ) → slice_get (operations_in plan b) i ≡ Some (record { guard = guard; form = Check ok fault }) → ⊥

-- an access of the program of which all copies are so
abbrev pub IsLiteralAccess : PlainPlan → (number : ℕ) → Type 0
IsLiteralAccess plan number = (b i : ℕ) (r : Reach) → HasAccess plan b i r → r.access ≡ number → HasLiterals plan b r

-- and its probes have faults that no other access has
pub record StatesLiteral (plan : PlainPlan) (number : ℕ) : Type 0 where
  pub accesses : IsLiteralAccess plan number
  pub faults : (b i fault : ℕ) (guard : Option ℕ) (r : Reach) → slice_get (operations_in plan b) i ≡ Some (record { guard = guard; form = Probe r fault }) → r.access ≡ number → IsOfLiterals plan fault

-- so is each access of the program that is literal
abbrev pub HasSourceLiterals : Program → PlainPlan → Type 0
HasSourceLiterals p plan = (number : ℕ) (a : SourceAccess) → slice_get (accesses_in (trace p)) number ≡ Some a → IsLiteralSource p a → StatesLiteral plan number
