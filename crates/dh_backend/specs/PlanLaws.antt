-- Laws on plans of programs: they keep their ports, as the programs do, and no run of the programs is stuck; and accesses by
-- literals are never checked in a circuit.
use Rattle.std.specs.Prelude.{◌≡◌, ℕ, slice_get, Option, Some}
use Rattle.dh_tree.specs.PlainTrees.{Program}
use Rattle.dh_tree.specs.Ready.{IsReady}
use Rattle.dh_meaning.specs.CoreOf.{core_of}
use Rattle.dh_meets.specs.Ports.{KeepsPortRules}
use Rattle.dh_meets.specs.SourceEvents.{SourceAccess, accesses_in, trace}
use Rattle.dh_plan.specs.declared.operations.OperationForm.TheVariants.{Check, Probe}
use Rattle.dh_plan.specs.declared.operations.Reach.{Reach}
use Rattle.dh_plan.specs.DoneProgram.{NeverStuck, IsPlanOf, IsAddressingOf}
use Rattle.dh_plan.specs.LiteralAccesses.{IsConstantOr, IsLiteralSource}
use Rattle.dh_plan.specs.PlainPlans.{PlainPlan, operations_in}
use Rattle.dh_plan.specs.SoundPlans.{HasUse, KeepsItsPorts}

-- a plan of a program that keeps its ports keeps its own
abbrev pub PlansKeepPorts : Program → Type 0
PlansKeepPorts p = (plan : PlainPlan) → IsReady p → KeepsPortRules p → IsPlanOf p plan → KeepsItsPorts plan

-- and so does what banks and rows are made of
abbrev pub AddressesKeepPorts : Type 0
AddressesKeepPorts = (plan addressed : PlainPlan) → IsAddressingOf plan addressed → KeepsItsPorts plan → KeepsItsPorts addressed

-- no run of a program that is accepted is stuck
abbrev pub AcceptedNeverStuck : Program → Type 0
AcceptedNeverStuck p = IsReady p → KeepsPortRules p → NeverStuck (core_of p)

-- the plan with banks and rows checks nothing that a probe of this access had to find, and where it reads or writes for the
-- access, the bank and the row are constants
pub record IsUnchecked (plan addressed : PlainPlan) (number : ℕ) : Type 0 where
  pub checks : (b i fault : ℕ) (guard : Option ℕ) (r : Reach) → slice_get (operations_in plan b) i ≡ Some (record { guard = guard; form = Probe r fault }) → r.access ≡ number
      → (c j ok : ℕ) (other : Option ℕ) → slice_get (operations_in addressed c) j ≡ Some (record { guard = other; form = Check ok fault }) → ⊥
  pub constants : (c j : ℕ) (t : Reach) → HasUse addressed c j t → t.access ≡ number → IsConstantOr addressed c t.row × IsConstantOr addressed c t.select

-- so of each access of the program whose indices are literals, and which passes through no view that moves, or whose row is
abbrev pub LiteralsAreUnchecked : Program → Type 0
LiteralsAreUnchecked p =
    (plan addressed : PlainPlan) → IsPlanOf p plan → IsAddressingOf plan addressed → (number : ℕ) (a : SourceAccess) → slice_get (accesses_in (trace p)) number ≡ Some a → IsLiteralSource p a
    → IsUnchecked plan addressed number
