-- Each access with operations has a fault of its own, which its probes have; nothing is checked, so that nothing else has it.
-- All that is put down for commands and tests keeps that, where faults are few.
use Rattle.std.specs.Prelude.{◌≡◌, ℕ, ◌<◌, ◌++◌, List, length, slice_get, Option, Some}
use Rattle.std.specs.List.{AllByRecursion}
use Rattle.dh_plan.specs.declared.operations.Operation.{Operation}
use Rattle.dh_plan.specs.declared.operations.OperationForm.{OperationForm}
use Rattle.dh_plan.specs.declared.operations.OperationForm.TheVariants.{Constant, Old, Compute, Convert, Select, Check, Probe, Read, Write, Set}
use Rattle.dh_plan.specs.declared.operations.Reach.{Reach}
use Rattle.dh_expressions.specs.declared.accesses.Accesses.{Accesses}
use Rattle.dh_expressions.specs.declared.accesses.Touched.{Touched}
use Rattle.dh_expressions.specs.declared.drafts.Draft.{Draft}
use Rattle.dh_expressions.specs.Noted.{touched_in}

-- neither a check nor a probe
abbrev pub IsFaultless : OperationForm → Type 0
IsFaultless (Constant word) = Unit {0}
IsFaultless (Old register) = Unit {0}
IsFaultless (Compute op left right) = Unit {0}
IsFaultless (Convert inner to) = Unit {0}
IsFaultless (Select test a b) = Unit {0}
IsFaultless (Check ok fault) = ⊥
IsFaultless (Probe r fault) = ⊥
IsFaultless (Read r) = Unit {0}
IsFaultless (Write r value) = Unit {0}
IsFaultless (Set register value) = Unit {0}

-- each operation that was added is so
pub record AddsFaultless (old new : Draft) : Type 0 where
  pub more : List Operation
  pub adds : new.operations.items ≡ old.operations.items ++ more
  pub each : AllByRecursion (λ o. IsFaultless o.form) more

pub record HaveOwnFaults (d : Draft) (a : Accesses) : Type 0 where
  -- a probe has the fault of its access, if there is one of that number
  pub probes : (n fault : ℕ) (guard : Option ℕ) (r : Reach) → slice_get d.operations.items n ≡ Some (record { guard = guard; form = Probe r fault }) → r.access < length a.touched.items
      → (t : Touched) × ((touched_in a r.access ≡ Some t) × (t.fault ≡ fault))
  pub unchecked : (n ok fault : ℕ) (guard : Option ℕ) → slice_get d.operations.items n ≡ Some (record { guard = guard; form = Check ok fault }) → ⊥
  -- that is one of the faults so far, and no other access has it
  pub named : (number : ℕ) (t : Touched) → touched_in a number ≡ Some t → t.fault < length d.faults
  pub apart : (m n : ℕ) (t u : Touched) → touched_in a m ≡ Some t → touched_in a n ≡ Some u → t.fault ≡ u.fault → m ≡ n
