use Rattle.std.proofs.Common.{◌≡◌, ℕ, ◌<◌, ◌≤◌, Some, get_or}
use Rattle.std.specs.Prelude.{slice_get}
use Rattle.dh_plan.specs.declared.operations.Operation.{Operation}
use Rattle.dh_plan.specs.LegalSchedules.{needed_clock}
use Rattle.dh_sched.proofs.needs.needs_are_met.Given as goal

abbrev pub invariant-loop-i : goal.invariant-loop-i
invariant-loop-i l = (k : ℕ) (o : Operation) → k < l.i → slice_get l.operations k ≡ Some o → needed_clock l.first l.operations l.clocks o ≤ get_or l.clocks k 0
