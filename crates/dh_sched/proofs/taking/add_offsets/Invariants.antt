use Rattle.std.proofs.Common.{◌≡◌, drop}
use Rattle.std.specs.Prelude.{◌++◌}
use Rattle.dh_plan.specs.Ordered.{offsets_taken}
use Rattle.dh_sched.proofs.taking.add_offsets.Given as goal

abbrev pub invariant-loop-step : goal.invariant-loop-step
invariant-loop-step l = l.taken.items ++ offsets_taken (drop l.step-index l.steps) ≡ l.fn.taken.items ++ offsets_taken l.steps
