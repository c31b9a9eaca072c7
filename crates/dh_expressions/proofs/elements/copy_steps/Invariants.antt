-- The views so far are listed.
use Rattle.std.proofs.Common.{◌≡◌, ◌++◌, drop}
use Rattle.dh_expressions.proofs.elements.copy_steps.Given as goal

abbrev pub invariant-loop-step : goal.invariant-loop-step
invariant-loop-step l = l.all ++ drop l.step-index l.steps ≡ l.steps
