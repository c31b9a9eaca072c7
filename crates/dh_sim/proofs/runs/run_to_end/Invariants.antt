use Rattle.dh_sim.proofs.Turns.{IsGoingOn}
use Rattle.dh_sim.proofs.runs.run_to_end.Given as goal

abbrev pub invariant-loop-clocks : goal.invariant-loop-clocks
invariant-loop-clocks l = IsGoingOn l.net l.fn.sim.state l.clocks l.sim l.steps l.shown
