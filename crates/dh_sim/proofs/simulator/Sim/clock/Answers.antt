use Rattle.std.proofs.Common.{sym}
use Rattle.dh_sim.proofs.Keeping.{clashes_all}
use Rattle.dh_sim.proofs.simulator.Sim.clock.Goals as goal

pub returns-clause-clash : goal.returns-clause-clash
returns-clause-clash c =
    clashes_all _ _ _ _ c.clock_arrays-self-inside.result c.args.self.now c.self.invariant.1 c.deref_mut-4.ensures.value c.clock_arrays-self-inside.ensures.clash
    _ (sym c.self.view_is)
