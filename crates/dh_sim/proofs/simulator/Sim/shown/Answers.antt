use Rattle.std.proofs.Common.{sym}
use Rattle.dh_sim.proofs.Keeping.{fault_small, shows_all}
use Rattle.dh_sim.proofs.simulator.Sim.shown.Goals as goal

pub shown_by-requires-clause-small : goal.shown_by-requires-clause-small
shown_by-requires-clause-small c = fault_small _ _ _ _ c.self.invariant.1 c.deref.ensures.value

pub returns : goal.returns
returns c =
    shows_all _ _ _ _ c.shown_by.result c.self.inside.clash c.args.self.now c.self.invariant.1 c.deref.ensures.value c.shown_by.ensures (sym c.self.view_is)
