use Rattle.std.proofs.Common.{subst}
use Rattle.dh_tree.specs.Tables.{Fits}
use Rattle.dh_net.specs.declared.nets.Net.{Net}
use Rattle.dh_sim.proofs.Turns.{is_run}
use Rattle.dh_sim.proofs.runs.run_net.Goals as goal

pub returns : goal.returns
returns c =
    let end = c.run_to_end-end.ensures in (
      is_run c.args.net.now c.requires.valid c.args.memories _ c.in_ok-sim.sim c.run_to_end-end.new.sim c.args.limit _ _ _ c.in_ok-sim.ensures
          end.within end.underway end.stops c.into_memories.ensures.contents,
      subst (λ (x : Net). Fits x.table c.into_memories.result) end.net c.into_memories.ensures.fits,
    )
