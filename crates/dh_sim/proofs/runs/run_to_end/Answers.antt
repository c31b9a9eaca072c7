use Rattle.std.proofs.Common.{◌∙◌}
use Rattle.dh_sim.proofs.Turns.{turn_on, byte_is, stops_last}
use Rattle.dh_sim.proofs.runs.run_to_end.Goals as goal

pub loop-clocks-preserved : goal.loop-clocks-preserved
loop-clocks-preserved c =
    turn_on c.args.net.now c.requires.valid c.args.sim.now.state c.loop-clocks.clocks c.loop-clocks.sim c.clock-shown.new.self c.loop-clocks.steps _ c.loop-clocks.shown _
    c.loop-clocks.invariant c.in_default.ensures c.clock-shown.ensures.net c.clock-shown.ensures.clocked c.clock-shown.ensures.shown (c.from-steps.ensures ∙ byte_is c.clock-shown.result.tick)

pub returns-clause-stops : goal.returns-clause-stops
returns-clause-stops c =
    stops_last c.args.net.now _ _ c.loop-clocks.sim _ c.loop-clocks.shown c.args.limit c.end_shown-2.result _ c.loop-clocks.invariant c.end_shown-2.ensures c.unwrap_or.ensures
