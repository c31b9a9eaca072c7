use Rattle.std.proofs.Common.{None, get_or}
use Rattle.std.proofs.lemmas.List.{drop_all}
use Rattle.dh_events.proofs.Turns.{at_place}
use Rattle.dh_size.proofs.PathTurns.{copies_first, copies_turn, copies_done}
use Rattle.dh_size.proofs.paths.copies_in.Goals as goal

pub loop-counter-init : goal.loop-counter-init
loop-counter-init c = copies_first c.args.loops.now

pub loop-counter-preserved : goal.loop-counter-preserved
loop-counter-preserved c =
    copies_turn c.args.loops.now c.loop-counter.counter-index (get_or c.args.loops.now c.loop-counter.counter-index (record { entity = None; low = 0; high = 0; factor = 0 })) c.loop-counter.copies c.saturating_mul-copies.result
    (at_place c.args.loops.now c.loop-counter.counter-index (record { entity = None; low = 0; high = 0; factor = 0 }) c.loop-counter-test.true) c.saturating_mul-copies.ensures c.loop-counter.invariant

pub returns : goal.returns
returns c = copies_done c.args.loops.now _ c.loop-counter.copies (drop_all c.loop-counter.counter-index c.args.loops.now c.loop-counter-test.false) c.requires.few c.loop-counter.invariant
