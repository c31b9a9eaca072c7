use Rattle.std.proofs.Common.{refl}
use Rattle.dh_ports.proofs.LogFacts.{lows_done, lows_marks, lows_turn}
use Rattle.dh_ports.proofs.marks.note_lows.Goals as goal

pub loop-mark-init : goal.loop-mark-init
loop-mark-init c = (λ m x. refl, λ n log lows. lows)

pub loop-mark-preserved : goal.loop-mark-preserved
loop-mark-preserved c = (
  lows_turn c.args.left.now c.args.log.now c.loop-mark.mark-index _ c.args.lows.now.items c.loop-mark.lows.items c.note_low.new.lows.items c.loop-mark-test.true c.in_ok-note_low.ensures c.loop-mark.invariant.0,
  lows_marks c.args.left.now c.args.log.now c.loop-mark.mark-index _ c.args.lows.now.items c.loop-mark.lows.items c.note_low.new.lows.items c.loop-mark-test.true c.in_ok-note_low.ensures c.loop-mark.invariant.1,
)

pub returns : goal.returns
returns c = lows_done c.args.left.now c.args.log.now c.loop-mark.mark-index c.args.lows.now.items c.loop-mark.lows.items c.loop-mark-test.false c.loop-mark.invariant.0 c.loop-mark.invariant.1
