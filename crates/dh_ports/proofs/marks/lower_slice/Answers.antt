use Rattle.std.proofs.Common.{ap, ◌∙◌}
use Rattle.std.proofs.lemmas.Option.{slice_get-get_or}
use Rattle.dh_ports.proofs.LogFacts.{lowering_turn, lowering_kept}
use Rattle.dh_events.proofs.Turns.{at_place}
use Rattle.dh_ports.proofs.marks.lower_slice.Goals.{then-low-now+in_ok-push, else-low-now}
use Rattle.dh_ports.proofs.marks.lower_slice.Goals as goal

pub loop-low-preserved : goal.loop-low-preserved
loop-low-preserved c =
    let at = at_place c.args.lows.now c.loop-low.low-index _ c.loop-low-test.true in
    elim c.if-low-now.branch [
      | then-low-now+in_ok-push w ↦ lowering_turn c.args.left.now c.args.log.now.items c.args.lows.now c.loop-low.left c.loop-low.log.items _ _ _ at c.loop-low.invariant _ _ w.left-is (ap (λ v. v.items) w.log-is ∙ w.in_ok-push.ensures.items) (c.requires.inside c.loop-low.low-index _ (slice_get-get_or _ _ _ c.loop-low-test.true)) w.if-low-now.true
      | else-low-now w ↦ lowering_kept c.args.left.now c.args.log.now.items c.args.lows.now c.loop-low.left c.loop-low.log.items _ _ _ at c.loop-low.invariant _ _ w.left-is (ap (λ v. v.items) w.log-is) w.if-low-now.false
    ]
