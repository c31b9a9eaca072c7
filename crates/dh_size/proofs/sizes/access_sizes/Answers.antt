use Rattle.std.proofs.Common.{ap, sym, ◌∙◌, refl, false}
use Rattle.std.specs.Option.{is_some}
use Rattle.dh_tree.specs.Seen.{program_seen, term_seen}
use Rattle.dh_events.specs.Accesses.{loops_listed}
use Rattle.dh_events.specs.Noted.{event_seen}
use Rattle.dh_lengths.specs.SharedReads.{told}
use Rattle.dh_ports.specs.Claims.{source_of}
use Rattle.dh_size.specs.Sizes.{size_by}
use Rattle.dh_size.proofs.EventSizes.{number_more, number_same, other_turn, touch_turn}
use Rattle.dh_size.proofs.sizes.access_sizes.Goals as goal
use Rattle.dh_size.proofs.sizes.access_sizes.Goals.{in-Touch+in_ok-size-in-Touch, in-Assigned, in-ArmBegins, in-ArmEnds, in-Begins, in-Next, in-Ends}

pub loop-event-preserved : goal.loop-event-preserved
loop-event-preserved c = elim c.match-event.branch [
  | in-Touch+in_ok-size-in-Touch w ↦ (
    touch_turn (program_seen c.args.typed.now) (loops_listed c.args.rounds.now) c.args.shares.now c.args.events.now c.loop-event.event-index c.event-item.result c.loop-event-test.true c.loop-event.sum c.loop-event.number c.loop-event.invariant.0
        (term_seen w.in-Touch.access.now) w.in-Touch.writes _ w.in_ok-size-in-Touch.size c.match-event.sum c.match-event.number (ap event_seen (sym c.event-item.is ∙ w.in-Touch.is))
        (w.in_ok-size-in-Touch.ensures
        ∙ (ap (λ b. size_by (program_seen c.args.typed.now) b (source_of w.loops_round-loops.result.now false w.in-Touch.access.now)) w.does_share-shared.ensures
        ∙ ap (λ ls. size_by (program_seen c.args.typed.now) (is_some (told c.args.shares.now c.loop-event.number)) (source_of ls false w.in-Touch.access.now)) w.loops_round-loops.ensures))
        (w.sum-is ∙ w.saturating_add-sum.ensures) w.number-is,
    number_more c.loop-event.number c.loop-event.event-index c.match-event.number c.loop-event.invariant.1 w.number-is,
  )
  | in-Assigned w ↦ (
    other_turn (program_seen c.args.typed.now) (loops_listed c.args.rounds.now) c.args.shares.now c.args.events.now c.loop-event.event-index c.event-item.result c.loop-event-test.true c.loop-event.sum c.loop-event.number c.loop-event.invariant.0
        _ c.match-event.sum c.match-event.number (ap event_seen (sym c.event-item.is ∙ w.in-Assigned.is)) (λ h. h) refl w.sum-is w.number-is,
    number_same c.loop-event.number c.loop-event.event-index c.match-event.number c.loop-event.invariant.1 w.number-is,
  )
  | in-ArmBegins w ↦ (
    other_turn (program_seen c.args.typed.now) (loops_listed c.args.rounds.now) c.args.shares.now c.args.events.now c.loop-event.event-index c.event-item.result c.loop-event-test.true c.loop-event.sum c.loop-event.number c.loop-event.invariant.0
        _ c.match-event.sum c.match-event.number (ap event_seen (sym c.event-item.is ∙ w.in-ArmBegins.is)) (λ h. h) refl w.sum-is w.number-is,
    number_same c.loop-event.number c.loop-event.event-index c.match-event.number c.loop-event.invariant.1 w.number-is,
  )
  | in-ArmEnds w ↦ (
    other_turn (program_seen c.args.typed.now) (loops_listed c.args.rounds.now) c.args.shares.now c.args.events.now c.loop-event.event-index c.event-item.result c.loop-event-test.true c.loop-event.sum c.loop-event.number c.loop-event.invariant.0
        _ c.match-event.sum c.match-event.number (ap event_seen (sym c.event-item.is ∙ w.in-ArmEnds.is)) (λ h. h) refl w.sum-is w.number-is,
    number_same c.loop-event.number c.loop-event.event-index c.match-event.number c.loop-event.invariant.1 w.number-is,
  )
  | in-Begins w ↦ (
    other_turn (program_seen c.args.typed.now) (loops_listed c.args.rounds.now) c.args.shares.now c.args.events.now c.loop-event.event-index c.event-item.result c.loop-event-test.true c.loop-event.sum c.loop-event.number c.loop-event.invariant.0
        _ c.match-event.sum c.match-event.number (ap event_seen (sym c.event-item.is ∙ w.in-Begins.is)) (λ h. h) refl w.sum-is w.number-is,
    number_same c.loop-event.number c.loop-event.event-index c.match-event.number c.loop-event.invariant.1 w.number-is,
  )
  | in-Next w ↦ (
    other_turn (program_seen c.args.typed.now) (loops_listed c.args.rounds.now) c.args.shares.now c.args.events.now c.loop-event.event-index c.event-item.result c.loop-event-test.true c.loop-event.sum c.loop-event.number c.loop-event.invariant.0
        _ c.match-event.sum c.match-event.number (ap event_seen (sym c.event-item.is ∙ w.in-Next.is)) (λ h. h) refl w.sum-is w.number-is,
    number_same c.loop-event.number c.loop-event.event-index c.match-event.number c.loop-event.invariant.1 w.number-is,
  )
  | in-Ends w ↦ (
    other_turn (program_seen c.args.typed.now) (loops_listed c.args.rounds.now) c.args.shares.now c.args.events.now c.loop-event.event-index c.event-item.result c.loop-event-test.true c.loop-event.sum c.loop-event.number c.loop-event.invariant.0
        _ c.match-event.sum c.match-event.number (ap event_seen (sym c.event-item.is ∙ w.in-Ends.is)) (λ h. h) refl w.sum-is w.number-is,
    number_same c.loop-event.number c.loop-event.event-index c.match-event.number c.loop-event.invariant.1 w.number-is,
  )
]
