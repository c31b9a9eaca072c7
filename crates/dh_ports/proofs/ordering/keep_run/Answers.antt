use Rattle.std.proofs.Common.{ℕ, ◌-◌, ◌++◌, ap, length, sym, subst, ◌∙◌}
use Rattle.std.specs.List.{AllByRecursion}
use Rattle.dh_tree.specs.LeastBreach.{least_of}
use Rattle.dh_ports.specs.declared.moves.Move.{Move}
use Rattle.dh_ports.specs.Passing.{late_from}
use Rattle.dh_ports.specs.Runs.{moves_of_run, moves_in_row}
use Rattle.dh_ports.specs.Scanned.{IsMoveOf}
use Rattle.dh_ports.proofs.QuietPhases.{quiet_keeps}
use Rattle.dh_ports.proofs.RunTurns.{late_row_done, late_turn, other_turn, row_head, row_rest}
use Rattle.dh_ports.proofs.ordering.keep_run.Goals.{then-is_late, else-is_late}
use Rattle.dh_ports.proofs.ordering.keep_run.Goals as goal

pub returns-then-is_quiet_move : goal.returns-then-is_quiet_move
returns-then-is_quiet_move c =
    quiet_keeps c.args.classes.now c.args.marked.now c.args.events.now c.requires.marked c.args.kept.now c.args.levels.now c.args.run c.is_quiet_move.result c.requires.kept c.is_quiet_move.ensures c.if-is_quiet_move.true

pub loop-slot-init : goal.loop-slot-init
loop-slot-init c = (
  c.requires.kept,
  (
    λ rest. ap (λ n. least_of c.args.kept.now (late_from c.args.classes.now c.args.events.now c.args.levels.now (moves_in_row c.args.run.first n (c.args.run.end - n) ++ rest))) c.slot_of-from.ensures,
    subst (λ (n : ℕ). AllByRecursion (IsMoveOf (length c.args.events.now)) (moves_in_row c.args.run.first n (c.args.run.end - n))) (sym c.slot_of-from.ensures) c.requires.within,
  ),
)

pub ordering_step-step-requires : goal.ordering_step-step-requires
ordering_step-step-requires c = record {
  within = subst (λ (m : Move). IsMoveOf (length c.args.events.now) m) (sym c.at_slot-next.ensures) (row_head (IsMoveOf (length c.args.events.now)) c.args.run.first c.loop-slot.slot c.args.run.end c.loop-slot-test.true c.loop-slot.invariant.1.1);
}

pub place_in-requires : goal.place_in-requires
place_in-requires c = record {
  within = subst (λ (m : Move). IsMoveOf (length c.args.events.now) m) (sym c.at_slot-next.ensures) (row_head (IsMoveOf (length c.args.events.now)) c.args.run.first c.loop-slot.slot c.args.run.end c.loop-slot-test.true c.loop-slot.invariant.1.1);
}

pub loop-slot-preserved : goal.loop-slot-preserved
loop-slot-preserved c = (
  c.in_ok-step.ensures.kept,
  (
    elim c.if-is_late.branch [
      | then-is_late w ↦
          late_turn c.args.classes.now c.args.events.now c.requires.distinct c.args.run.first c.at_slot-next.result c.loop-slot.slot c.args.run.end c.args.levels.now c.loop-slot.levels c.step.new.self c.ordering_step-step.result c.left_at.result c.is_late.result
          c.loop-slot-test.true c.at_slot-next.ensures c.ordering_step-step.ensures c.left_at.ensures c.is_late.ensures c.in_ok-step.ensures.stepped (moves_of_run c.args.run) c.args.kept.now c.loop-slot.kept c.loop-slot.invariant.1.0
          c.if-is_late.kept w.place_in.result w.if-is_late.true w.place_in.ensures (w.kept-is ∙ w.keep_at.ensures)
      | else-is_late w ↦
          other_turn c.args.classes.now c.args.events.now c.requires.distinct c.args.run.first c.at_slot-next.result c.loop-slot.slot c.args.run.end c.args.levels.now c.loop-slot.levels c.step.new.self c.ordering_step-step.result c.left_at.result c.is_late.result
          c.loop-slot-test.true c.at_slot-next.ensures c.ordering_step-step.ensures c.left_at.ensures c.is_late.ensures c.in_ok-step.ensures.stepped (moves_of_run c.args.run) c.args.kept.now c.loop-slot.kept c.loop-slot.invariant.1.0
          c.if-is_late.kept w.if-is_late.false w.kept-is
    ],
    row_rest (IsMoveOf (length c.args.events.now)) c.args.run.first c.loop-slot.slot c.args.run.end c.loop-slot-test.true c.loop-slot.invariant.1.1,
  ),
)

pub returns : goal.returns
returns c = record {
  kept = c.loop-slot.invariant.0;
  late = late_row_done c.args.classes.now c.args.events.now c.args.run.first c.loop-slot.slot c.args.run.end c.args.levels.now c.loop-slot.levels (moves_of_run c.args.run) c.args.kept.now c.loop-slot.kept c.loop-slot-test.false c.loop-slot.invariant.1.0;
}
