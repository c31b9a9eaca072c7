use Rattle.std.proofs.Common.{ℕ, ◌-◌, length, sym, subst}
use Rattle.std.specs.List.{AllByRecursion}
use Rattle.dh_ports.specs.declared.moves.Move.{Move}
use Rattle.dh_ports.specs.Runs.{moves_of_run, moves_in_row}
use Rattle.dh_ports.specs.Scanned.{IsMoveOf}
use Rattle.dh_ports.proofs.RunTurns.{NotesAll, extends_both, extends_none, note_row_done, note_turn, notes_first, row_head, row_rest}
use Rattle.dh_ports.proofs.UnreadPhases.{needed, unread_run}
use Rattle.dh_ports.proofs.ordering.note_run.Goals as goal

pub returns-then-is_quiet_move : goal.returns-then-is_quiet_move
returns-then-is_quiet_move c = record {
  written = unread_run c.args.events.now c.args.read.now c.requires.read c.args.classes.now c.args.run c.is_quiet_move.result c.is_quiet_move.ensures c.if-is_quiet_move.true;
  extends = extends_none c.args.classes.now;
  marked = λ marked. marked;
}

pub loop-slot-init : goal.loop-slot-init
loop-slot-init c = (
  extends_none c.args.classes.now,
  (
    subst (λ (n : ℕ). NotesAll c.args.classes.now c.args.events.now (moves_in_row c.args.run.first n (c.args.run.end - n)) (moves_of_run c.args.run)) (sym c.slot_of-from.ensures) (notes_first c.args.classes.now c.args.events.now (moves_of_run c.args.run)),
    (subst (λ (n : ℕ). AllByRecursion (IsMoveOf (length c.args.events.now)) (moves_in_row c.args.run.first n (c.args.run.end - n))) (sym c.slot_of-from.ensures) c.requires.within, λ marked. marked),
  ),
)

pub note_write-requires : goal.note_write-requires
note_write-requires c = record {
  within = subst (λ (m : Move). IsMoveOf (length c.args.events.now) m) (sym c.at_slot-next.ensures) (row_head (IsMoveOf (length c.args.events.now)) c.args.run.first c.loop-slot.slot c.args.run.end c.loop-slot-test.true c.loop-slot.invariant.1.1.0);
}

pub loop-slot-preserved : goal.loop-slot-preserved
loop-slot-preserved c = (
  extends_both c.args.classes.now c.loop-slot.classes c.note_write.new.classes c.loop-slot.invariant.0 c.in_ok-note_write.ensures.extends,
  (
    note_turn c.loop-slot.classes c.note_write.new.classes c.args.events.now c.args.run.first c.at_slot-next.result c.loop-slot.slot c.args.run.end (moves_of_run c.args.run) c.loop-slot-test.true c.at_slot-next.ensures
        c.in_ok-note_write.ensures.extends c.in_ok-note_write.ensures.written c.loop-slot.invariant.1.0,
    (
      row_rest (IsMoveOf (length c.args.events.now)) c.args.run.first c.loop-slot.slot c.args.run.end c.loop-slot-test.true c.loop-slot.invariant.1.1.0,
      λ marked. c.in_ok-note_write.ensures.marked (c.loop-slot.invariant.1.1.1 marked),
    ),
  ),
)

pub returns : goal.returns
returns c = record {
  written = needed c.loop-slot.classes c.args.events.now (moves_of_run c.args.run) (note_row_done c.loop-slot.classes c.args.events.now c.args.run.first c.loop-slot.slot c.args.run.end (moves_of_run c.args.run) c.loop-slot-test.false c.loop-slot.invariant.1.0);
  extends = c.loop-slot.invariant.0;
  marked = c.loop-slot.invariant.1.1.1;
}
