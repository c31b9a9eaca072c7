use Rattle.std.proofs.Common.{ℕ, ◌-◌, length, sym, subst}
use Rattle.std.specs.List.{AllByRecursion}
use Rattle.dh_ports.specs.declared.moves.Move.{Move}
use Rattle.dh_ports.specs.Runs.{moves_of_run, moves_in_row}
use Rattle.dh_ports.specs.Scanned.{IsMoveOf}
use Rattle.dh_ports.proofs.AheadNotes.{NotesRest, ahead_first, ahead_row_done, ahead_turn}
use Rattle.dh_ports.proofs.RunTurns.{row_head, row_rest}
use Rattle.dh_ports.proofs.lasts.note_run.Goals as goal

pub loop-slot-init : goal.loop-slot-init
loop-slot-init c = (
  subst (λ (n : ℕ). NotesRest c.args.events.now c.args.lasts.now (moves_in_row c.args.run.first n (c.args.run.end - n)) c.args.lasts.now (moves_of_run c.args.run)) (sym c.slot_of-from.ensures) (ahead_first c.args.events.now c.args.lasts.now (moves_of_run c.args.run)),
  subst (λ (n : ℕ). AllByRecursion (IsMoveOf (length c.args.events.now)) (moves_in_row c.args.run.first n (c.args.run.end - n))) (sym c.slot_of-from.ensures) c.requires.within,
)

pub note_move-requires : goal.note_move-requires
note_move-requires c = record {
  within = subst (λ (m : Move). IsMoveOf (length c.args.events.now) m) (sym c.at_slot-next.ensures) (row_head (IsMoveOf (length c.args.events.now)) c.args.run.first c.loop-slot.slot c.args.run.end c.loop-slot-test.true c.loop-slot.invariant.1);
}

pub loop-slot-preserved : goal.loop-slot-preserved
loop-slot-preserved c = (
  ahead_turn c.args.events.now c.args.lasts.now c.loop-slot.lasts c.note_move.new.lasts c.args.run.first c.at_slot-next.result c.loop-slot.slot c.args.run.end (moves_of_run c.args.run) c.loop-slot-test.true c.at_slot-next.ensures c.in_ok-note_move.ensures c.loop-slot.invariant.0,
  row_rest (IsMoveOf (length c.args.events.now)) c.args.run.first c.loop-slot.slot c.args.run.end c.loop-slot-test.true c.loop-slot.invariant.1,
)

pub returns : goal.returns
returns c = ahead_row_done c.args.events.now c.args.lasts.now c.loop-slot.lasts c.args.run.first c.loop-slot.slot c.args.run.end (moves_of_run c.args.run) c.loop-slot-test.false c.loop-slot.invariant.0
