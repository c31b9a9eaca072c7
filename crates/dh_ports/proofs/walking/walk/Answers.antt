use Rattle.std.proofs.Common.{◌≤◌, ◌++◌, Bool, List, ap, length, subst, sym, ◌∙◌}
use Rattle.std.specs.List.{AllByRecursion}
use Rattle.dh_tree.specs.Seen.{program_seen}
use Rattle.dh_events.specs.Accesses.{loops_listed}
use Rattle.dh_events.specs.Noted.{all_seen}
use Rattle.dh_ports.specs.declared.moves.Run.{Run}
use Rattle.dh_ports.specs.Ahead.{NotesMoves}
use Rattle.dh_ports.specs.Claims.{bank_ports_in}
use Rattle.dh_ports.specs.EventMoves.{moves_of}
use Rattle.dh_ports.specs.Runs.{moves_in}
use Rattle.dh_ports.specs.Scanned.{IsMoveOf}
use Rattle.dh_ports.specs.Walks.{SpendsTo}
use Rattle.dh_ports.proofs.MoveTurns.{few_at}
use Rattle.dh_ports.proofs.WalkTurns.{flags_behind, flags_few, item_once, moves_inside, moves_there, walk_begins, walk_done, walk_turn}
use Rattle.dh_ports.proofs.walking.walk.Goals as goal

pub loop-event-init : goal.loop-event-init
loop-event-init c = (
  walk_begins (program_seen c.args.typed.now) c.args.layout.now c.args.events.now c.args.sharing.now c.args.lasts.now c.new-levels.result c.in_ok-ports.ports.items c.requires.begins c.new-levels.ensures.kept c.new-levels.ensures.starts
      (c.in_ok-ports.ensures ∙ ap bank_ports_in (c.as_slice.ensures ∙ c.memories.ensures)),
  c.new-tally.ensures,
)

pub note-requires : goal.note-requires
note-requires c = record { kept = c.loop-event.invariant.0.shared.shares.kept }

pub move_banks-requires-clause-copies : goal.move_banks-requires-clause-copies
move_banks-requires-clause-copies c = few_at c.args.layout.now.rounds.items c.args.events.now c.loop-event.event c.index-events-event-in-loop-event.result c.requires.copies c.loop-event-test.true c.index-events-event-in-loop-event.is

pub note_runs-requires : goal.note_runs-requires
note_runs-requires c = record {
  within = subst (λ (rs : List Run). AllByRecursion (IsMoveOf (length c.args.events.now)) (moves_in rs)) (sym c.as_slice-runs.ensures.value)
      (moves_there (program_seen c.args.typed.now) c.args.layout.now c.args.events.now c.loop-event.event c.index-events-event.result c.loop-event-test.true c.index-events-event.is (moves_in c.move_banks.new.moves.items)
      (c.in_ok-move_banks.ensures.moves
      ∙ (ap (λ x. moves_in c.clear.new.self.items ++ moves_of (program_seen c.args.typed.now) (loops_listed c.args.layout.now.rounds.items) c.loop-event.event x) (item_once c.args.events.now c.loop-event.event c.index-events-event.result c.index-events-event-in-loop-event.result c.loop-event-test.true c.index-events-event.is c.index-events-event-in-loop-event.is)
      ∙ ap (λ l. moves_in l ++ moves_of (program_seen c.args.typed.now) (loops_listed c.args.layout.now.rounds.items) c.loop-event.event c.index-events-event.result) c.clear.ensures.items)));
}

pub spend_behind-requires : goal.spend_behind-requires
spend_behind-requires c =
    let p = program_seen c.args.typed.now in
    let layout = c.args.layout.now in
    let events = c.args.events.now in
    let d = c.index-events-event.result in
    let flags = c.note.new.self.flags.items in
    let same = item_once c.args.events.now c.loop-event.event c.index-events-event.result c.index-events-event-in-loop-event.result c.loop-event-test.true c.index-events-event.is c.index-events-event-in-loop-event.is in
    let are = c.in_ok-move_banks.ensures.moves ∙ (ap (λ x. moves_in c.clear.new.self.items ++ moves_of p (loops_listed layout.rounds.items) c.loop-event.event x) same ∙ ap (λ l. moves_in l ++ moves_of p (loops_listed layout.rounds.items) c.loop-event.event d) c.clear.ensures.items) in
    let long = flags_behind p layout events c.loop-event.event d c.loop-event-test.true c.index-events-event.is c.loop-event.sharing c.note.new.self c.loop-event.invariant.0.shared c.in_ok-note.ensures in
    record {
      few = subst (λ (l : List Bool). length l ≤ length events) (sym c.as_slice-flags.ensures.value) (flags_few p layout events c.loop-event.event d c.loop-event-test.true c.index-events-event.is (length flags) long);
      within = subst (λ (l : List Bool). AllByRecursion (IsMoveOf (length l)) (moves_in c.as_slice-runs.result.now)) (sym c.as_slice-flags.ensures.value)
          (subst (λ (rs : List Run). AllByRecursion (IsMoveOf (length flags)) (moves_in rs)) (sym c.as_slice-runs.ensures.value)
          (moves_inside p layout events c.loop-event.event d c.loop-event-test.true c.index-events-event.is (length flags) long (moves_in c.move_banks.new.moves.items) are));
      kept = c.loop-event.invariant.0.kept;
    }

pub loop-event-preserved : goal.loop-event-preserved
loop-event-preserved c =
    let p = program_seen c.args.typed.now in
    let layout = c.args.layout.now in
    let events = c.args.events.now in
    let d = c.index-events-event.result in
    let flags = c.note.new.self.flags.items in
    let same = item_once c.args.events.now c.loop-event.event c.index-events-event.result c.index-events-event-in-loop-event.result c.loop-event-test.true c.index-events-event.is c.index-events-event-in-loop-event.is in
    let are = c.in_ok-move_banks.ensures.moves ∙ (ap (λ x. moves_in c.clear.new.self.items ++ moves_of p (loops_listed layout.rounds.items) c.loop-event.event x) same ∙ ap (λ l. moves_in l ++ moves_of p (loops_listed layout.rounds.items) c.loop-event.event d) c.clear.ensures.items) in
    let noted = subst (λ (rs : List Run). NotesMoves events c.loop-event.lasts (moves_in rs) c.note_runs.new.lasts) c.as_slice-runs.ensures.value c.in_ok-note_runs.ensures in
    let spends = λ (more : List Bool). subst (λ (rs : List Run). SpendsTo (all_seen events) (flags ++ more) c.loop-event.walked c.loop-event.levels (moves_in rs) c.in_ok-walked.walked c.spend_behind.new.levels) c.as_slice-runs.ensures.value
    (subst (λ (l : List Bool). SpendsTo (all_seen events) (l ++ more) c.loop-event.walked c.loop-event.levels (moves_in c.as_slice-runs.result.now) c.in_ok-walked.walked c.spend_behind.new.levels) c.as_slice-flags.ensures.value (c.in_ok-walked.ensures more)) in (
      walk_turn p layout events c.loop-event.event d c.loop-event-test.true c.index-events-event.is c.loop-event.sharing c.note.new.self c.loop-event.lasts c.note_runs.new.lasts c.loop-event.levels c.spend_behind.new.levels c.loop-event.walked c.in_ok-walked.walked (moves_in c.move_banks.new.moves.items)
          c.loop-event.invariant.0 c.in_ok-note.ensures are noted spends,
      c.in_ok-move_banks.ensures.past,
    )

pub returns : goal.returns
returns c = walk_done (program_seen c.args.typed.now) c.args.layout.now c.args.events.now c.loop-event.event c.loop-event.sharing c.loop-event.lasts c.loop-event.levels c.loop-event.walked c.loop-event-test.false c.loop-event.invariant.0 c.len.ensures.distinct
