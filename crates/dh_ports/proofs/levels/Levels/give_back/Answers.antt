use Rattle.std.proofs.Common.{List, ap, length, sym, subst, ◌∙◌, ◌++◌, slice_index}
use Rattle.dh_ports.specs.declared.marks.SlotMark.{SlotMark}
use Rattle.dh_ports.specs.Logs.{least, marks_now, at_begin, AreSlotMarks}
use Rattle.dh_ports.proofs.LevelFacts.{kept_back_level, kept_back_kept}
use Rattle.dh_ports.proofs.levels.Levels.give_back.Goals as goal

pub returns-clause-kept : goal.returns-clause-kept
returns-clause-kept c =
    let k = kept_back_kept (length c.args.self.now.left.items) (length c.undo.new.left.items) c.args.self.now.log.items c.clear.new.self.items c.args.self.now.lows.items c.note_lows.new.lows.items c.args.self.now.outer.items c.undo.ensures.long c.clear.ensures.items
    (λ log lows. c.in_ok-note_lows.ensures.marks (length c.args.self.now.left.items) (subst (λ (l : List SlotMark). AreSlotMarks (length c.args.self.now.left.items) l) (sym c.as_slice-2.ensures.value) log) lows) c.requires.kept.log c.requires.kept.lows c.requires.kept.outer in
    record { log = k.0; lows = k.1.0; outer = k.1.1 }

pub returns-clause-back : goal.returns-clause-back
returns-clause-back c = λ s.
    kept_back_level c.args.self.now.left.items c.undo.new.left.items c.args.self.now.log.items c.clear.new.self.items c.args.self.now.lows.items c.note_lows.new.lows.items c.args.self.now.outer.items s (c.undo.ensures.begun s ∙ ap (λ l. at_begin l s (slice_index c.args.self.now.left.items s)) c.as_slice-3.ensures.value) c.clear.ensures.items
    (λ n.
    c.in_ok-note_lows.ensures.noted s n
    ∙ (ap (λ l. least (c.args.self.now.lows.items ++ marks_now l c.as_slice-2.result.now) s n) c.as_slice.ensures.value ∙ ap (λ l. least (c.args.self.now.lows.items ++ marks_now c.args.self.now.left.items l) s n) c.as_slice-2.ensures.value))
