use Rattle.std.proofs.Common.{ℕ, List, ap, subst, sym, ◌∙◌}
use Rattle.std.specs.Prelude.{Option, slice_get}
use Rattle.std.proofs.lemmas.Result.{on_ok_weaker}
use Rattle.dh_ports.specs.declared.marks.SlotMark.{SlotMark}
use Rattle.dh_ports.specs.Logs.{LeftAt}
use Rattle.dh_ports.proofs.LogFacts.{low_added, low_put, mark, mark_there}
use Rattle.dh_ports.proofs.marks.note_low.Goals as goal

pub returns-in_default : goal.returns-in_default
returns-in_default c = on_ok_weaker c.push_mark.result (λ so. low_added c.args.lows.now.items c.push_mark.new.marks.items c.args.low so) c.push_mark.ensures

pub set_mark-requires : goal.set_mark-requires
set_mark-requires c =
    let told = subst (λ (o : Option ℕ). LeftAt c.as_slice.result.now c.args.place c.args.low.slot o) c.in-Some.is c.left_at.ensures in
    record { there = mark_there c.args.lows.now.items c.args.place (mark c.args.low.slot c.in-Some.before) (ap (λ (l : List SlotMark). slice_get l c.args.place) (sym c.as_slice.ensures.value) ∙ told) }

pub returns : goal.returns
returns c =
    let told = subst (λ (o : Option ℕ). LeftAt c.as_slice.result.now c.args.place c.args.low.slot o) c.in-Some.is c.left_at.ensures in
    low_put c.args.lows.now.items c.set_mark.new.marks.items c.args.place c.in-Some.before c.smaller-left.result c.args.low (ap (λ (l : List SlotMark). slice_get l c.args.place) (sym c.as_slice.ensures.value) ∙ told) c.smaller-left.ensures c.set_mark.ensures
