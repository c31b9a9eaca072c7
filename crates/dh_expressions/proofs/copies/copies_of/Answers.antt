use Rattle.std.proofs.lemmas.Result.{IfOk-weaker}
use Rattle.dh_tree.specs.Seen.{form_seen}
use Rattle.dh_expressions.proofs.CopiesStand.{copies_stand}
use Rattle.dh_expressions.proofs.copies.copies_of.Goals as goal

pub returns : goal.returns
returns c =
    IfOk-weaker c.copies_by.result _ _ (λ copies m. copies_stand c.args.scene.now c.args.around c.args.memory c.args.access.now.place (form_seen c.args.access.now.form) c.args.writes c.args.draft.now c.copies_by.new.draft c.copies_by.new.numbers.items
    c.in_ok-counts.counts.items c.as_slice.result.now c.in_ok-spans.spans.items c.as_slice-2.result.now c.in_ok-spans.named c.shifts_through-shifts.result copies.items c.as_slice.ensures.value c.as_slice-2.ensures.value c.shifts_through-shifts.ensures c.in_ok-counts.ensures c.in_ok-spans.ensures m) c.copies_by.ensures
