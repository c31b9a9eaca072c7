use Rattle.std.proofs.Common.{ap, ◌∙◌, length}
use Rattle.std.specs.Prelude.{slice_index, slice_set}
use Rattle.std.proofs.lemmas.List.{length-set, with_items_is}
use Rattle.dh_code.proofs.Undoing.{set_back}
use Rattle.dh_code.proofs.running.set_slot.Goals as goal

pub returns-clause-back : goal.returns-clause-back
returns-clause-back c = set_back c.args.state.now.changes.items c.note.new.changes.items c.args.state.now.variables.items _ c.args.slot c.args.bits c.number_at-before.result
    (c.number_at-before.ensures ∙ ap (λ l. slice_index l c.args.slot) c.as_slice.ensures.value) c.in_ok-note.ensures
    (with_items_is c.args.state.now.variables c.set_number.new.list (ap (λ l. length l) c.set_number.ensures ∙ (length-set c.as_mut_slice.result.now c.args.slot c.args.bits ∙ c.as_mut_slice.ensures.len))
    ∙ (c.set_number.ensures ∙ ap (λ l. slice_set l c.args.slot c.args.bits) c.as_mut_slice.ensures.value))
