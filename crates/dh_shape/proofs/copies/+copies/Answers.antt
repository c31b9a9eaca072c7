use Rattle.std.proofs.Common.{◌+◌, ◌∙◌, refl, ap, sym}
use Rattle.dh_tree.specs.declared.trees.commands.Command.{Command}
use Rattle.dh_tree.specs.Excesses.{copies_excess, form_copies_excess}
use Rattle.dh_tree.specs.Seen.{action_seen, action_form_seen, maybe_block_seen}
use Rattle.dh_tree.proofs.SeenActions.{for_at}
use Rattle.dh_shape.proofs.CopiesWalked.{next_copies, loop_copies}
use Rattle.dh_shape.proofs.copies.+copies.Goals as goal

pub copies_above_in_parts-loop-command-preserved : goal.copies_above_in_parts-loop-command-preserved
copies_above_in_parts-loop-command-preserved t c =
    next_copies c.args.round c.loop-command.found c.copies_above.result c.first_of-found.result c.deref-command-items.result.now c.loop-command.command-index c.command-item.result c.args.parts.now (c.loop-part.part-index + 1)
    c.loop-command-test.true c.command-item.is c.copies_above.ensures c.first_of-found.ensures
    ∙ c.loop-command.invariant

pub copies_above-returns-in-For : goal.copies_above-returns-in-For
copies_above-returns-in-For t c =
    loop_copies c.args.round c.as_ref-header.result.now.factor c.product-inside.result (action_seen c.in-For.body.value) (maybe_block_seen c.in-For.combine)
    c.excess.result c.copies_above-inner.result c.copies_above_in_other-in-For.result c.first_of-behind.result c.first_of-in-For.result
    c.product-inside.ensures c.excess.ensures
    (c.copies_above-inner.ensures ∙ ap (λ (b : Command). copies_excess c.product-inside.result (action_seen b)) c.deref-in-For.ensures)
    c.copies_above_in_other-in-For.ensures c.first_of-behind.ensures c.first_of-in-For.ensures
    ∙ ap (λ f. form_copies_excess c.args.round f) (sym (ap action_form_seen c.in-For.is ∙ for_at c.in-For.header c.in-For.body c.in-For.combine c.as_ref-header.result.now c.in-For.body.value c.as_ref-header.ensures refl))
