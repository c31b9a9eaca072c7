use Rattle.std.proofs.Common.{refl, ap, ◌∙◌}
use Rattle.dh_tree.specs.Seen.{action_seen, action_form_seen, maybe_block_seen, term_seen}
use Rattle.dh_tree.proofs.SeenActions.{if_at, for_at}
use Rattle.dh_plan.specs.PlanSizes.{own_operators}
use Rattle.dh_size.specs.Summed.{unit_inside, unit_size, capped_sum}
use Rattle.dh_size.proofs.SummedParts.{if_summed, for_summed}
use Rattle.dh_size.proofs.commands.+counting.Goals as goal

pub with_command-returns-in-If : goal.with_command-returns-in-If
with_command-returns-in-If t c =
    if_summed c.args.sum c.saturating_add-own.result c.with_operators-tests.result c.with_command-next.result c.with_other.result _ (term_seen c.deref-in-If.result.now) (action_seen c.in-If.then.value) (maybe_block_seen c.in-If.other)
    (ap action_form_seen c.in-If.is ∙ if_at c.in-If.test c.in-If.then c.in-If.other c.deref-in-If.result.now c.in-If.then.value c.deref-in-If.ensures refl) c.saturating_add-own.ensures c.with_operators-tests.ensures
    (c.with_command-next.ensures ∙ ap (λ b. capped_sum c.with_operators-tests.result (unit_size (action_seen b))) c.deref-in-If-2.ensures) c.with_other.ensures

pub with_command-returns-in-For : goal.with_command-returns-in-For
with_command-returns-in-For t c =
    let h = c.as_ref-header.result.now in
    let is = ap action_form_seen c.in-For.is ∙ for_at c.in-For.header c.in-For.body c.in-For.combine h c.in-For.body.value c.as_ref-header.ensures refl in
    for_summed c.args.sum c.saturating_add-own.result c.with_command-turn.result c.with_other-inner.result c.saturating_mul.result c.saturating_add-in-For.result h.factor _ (action_seen c.in-For.body.value) (maybe_block_seen c.in-For.combine)
    (ap unit_inside is) (ap own_operators is) c.saturating_add-own.ensures
    (c.with_command-turn.ensures ∙ ap (λ b. capped_sum 0 (unit_size (action_seen b))) c.deref-in-For.ensures) c.with_other-inner.ensures c.saturating_mul.ensures c.saturating_add-in-For.ensures
