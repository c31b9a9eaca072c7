use Rattle.std.proofs.Common.{refl, ap, sym, ◌∙◌, arith}
use Rattle.std.specs.Prelude.{option_map}
use Rattle.dh_tree.specs.Seen.{action_form_seen, action_seen, maybe_seen}
use Rattle.dh_tree.proofs.SeenActions.{if_is, for_is}
use Rattle.dh_events.specs.Stages.{form_stages, other_stages, stages_in}
use Rattle.dh_events.specs.Tables.{table_at}
use Rattle.dh_events.proofs.StageFacts.{few_stages, more_stages, more_noted}
use Rattle.dh_events.proofs.Turns.{at_item}
use Rattle.dh_events.proofs.stages.+stages.Goals as goal

pub note_block-loop-part-init : goal.note_block-loop-part-init
note_block-loop-part-init t c = (omega arith, (few_stages _, refl))

pub note_block-loop-command-preserved : goal.note_block-loop-command-preserved
note_block-loop-command-preserved t c =
    let is = at_item c.as_slice-command-items.result.now c.loop-command.command-index c.command-item.result c.loop-command-test.true c.command-item.is in (
      more_stages _ _ _ _ _ _ c.command-item.result is c.in_ok-note_stages.ensures.own c.max-most.ensures c.loop-command.invariant.0,
      more_noted (table_at c.loop-command.stages.items) _ _ _ _ c.command-item.result is c.in_ok-note_stages.ensures.noted c.loop-command.invariant.1,
    )

pub note_inside-returns-in_ok-others-in-If-clause-noted : goal.note_inside-returns-in_ok-others-in-If-clause-noted
note_inside-returns-in_ok-others-in-If-clause-noted t c =
    c.in_ok-others-in-If.ensures.noted
    ∙ (ap (λ f. other_stages (maybe_seen (option_map (λ b. action_seen b.value) c.in-If.other)) f) (c.in_ok-chosen-in-If.ensures.noted ∙ ap (λ x. stages_in (action_seen x) (table_at c.args.stages.now.items)) c.deref.ensures)
    ∙ ap (λ x. form_stages x (table_at c.args.stages.now.items)) (sym (ap action_form_seen c.in-If.is ∙ if_is _ _ _)))

pub note_inside-returns-in_ok-joins-in-For-clause-noted : goal.note_inside-returns-in_ok-joins-in-For-clause-noted
note_inside-returns-in_ok-joins-in-For-clause-noted t c =
    c.in_ok-joins-in-For.ensures.noted
    ∙ (ap (λ f. other_stages (maybe_seen (option_map (λ b. action_seen b.value) c.in-For.combine)) f) (c.in_ok-inner-in-For.ensures.noted ∙ ap (λ x. stages_in (action_seen x) (table_at c.args.stages.now.items)) c.deref-in-For.ensures)
    ∙ ap (λ x. form_stages x (table_at c.args.stages.now.items)) (sym (ap action_form_seen c.in-For.is ∙ for_is _ _ _)))
