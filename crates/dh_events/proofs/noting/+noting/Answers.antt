use Rattle.std.proofs.Common.{refl, ap, ◌∙◌, ◌++◌}
use Rattle.std.proofs.lemmas.Result.{on_ok_weaker, IfOk-weaker}
use Rattle.dh_tree.specs.Seen.{low_seen, high_seen, unroll_seen, action_form_seen, action_seen, maybe_block_seen, term_seen}
use Rattle.dh_tree.proofs.SeenActions.{if_at, while_at, for_at}
use Rattle.dh_events.specs.Incidents.{closed, incidents, open_after}
use Rattle.dh_events.specs.Noted.{noted_incidents, stages_known}
use Rattle.dh_events.proofs.NotedFacts.{choice_noted, choice_opens, choice_stays, while_noted, while_opens, noted_between, loop_noted, loop_opens}
use Rattle.dh_events.proofs.noting.+noting.Goals as goal

pub note_command-returns-in_ok-note_given-in-If-clause-adds : goal.note_command-returns-in_ok-note_given-in-If-clause-adds
note_command-returns-in_ok-note_given-in-If-clause-adds t c =
    let is = ap action_form_seen c.in-If.is ∙ if_at c.in-If.test c.in-If.then c.in-If.other c.deref-in-If.result.now c.in-If.then.value c.deref-in-If.ensures refl in
    on_ok_weaker c.end_arms.result
    (λ end. choice_noted (stages_known c.args.around) c.args.around.round c.args.behind c.args.command.now.id (action_form_seen c.args.command.now.form) (term_seen c.deref-in-If.result.now) (action_seen c.in-If.then.value) (maybe_block_seen c.in-If.other) is c.in_ok-inside-in-If.inside c.in_ok-inside-in-If.ensures.inside
    (noted_incidents c.args.notes.now) (noted_incidents c.begin_arms.new.notes) (noted_incidents c.note_inside.new.notes) (noted_incidents c.begin_other.new.notes) (noted_incidents c.note_given.new.notes) (noted_incidents c.end_arms.new.notes)
    c.in_ok-inside-in-If.ensures.adds (c.in_ok-note_inside-in-If.ensures.adds ∙ ap (λ x. noted_incidents c.begin_arms.new.notes ++ incidents (stages_known c.args.around) c.args.around.round c.in_ok-inside-in-If.inside (action_seen x)) c.deref-in-If-2.ensures)
    c.in_ok-begin_other-in-If.ensures.adds c.in_ok-note_given-in-If.ensures.adds end)
    c.end_arms.ensures.adds

pub note_command-returns-in_ok-note_given-in-If-clause-after : goal.note_command-returns-in_ok-note_given-in-If-clause-after
note_command-returns-in_ok-note_given-in-If-clause-after t c =
    let is = ap action_form_seen c.in-If.is ∙ if_at c.in-If.test c.in-If.then c.in-If.other c.deref-in-If.result.now c.in-If.then.value c.deref-in-If.ensures refl in
    IfOk-weaker c.end_arms.result _ _
    (λ k m. choice_opens (stages_known c.args.around) c.args.around.round c.args.behind c.args.command.now.id (action_form_seen c.args.command.now.form) (term_seen c.deref-in-If.result.now) (action_seen c.in-If.then.value) (maybe_block_seen c.in-If.other) is c.in_ok-inside-in-If.inside c.in_ok-inside-in-If.ensures.inside k m)
    c.end_arms.ensures.after

pub note_command-returns-in_ok-note_given-in-If-clause-noted : goal.note_command-returns-in_ok-note_given-in-If-clause-noted
note_command-returns-in_ok-note_given-in-If-clause-noted t c =
    on_ok_weaker c.end_arms.result
    (λ end. choice_stays c.args.notes.now c.begin_arms.new.notes c.note_inside.new.notes c.begin_other.new.notes c.note_given.new.notes c.end_arms.new.notes c.in_ok-inside-in-If.ensures.noted c.in_ok-note_inside-in-If.ensures.noted c.in_ok-begin_other-in-If.ensures.noted c.in_ok-note_given-in-If.ensures.noted end)
    c.end_arms.ensures.noted

pub note_command-returns-in_ok-note_inside-in-While-clause-adds : goal.note_command-returns-in_ok-note_inside-in-While-clause-adds
note_command-returns-in_ok-note_inside-in-While-clause-adds t c =
    let is = ap action_form_seen c.in-While.is ∙ while_at c.in-While.test c.in-While.body c.deref-in-While.result.now c.in-While.body.value c.deref-in-While.ensures refl in
    on_ok_weaker c.end_turns.result
    (λ end. while_noted (stages_known c.args.around) c.args.around.round c.args.behind c.args.command.now.id (action_form_seen c.args.command.now.form) (term_seen c.deref-in-While.result.now) (action_seen c.in-While.body.value) is
    (noted_incidents c.args.notes.now) (noted_incidents c.begin_turns.new.notes) (noted_incidents c.note_inside-in-While.new.notes) (noted_incidents c.end_turns.new.notes)
    c.in_ok-begin_turns-in-While.ensures.adds
    (c.in_ok-note_inside-in-While.ensures.adds ∙ (ap (λ h. noted_incidents c.begin_turns.new.notes ++ incidents (stages_known c.args.around) c.args.around.round h (action_seen c.deref-in-While-2.result.now)) c.closed.ensures
    ∙ ap (λ x. noted_incidents c.begin_turns.new.notes ++ incidents (stages_known c.args.around) c.args.around.round closed (action_seen x)) c.deref-in-While-2.ensures))
    end)
    c.end_turns.ensures.adds

pub note_command-returns-in_ok-note_inside-in-While-clause-after : goal.note_command-returns-in_ok-note_inside-in-While-clause-after
note_command-returns-in_ok-note_inside-in-While-clause-after t c =
    let is = ap action_form_seen c.in-While.is ∙ while_at c.in-While.test c.in-While.body c.deref-in-While.result.now c.in-While.body.value c.deref-in-While.ensures refl in
    IfOk-weaker c.end_turns.result _ _
    (λ k m. while_opens (stages_known c.args.around) c.args.around.round c.args.behind c.args.command.now.id (action_form_seen c.args.command.now.form) (term_seen c.deref-in-While.result.now) (action_seen c.in-While.body.value) is k m)
    c.end_turns.ensures.after

pub note_command-returns-in_ok-note_inside-in-While-clause-noted : goal.note_command-returns-in_ok-note_inside-in-While-clause-noted
note_command-returns-in_ok-note_inside-in-While-clause-noted t c =
    on_ok_weaker c.end_turns.result
    (λ end. noted_between c.args.notes.now c.begin_turns.new.notes c.note_inside-in-While.new.notes c.end_turns.new.notes c.in_ok-begin_turns-in-While.ensures.noted c.in_ok-note_inside-in-While.ensures.noted end)
    c.end_turns.ensures.noted

pub note_command-returns-in_ok-note_given-in-For-clause-adds : goal.note_command-returns-in_ok-note_given-in-For-clause-adds
note_command-returns-in_ok-note_given-in-For-clause-adds t c =
    let h = c.as_ref-header.result.now in
    loop_noted (stages_known c.args.around) c.args.around.round c.args.behind c.args.command.now.id (action_form_seen c.args.command.now.form) h.iterator h.declared (low_seen h) (high_seen h) (unroll_seen h) (action_seen c.in-For.body.value) (maybe_block_seen c.in-For.combine) h.combine_place
    (ap action_form_seen c.in-For.is ∙ for_at c.in-For.header c.in-For.body c.in-For.combine h c.in-For.body.value c.as_ref-header.ensures refl)
    c.round_inside.result c.in_ok-turn-in-For.turn c.into_combine-joins.result c.round_inside.ensures
    (c.in_ok-turn-in-For.ensures.after ∙ (ap (λ h. open_after (stages_known c.args.around) h (action_seen c.deref-in-For.result.now)) c.closed-in-For.ensures ∙ ap (λ x. open_after (stages_known c.args.around) closed (action_seen x)) c.deref-in-For.ensures))
    c.into_combine-joins.ensures
    (noted_incidents c.args.notes.now) (noted_incidents c.assign.new.self) (noted_incidents c.note_inside-in-For.new.notes) (noted_incidents c.note_given-in-For.new.notes) c.in_ok-assign-in-For.ensures.adds
    (c.in_ok-turn-in-For.ensures.adds ∙ (ap (λ h. noted_incidents c.assign.new.self ++ incidents (stages_known c.args.around) c.round_inside.result h (action_seen c.deref-in-For.result.now)) c.closed-in-For.ensures
    ∙ ap (λ x. noted_incidents c.assign.new.self ++ incidents (stages_known c.args.around) c.round_inside.result closed (action_seen x)) c.deref-in-For.ensures))
    c.in_ok-note_given-in-For.ensures.adds

pub note_command-returns-in_ok-note_given-in-For-clause-after : goal.note_command-returns-in_ok-note_given-in-For-clause-after
note_command-returns-in_ok-note_given-in-For-clause-after t c =
    let h = c.as_ref-header.result.now in
    loop_opens (stages_known c.args.around) c.args.around.round c.args.behind c.args.command.now.id (action_form_seen c.args.command.now.form) h.iterator h.declared (low_seen h) (high_seen h) (unroll_seen h) (action_seen c.in-For.body.value) (maybe_block_seen c.in-For.combine) h.combine_place
    (ap action_form_seen c.in-For.is ∙ for_at c.in-For.header c.in-For.body c.in-For.combine h c.in-For.body.value c.as_ref-header.ensures refl)
    c.is_stepped.result c.behind_loop.result c.is_stepped.ensures c.behind_loop.ensures
