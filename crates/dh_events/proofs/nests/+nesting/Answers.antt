use Rattle.std.proofs.Common.{refl, ap, sym, ◌∙◌, arith}
use Rattle.dh_tree.specs.Seen.{action_form_seen, action_seen, maybe_block_seen}
use Rattle.dh_tree.proofs.SeenActions.{let_is, if_is, for_at}
use Rattle.dh_events.specs.Rounds.{form_rounds, other_rounds, part_rounds, rounds_in, rounds_of}
use Rattle.dh_events.specs.Scopes.{form_scopes, other_scopes, part_scopes, scope_at, scopes_in}
use Rattle.dh_events.specs.Stages.{form_stages, other_stages, part_stages, stages_in}
use Rattle.dh_tree.specs.PhaseKinds.{phase_kind}
use Rattle.dh_events.specs.Tables.{table_at}
use Rattle.dh_events.proofs.NestFacts.{more_done, both_done, loop_stands, loop_within, loop_rounds, loop_scopes}
use Rattle.dh_events.proofs.StageFacts.{few_stages, more_stages}
use Rattle.dh_events.proofs.Turns.{at_item}
use Rattle.dh_events.proofs.nests.+nesting.Goals as goal

pub note_parts-loop-part-init : goal.note_parts-loop-part-init
note_parts-loop-part-init t c = record { few = omega arith; own = few_stages _; stages = refl; rounds = refl; scopes = refl }

pub note_parts-loop-command-preserved : goal.note_parts-loop-command-preserved
note_parts-loop-command-preserved t c =
    let is = at_item c.as_slice-command-items.result.now c.loop-command.command-index c.command-item.result c.loop-command-test.true c.command-item.is in
    let made = c.in_ok-note_nests.ensures in record {
      own = more_stages _ _ _ _ _ _ c.command-item.result is made.own c.max-most.ensures c.loop-command.invariant.own;
      stages = more_done stages_in part_stages (λ a rest x. refl) (table_at c.loop-command.nests.stages.items) _ _ _ _ c.command-item.result is made.noted c.loop-command.invariant.stages;
      rounds = more_done (rounds_in c.args.outer.now) (part_rounds c.args.outer.now) (λ a rest x. refl) (rounds_of c.loop-command.nests.rounds.items) _ _ _ _ c.command-item.result is made.rounds c.loop-command.invariant.rounds;
      scopes = more_done (scopes_in c.args.depth) (part_scopes c.args.depth) (λ a rest x. refl) (scope_at c.loop-command.nests.scopes.items) _ _ _ _ c.command-item.result is made.scopes c.loop-command.invariant.scopes;
    }

pub note_form-returns-in_ok-declare-in-Let-clause-scopes : goal.note_form-returns-in_ok-declare-in-Let-clause-scopes
note_form-returns-in_ok-declare-in-Let-clause-scopes t c =
    c.in_ok-declare-in-Let.ensures ∙ ap (λ x. form_scopes c.args.depth x (scope_at c.args.nests.now.scopes.items)) (sym (ap action_form_seen c.in-Let.is ∙ let_is _ _ _))

pub note_form-returns-in_ok-others-in-If-clause-noted : goal.note_form-returns-in_ok-others-in-If-clause-noted
note_form-returns-in_ok-others-in-If-clause-noted t c =
    both_done stages_in other_stages (form_stages (action_form_seen c.args.form.now)) (action_seen c.in-If.then.value) (maybe_block_seen c.in-If.other) (λ x. ap (λ y. form_stages y x) (sym (ap action_form_seen c.in-If.is ∙ if_is _ _ _))) (table_at c.args.nests.now.stages.items) _ _
    (c.in_ok-chosen-in-If.ensures.noted ∙ ap (λ x. stages_in (action_seen x) (table_at c.args.nests.now.stages.items)) c.deref.ensures)
    c.in_ok-others-in-If.ensures.noted

pub note_form-returns-in_ok-others-in-If-clause-rounds : goal.note_form-returns-in_ok-others-in-If-clause-rounds
note_form-returns-in_ok-others-in-If-clause-rounds t c =
    let outer = c.args.outer.now in
    both_done (rounds_in outer) (other_rounds outer) (form_rounds outer c.args.id (action_form_seen c.args.form.now)) (action_seen c.in-If.then.value) (maybe_block_seen c.in-If.other) (λ x. ap (λ y. form_rounds outer c.args.id y x) (sym (ap action_form_seen c.in-If.is ∙ if_is _ _ _))) (rounds_of c.args.nests.now.rounds.items) _ _
    (c.in_ok-chosen-in-If.ensures.rounds ∙ ap (λ x. rounds_in outer (action_seen x) (rounds_of c.args.nests.now.rounds.items)) c.deref.ensures)
    c.in_ok-others-in-If.ensures.rounds

pub note_form-returns-in_ok-others-in-If-clause-scopes : goal.note_form-returns-in_ok-others-in-If-clause-scopes
note_form-returns-in_ok-others-in-If-clause-scopes t c =
    let depth = c.args.depth in
    both_done (scopes_in depth) (other_scopes depth) (form_scopes depth (action_form_seen c.args.form.now)) (action_seen c.in-If.then.value) (maybe_block_seen c.in-If.other) (λ x. ap (λ y. form_scopes depth y x) (sym (ap action_form_seen c.in-If.is ∙ if_is _ _ _))) (scope_at c.args.nests.now.scopes.items) _ _
    (c.in_ok-chosen-in-If.ensures.scopes ∙ ap (λ x. scopes_in depth (action_seen x) (scope_at c.args.nests.now.scopes.items)) c.deref.ensures)
    c.in_ok-others-in-If.ensures.scopes

pub note_form-returns-in_ok-set_own-in-For-clause-noted : goal.note_form-returns-in_ok-set_own-in-For-clause-noted
note_form-returns-in_ok-set_own-in-For-clause-noted t c =
    let h = c.as_ref-header.result.now in
    let is = ap action_form_seen c.in-For.is ∙ for_at c.in-For.header c.in-For.body c.in-For.combine h c.in-For.body.value c.as_ref-header.ensures refl in
    both_done stages_in other_stages (form_stages (action_form_seen c.args.form.now)) (action_seen c.in-For.body.value) (maybe_block_seen c.in-For.combine) (λ x. ap (λ y. form_stages y x) (sym is)) (table_at c.args.nests.now.stages.items) _ _
    (c.in_ok-turn-in-For.ensures.noted ∙ ap (λ x. stages_in (action_seen x) (table_at c.args.nests.now.stages.items)) c.deref-in-For.ensures)
    c.in_ok-joins-in-For.ensures.noted

pub note_form-returns-in_ok-set_own-in-For-clause-own : goal.note_form-returns-in_ok-set_own-in-For-clause-own
note_form-returns-in_ok-set_own-in-For-clause-own t c =
    let h = c.as_ref-header.result.now in
    let is = ap action_form_seen c.in-For.is ∙ for_at c.in-For.header c.in-For.body c.in-For.combine h c.in-For.body.value c.as_ref-header.ensures refl in
    loop_stands h (action_seen c.in-For.body.value) (maybe_block_seen c.in-For.combine) (action_form_seen c.args.form.now) is _ _ _ _ c.turn_count-turns.ensures
    (c.in_ok-turn-in-For.ensures.own ∙ ap (λ x. phase_kind (action_seen x)) c.deref-in-For.ensures) c.in_ok-joins-in-For.ensures.own c.kind_of_turns.ensures

pub note_form-returns-in_ok-set_own-in-For-clause-rounds : goal.note_form-returns-in_ok-set_own-in-For-clause-rounds
note_form-returns-in_ok-set_own-in-For-clause-rounds t c =
    let h = c.as_ref-header.result.now in
    let outer = c.args.outer.now in
    let body = action_seen c.in-For.body.value in
    let combine = maybe_block_seen c.in-For.combine in
    let is = ap action_form_seen c.in-For.is ∙ for_at c.in-For.header c.in-For.body c.in-For.combine h c.in-For.body.value c.as_ref-header.ensures refl in
    let within = loop_within h body combine (action_form_seen c.args.form.now) is outer c.in_ok-own-in-For.own.items c.as_slice-in-For.result.now c.loops_within-within.result.now c.in_ok-own-in-For.ensures c.as_slice-in-For.ensures.value c.loops_within-within.ensures in
    loop_rounds h body combine (action_form_seen c.args.form.now) is outer c.in_ok-own-in-For.own.items c.loops_within-within.result.now c.args.id c.in_ok-own-in-For.ensures within (rounds_of c.args.nests.now.rounds.items) _ _ _
    (c.in_ok-turn-in-For.ensures.rounds ∙ ap (λ x. rounds_in c.loops_within-within.result.now (action_seen x) (rounds_of c.args.nests.now.rounds.items)) c.deref-in-For.ensures)
    c.in_ok-joins-in-For.ensures.rounds c.in_ok-set_own-in-For.ensures

pub note_form-returns-in_ok-set_own-in-For-clause-scopes : goal.note_form-returns-in_ok-set_own-in-For-clause-scopes
note_form-returns-in_ok-set_own-in-For-clause-scopes t c =
    let h = c.as_ref-header.result.now in
    let is = ap action_form_seen c.in-For.is ∙ for_at c.in-For.header c.in-For.body c.in-For.combine h c.in-For.body.value c.as_ref-header.ensures refl in
    loop_scopes h (action_seen c.in-For.body.value) (maybe_block_seen c.in-For.combine) (action_form_seen c.args.form.now) is c.args.depth c.in_ok-deep-in-For.deep (scope_at c.args.nests.now.scopes.items) (scope_at c.declare_iterator.new.scopes.items) _ _
    c.in_ok-deep-in-For.ensures.inside c.in_ok-deep-in-For.ensures.noted
    (c.in_ok-turn-in-For.ensures.scopes ∙ ap (λ x. scopes_in c.in_ok-deep-in-For.deep (action_seen x) (scope_at c.declare_iterator.new.scopes.items)) c.deref-in-For.ensures)
    c.in_ok-joins-in-For.ensures.scopes
