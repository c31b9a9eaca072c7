use Rattle.std.proofs.Common.{refl, ap, sym, ◌+◌, ◌-◌, ◌/◌, ◌∙◌, min, map, option_map, arith, zero-add}
use Rattle.dh_tree.specs.declared.trees.commands.Command.{Command}
use Rattle.dh_tree.specs.LeastBreach.{least_of}
use Rattle.dh_tree.specs.Indices.{index_context_of, action_index_breaches, actions_index_breaches, groups_index_breaches}
use Rattle.dh_tree.specs.PhaseKinds.{phase_kind, form_phase_kind, groups_phase_kind, turns_kind}
use Rattle.dh_tree.specs.Placements as placements
use Rattle.dh_tree.specs.Placements.{in_body, in_combine, action_placement_breaches, other_placement_breaches, combine_breaches, form_placement_breaches}
use Rattle.dh_tree.specs.Seen.{action_seen, action_form_seen, maybe_block_seen, part_seen, groups, program_seen}
use Rattle.dh_tree.proofs.Leasts.{rest_next}
use Rattle.dh_tree.proofs.SeenActions.{for_at}
use Rattle.dh_views.proofs.Turns.{loop_kept}
use Rattle.dh_events.specs.Stages.{form_stages, other_stages, stages_in}
use Rattle.dh_events.specs.Tables.{kept_table}
use Rattle.dh_rules.proofs.Noted.{both_noted, more_kept}
use Rattle.dh_base.proofs.ListItems.{at_item}
use Rattle.dh_rules.specs.Walked.{context_seen}
use Rattle.dh_rules.proofs.Walks.{next_kept, next_steps, groups_cut, three_kept}
use Rattle.dh_rules.proofs.placements.+commands.Goals as goal

pub keep_groups-loop-part-init : goal.keep_groups-loop-part-init
keep_groups-loop-part-init t c = record {
  shapes = refl;
  places = refl;
  noted = refl;
  small = omega arith;
  steps = ap (λ n. min 2 n) (zero-add (groups_phase_kind (groups (map part_seen c.args.parts.now)))) ∙ groups_cut (groups (map part_seen c.args.parts.now));
}

pub keep_groups-loop-command-preserved : goal.keep_groups-loop-command-preserved
keep_groups-loop-command-preserved t c = record {
  shapes =
      rest_next (action_index_breaches (index_context_of (program_seen c.args.typed.now))) (actions_index_breaches (index_context_of (program_seen c.args.typed.now))) (groups_index_breaches (index_context_of (program_seen c.args.typed.now))) (λ a rest. refl)
      c.loop-command.shapes c.keep_command.new.shapes c.deref-command-items.result.now c.loop-command.command-index c.command-item.result c.args.parts.now (c.loop-part.part-index + 1)
      c.loop-command-test.true c.command-item.is c.in_ok-steps.ensures.shapes
      ∙ c.loop-command.invariant.shapes;
  places =
      next_kept c.args.typed.now.entities.items (context_seen c.args.context.now) c.loop-command.places c.keep_command.new.places c.keep_joined.new.kept c.deref-command-items.result.now c.loop-command.command-index c.command-item.result c.args.parts.now (c.loop-part.part-index + 1)
      c.loop-command-test.true c.command-item.is c.in_ok-steps.ensures.places c.keep_joined.ensures
      ∙ c.loop-command.invariant.places;
  steps =
      next_steps c.loop-command.most c.in_ok-steps.steps c.max-most.result c.deref-command-items.result.now c.loop-command.command-index c.command-item.result
      c.loop-command-test.true c.command-item.is c.in_ok-steps.ensures.steps c.max-most.ensures
      ∙ c.loop-command.invariant.steps;
  noted =
      more_kept (kept_table c.keep_command.new.stages) (kept_table c.loop-command.stages) _ _ _ c.command-item.result (at_item c.deref-command-items.result.now c.loop-command.command-index c.command-item.result c.loop-command-test.true c.command-item.is)
      c.in_ok-steps.ensures.noted c.loop-command.invariant.noted;
}

-- its own breaches, then those of the body, then those of the block that joins copies
pub keep_inside-returns-in_ok-folds-in-For-clause-shapes : goal.keep_inside-returns-in_ok-folds-in-For-clause-shapes
keep_inside-returns-in_ok-folds-in-For-clause-shapes t c =
    let known = index_context_of (program_seen c.args.typed.now) in
    let h = c.as_ref-header.result.now in
    loop_kept known h (action_seen c.in-For.body.value) (maybe_block_seen c.in-For.combine) (action_form_seen c.args.command.now.form)
    c.args.shapes.now c.keep_own.new.kept c.keep_command-in-For.new.shapes c.keep_other-in-For.new.shapes
    (ap action_form_seen c.in-For.is ∙ for_at c.in-For.header c.in-For.body c.in-For.combine h c.in-For.body.value c.as_ref-header.ensures refl)
    c.keep_own.ensures
    (c.in_ok-turn-in-For.ensures.shapes ∙ ap (λ (b : Command). least_of c.keep_own.new.kept (action_index_breaches known (action_seen b))) c.deref-in-For.ensures)
    c.in_ok-folds-in-For.ensures.shapes

-- the body in its context, then the block that joins copies in its own, then what it is
pub keep_inside-returns-in_ok-folds-in-For-clause-places : goal.keep_inside-returns-in_ok-folds-in-For-clause-places
keep_inside-returns-in_ok-folds-in-For-clause-places t c =
    let es = c.args.typed.now.entities.items in
    let round = context_seen c.args.context.now in
    let h = c.as_ref-header.result.now in
    three_kept c.args.places.now c.keep_command-in-For.new.places c.keep_other-in-For.new.places c.keep_combine.new.kept
    (action_placement_breaches es (in_body round h.factor h.iterator.entity) (action_seen c.in-For.body.value))
    (other_placement_breaches es (in_combine round h.iterator.entity) (maybe_block_seen c.in-For.combine))
    (combine_breaches (maybe_block_seen c.in-For.combine) h.combine_place)
    (c.in_ok-turn-in-For.ensures.places
    ∙ (ap (λ (b : Command). least_of c.args.places.now (action_placement_breaches es (context_seen c.in_body-inner.result) (action_seen b))) c.deref-in-For.ensures
    ∙ ap (λ (o : placements.Context). least_of c.args.places.now (action_placement_breaches es o (action_seen c.in-For.body.value))) c.in_body-inner.ensures))
    (c.in_ok-folds-in-For.ensures.places
    ∙ ap (λ (o : placements.Context). least_of c.keep_command-in-For.new.places (other_placement_breaches es o (maybe_block_seen c.in-For.combine))) c.in_combine-joining.ensures)
    c.keep_combine.ensures
    ∙ ap (λ f. least_of c.args.places.now (form_placement_breaches es round c.args.command.now.place f))
    (sym (ap action_form_seen c.in-For.is ∙ for_at c.in-For.header c.in-For.body c.in-For.combine h c.in-For.body.value c.as_ref-header.ensures refl))

pub keep_inside-returns-in_ok-folds-in-For-clause-steps : goal.keep_inside-returns-in_ok-folds-in-For-clause-steps
keep_inside-returns-in_ok-folds-in-For-clause-steps t c =
    let h = c.as_ref-header.result.now in
    c.kind_of_turns.ensures
    ∙ (ap (λ n. turns_kind n c.in_ok-turn-in-For.turn c.in_ok-folds-in-For.folds) c.turn_count-turns.ensures
    ∙ (ap (λ n. turns_kind ((h.high - h.low) / h.factor) n c.in_ok-folds-in-For.folds) (c.in_ok-turn-in-For.ensures.steps ∙ ap (λ (b : Command). phase_kind (action_seen b)) c.deref-in-For.ensures)
    ∙ (ap (λ n. turns_kind ((h.high - h.low) / h.factor) (phase_kind (action_seen c.in-For.body.value)) n) c.in_ok-folds-in-For.ensures.steps
    ∙ ap form_phase_kind (sym (ap action_form_seen c.in-For.is ∙ for_at c.in-For.header c.in-For.body c.in-For.combine h c.in-For.body.value c.as_ref-header.ensures refl)))))

-- the numbers of those inside, one after the other
pub keep_inside-returns-in_ok-folds-in-For-clause-noted : goal.keep_inside-returns-in_ok-folds-in-For-clause-noted
keep_inside-returns-in_ok-folds-in-For-clause-noted t c =
    let h = c.as_ref-header.result.now in
    both_noted (kept_table c.keep_other-in-For.new.stages) (kept_table c.keep_command-in-For.new.stages) (kept_table c.args.stages.now) (stages_in (action_seen c.in-For.body.value)) (other_stages (maybe_block_seen c.in-For.combine))
    (c.in_ok-turn-in-For.ensures.noted ∙ ap (λ (b : Command). option_map (stages_in (action_seen b)) (kept_table c.args.stages.now)) c.deref-in-For.ensures)
    c.in_ok-folds-in-For.ensures.noted
    ∙ ap (λ f. option_map (form_stages f) (kept_table c.args.stages.now)) (sym (ap action_form_seen c.in-For.is ∙ for_at c.in-For.header c.in-For.body c.in-For.combine h c.in-For.body.value c.as_ref-header.ensures refl))
