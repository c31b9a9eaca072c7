-- A straight command, an `if`, a `while`, a `for` and a view, and the steps through the parts of a block.
use Rattle.std.proofs.Common.{◌+◌, drop, map, refl, ap, sym, ◌∙◌, rules}
use Rattle.std.proofs.lemmas.Result.{IfOk-weaker}
use Rattle.dh_tree.proofs.SeenActions as known
use Rattle.dh_tree.specs.Seen.{action_seen, action_form_seen, all_parts_seen, maybe_block_seen, term_seen, view_plan}
use Rattle.dh_meaning.specs.AccessNumbers.{groups_accesses}
use Rattle.dh_phases.specs.GatheredPhases.{numbered_seen, phase_list, phases_seen}
use Rattle.dh_phases.specs.Gathering.{command_list}
use Rattle.dh_phases.proofs.CountedParts.{left_first, next_command}
use Rattle.dh_phases.proofs.PhasesRead.{alone_read, if_read, while_read, for_read, view_read, part_begin, part_turn, part_joined, part_end, parts_over, left_begin, left_end}
use Rattle.dh_phases.proofs.gathering.+gathering.Goals as goal

pub phases_of-returns-in-Let-clause-phases : goal.phases_of-returns-in-Let-clause-phases
phases_of-returns-in-Let-clause-phases t c =
    IfOk-weaker c.straight_alone.result _ _ (λ g is. is ∙ sym (alone_read c.args.command.now _ (ap action_form_seen c.in-Let.is ∙ known.let_is c.in-Let.declared c.in-Let.name c.in-Let.value) (λ first. refl) c.args.first (search rules))) c.straight_alone.ensures.phases

pub phases_of-returns-in-Assign-clause-phases : goal.phases_of-returns-in-Assign-clause-phases
phases_of-returns-in-Assign-clause-phases t c =
    IfOk-weaker c.straight_alone-in-Assign.result _ _ (λ g is. is ∙ sym (alone_read c.args.command.now _ (ap action_form_seen c.in-Assign.is ∙ known.assign_is c.in-Assign.target c.in-Assign.value) (λ first. refl) c.args.first (search rules))) c.straight_alone-in-Assign.ensures.phases

pub phases_of-returns-in-Store-clause-phases : goal.phases_of-returns-in-Store-clause-phases
phases_of-returns-in-Store-clause-phases t c =
    IfOk-weaker c.straight_alone-in-Store.result _ _ (λ g is. is ∙ sym (alone_read c.args.command.now _ (ap action_form_seen c.in-Store.is ∙ known.store_is c.in-Store.sides) (λ first. refl) c.args.first (search rules))) c.straight_alone-in-Store.ensures.phases

pub phases_of-returns-in-Reduce-clause-phases : goal.phases_of-returns-in-Reduce-clause-phases
phases_of-returns-in-Reduce-clause-phases t c =
    IfOk-weaker c.straight_alone-in-Reduce.result _ _ (λ g is. is ∙ sym (alone_read c.args.command.now _ (ap action_form_seen c.in-Reduce.is ∙ known.reduce_is c.in-Reduce.op c.in-Reduce.target c.in-Reduce.value) (λ first. refl) c.args.first (search rules))) c.straight_alone-in-Reduce.ensures.phases

pub phases_of-returns-in_ok-phases-in-If-clause-phases : goal.phases_of-returns-in_ok-phases-in-If-clause-phases
phases_of-returns-in_ok-phases-in-If-clause-phases t c =
    if_read c.args.command.now (term_seen c.as_ref-test.result.now) (action_seen c.deref.result.now) (maybe_block_seen c.in-If.other) c.args.first c.behind_term-next.result c.in_ok-chosen-in-If.next
    (phase_list c.in_ok-chosen-in-If.chosen) (phase_list c.in_ok-other-in-If.other) (phase_list c.in_ok-phases-in-If.phases)
    (ap action_form_seen c.in-If.is ∙ known.if_at c.in-If.test c.in-If.«then» c.in-If.other c.as_ref-test.result.now c.deref.result.now c.as_ref-test.ensures c.deref.ensures)
    (search rules) c.behind_term-next.ensures c.in_ok-chosen-in-If.ensures.next c.in_ok-chosen-in-If.ensures.phases c.in_ok-other-in-If.ensures.phases c.in_ok-phases-in-If.ensures

pub phases_of-returns-in_ok-phases-in-While-clause-phases : goal.phases_of-returns-in_ok-phases-in-While-clause-phases
phases_of-returns-in_ok-phases-in-While-clause-phases t c =
    while_read c.args.command.now (term_seen c.as_ref-test-in-While.result.now) (action_seen c.deref-in-While.result.now) c.args.first c.behind_term-next-in-While.result
    (phase_list c.in_ok-body-in-While.body) (phase_list c.in_ok-phases-in-While.phases)
    (ap action_form_seen c.in-While.is ∙ known.while_at c.in-While.test c.in-While.body c.as_ref-test-in-While.result.now c.deref-in-While.result.now c.as_ref-test-in-While.ensures c.deref-in-While.ensures)
    (search rules) c.behind_term-next-in-While.ensures c.in_ok-body-in-While.ensures.phases c.in_ok-phases-in-While.ensures

pub phases_of-returns-in_ok-phases-in-For-clause-phases : goal.phases_of-returns-in_ok-phases-in-For-clause-phases
phases_of-returns-in_ok-phases-in-For-clause-phases t c =
    for_read c.args.command.now c.as_ref-header.result.now (action_seen c.deref-in-For.result.now) (maybe_block_seen c.in-For.combine) c.turn_count-count.result c.args.first c.in_ok-body-in-For.next
    (phase_list c.in_ok-body-in-For.body) (phase_list c.in_ok-folds-in-For.folds) (phase_list c.in_ok-turn-in-For.turn) (phase_list c.in_ok-phases-in-For.phases)
    (ap action_form_seen c.in-For.is ∙ known.for_at c.in-For.header c.in-For.body c.in-For.combine c.as_ref-header.result.now c.deref-in-For.result.now c.as_ref-header.ensures c.deref-in-For.ensures)
    (search rules) c.turn_count-count.ensures c.in_ok-body-in-For.ensures.next c.in_ok-body-in-For.ensures.phases c.in_ok-folds-in-For.ensures.phases c.in_ok-turn-in-For.ensures c.in_ok-phases-in-For.ensures

pub phases_of-returns-in-View-clause-phases : goal.phases_of-returns-in-View-clause-phases
phases_of-returns-in-View-clause-phases t c =
    IfOk-weaker c.view_phases.result _ _
    (λ g is. view_read c.args.command.now c.in-View.name.value c.in-View.parent.value (view_plan c.deref-in-View.result.now) c.args.first (phase_list g.0)
    (ap action_form_seen c.in-View.is ∙ known.view_at c.in-View.name c.in-View.parent c.in-View.form c.in-View.name.value c.in-View.parent.value c.deref-in-View.result.now refl refl c.deref-in-View.ensures)
    (search rules) is)
    c.view_phases.ensures.phases

pub phases_of_parts-loop-part-init : goal.phases_of_parts-loop-part-init
phases_of_parts-loop-part-init t c = (search rules, (left_first c.args.first (groups_accesses (all_parts_seen c.args.parts.now)) (search rules), search rules))

pub phases_of_parts-loop-command-init : goal.phases_of_parts-loop-command-init
phases_of_parts-loop-command-init t c = (
  left_begin c.args.parts.now c.loop-part.part-index c.loop-part.next c.args.first _ c.part-item.result c.deref-command-items.result.now c.loop-part-test.true c.part-item.is c.deref-command-items.ensures.value c.loop-part.invariant.1.0,
  part_begin c.args.parts.now c.loop-part.part-index c.part-item.result (phases_seen c.loop-part.done.items) _ (command_list c.loop-part.current) c.deref-command-items.result.now c.loop-part.next
      c.loop-part-test.true c.part-item.is c.deref-command-items.ensures.value c.loop-part.invariant.1.0.fits (ap (λ l. map numbered_seen l) c.loop-part.invariant.0) c.loop-part.invariant.1.1,
)

pub phases_of_parts-loop-command-preserved : goal.phases_of_parts-loop-command-preserved
phases_of_parts-loop-command-preserved t c = (
  next_command c.loop-command.next c.in_ok-phases.behind c.args.first (groups_accesses (all_parts_seen c.args.parts.now)) c.deref-command-items.result.now c.loop-command.command-index c.command-item.result c.args.parts.now (c.loop-part.part-index + 1)
      c.loop-command-test.true c.command-item.is c.in_ok-phases.ensures.next c.loop-command.invariant.0,
  part_turn c.deref-command-items.result.now c.loop-command.command-index c.command-item.result (drop (c.loop-part.part-index + 1) c.args.parts.now) (phases_seen c.loop-command.done.items) (phases_seen c.join.new.done.items)
      (command_list c.loop-command.current) (command_list c.join.new.current) c.loop-command.next c.in_ok-phases.behind (phase_list c.in_ok-phases.phases) _ c.loop-command-test.true c.command-item.is
      c.in_ok-phases.ensures.phases c.in_ok-phases.ensures.next c.in_ok-join.ensures.done c.in_ok-join.ensures.current c.loop-command.invariant.1,
)
