use Rattle.std.proofs.Common.{refl, ap, subst, ◌∙◌, ◌+◌, ◌||◌, nat_lt}
use Rattle.dh_meaning.specs.AccessNumbers.{term_accesses}
use Rattle.dh_tree.specs.Seen.{term_seen, action_seen, action_form_seen, maybe_block_seen, all_parts_seen}
use Rattle.dh_tree.specs.declared.trees.commands.Command.{Command}
use Rattle.dh_tree.proofs.SeenActions.{if_at, while_at, for_at}
use Rattle.std.specs.Prelude.{drop}
use Rattle.dh_accesses.specs.Met.{MeetsCommand}
use Rattle.dh_accesses.proofs.MetParts.{form_met, met_if, met_while, met_for, part_init, part_next, part_over, parts_over}
use Rattle.dh_accesses.proofs.meeting.+meeting.Goals as goal

pub meet-returns-in_ok-meets-in-If : goal.meet-returns-in_ok-meets-in-If
meet-returns-in_ok-meets-in-If t c =
    form_met c.args.unrolled c.args.first _ _ _ (ap action_form_seen c.in-If.is ∙ if_at c.in-If.test c.in-If.then c.in-If.other c.deref.result.now c.in-If.then.value c.deref.ensures refl)
    (met_if c.args.unrolled c.args.first c.behind_term.result (term_accesses (term_seen c.deref.result.now)) (action_seen c.in-If.then.value) (maybe_block_seen c.in-If.other)
    c.in_ok-tests-in-If.tests c.in_ok-chosen-in-If.chosen c.in_ok-other-in-If.other c.in_ok-arms-in-If.arms c.in_ok-meets-in-If.meets
    c.behind_term.ensures c.in_ok-tests-in-If.ensures
    (subst (λ (b : Command). MeetsCommand c.args.unrolled c.in_ok-tests-in-If.tests.next (action_seen b) c.in_ok-chosen-in-If.chosen) c.deref-in-If.ensures c.in_ok-chosen-in-If.ensures)
    c.in_ok-other-in-If.ensures c.in_ok-arms-in-If.ensures c.in_ok-meets-in-If.ensures)

pub meet-returns-in_ok-meets-in-While : goal.meet-returns-in_ok-meets-in-While
meet-returns-in_ok-meets-in-While t c =
    form_met c.args.unrolled c.args.first _ _ _ (ap action_form_seen c.in-While.is ∙ while_at c.in-While.test c.in-While.body c.deref-in-While.result.now c.in-While.body.value c.deref-in-While.ensures refl)
    (met_while c.args.unrolled c.args.first c.behind_term-in-While.result (term_accesses (term_seen c.deref-in-While.result.now)) (action_seen c.in-While.body.value)
    c.in_ok-tests-in-While.tests c.in_ok-body-in-While.body c.in_ok-meets-in-While.meets
    c.behind_term-in-While.ensures c.in_ok-tests-in-While.ensures
    (subst (λ (b : Command). MeetsCommand c.args.unrolled c.in_ok-tests-in-While.tests.next (action_seen b) c.in_ok-body-in-While.body) c.deref-in-While-2.ensures c.in_ok-body-in-While.ensures)
    c.in_ok-meets-in-While.ensures)

pub meet-returns-in_ok-meets-in-For : goal.meet-returns-in_ok-meets-in-For
meet-returns-in_ok-meets-in-For t c =
    let h = c.as_ref-header.result.now in
    form_met c.args.unrolled c.args.first _ _ _ (ap action_form_seen c.in-For.is ∙ for_at c.in-For.header c.in-For.body c.in-For.combine h c.in-For.body.value c.as_ref-header.ensures refl)
    (met_for c.args.unrolled (c.args.unrolled || nat_lt 1 h.factor) c.args.first h.factor (action_seen c.in-For.body.value) (maybe_block_seen c.in-For.combine)
    c.in_ok-body-in-For.body c.in_ok-joins-in-For.joins c.in_ok-meets-in-For.meets refl
    (subst (λ (b : Command). MeetsCommand (c.args.unrolled || nat_lt 1 h.factor) c.args.first (action_seen b) c.in_ok-body-in-For.body) c.deref-in-For.ensures c.in_ok-body-in-For.ensures)
    c.in_ok-joins-in-For.ensures c.in_ok-meets-in-For.ensures)

pub meet_parts-loop-command-init : goal.meet_parts-loop-command-init
meet_parts-loop-command-init t c =
    part_init c.args.unrolled c.args.first c.args.parts.now c.loop-part.part-index c.part-item.result c.deref-command-items.result.now c.loop-part.all_groups.items c.new-group.result.items c.loop-part.next
    c.loop-part-test.true c.part-item.is c.deref-command-items.ensures.value c.new-group.ensures.items c.loop-part.invariant

pub meet_parts-loop-command-preserved : goal.meet_parts-loop-command-preserved
meet_parts-loop-command-preserved t c =
    part_next c.args.unrolled c.args.first (all_parts_seen c.args.parts.now) c.loop-part.all_groups.items c.loop-command.group.items c.push.new.self.items c.loop-command.next
    c.deref-command-items.result.now c.loop-command.command-index c.command-item.result (all_parts_seen (drop (c.loop-part.part-index + 1) c.args.parts.now)) c.in_ok-met.met
    c.loop-command-test.true c.command-item.is c.in_ok-met.ensures c.in_ok-push.ensures.items c.loop-command.invariant

pub meet_parts-loop-part-preserved : goal.meet_parts-loop-part-preserved
meet_parts-loop-part-preserved t c =
    part_over c.args.unrolled c.args.first (all_parts_seen c.args.parts.now) c.loop-part.all_groups.items c.push-in-loop-part.new.self.items c.loop-command.group c.loop-command.next
    c.deref-command-items.result.now c.loop-command.command-index (all_parts_seen (drop (c.loop-part.part-index + 1) c.args.parts.now))
    c.loop-command-test.false c.in_ok-push-2.ensures.items c.loop-command.invariant

pub meet_parts-returns : goal.meet_parts-returns
meet_parts-returns t c = parts_over c.args.unrolled c.args.first c.args.parts.now c.loop-part.part-index c.loop-part.all_groups c.loop-part.next c.loop-part-test.false c.loop-part.invariant
