use Rattle.std.proofs.Common.{ap, sym, refl, subst, ◌∙◌, ◌+◌, [], ◌∷◌, ◌++◌}
use Rattle.std.proofs.lemmas.Result.{on_ok_weaker}
use Rattle.dh_tree.specs.declared.trees.commands.Command.{Command}
use Rattle.dh_tree.specs.Seen.{action_seen, action_form_seen, maybe_block_seen}
use Rattle.dh_tree.specs.Collected.{StaysFew}
use Rattle.dh_tree.specs.Counters.{counters}
use Rattle.dh_tree.specs.Excesses.{copies_excess, form_copies_excess}
use Rattle.dh_tree.specs.PlainTrees.{ActionForm}
use Rattle.dh_tree.proofs.SeenActions.{for_at}
use Rattle.dh_tree.proofs.Collecting.{loop_more}
use Rattle.dh_tree.proofs.FewCopies.{few_loop, next_few, next_found}
use Rattle.dh_tree.proofs.trees.counters.+finding_loops.Goals as goal

pub find_loops-returns-in_ok-find_loops-in-For-clause-found : goal.find_loops-returns-in_ok-find_loops-in-For-clause-found
find_loops-returns-in_ok-find_loops-in-For-clause-found t c =
    on_ok_weaker c.find_loops_in_other-in-For.result
    (loop_more c.args.found.now.items _ _ _ _ c.as_ref-header.result.now (action_seen c.in-For.body.value) (maybe_block_seen c.in-For.combine)
    (ap action_form_seen c.in-For.is ∙ for_at c.in-For.header c.in-For.body c.in-For.combine c.as_ref-header.result.now c.in-For.body.value c.as_ref-header.ensures refl)
    (c.in_ok-push-in-For.ensures.items ∙ ap (λ x. c.args.found.now.items ++ x ∷ []) c.counted.ensures)
    (c.in_ok-find_loops-in-For.ensures.found ∙ ap (λ b. c.push.new.self.items ++ counters (action_seen b)) c.deref-in-For.ensures))
    c.find_loops_in_other-in-For.ensures.found

pub find_loops-returns-in_ok-find_loops-in-For-clause-few : goal.find_loops-returns-in_ok-find_loops-in-For-clause-few
find_loops-returns-in_ok-find_loops-in-For-clause-few t c =
    on_ok_weaker c.find_loops_in_other-in-For.result
    (λ last. subst (λ (f : ActionForm). StaysFew c.args.few.now c.find_loops_in_other-in-For.new.few (form_copies_excess c.args.round f))
    (sym (ap action_form_seen c.in-For.is ∙ for_at c.in-For.header c.in-For.body c.in-For.combine c.as_ref-header.result.now c.in-For.body.value c.as_ref-header.ensures refl))
    (few_loop c.args.few.now c.copies_inside-inside.new.few c.find_loops-in-For.new.few c.find_loops_in_other-in-For.new.few
    c.args.round c.as_ref-header.result.now.factor c.copies_inside-inside.result (action_seen c.in-For.body.value) (maybe_block_seen c.in-For.combine)
    c.copies_inside-inside.ensures
    (subst (λ (b : Command). StaysFew c.copies_inside-inside.new.few c.find_loops-in-For.new.few (copies_excess c.copies_inside-inside.result (action_seen b)))
    c.deref-in-For.ensures c.in_ok-find_loops-in-For.ensures.few)
    last))
    c.find_loops_in_other-in-For.ensures.few

pub find_loops_in_parts-loop-command-preserved : goal.find_loops_in_parts-loop-command-preserved
find_loops_in_parts-loop-command-preserved t c = (
  next_found c.loop-command.found.items c.find_loops.new.found.items _ c.deref-command-items.result.now c.loop-command.command-index c.command-item.result
      c.loop-command-test.true c.command-item.is c.in_ok-find_loops.ensures.found c.loop-command.invariant.0,
  next_few c.args.round c.args.few.now c.loop-command.few c.find_loops.new.few c.deref-command-items.result.now c.loop-command.command-index c.command-item.result
      c.args.parts.now (c.loop-part.part-index + 1) c.loop-command-test.true c.command-item.is c.in_ok-find_loops.ensures.few c.loop-command.invariant.1,
)
