use Rattle.std.proofs.Common.{◌≡◌, ℕ, ◌+◌, ◌++◌, map, refl, ap, sym, ◌∙◌, arith}
use Rattle.std.proofs.lemmas.Result.{on_ok_weaker}
use Rattle.dh_tree.specs.Seen.{action_form_seen, action_seen, actions, groups, part_seen}
use Rattle.dh_tree.proofs.SeenActions.{block_is, if_at}
use Rattle.dh_meaning.specs.AccessNumbers.{accesses_of, groups_accesses, inner_accesses, own_accesses, part_accesses}
use Rattle.dh_events.proofs.Turns.{at_item}
use Rattle.dh_lengths.specs.HeldLevels.{zero_levels}
use Rattle.dh_lengths.proofs.Zeros.{drop_past, no_more, three_zeros, zero_turn}
use Rattle.dh_lengths.proofs.skipping.+skip_command.Goals as goal

pub skip_command-loop-command-preserved : goal.skip_command-loop-command-preserved
skip_command-loop-command-preserved t c =
    zero_turn c.loop-command.reads.items c.skip_command-in-loop-command.new.reads.items _ (accesses_of (action_seen c.command-item.result)) _ _ c.in_ok-skip_command-in-Block.ensures
    (ap (λ l. part_accesses (actions (map action_seen l))) (at_item c.as_slice-command-items.result.now c.loop-command.command-index c.command-item.result c.loop-command-test.true c.command-item.is)) c.loop-command.invariant

pub skip_command-loop-part-preserved : goal.skip_command-loop-part-preserved
skip_command-loop-part-preserved t c =
    zero_turn c.loop-part.reads.items c.loop-command.reads.items _ (part_accesses (part_seen c.part-item.result)) _ _
    (no_more c.loop-command.reads.items _ _ (ap (λ l. part_accesses (actions (map action_seen l))) (drop_past c.as_slice-command-items.result.now c.loop-command.command-index c.loop-command-test.false)) c.loop-command.invariant
    ∙ ap (λ l. c.loop-part.reads.items ++ zero_levels (part_accesses (actions (map action_seen l)))) c.as_slice-command-items.ensures.value)
    (ap (λ l. groups_accesses (groups (map part_seen l))) (at_item c.as_slice-part-items.result.now c.loop-part.part-index c.part-item.result c.loop-part-test.true c.part-item.is)) c.loop-part.invariant

pub skip_command-returns-in_ok-skip_command-in-If : goal.skip_command-returns-in_ok-skip_command-in-If
skip_command-returns-in_ok-skip_command-in-If t c =
    on_ok_weaker c.skip_other.result (λ e.
    three_zeros c.args.reads.now.items c.skip_term-in-If.new.reads.items c.skip_command.new.reads.items c.skip_other.new.reads.items _ _ _ c.in_ok-skip_term-in-If.ensures
    (c.in_ok-skip_command-in-If.ensures ∙ ap (λ x. c.skip_term-in-If.new.reads.items ++ zero_levels (accesses_of (action_seen x))) c.deref-in-If.ensures) e
    ∙ ap (λ f. c.args.reads.now.items ++ zero_levels (own_accesses f + inner_accesses f)) (sym (ap action_form_seen c.in-If.is ∙ if_at c.in-If.test c.in-If.then c.in-If.other c.deref.result.now c.in-If.then.value c.deref.ensures refl))) c.skip_other.ensures

pub skip_command-returns-after-loop-part : goal.skip_command-returns-after-loop-part
skip_command-returns-after-loop-part t c =
    no_more c.loop-part.reads.items _ _ (ap (λ l. groups_accesses (groups (map part_seen l))) (drop_past c.as_slice-part-items.result.now c.loop-part.part-index c.loop-part-test.false)) c.loop-part.invariant
    ∙ (ap (λ l. c.args.reads.now.items ++ zero_levels (groups_accesses (groups (map part_seen l)))) c.as_slice-part-items.ensures.value
    ∙ (ap (λ n. c.args.reads.now.items ++ zero_levels n) (from_none _)
    ∙ ap (λ f. c.args.reads.now.items ++ zero_levels (own_accesses f + inner_accesses f)) (sym (ap action_form_seen c.in-Block.is ∙ block_is c.in-Block.body))))
  where
    from_none : (n : ℕ) → n ≡ 0 + n
    from_none n = omega arith
