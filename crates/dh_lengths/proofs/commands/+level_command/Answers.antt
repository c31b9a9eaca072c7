use Rattle.std.proofs.Common.{◌≡◌, ℕ, ◌+◌, List, length, ap, sym, ◌∙◌, map, refl, arith, subst}
use Rattle.std.specs.Prelude.{Box, Option, option_map}
use Rattle.std.specs.Global.{Global}
use Rattle.std.proofs.lemmas.Result.{on_ok_weaker}
use Rattle.dh_tree.specs.declared.trees.commands.Command.{Command}
use Rattle.dh_tree.specs.PlainTrees.{assigns, blocks, decides, lets, reduces, stores, views}
use Rattle.dh_tree.specs.Seen.{action_form_seen, action_seen, actions, groups, maybe_seen, part_seen, view_plan, term_seen}
use Rattle.dh_tree.proofs.SeenActions.{assign_at, block_is, call_is, for_is, if_at, let_at, let_memory_is, reduce_at, store_at, view_at, while_is}
use Rattle.dh_meaning.specs.AccessNumbers.{accesses_of, maybe_accesses, other_accesses, part_accesses, plan_accesses, term_accesses}
use Rattle.dh_meaning.specs.Core.{CoreCommands, no_commands}
use Rattle.dh_meaning.specs.CoreOf.{core_action, core_action_form, core_other, core_part, core_term, depth_of, first_value}
use Rattle.dh_events.specs.Tables.{table_at}
use Rattle.dh_lengths.specs.Undone.{marks_with_levels, undone_levels}
use Rattle.dh_lengths.specs.HeldLevels.{held_access_count}
use Rattle.dh_lengths.specs.LeveledCommands.{GivesCommands}
use Rattle.dh_lengths.proofs.CommandLevels.{all_joined, by_form, counts_arm, gives_assign, gives_choice, gives_nothing, gives_skipped, gives_store, groups_begin, groups_end, groups_turn, inside_fits, part_begin, part_end, part_turn, put_reads, put_variables, since_is, with_count}
use Rattle.dh_lengths.proofs.HeldFacts.{skips_gives}
use Rattle.dh_lengths.proofs.TermLevels.{counts_on}
use Rattle.dh_lengths.proofs.Zeros.{drop_past}
use Rattle.dh_lengths.proofs.commands.+level_command.Goals as goal

plus_none : (n : ℕ) → n ≡ n + 0
plus_none n = omega arith

from_none : (n : ℕ) → n ≡ 0 + n
from_none n = omega arith

pub level_command-returns-in_ok-level-in-Let : goal.level_command-returns-in_ok-level-in-Let
level_command-returns-in_ok-level-in-Let t c = on_ok_weaker c.assign.result (λ a.
    by_form c.args.held.now c.assign.new.self c.args.outer c.args.command.now (lets c.in-Let.name c.in-Let.declared (option_map term_seen c.deref.result.now)) (ap action_form_seen c.in-Let.is ∙ let_at c.in-Let.declared c.in-Let.name c.in-Let.value c.deref.result.now c.deref.ensures) (λ known u s low.
    with_count c.args.held.now c.assign.new.self c.args.outer _ _ _ (plus_none (maybe_accesses (option_map term_seen c.deref.result.now)))
    (gives_assign c.args.held.now c.level_maybe.new.held c.assign.new.self c.args.outer (depth_of known c.in-Let.name) c.in_ok-level-in-Let.level _ c.in-Let.name.entity (first_value known (held_access_count c.args.held.now) c.in-Let.declared (option_map term_seen c.deref.result.now))
    (c.in_ok-level-in-Let.ensures known u s low c.in-Let.declared) a))) c.assign.ensures

pub level_command-returns-in_ok-level-in-Assign : goal.level_command-returns-in_ok-level-in-Assign
level_command-returns-in_ok-level-in-Assign t c = on_ok_weaker c.assign-in-Assign.result (λ a.
    by_form c.args.held.now c.assign-in-Assign.new.self c.args.outer c.args.command.now (assigns c.in-Assign.target (term_seen c.deref-in-Assign.result.now)) (ap action_form_seen c.in-Assign.is ∙ assign_at c.in-Assign.target c.in-Assign.value c.deref-in-Assign.result.now c.deref-in-Assign.ensures) (λ known u s low.
    with_count c.args.held.now c.assign-in-Assign.new.self c.args.outer _ _ _ (plus_none (term_accesses (term_seen c.deref-in-Assign.result.now)))
    (gives_assign c.args.held.now c.level_term.new.held c.assign-in-Assign.new.self c.args.outer (depth_of known c.in-Assign.target) c.in_ok-level-in-Assign.level _ c.in-Assign.target.entity (core_term known (held_access_count c.args.held.now) (term_seen c.deref-in-Assign.result.now))
    (c.in_ok-level-in-Assign.ensures known u s low) a))) c.assign-in-Assign.ensures

pub level_command-returns-in-Store : goal.level_command-returns-in-Store
level_command-returns-in-Store t c = on_ok_weaker c.level_store.result (λ g.
    by_form c.args.held.now c.level_store.new.held c.args.outer c.args.command.now (stores (term_seen c.as_ref-sides.result.now.target) (term_seen c.as_ref-sides.result.now.value)) (ap action_form_seen c.in-Store.is ∙ store_at c.in-Store.sides c.as_ref-sides.result.now c.as_ref-sides.ensures) (λ known u s low.
    with_count c.args.held.now c.level_store.new.held c.args.outer _ _ _ (plus_none (term_accesses (term_seen c.as_ref-sides.result.now.value) + term_accesses (term_seen c.as_ref-sides.result.now.target)))
    (gives_store c.args.held.now c.level_store.new.held c.args.outer _ (held_access_count c.args.held.now + term_accesses (term_seen c.as_ref-sides.result.now.value)) known (term_seen c.as_ref-sides.result.now.target) (core_term known (held_access_count c.args.held.now) (term_seen c.as_ref-sides.result.now.value)) (g known u s low)))) c.level_store.ensures

pub level_command-returns-in-Reduce : goal.level_command-returns-in-Reduce
level_command-returns-in-Reduce t c = on_ok_weaker c.level_reduce.result (λ g.
    by_form c.args.held.now c.level_reduce.new.held c.args.outer c.args.command.now (reduces c.in-Reduce.target c.in-Reduce.op (term_seen c.deref-in-Reduce.result.now)) (ap action_form_seen c.in-Reduce.is ∙ reduce_at c.in-Reduce.op c.in-Reduce.target c.in-Reduce.value c.deref-in-Reduce.result.now c.deref-in-Reduce.ensures) (λ known u s low.
    with_count c.args.held.now c.level_reduce.new.held c.args.outer _ _ _ (plus_none (term_accesses (term_seen c.deref-in-Reduce.result.now))) (g known u s low c.in-Reduce.op))) c.level_reduce.ensures

-- the arms of an `if`, behind its test
pub level_command-returns-in_ok-redo-in-If : goal.level_command-returns-in_ok-redo-in-If
level_command-returns-in_ok-redo-in-If t c = on_ok_weaker c.join.result (λ joined.
    by_form c.args.held.now _ c.args.outer c.args.command.now (decides (term_seen c.deref-in-If.result.now) (action_seen c.in-If.then.value) (maybe_seen (option_map (λ b. action_seen b.value) c.in-If.other))) (ap action_form_seen c.in-If.is ∙ if_at c.in-If.test c.in-If.then c.in-If.other c.deref-in-If.result.now c.in-If.then.value c.deref-in-If.ensures refl) (λ known u s low.
    let k = term_accesses (term_seen c.deref-in-If.result.now) in
    let tested = c.in_ok-level-in-If.ensures known u s low in
    let fits = inside_fits c.max-inside.result c.in_ok-level-in-If.level c.args.outer (held_access_count c.level_term-in-If.new.held) c.max-inside.ensures tested.low (counts_on (held_access_count c.args.held.now) (held_access_count c.level_term-in-If.new.held) k c.args.outer tested.counted low) in
    let arm = since_is c.as_slice.result.now c.level_command.new.held.log.items c.since-arm.result.now c.len-begin.result (length c.level_term-in-If.new.held.log.items) c.since-arm.ensures c.as_slice.ensures.value (c.len-begin.ensures ∙ c.level_term-in-If.new.held.log.ok.0) in
    let first = c.in_ok-level_command-in-If.ensures known u tested.sound fits in
    gives_choice c.args.held.now c.level_term-in-If.new.held c.level_command.new.held (put_variables c.level_command.new.held c.undo.new.variables) c.level_other.new.held _ c.args.outer c.in_ok-level-in-If.level c.max-inside.result k (accesses_of (action_seen c.in-If.then.value)) (other_accesses (maybe_seen (option_map (λ b. action_seen b.value) c.in-If.other))) _
    (core_action known (held_access_count c.args.held.now + k) (action_seen c.in-If.then.value) no_commands) (core_other known (held_access_count c.args.held.now + k + accesses_of (action_seen c.in-If.then.value)) (maybe_seen (option_map (λ b. action_seen b.value) c.in-If.other))) low tested
    (record {
      in_is = c.max-inside.ensures;
      one = λ sound within. subst (λ (x : Command). GivesCommands c.level_term-in-If.new.held c.level_command.new.held c.max-inside.result (core_action known (held_access_count c.args.held.now + k) (action_seen x) no_commands) (accesses_of (action_seen x))) c.deref-in-If-2.ensures
          (subst (λ (n : ℕ). GivesCommands c.level_term-in-If.new.held c.level_command.new.held c.max-inside.result (core_action known n (action_seen c.deref-in-If-2.result.now) no_commands) (accesses_of (action_seen c.deref-in-If-2.result.now))) tested.counted (c.in_ok-level_command-in-If.ensures known u sound within));
      back = record { reads = refl; shares = refl; first = refl; most = refl; log = refl };
      back_to = c.in_ok-undo-in-If.ensures ∙ ap (λ l. undone_levels l (table_at c.level_command.new.held.variables.items)) arm;
      two = λ sound within.
          subst (λ (n : ℕ). GivesCommands (put_variables c.level_command.new.held c.undo.new.variables) c.level_other.new.held c.max-inside.result (core_other known n (maybe_seen (option_map (λ b. action_seen b.value) c.in-If.other))) (other_accesses (maybe_seen (option_map (λ b. action_seen b.value) c.in-If.other))))
          (counts_arm (held_access_count c.args.held.now) (held_access_count c.level_term-in-If.new.held) (held_access_count c.level_command.new.held) k (accesses_of (action_seen c.in-If.then.value)) tested.counted
          (first.counted ∙ ap (λ (x : Command). held_access_count c.level_term-in-If.new.held + accesses_of (action_seen x)) c.deref-in-If-2.ensures)) (c.in_ok-level_other-in-If.ensures known u sound within);
      last = record { reads = refl; shares = refl; first = refl; most = refl; log = refl };
      joined =
          all_joined c.in_ok-level-in-If.level _ _ _ (table_at c.level_command.new.held.variables.items) (table_at c.level_other.new.held.variables.items) c.as_slice-in-If-6.result.now c.as_slice-in-If-5.result.now _ _ _ joined
          (c.as_slice-in-If-6.ensures.value ∙ (c.in_ok-others-in-If.ensures ∙ (ap (λ l. marks_with_levels (table_at l) c.since-both.result.now) c.as_slice-in-If-3.ensures.value
          ∙ ap (marks_with_levels (table_at c.level_other.new.held.variables.items)) (since_is c.as_slice-in-If-2.result.now c.level_other.new.held.log.items c.since-both.result.now c.len-begin.result (length c.level_term-in-If.new.held.log.items) c.since-both.ensures c.as_slice-in-If-2.ensures.value (c.len-begin.ensures ∙ c.level_term-in-If.new.held.log.ok.0)))))
          c.in_ok-redo-in-If.ensures
          (c.as_slice-in-If-5.ensures.value ∙ (c.in_ok-chosen-in-If.ensures ∙ (ap (λ l. marks_with_levels (table_at l) c.since-arm.result.now) c.as_slice-in-If.ensures.value ∙ ap (marks_with_levels (table_at c.level_command.new.held.variables.items)) arm)))
          (c.in_ok-undo-in-If-2.ensures ∙ ap (λ l. undone_levels l (table_at c.level_other.new.held.variables.items))
          (since_is c.as_slice-in-If-4.result.now c.level_other.new.held.log.items c.since.result.now c.len-middle.result (length c.level_command.new.held.log.items) c.since.ensures c.as_slice-in-If-4.ensures.value (c.len-middle.ensures ∙ c.level_command.new.held.log.ok.0)));
    }))) c.join.ensures

pub level_command-loop-part-init : goal.level_command-loop-part-init
level_command-loop-part-init t c = λ known u s low. groups_begin known c.args.held.now c.args.outer c.as_slice-part-items.result.now s low

pub level_command-loop-command-init : goal.level_command-loop-command-init
level_command-loop-command-init t c = λ known u s low. part_begin known c.loop-part.held c.args.outer c.as_slice-command-items.result.now u s low

pub level_command-loop-command-preserved : goal.level_command-loop-command-preserved
level_command-loop-command-preserved t c = λ known u s low.
    part_turn known c.loop-part.held c.loop-command.held c.level_command-in-loop-command.new.held c.args.outer c.as_slice-command-items.result.now c.loop-command.command-index c.command-item.result c.loop-command-test.true c.command-item.is
    c.in_ok-level_command-in-Block.ensures (c.loop-command.invariant known u s low)

pub level_command-loop-part-preserved : goal.level_command-loop-part-preserved
level_command-loop-part-preserved t c = λ known u s low.
    groups_turn known c.args.held.now c.loop-part.held c.loop-command.held c.args.outer c.as_slice-part-items.result.now c.loop-part.part-index c.part-item.result c.loop-part-test.true c.part-item.is
    (λ sound within.
    subst (λ (l : List Command). GivesCommands c.loop-part.held c.loop-command.held c.args.outer (core_part known (held_access_count c.loop-part.held) (actions (map action_seen l)) no_commands) (part_accesses (actions (map action_seen l)))) c.as_slice-command-items.ensures.value
    (part_end known c.loop-part.held c.loop-command.held c.args.outer _ c.as_slice-command-items.result.now (drop_past c.as_slice-command-items.result.now c.loop-command.command-index c.loop-command-test.false) (c.loop-command.invariant known u sound within)))
    (c.loop-part.invariant known u s low)

pub level_command-returns-after-loop-part : goal.level_command-returns-after-loop-part
level_command-returns-after-loop-part t c =
    by_form c.args.held.now c.loop-part.held c.args.outer c.args.command.now (blocks (groups (map part_seen c.as_slice-part-items.result.now)))
    (ap action_form_seen c.in-Block.is ∙ (block_is c.in-Block.body ∙ ap (λ l. blocks (groups (map part_seen l))) (sym c.as_slice-part-items.ensures.value))) (λ known u s low.
    with_count c.args.held.now c.loop-part.held c.args.outer _ _ _ (from_none _)
    (groups_end known c.args.held.now c.loop-part.held c.args.outer _ c.as_slice-part-items.result.now (drop_past c.as_slice-part-items.result.now c.loop-part.part-index c.loop-part-test.false) (c.loop-part.invariant known u s low)))

pub level_command-returns-in-LetMemory : goal.level_command-returns-in-LetMemory
level_command-returns-in-LetMemory t c = by_form c.args.held.now c.args.held.now c.args.outer c.args.command.now _ (ap action_form_seen c.in-LetMemory.is ∙ let_memory_is _ _ _ _) (λ known u s low. gives_nothing c.args.held.now c.args.outer s)

pub level_command-returns-in-View : goal.level_command-returns-in-View
level_command-returns-in-View t c = on_ok_weaker c.level_view.result (λ g.
    by_form c.args.held.now c.level_view.new.held c.args.outer c.args.command.now (views c.deref-in-View.result.now c.in-View.parent.value (view_plan c.deref-in-View-2.result.now))
    (ap action_form_seen c.in-View.is ∙ view_at c.in-View.name c.in-View.parent c.in-View.form c.deref-in-View.result.now c.in-View.parent.value c.deref-in-View-2.result.now c.deref-in-View.ensures refl c.deref-in-View-2.ensures) (λ known u s low.
    with_count c.args.held.now c.level_view.new.held c.args.outer _ _ _ (plus_none (plan_accesses (view_plan c.deref-in-View-2.result.now))) (g known u s low))) c.level_view.ensures

pub level_command-returns-in-Call : goal.level_command-returns-in-Call
level_command-returns-in-Call t c = by_form c.args.held.now c.args.held.now c.args.outer c.args.command.now _ (ap action_form_seen c.in-Call.is ∙ call_is _ _) (λ known u s low. gives_nothing c.args.held.now c.args.outer s)

pub level_command-returns-in-While : goal.level_command-returns-in-While
level_command-returns-in-While t c = on_ok_weaker c.skip_command.result (λ adds known u s low.
    subst (λ (cs : CoreCommands). GivesCommands c.args.held.now (put_reads c.args.held.now c.skip_command.new.reads) c.args.outer cs (accesses_of (action_seen c.args.command.now))) (sym (ap (λ f. core_action_form known (held_access_count c.args.held.now) f no_commands) (ap action_form_seen c.in-While.is ∙ while_is c.in-While.test c.in-While.body)))
    (gives_skipped c.args.held.now (put_reads c.args.held.now c.skip_command.new.reads) c.args.outer _ (skips_gives c.args.held.now (put_reads c.args.held.now c.skip_command.new.reads) _ s (record { reads = adds; most = refl; keeps = record { shares = refl; first = refl; variables = refl; log = refl } })))) c.skip_command.ensures

pub level_command-returns-in-For : goal.level_command-returns-in-For
level_command-returns-in-For t c = on_ok_weaker c.skip_command-in-For.result (λ adds known u s low.
    subst (λ (cs : CoreCommands). GivesCommands c.args.held.now (put_reads c.args.held.now c.skip_command-in-For.new.reads) c.args.outer cs (accesses_of (action_seen c.args.command.now))) (sym (ap (λ f. core_action_form known (held_access_count c.args.held.now) f no_commands) (ap action_form_seen c.in-For.is ∙ for_is _ _ _)))
    (gives_skipped c.args.held.now (put_reads c.args.held.now c.skip_command-in-For.new.reads) c.args.outer _ (skips_gives c.args.held.now (put_reads c.args.held.now c.skip_command-in-For.new.reads) _ s (record { reads = adds; most = refl; keeps = record { shares = refl; first = refl; variables = refl; log = refl } })))) c.skip_command-in-For.ensures

pub level_other-returns-in-Some : goal.level_other-returns-in-Some
level_other-returns-in-Some t c = on_ok_weaker c.level_command.result (λ g known u s low.
    subst (λ (o : Option (Box Command Global)). GivesCommands c.args.held.now c.level_command.new.held c.args.outer (core_other known (held_access_count c.args.held.now) (maybe_seen (option_map (λ b. action_seen b.value) o))) (other_accesses (maybe_seen (option_map (λ b. action_seen b.value) o)))) (sym c.in-Some.is)
    (subst (λ (x : Command). GivesCommands c.args.held.now c.level_command.new.held c.args.outer (core_action known (held_access_count c.args.held.now) (action_seen x) no_commands) (accesses_of (action_seen x))) c.deref.ensures (g known u s low))) c.level_command.ensures
