use Rattle.std.proofs.Common.{true, map, ap, sym, ◌∙◌, refl, subst}
use Rattle.std.specs.Prelude.{Box, Option, option_map}
use Rattle.std.specs.Global.{Global}
use Rattle.std.proofs.lemmas.Result.{on_ok_weaker}
use Rattle.dh_tree.specs.declared.trees.commands.Command.{Command}
use Rattle.dh_tree.specs.PlainTrees.{assigns, blocks, calls, decides, lets, lets_memory, reduces, repeats, views}
use Rattle.dh_tree.specs.Seen.{action_form_seen, action_seen, counts_seen, groups, high_seen, low_seen, maybe_block_seen, maybe_seen, part_seen, view_plan, sides_seen, term_seen, unroll_seen}
use Rattle.dh_tree.proofs.SeenActions.{assign_is, block_is, call_is, for_at, if_at, let_is, let_memory_is, reduce_is, store_is, view_is, while_at}
use Rattle.dh_tree.specs.ViewOffsets.{moves}
use Rattle.dh_meaning.specs.AccessNumbers.{accesses_of, other_accesses}
use Rattle.dh_meaning.specs.Phases.{other_phases, phases}
use Rattle.dh_events.specs.Tables.{table_at}
use Rattle.dh_lengths.specs.HeldLevels.{held_access_count}
use Rattle.dh_lengths.specs.PhaseWalks.{PhasesAreWalked, TellOther, TellsStages}
use Rattle.dh_lengths.proofs.PhaseWalking.{by_form, groups_begin, groups_turn, never_more, view_few, part_begin, part_turn, put_released, walked_block, walked_choice, walked_none, walked_nothing, walked_repeat, walked_turns, where_none, where_one}
use Rattle.dh_lengths.proofs.Zeros.{drop_past}
use Rattle.dh_lengths.proofs.lengths.+walking.Goals as goal

pub walk_command-returns-then-stage-eq0 : goal.walk_command-returns-then-stage-eq0
walk_command-returns-then-stage-eq0 t c = on_ok_weaker c.skip_command.result (λ adds.
    where_none c.args.stages.now c.args.walk.now _ c.args.command.now c.get_at-stage.result c.get_at-stage.ensures c.if-stage-eq0.true (λ e.
    walked_none c.args.stages.now c.args.walk.now _ c.args.command.now e (record { reads = adds; most = refl; keeps = record { shares = refl; first = refl; variables = refl; log = refl } }) refl refl refl)) c.skip_command.ensures

pub walk_command-returns-then-stage-eq1 : goal.walk_command-returns-then-stage-eq1
walk_command-returns-then-stage-eq1 t c = on_ok_weaker c.walk_straight.result (λ walked.
    where_one c.args.stages.now c.args.walk.now c.walk_straight.new.walk c.args.command.now c.get_at-stage.result c.get_at-stage.ensures c.if-stage-eq1.true walked) c.walk_straight.ensures

pub walk_command-loop-part-init : goal.walk_command-loop-part-init
walk_command-loop-part-init t c = λ known u r base line tells s. groups_begin c.args.stages.now known r base line c.args.walk.now c.as_slice-part-items.result.now tells s

pub walk_command-loop-command-init : goal.walk_command-loop-command-init
walk_command-loop-command-init t c = λ known u r base line tells s. part_begin c.args.stages.now known r base line (put_released c.loop-part.walk) c.as_slice-command-items.result.now tells s

pub walk_command-loop-command-preserved : goal.walk_command-loop-command-preserved
walk_command-loop-command-preserved t c = λ known u r base line tells s.
    part_turn c.args.stages.now known u r base line (put_released c.loop-part.walk) c.loop-command.walk c.walk_command.new.walk c.as_slice-command-items.result.now c.loop-command.command-index c.command-item.result
    c.loop-command-test.true c.command-item.is c.in_ok-walk_command-in-Block.ensures (c.loop-command.invariant known u r base line tells s)

pub walk_command-loop-part-preserved : goal.walk_command-loop-part-preserved
walk_command-loop-part-preserved t c = λ known u r base line tells s.
    groups_turn c.args.stages.now known r base line c.args.walk.now c.loop-part.walk c.loop-command.walk c.as_slice-part-items.result.now c.loop-part.part-index c.part-item.result c.as_slice-command-items.result.now _
    c.loop-part-test.true c.part-item.is c.as_slice-command-items.ensures.value (drop_past c.as_slice-command-items.result.now c.loop-command.command-index c.loop-command-test.false)
    (λ tell l stands. c.loop-command.invariant known u r base l tell stands) (c.loop-part.invariant known u r base line tells s)

pub walk_command-returns-after-loop-part : goal.walk_command-returns-after-loop-part
walk_command-returns-after-loop-part t c =
    by_form c.args.ways.now c.args.stages.now c.args.walk.now (put_released c.loop-part.walk) c.args.command.now (blocks (groups (map part_seen c.as_slice-part-items.result.now)))
    (ap action_form_seen c.in-Block.is ∙ (block_is c.in-Block.body ∙ ap (λ l. blocks (groups (map part_seen l))) (sym c.as_slice-part-items.ensures.value))) c.get_at-stage.result c.get_at-stage.ensures c.if-stage-eq0.false c.if-stage-eq1.false
    (walked_block c.args.stages.now c.args.walk.now c.loop-part.walk c.args.command.now _ c.as_slice-part-items.result.now (drop_past c.as_slice-part-items.result.now c.loop-part.part-index c.loop-part-test.false) c.loop-part.invariant)

pub walk_command-returns-in_ok-walk_other-in-If : goal.walk_command-returns-in_ok-walk_other-in-If
walk_command-returns-in_ok-walk_other-in-If t c = on_ok_weaker c.close-in-If.result (λ closes.
    by_form c.args.ways.now c.args.stages.now c.args.walk.now c.close-in-If.new.walk c.args.command.now (decides (term_seen c.deref.result.now) (action_seen c.deref-in-If.result.now) (maybe_block_seen c.in-If.other))
    (ap action_form_seen c.in-If.is ∙ if_at c.in-If.test c.in-If.then c.in-If.other c.deref.result.now c.deref-in-If.result.now c.deref.ensures c.deref-in-If.ensures) c.get_at-stage.result c.get_at-stage.ensures c.if-stage-eq0.false c.if-stage-eq1.false
    (walked_choice c.args.stages.now c.args.walk.now c.walk_test.new.walk c.walk_command-in-If.new.walk c.close.new.walk c.walk_other.new.walk c.close-in-If.new.walk c.args.command.now c.deref-in-If.result.now c.deref.result.now (maybe_block_seen c.in-If.other)
    c.in_ok-walk_test-in-If.ensures c.in_ok-walk_command-in-If.ensures c.in_ok-close-in-If.ensures c.in_ok-walk_other-in-If.ensures closes)) c.close-in-If.ensures

pub walk_command-returns-in_ok-walk_command-in-While : goal.walk_command-returns-in_ok-walk_command-in-While
walk_command-returns-in_ok-walk_command-in-While t c = on_ok_weaker c.close-in-While.result (λ closes.
    by_form c.args.ways.now c.args.stages.now c.args.walk.now c.close-in-While.new.walk c.args.command.now (repeats (term_seen c.deref-in-While.result.now) (action_seen c.deref-in-While-2.result.now))
    (ap action_form_seen c.in-While.is ∙ while_at c.in-While.test c.in-While.body c.deref-in-While.result.now c.deref-in-While-2.result.now c.deref-in-While.ensures c.deref-in-While-2.ensures) c.get_at-stage.result c.get_at-stage.ensures c.if-stage-eq0.false c.if-stage-eq1.false
    (walked_repeat c.args.stages.now c.args.walk.now c.walk_test-in-While.new.walk c.walk_command-in-While.new.walk c.close-in-While.new.walk c.args.command.now c.deref-in-While-2.result.now c.deref-in-While.result.now c.in_ok-walk_test-in-While.ensures c.in_ok-walk_command-in-While.ensures closes)) c.close-in-While.ensures

pub walk_command-returns-in_ok-walk_other-in-For : goal.walk_command-returns-in_ok-walk_other-in-For
walk_command-returns-in_ok-walk_other-in-For t c =
    let h = c.in-For.header.value in
    on_ok_weaker c.close-in-For-2.result (λ closes.
    by_form c.args.ways.now c.args.stages.now c.args.walk.now c.close-in-For-2.new.walk c.args.command.now (counts_seen h (action_seen c.deref-in-For.result.now) (maybe_block_seen c.in-For.combine))
    (ap action_form_seen c.in-For.is ∙ for_at c.in-For.header c.in-For.body c.in-For.combine h c.deref-in-For.result.now refl c.deref-in-For.ensures) c.get_at-stage.result c.get_at-stage.ensures c.if-stage-eq0.false c.if-stage-eq1.false
    (walked_turns c.args.stages.now c.args.walk.now c.close-in-For.new.walk c.walk_command-in-For.new.walk c.walk_other-in-For.new.walk c.close-in-For-2.new.walk c.args.command.now c.deref-in-For.result.now h.iterator h.declared (low_seen h) (high_seen h) (unroll_seen h) (maybe_block_seen c.in-For.combine) h.combine_place
    c.in_ok-close-in-For.ensures c.in_ok-walk_command-in-For.ensures c.in_ok-walk_other-in-For.ensures closes)) c.close-in-For-2.ensures

pub walk_command-returns-in-Let : goal.walk_command-returns-in-Let
walk_command-returns-in-Let t c = by_form c.args.ways.now c.args.stages.now c.args.walk.now c.args.walk.now c.args.command.now (lets c.in-Let.name c.in-Let.declared (option_map term_seen c.in-Let.value.value)) (ap action_form_seen c.in-Let.is ∙ let_is _ _ _) c.get_at-stage.result c.get_at-stage.ensures c.if-stage-eq0.false c.if-stage-eq1.false (never_more c.args.stages.now c.args.walk.now c.args.command.now (lets c.in-Let.name c.in-Let.declared (option_map term_seen c.in-Let.value.value)) (λ r. refl))

pub walk_command-returns-in-Assign : goal.walk_command-returns-in-Assign
walk_command-returns-in-Assign t c = by_form c.args.ways.now c.args.stages.now c.args.walk.now c.args.walk.now c.args.command.now (assigns c.in-Assign.target (term_seen c.in-Assign.value.value)) (ap action_form_seen c.in-Assign.is ∙ assign_is _ _) c.get_at-stage.result c.get_at-stage.ensures c.if-stage-eq0.false c.if-stage-eq1.false (never_more c.args.stages.now c.args.walk.now c.args.command.now (assigns c.in-Assign.target (term_seen c.in-Assign.value.value)) (λ r. refl))

pub walk_command-returns-in-Store : goal.walk_command-returns-in-Store
walk_command-returns-in-Store t c = by_form c.args.ways.now c.args.stages.now c.args.walk.now c.args.walk.now c.args.command.now (sides_seen c.in-Store.sides.value) (ap action_form_seen c.in-Store.is ∙ store_is _) c.get_at-stage.result c.get_at-stage.ensures c.if-stage-eq0.false c.if-stage-eq1.false (never_more c.args.stages.now c.args.walk.now c.args.command.now (sides_seen c.in-Store.sides.value) (λ r. refl))

pub walk_command-returns-in-Reduce : goal.walk_command-returns-in-Reduce
walk_command-returns-in-Reduce t c = by_form c.args.ways.now c.args.stages.now c.args.walk.now c.args.walk.now c.args.command.now (reduces c.in-Reduce.target c.in-Reduce.op (term_seen c.in-Reduce.value.value)) (ap action_form_seen c.in-Reduce.is ∙ reduce_is _ _ _) c.get_at-stage.result c.get_at-stage.ensures c.if-stage-eq0.false c.if-stage-eq1.false (never_more c.args.stages.now c.args.walk.now c.args.command.now (reduces c.in-Reduce.target c.in-Reduce.op (term_seen c.in-Reduce.value.value)) (λ r. refl))

pub walk_command-returns-in-LetMemory : goal.walk_command-returns-in-LetMemory
walk_command-returns-in-LetMemory t c = by_form c.args.ways.now c.args.stages.now c.args.walk.now c.args.walk.now c.args.command.now (lets_memory c.in-LetMemory.name.value c.in-LetMemory.shape.value c.in-LetMemory.shape_places.value (option_map term_seen c.in-LetMemory.value.value)) (ap action_form_seen c.in-LetMemory.is ∙ let_memory_is _ _ _ _) c.get_at-stage.result c.get_at-stage.ensures c.if-stage-eq0.false c.if-stage-eq1.false (never_more c.args.stages.now c.args.walk.now c.args.command.now (lets_memory c.in-LetMemory.name.value c.in-LetMemory.shape.value c.in-LetMemory.shape_places.value (option_map term_seen c.in-LetMemory.value.value)) (λ r. refl))

pub walk_command-returns-in-View : goal.walk_command-returns-in-View
walk_command-returns-in-View t c = by_form c.args.ways.now c.args.stages.now c.args.walk.now c.args.walk.now c.args.command.now (views c.in-View.name.value c.in-View.parent.value (view_plan c.in-View.form.value)) (ap action_form_seen c.in-View.is ∙ view_is _ _ _) c.get_at-stage.result c.get_at-stage.ensures c.if-stage-eq0.false c.if-stage-eq1.false (never_more c.args.stages.now c.args.walk.now c.args.command.now (views c.in-View.name.value c.in-View.parent.value (view_plan c.in-View.form.value)) (λ r. view_few (moves (view_plan c.in-View.form.value)) _))

pub walk_command-returns-in-Call : goal.walk_command-returns-in-Call
walk_command-returns-in-Call t c = by_form c.args.ways.now c.args.stages.now c.args.walk.now c.args.walk.now c.args.command.now (calls c.in-Call.function.value (map term_seen c.in-Call.arguments.items)) (ap action_form_seen c.in-Call.is ∙ call_is _ _) c.get_at-stage.result c.get_at-stage.ensures c.if-stage-eq0.false c.if-stage-eq1.false (never_more c.args.stages.now c.args.walk.now c.args.command.now (calls c.in-Call.function.value (map term_seen c.in-Call.arguments.items)) (λ r. refl))

pub walk_other-returns-in-Some : goal.walk_other-returns-in-Some
walk_other-returns-in-Some t c = on_ok_weaker c.walk_command.result (λ g known u r base line tells s.
    subst (λ (o : Option (Box Command Global)). TellOther (table_at c.args.stages.now) (maybe_seen (option_map (λ b. action_seen b.value) o)) → PhasesAreWalked known base line c.args.walk.now c.walk_command.new.walk (other_phases r (held_access_count c.args.walk.now.held) (maybe_seen (option_map (λ b. action_seen b.value) o))) (other_accesses (maybe_seen (option_map (λ b. action_seen b.value) o)))) (sym c.in-Some.is)
    (λ tell. subst (λ (x : Command). PhasesAreWalked known base line c.args.walk.now c.walk_command.new.walk (phases r (held_access_count c.args.walk.now.held) (action_seen x)) (accesses_of (action_seen x))) c.deref.ensures
    (g known u r base line (subst (λ (x : Command). TellsStages (table_at c.args.stages.now) (action_seen x)) (sym c.deref.ensures) tell) s)) tells) c.walk_command.ensures

pub walk_other-returns-in-None : goal.walk_other-returns-in-None
walk_other-returns-in-None t c = λ known u r base line tells s.
    subst (λ (o : Option (Box Command Global)). PhasesAreWalked known base line c.args.walk.now c.args.walk.now (other_phases r (held_access_count c.args.walk.now.held) (maybe_seen (option_map (λ b. action_seen b.value) o))) (other_accesses (maybe_seen (option_map (λ b. action_seen b.value) o)))) (sym c.in-None.is)
    (walked_nothing known base line c.args.walk.now s)
