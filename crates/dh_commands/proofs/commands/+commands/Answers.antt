use Rattle.std.proofs.Common.{◌≡◌, ℕ, Some, None, List, length, refl, ap, sym, ◌∙◌, subst, arith}
use Rattle.std.specs.Prelude.{Option, option_map}
use Rattle.std.proofs.lemmas.Result.{IfOk-weaker}
use Rattle.dh_tree.specs.declared.trees.expressions.Expr.{Expr}
use Rattle.dh_tree.specs.PlainTrees.{lets, views, assigns, stores, reduces, blocks, decides}
use Rattle.dh_tree.specs.Seen.{action_form_seen, action_seen, all_parts_seen, maybe_block_seen, view_plan, term_seen}
use Rattle.dh_tree.proofs.SeenActions.{assign_at, block_is, call_is, for_is, if_at, let_at, let_memory_is, reduce_at, store_at, view_at, while_is}
use Rattle.dh_meaning.specs.CoreOf.{way_of}
use Rattle.dh_meaning.specs.Ways.{hidden_in}
use Rattle.dh_expressions.specs.Evaluated.{known_in}
use Rattle.dh_commands.specs.declared.choices.Left.{Left}
use Rattle.dh_commands.specs.Undone.{EndsArm}
use Rattle.dh_commands.specs.Setting.{TestsAll}
use Rattle.dh_commands.specs.Parted.{DoesGroups, JoinsAll, RestDoesWhole}
use Rattle.dh_commands.proofs.ChoiceDone.{choice_done}
use Rattle.dh_commands.proofs.CommandsDone.{assign_done, block_done, clear_done, let_done, reduce_done, store_done}
use Rattle.dh_commands.proofs.PartsDone.{arm_done, as_seen, counted_done, idle_done, leads_all, leads_command, leads_part, viewed_done}
use Rattle.dh_commands.specs.LanesRun.{paths_counted}
use Rattle.dh_commands.specs.MadeCommands.{MadeArmGuards, MadeGroups, RestMakesWhole, MadeJoined, MadeTests}
use Rattle.dh_commands.proofs.CommandsMade.{at_part, idle_next, made_seen, makes_all, makes_command, makes_part, view_made}
use Rattle.dh_commands.proofs.commands.+commands.Goals as goal

pub push_arm-returns-clause-means : goal.push_arm-returns-clause-means
push_arm-returns-clause-means t c =
    let floor : c.len-floor.result ≡ length c.args.building.now.values.log.items = let e = c.len-floor.ensures in omega (arith, e) in
    arm_done c.args.scene.now c.args.around c.arm_of-arm.result c.args.tests.now c.args.holds (action_seen c.args.command.now) c.args.first c.in_ok-next.next c.args.building.now
    (record { draft = c.guards_of.new.draft; accesses = c.args.building.now.accesses; values = c.args.building.now.values }) c.push_command.new.building
    (record { draft = c.push_command.new.building.draft; accesses = c.push_command.new.building.accesses; values = c.end_arm.new.values }) c.in_ok-guards.guards.items c.in_ok-left.left.items
    c.arm_of-arm.ensures.levels (c.arm_of-arm.ensures.guards ∙ c.as_slice.ensures.value) refl refl c.in_ok-guards.ensures.means c.in_ok-next.ensures.means
    (subst (λ (n : ℕ). EndsArm c.push_command.new.building.values c.end_arm.new.values n c.in_ok-left.left.items) floor c.in_ok-left.ensures) refl refl

pub push_command-returns-in-Some-clause-means : goal.push_command-returns-in-Some-clause-means
push_command-returns-in-Some-clause-means t c =
    IfOk-weaker c.assign_all.result _ _
    (λ next d. as_seen c.args.scene.now c.args.around c.args.command.now (lets c.in-Let.name c.in-Let.declared (Some (term_seen c.in-Some.value))) c.args.first next c.args.building.now c.assign_all.new.building
    (ap action_form_seen c.in-Let.is ∙ (let_at c.in-Let.declared c.in-Let.name c.in-Let.value c.as_ref-value.result.now c.as_ref-value.ensures ∙ ap (λ (v : Option Expr). lets c.in-Let.name c.in-Let.declared (option_map term_seen v)) c.in-Some.is))
    (let_done c.args.scene.now c.args.around c.args.command.now.id c.args.command.now.place c.args.first next c.args.building.now c.assign_all.new.building c.in-Let.name c.in-Let.declared (term_seen c.in-Some.value) d))
    c.assign_all.ensures.means

pub push_command-returns-in_ok-clear_all-in-None-clause-means : goal.push_command-returns-in_ok-clear_all-in-None-clause-means
push_command-returns-in_ok-clear_all-in-None-clause-means t c =
    as_seen c.args.scene.now c.args.around c.args.command.now (lets c.in-Let.name c.in-Let.declared None) c.args.first c.args.first c.args.building.now c.clear_all.new.building
    (ap action_form_seen c.in-Let.is ∙ (let_at c.in-Let.declared c.in-Let.name c.in-Let.value c.as_ref-value.result.now c.as_ref-value.ensures ∙ ap (λ (v : Option Expr). lets c.in-Let.name c.in-Let.declared (option_map term_seen v)) c.in-None.is))
    (clear_done c.args.scene.now c.args.around c.args.command.now.id c.args.command.now.place c.args.first c.args.building.now c.clear_all.new.building c.in-Let.name c.in-Let.declared c.in_ok-clear_all-in-None.ensures.means)

pub push_command-returns-in-Assign-clause-means : goal.push_command-returns-in-Assign-clause-means
push_command-returns-in-Assign-clause-means t c =
    IfOk-weaker c.assign_all-in-Assign.result _ _
    (λ next d. as_seen c.args.scene.now c.args.around c.args.command.now (assigns c.in-Assign.target (term_seen c.deref.result.now)) c.args.first next c.args.building.now c.assign_all-in-Assign.new.building
    (ap action_form_seen c.in-Assign.is ∙ assign_at c.in-Assign.target c.in-Assign.value c.deref.result.now c.deref.ensures)
    (assign_done c.args.scene.now c.args.around c.args.command.now.id c.args.command.now.place c.args.first next c.args.building.now c.assign_all-in-Assign.new.building c.in-Assign.target (term_seen c.deref.result.now) d))
    c.assign_all-in-Assign.ensures.means

pub push_command-returns-in-Store-clause-means : goal.push_command-returns-in-Store-clause-means
push_command-returns-in-Store-clause-means t c =
    IfOk-weaker c.store_all.result _ _
    (λ next d. as_seen c.args.scene.now c.args.around c.args.command.now (stores (term_seen c.as_ref-sides.result.now.target) (term_seen c.as_ref-sides.result.now.value)) c.args.first next c.args.building.now c.store_all.new.building
    (ap action_form_seen c.in-Store.is ∙ store_at c.in-Store.sides c.as_ref-sides.result.now c.as_ref-sides.ensures)
    (store_done c.args.scene.now c.args.around c.args.command.now.id c.args.command.now.place c.args.first next c.args.building.now c.store_all.new.building (term_seen c.as_ref-sides.result.now.target) (term_seen c.as_ref-sides.result.now.value) d))
    c.store_all.ensures.means

pub push_command-returns-in-Reduce-clause-means : goal.push_command-returns-in-Reduce-clause-means
push_command-returns-in-Reduce-clause-means t c =
    IfOk-weaker c.reduce_all.result _ _
    (λ next d. as_seen c.args.scene.now c.args.around c.args.command.now (reduces c.in-Reduce.target c.in-Reduce.op (term_seen c.deref-in-Reduce.result.now)) c.args.first next c.args.building.now c.reduce_all.new.building
    (ap action_form_seen c.in-Reduce.is ∙ reduce_at c.in-Reduce.op c.in-Reduce.target c.in-Reduce.value c.deref-in-Reduce.result.now c.deref-in-Reduce.ensures)
    (reduce_done c.args.scene.now c.args.around c.args.command.now.id c.args.command.now.place c.args.first next c.args.building.now c.reduce_all.new.building c.in-Reduce.target c.in-Reduce.op (term_seen c.deref-in-Reduce.result.now) d))
    c.reduce_all.ensures.means

pub push_command-returns-in_ok-join_all-in-If-clause-means : goal.push_command-returns-in_ok-join_all-in-If-clause-means
push_command-returns-in_ok-join_all-in-If-clause-means t c =
    let joins : JoinsAll c.push_other.new.building c.join_all.new.building c.as_slice-tests.result.now c.in_ok-next-in-If.chosen.items c.in_ok-next-in-If-2.other.items =
    subst (λ (ls : List Left). JoinsAll c.push_other.new.building c.join_all.new.building c.as_slice-tests.result.now ls c.in_ok-next-in-If-2.other.items) c.as_slice.ensures.value
    (subst (λ (ls : List Left). JoinsAll c.push_other.new.building c.join_all.new.building c.as_slice-tests.result.now c.as_slice.result.now ls) c.as_slice-in-If.ensures.value c.in_ok-join_all-in-If.ensures.means) in
    as_seen c.args.scene.now c.args.around c.args.command.now (decides (term_seen c.deref-in-If.result.now) (action_seen c.deref-in-If-2.result.now) (maybe_block_seen c.in-If.other)) c.args.first c.in_ok-next-in-If-2.next c.args.building.now c.join_all.new.building
    (ap action_form_seen c.in-If.is ∙ if_at c.in-If.test c.in-If.then c.in-If.other c.deref-in-If.result.now c.deref-in-If-2.result.now c.deref-in-If.ensures c.deref-in-If-2.ensures)
    (choice_done c.args.scene.now c.args.around c.args.first c.in_ok-tests-in-If.next c.in_ok-next-in-If.next c.in_ok-next-in-If-2.next (term_seen c.deref-in-If.result.now) (action_seen c.deref-in-If-2.result.now) (maybe_block_seen c.in-If.other)
    c.args.building.now c.test_all.new.building c.push_arm.new.building c.push_other.new.building c.join_all.new.building c.as_slice-tests.result.now c.in_ok-next-in-If.chosen.items c.in_ok-next-in-If-2.other.items joins.choices joins.middle
    (subst (λ (ns : List ℕ). TestsAll c.args.scene.now c.args.around c.args.building.now c.test_all.new.building c.args.first c.in_ok-tests-in-If.next (term_seen c.deref-in-If.result.now) ns) (sym c.as_slice-tests.ensures.value) c.in_ok-tests-in-If.ensures.means)
    c.in_ok-next-in-If.ensures.means c.in_ok-next-in-If-2.ensures.means joins.joins joins.chooses joins.accesses c.args.command.now.id c.args.command.now.place)

pub push_command-returns-in-Block-clause-means : goal.push_command-returns-in-Block-clause-means
push_command-returns-in-Block-clause-means t c =
    IfOk-weaker c.push_parts.result _ _
    (λ next d. as_seen c.args.scene.now c.args.around c.args.command.now (blocks (all_parts_seen c.in-Block.body.items)) c.args.first next c.args.building.now c.push_parts.new.building
    (ap action_form_seen c.in-Block.is ∙ block_is c.in-Block.body)
    (block_done c.args.scene.now c.args.around c.args.command.now.id c.args.command.now.place (all_parts_seen c.in-Block.body.items) c.args.first next c.args.building.now c.push_parts.new.building
    (subst (λ ps. DoesGroups c.args.scene.now c.args.around (all_parts_seen ps) c.args.first next c.args.building.now c.push_parts.new.building) c.as_slice-in-Block.ensures.value d)))
    c.push_parts.ensures.means

pub push_command-returns-in-LetMemory-clause-means : goal.push_command-returns-in-LetMemory-clause-means
push_command-returns-in-LetMemory-clause-means t c =
    idle_done c.args.scene.now c.args.around c.args.command.now _ c.args.first c.args.building.now (ap action_form_seen c.in-LetMemory.is ∙ let_memory_is c.in-LetMemory.name c.in-LetMemory.shape c.in-LetMemory.shape_places c.in-LetMemory.value) refl tt (λ n. refl)

pub push_command-returns-in-View-clause-means : goal.push_command-returns-in-View-clause-means
push_command-returns-in-View-clause-means t c =
    let name = c.deref-in-View.result.now in
    let form = c.deref-in-View-2.result.now in
    IfOk-weaker c.keep_view.result _ _
    (λ next d. viewed_done c.args.scene.now c.args.around c.args.command.now name c.in-View.parent.value (view_plan form) c.args.first c.behind_command-idle.result next c.args.building.now c.keep_view.new.building
    (ap action_form_seen c.in-View.is ∙ view_at c.in-View.name c.in-View.parent c.in-View.form name c.in-View.parent.value form c.deref-in-View.ensures refl c.deref-in-View-2.ensures) c.behind_command-idle.ensures d)
    c.keep_view.ensures.means

pub push_command-returns-in-Call-clause-means : goal.push_command-returns-in-Call-clause-means
push_command-returns-in-Call-clause-means t c =
    idle_done c.args.scene.now c.args.around c.args.command.now _ c.args.first c.args.building.now (ap action_form_seen c.in-Call.is ∙ call_is c.in-Call.function c.in-Call.arguments) refl tt (λ n. refl)

pub push_command-returns-in-While-clause-means : goal.push_command-returns-in-While-clause-means
push_command-returns-in-While-clause-means t c =
    counted_done c.args.scene.now c.args.around c.args.command.now _ c.args.first c.behind_command.result c.args.building.now (ap action_form_seen c.in-While.is ∙ while_is c.in-While.test c.in-While.body) c.behind_command.ensures tt (λ n. refl)

pub push_command-returns-in-For-clause-means : goal.push_command-returns-in-For-clause-means
push_command-returns-in-For-clause-means t c =
    counted_done c.args.scene.now c.args.around c.args.command.now _ c.args.first c.behind_command-in-For.result c.args.building.now
    (ap action_form_seen c.in-For.is
    ∙ for_is c.in-For.header c.in-For.body c.in-For.combine)
    c.behind_command-in-For.ensures tt (λ n. refl)

pub push_parts-loop-command-init : goal.push_parts-loop-command-init
push_parts-loop-command-init t c = record {
  means =
      at_part c.args.parts.now c.loop-part.part-index c.part-item.result c.deref-command-items.result.now c.loop-part-test.true c.part-item.is c.deref-command-items.ensures.value
      (λ gs. RestDoesWhole c.args.scene.now c.args.around (all_parts_seen c.args.parts.now) gs c.args.first c.loop-part.next c.args.building.now c.loop-part.building) c.loop-part.invariant.means;
  made =
      at_part c.args.parts.now c.loop-part.part-index c.part-item.result c.deref-command-items.result.now c.loop-part-test.true c.part-item.is c.deref-command-items.ensures.value
      (λ gs. RestMakesWhole c.args.scene.now c.args.around (all_parts_seen c.args.parts.now) gs c.args.first c.loop-part.next c.args.building.now c.loop-part.building) c.loop-part.invariant.made;
}

pub push_parts-loop-command-preserved : goal.push_parts-loop-command-preserved
push_parts-loop-command-preserved t c = record {
  means =
      leads_command c.args.scene.now c.args.around (all_parts_seen c.args.parts.now) c.args.first c.args.building.now c.deref-command-items.result.now c.loop-command.command-index c.command-item.result _
      c.loop-command.next c.in_ok-next.next c.loop-command.building c.push_command.new.building c.loop-command-test.true c.command-item.is c.in_ok-next.ensures.means c.loop-command.invariant.means;
  made =
      makes_command c.args.scene.now c.args.around (all_parts_seen c.args.parts.now) c.args.first c.args.building.now c.deref-command-items.result.now c.loop-command.command-index c.command-item.result _
      c.loop-command.next c.in_ok-next.next c.loop-command.building c.push_command.new.building c.loop-command-test.true c.command-item.is c.in_ok-next.ensures.made c.loop-command.invariant.made;
}

pub push_parts-loop-part-preserved : goal.push_parts-loop-part-preserved
push_parts-loop-part-preserved t c = record {
  means =
      leads_part c.args.scene.now c.args.around (all_parts_seen c.args.parts.now) c.args.first c.args.building.now c.deref-command-items.result.now c.loop-command.command-index _
      c.loop-command.next c.loop-command.building (let l = c.loop-command-test.false in omega (arith, l)) c.loop-command.invariant.means;
  made =
      makes_part c.args.scene.now c.args.around (all_parts_seen c.args.parts.now) c.args.first c.args.building.now c.deref-command-items.result.now c.loop-command.command-index _
      c.loop-command.next c.loop-command.building (let l = c.loop-command-test.false in omega (arith, l)) c.loop-command.invariant.made;
}

pub push_parts-returns-clause-means : goal.push_parts-returns-clause-means
push_parts-returns-clause-means t c =
    leads_all c.args.scene.now c.args.around (all_parts_seen c.args.parts.now) c.args.first c.args.building.now c.args.parts.now c.loop-part.part-index c.loop-part.next c.loop-part.building
    (let l = c.loop-part-test.false in omega (arith, l)) c.loop-part.invariant.means

pub push_parts-returns-clause-made : goal.push_parts-returns-clause-made
push_parts-returns-clause-made t c =
    makes_all c.args.scene.now c.args.around (all_parts_seen c.args.parts.now) c.args.first c.args.building.now c.args.parts.now c.loop-part.part-index c.loop-part.next c.loop-part.building
    (let l = c.loop-part-test.false in omega (arith, l)) c.loop-part.invariant.made

pub push_arm-returns-clause-made : goal.push_arm-returns-clause-made
push_arm-returns-clause-made t c =
    let floor : c.len-floor.result ≡ length c.args.building.now.values.log.items = let e = c.len-floor.ensures in omega (arith, e) in
    record {
      arm = c.arm_of-arm.result;
      guarded = c.guards_of.new.draft;
      levels = c.arm_of-arm.ensures.levels;
      guards =
          subst (λ (gs : List (Option ℕ)). MadeArmGuards c.args.holds c.args.around.guards.now c.args.tests.now (length c.args.tests.now) c.args.building.now.draft c.guards_of.new.draft gs) (sym (c.arm_of-arm.ensures.guards ∙ c.as_slice.ensures.value)) c.in_ok-guards.ensures.made;
      begin = record { draft = c.guards_of.new.draft; accesses = c.args.building.now.accesses; values = c.args.building.now.values };
      inside = c.push_command.new.building;
      begin_draft = refl;
      begin_accesses = refl;
      begin_values = refl;
      command = c.in_ok-next.ensures.made;
      draft = refl;
      accesses = refl;
      ends = subst (λ (n : ℕ). EndsArm c.push_command.new.building.values c.end_arm.new.values n c.in_ok-left.left.items) floor c.in_ok-left.ensures;
    }

pub push_command-returns-in-Some-clause-made : goal.push_command-returns-in-Some-clause-made
push_command-returns-in-Some-clause-made t c =
    IfOk-weaker c.assign_all.result _ _
    (λ next m. made_seen c.args.scene.now c.args.around c.args.command.now (lets c.in-Let.name c.in-Let.declared (Some (term_seen c.in-Some.value))) c.args.first next c.args.building.now c.assign_all.new.building
    (ap action_form_seen c.in-Let.is ∙ (let_at c.in-Let.declared c.in-Let.name c.in-Let.value c.as_ref-value.result.now c.as_ref-value.ensures ∙ ap (λ (v : Option Expr). lets c.in-Let.name c.in-Let.declared (option_map term_seen v)) c.in-Some.is)) m)
    c.assign_all.ensures.made

pub push_command-returns-in_ok-clear_all-in-None-clause-made : goal.push_command-returns-in_ok-clear_all-in-None-clause-made
push_command-returns-in_ok-clear_all-in-None-clause-made t c =
    made_seen c.args.scene.now c.args.around c.args.command.now (lets c.in-Let.name c.in-Let.declared None) c.args.first c.args.first c.args.building.now c.clear_all.new.building
    (ap action_form_seen c.in-Let.is ∙ (let_at c.in-Let.declared c.in-Let.name c.in-Let.value c.as_ref-value.result.now c.as_ref-value.ensures ∙ ap (λ (v : Option Expr). lets c.in-Let.name c.in-Let.declared (option_map term_seen v)) c.in-None.is))
    (c.in_ok-clear_all-in-None.ensures.made c.args.first)

pub push_command-returns-in-Assign-clause-made : goal.push_command-returns-in-Assign-clause-made
push_command-returns-in-Assign-clause-made t c =
    IfOk-weaker c.assign_all-in-Assign.result _ _
    (λ next m. made_seen c.args.scene.now c.args.around c.args.command.now (assigns c.in-Assign.target (term_seen c.deref.result.now)) c.args.first next c.args.building.now c.assign_all-in-Assign.new.building
    (ap action_form_seen c.in-Assign.is ∙ assign_at c.in-Assign.target c.in-Assign.value c.deref.result.now c.deref.ensures) m)
    c.assign_all-in-Assign.ensures.made

pub push_command-returns-in-Store-clause-made : goal.push_command-returns-in-Store-clause-made
push_command-returns-in-Store-clause-made t c =
    IfOk-weaker c.store_all.result _ _
    (λ next m. made_seen c.args.scene.now c.args.around c.args.command.now (stores (term_seen c.as_ref-sides.result.now.target) (term_seen c.as_ref-sides.result.now.value)) c.args.first next c.args.building.now c.store_all.new.building
    (ap action_form_seen c.in-Store.is ∙ store_at c.in-Store.sides c.as_ref-sides.result.now c.as_ref-sides.ensures) m)
    c.store_all.ensures.made

pub push_command-returns-in-Reduce-clause-made : goal.push_command-returns-in-Reduce-clause-made
push_command-returns-in-Reduce-clause-made t c =
    IfOk-weaker c.reduce_all.result _ _
    (λ next m. made_seen c.args.scene.now c.args.around c.args.command.now (reduces c.in-Reduce.target c.in-Reduce.op (term_seen c.deref-in-Reduce.result.now)) c.args.first next c.args.building.now c.reduce_all.new.building
    (ap action_form_seen c.in-Reduce.is ∙ reduce_at c.in-Reduce.op c.in-Reduce.target c.in-Reduce.value c.deref-in-Reduce.result.now c.deref-in-Reduce.ensures) m)
    c.reduce_all.ensures.made

pub push_command-returns-in_ok-join_all-in-If-clause-made : goal.push_command-returns-in_ok-join_all-in-If-clause-made
push_command-returns-in_ok-join_all-in-If-clause-made t c =
    let joins : MadeJoined c.as_slice-tests.result.now c.in_ok-next-in-If.chosen.items c.in_ok-next-in-If-2.other.items c.push_other.new.building c.join_all.new.building =
    subst (λ (ls : List Left). MadeJoined c.as_slice-tests.result.now ls c.in_ok-next-in-If-2.other.items c.push_other.new.building c.join_all.new.building) c.as_slice.ensures.value
    (subst (λ (ls : List Left). MadeJoined c.as_slice-tests.result.now c.as_slice.result.now ls c.push_other.new.building c.join_all.new.building) c.as_slice-in-If.ensures.value c.in_ok-join_all-in-If.ensures.made) in
    made_seen c.args.scene.now c.args.around c.args.command.now (decides (term_seen c.deref-in-If.result.now) (action_seen c.deref-in-If-2.result.now) (maybe_block_seen c.in-If.other)) c.args.first c.in_ok-next-in-If-2.next c.args.building.now c.join_all.new.building
    (ap action_form_seen c.in-If.is ∙ if_at c.in-If.test c.in-If.then c.in-If.other c.deref-in-If.result.now c.deref-in-If-2.result.now c.deref-in-If.ensures c.deref-in-If-2.ensures)
    (record {
      tested = c.test_all.new.building;
      after_chosen = c.push_arm.new.building;
      after_other = c.push_other.new.building;
      own = c.in_ok-tests-in-If.next;
      behind = c.in_ok-next-in-If.next;
      tests = c.as_slice-tests.result.now;
      chosen_left = c.in_ok-next-in-If.chosen.items;
      other_left = c.in_ok-next-in-If-2.other.items;
      test =
          subst (λ (ns : List ℕ). MadeTests c.args.scene.now c.args.around c.args.first (term_seen c.deref-in-If.result.now) (paths_counted c.args.around) c.args.building.now c.test_all.new.building c.in_ok-tests-in-If.next ns) (sym c.as_slice-tests.ensures.value) c.in_ok-tests-in-If.ensures.made;
      chosen = c.in_ok-next-in-If.ensures.made;
      other = c.in_ok-next-in-If-2.ensures.made;
      joined = joins;
    })

pub push_command-returns-in-Block-clause-made : goal.push_command-returns-in-Block-clause-made
push_command-returns-in-Block-clause-made t c =
    IfOk-weaker c.push_parts.result _ _
    (λ next m. made_seen c.args.scene.now c.args.around c.args.command.now (blocks (all_parts_seen c.in-Block.body.items)) c.args.first next c.args.building.now c.push_parts.new.building
    (ap action_form_seen c.in-Block.is ∙ block_is c.in-Block.body)
    (subst (λ ps. MadeGroups c.args.scene.now (all_parts_seen ps) c.args.around c.args.building.now c.push_parts.new.building c.args.first next) c.as_slice-in-Block.ensures.value m))
    c.push_parts.ensures.made

pub push_command-returns-in-LetMemory-clause-made : goal.push_command-returns-in-LetMemory-clause-made
push_command-returns-in-LetMemory-clause-made t c = made_seen c.args.scene.now c.args.around c.args.command.now _ c.args.first _ c.args.building.now c.args.building.now (ap action_form_seen c.in-LetMemory.is ∙ let_memory_is c.in-LetMemory.name c.in-LetMemory.shape c.in-LetMemory.shape_places c.in-LetMemory.value) (record { still = refl; next_is = refl })

pub push_command-returns-in-View-clause-made : goal.push_command-returns-in-View-clause-made
push_command-returns-in-View-clause-made t c =
    let name = c.deref-in-View.result.now in
    let form = c.deref-in-View-2.result.now in
    let view_seen = ap action_form_seen c.in-View.is ∙ view_at c.in-View.name c.in-View.parent c.in-View.form name c.in-View.parent.value form c.deref-in-View.ensures refl c.deref-in-View-2.ensures in
    IfOk-weaker c.keep_view.result _ _
    (λ next m. made_seen c.args.scene.now c.args.around c.args.command.now (views name c.in-View.parent.value (view_plan form)) c.args.first next c.args.building.now c.keep_view.new.building view_seen
    (view_made c.args.scene.now c.args.around (view_plan form) c.args.first c.behind_command-idle.result next c.args.building.now c.keep_view.new.building (idle_next c.args.command.now _ c.args.first c.behind_command-idle.result view_seen c.behind_command-idle.ensures)
    (hidden_in (way_of (known_in c.args.scene.now) name)) m))
    c.keep_view.ensures.made

pub push_command-returns-in-Call-clause-made : goal.push_command-returns-in-Call-clause-made
push_command-returns-in-Call-clause-made t c = made_seen c.args.scene.now c.args.around c.args.command.now _ c.args.first _ c.args.building.now c.args.building.now (ap action_form_seen c.in-Call.is ∙ call_is c.in-Call.function c.in-Call.arguments) (record { still = refl; next_is = refl })

pub push_command-returns-in-While-clause-made : goal.push_command-returns-in-While-clause-made
push_command-returns-in-While-clause-made t c =
    made_seen c.args.scene.now c.args.around c.args.command.now _ c.args.first _ c.args.building.now c.args.building.now (ap action_form_seen c.in-While.is ∙ while_is c.in-While.test c.in-While.body)
    (record { still = refl; next_is = idle_next c.args.command.now _ c.args.first c.behind_command.result (ap action_form_seen c.in-While.is ∙ while_is c.in-While.test c.in-While.body) c.behind_command.ensures })

pub push_command-returns-in-For-clause-made : goal.push_command-returns-in-For-clause-made
push_command-returns-in-For-clause-made t c =
    let for_seen = ap action_form_seen c.in-For.is ∙ for_is c.in-For.header c.in-For.body c.in-For.combine in
    made_seen c.args.scene.now c.args.around c.args.command.now _ c.args.first _ c.args.building.now c.args.building.now for_seen (record { still = refl; next_is = idle_next c.args.command.now _ c.args.first c.behind_command-in-For.result for_seen c.behind_command-in-For.ensures })
