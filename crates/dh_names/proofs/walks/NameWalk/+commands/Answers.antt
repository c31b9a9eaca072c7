use Rattle.std.proofs.Common.{◌∙◌, ◌<◌, ap, sym, subst, map, option_map, true, false, refl, arith, ◌^◌}
use Rattle.std.proofs.lemmas.Result.{MatchResult-weaker}
use Rattle.std.specs.Box.{with_value}
use Rattle.std.specs.Vec.{with_items}
use Rattle.dh_tree.specs.declared.trees.programs.Sort.TheVariants.{Memory, View}
use Rattle.dh_tree.specs.Seen.{term_seen, view_plan, action_seen, action_form_seen, part_seen, groups, maybe_block_seen}
use Rattle.dh_tree.proofs.SeenActions.{let_is, let_memory_is, view_is, assign_is, store_is, reduce_is, call_is, block_is, if_is, while_is, for_is}
use Rattle.dh_names.specs.Walks.{state_of}
use Rattle.dh_names.specs.NotBuilt.{KeepsOptional}
use Rattle.dh_tree.specs.NameCounts.{declared_in, declared_in_other, declared_in_actions}
use Rattle.dh_base.proofs.InPlace.{turn_fits}
use Rattle.dh_tree.proofs.DeclaringParts.{wanting, counted_as, in_left, in_right, some_command, some_part}
use Rattle.dh_names.proofs.ListsDone.{entity_count, action_step, action_made, action_grows, part_step, part_made, part_grows, next_turn, part_turn, part_done, parts_done}
use Rattle.dh_names.proofs.FormsDone.{form_done, lets_done, memory_done, views_done, assigns_done, reduces_done, calls_done, blocks_done, repeats_done, decides_done, loops_done, inner_done, next_block, next_other, expression_at, value_at, used_at, declared_at, plan_at, header_at, sides_at, inner_at, resolves_at}
use Rattle.dh_names.proofs.FormsKept.{form_kept, command_at, decides_kept, repeats_kept, counts_kept, command_turn, part_kept, part_turn_kept, parts_kept}
use Rattle.dh_tree.specs.contracts.trees.commands.CommandForm.{enum}
use Rattle.dh_base.proofs.InArms.{holds, holds_some, reading}
use Rattle.dh_names.proofs.walks.NameWalk.+commands.Goals as goal

pub form-returns-in_ok-declare-in-Let-clause-names : goal.form-returns-in_ok-declare-in-Let-clause-names
form-returns-in_ok-declare-in-Let-clause-names t c =
    let r = reading enum 0 (c.in-Let.declared, (c.in-Let.name, (c.in-Let.value, tt))) _ c.in-Let.is in
    let v = value_at (state_of c.args.self.now) (state_of c.value.new.self) _ _ c.value.new.value c.deref_mut.ensures.value c.value.ensures.tree c.value.ensures.state in
    form_done _ _ _ _ _ _ (ap action_form_seen r.1 ∙ let_is r.0.0 r.0.1.0 r.0.1.1.0) (let_is r.0.0 c.declare.new.name (with_value r.0.1.1.0 c.value.new.value))
    (lets_done (state_of c.args.self.now) (state_of c.value.new.self) (state_of c.declare.new.self) r.0.1.0 c.declare.new.name r.0.0 (option_map term_seen r.0.1.1.0.value) (option_map term_seen c.value.new.value)
    v.0 v.1 c.in_ok-declare-in-Let.ensures.tree c.in_ok-declare-in-Let.ensures.state)

pub form-returns-in_ok-declare-in-Let-clause-forms : goal.form-returns-in_ok-declare-in-Let-clause-forms
form-returns-in_ok-declare-in-Let-clause-forms t c =
    form_kept c.args.place c.args.form.now _ _ c.args.unbuilt.now c.args.unbuilt.now false c.in-Let.is (let_is c.in-Let.declared c.in-Let.name c.in-Let.value) (record { kept = refl; told = refl })

pub form-returns-in_ok-declare-in-LetMemory-clause-names : goal.form-returns-in_ok-declare-in-LetMemory-clause-names
form-returns-in_ok-declare-in-LetMemory-clause-names t c =
    let r = reading enum 1 (c.in-LetMemory.name, (c.in-LetMemory.shape, (c.in-LetMemory.shape_places, (c.in-LetMemory.value, tt)))) _ c.in-LetMemory.is in
    let v = value_at (state_of c.args.self.now) (state_of c.value-in-LetMemory.new.self) _ _ c.value-in-LetMemory.new.value c.deref_mut-in-LetMemory.ensures.value c.value-in-LetMemory.ensures.tree c.value-in-LetMemory.ensures.state in
    let n = declared_at (state_of c.value-in-LetMemory.new.self) (state_of c.declare-in-LetMemory.new.self) Memory _ _ c.declare-in-LetMemory.new.name c.deref_mut-in-LetMemory-2.ensures.value
    c.in_ok-declare-in-LetMemory.ensures.tree c.in_ok-declare-in-LetMemory.ensures.state in
    form_done _ _ _ _ _ _ (ap action_form_seen r.1 ∙ let_memory_is r.0.0 r.0.1.0 r.0.1.1.0 r.0.1.1.1.0) (let_memory_is (with_value r.0.0 c.declare-in-LetMemory.new.name) r.0.1.0 r.0.1.1.0 (with_value r.0.1.1.1.0 c.value-in-LetMemory.new.value))
    (memory_done (state_of c.args.self.now) (state_of c.value-in-LetMemory.new.self) (state_of c.declare-in-LetMemory.new.self) r.0.0.value c.declare-in-LetMemory.new.name r.0.1.0.value r.0.1.1.0.value
    (option_map term_seen r.0.1.1.1.0.value) (option_map term_seen c.value-in-LetMemory.new.value) v.0 v.1 n.0 n.1)

pub form-returns-in_ok-declare-in-LetMemory-clause-forms : goal.form-returns-in_ok-declare-in-LetMemory-clause-forms
form-returns-in_ok-declare-in-LetMemory-clause-forms t c =
    form_kept c.args.place c.args.form.now _ _ c.args.unbuilt.now c.args.unbuilt.now false c.in-LetMemory.is (let_memory_is c.in-LetMemory.name c.in-LetMemory.shape c.in-LetMemory.shape_places c.in-LetMemory.value) (record { kept = refl; told = refl })

pub form-returns-in_ok-declare-in-View-clause-names : goal.form-returns-in_ok-declare-in-View-clause-names
form-returns-in_ok-declare-in-View-clause-names t c =
    let r = reading enum 2 (c.in-View.name, (c.in-View.parent, (c.in-View.form, tt))) _ c.in-View.is in
    let u = used_at (state_of c.args.self.now) (state_of c.use_name.new.self) _ _ c.use_name.new.name c.deref_mut-in-View.ensures.value c.use_name.ensures.tree c.use_name.ensures.state in
    let p = plan_at (state_of c.use_name.new.self) (state_of c.plan.new.self) _ _ c.plan.new.form c.deref_mut-in-View-2.ensures.value c.plan.ensures.tree c.plan.ensures.state in
    let n = declared_at (state_of c.plan.new.self) (state_of c.declare-in-View.new.self) View _ _ c.declare-in-View.new.name c.deref_mut-in-View-3.ensures.value c.in_ok-declare-in-View.ensures.tree c.in_ok-declare-in-View.ensures.state in
    form_done _ _ _ _ _ _ (ap action_form_seen r.1 ∙ view_is r.0.0 r.0.1.0 r.0.1.1.0) (view_is (with_value r.0.0 c.declare-in-View.new.name) (with_value r.0.1.0 c.use_name.new.name) (with_value r.0.1.1.0 c.plan.new.form))
    (views_done (state_of c.args.self.now) (state_of c.use_name.new.self) (state_of c.plan.new.self) (state_of c.declare-in-View.new.self) r.0.0.value c.declare-in-View.new.name r.0.1.0.value c.use_name.new.name
    (view_plan r.0.1.1.0.value) (view_plan c.plan.new.form) u.0 u.1 p.0 p.1 n.0 n.1)

pub form-returns-in_ok-declare-in-View-clause-forms : goal.form-returns-in_ok-declare-in-View-clause-forms
form-returns-in_ok-declare-in-View-clause-forms t c =
    form_kept c.args.place c.args.form.now _ _ c.args.unbuilt.now c.args.unbuilt.now false c.in-View.is (view_is c.in-View.name c.in-View.parent c.in-View.form) (record { kept = refl; told = refl })

pub form-returns-in-Assign-clause-names : goal.form-returns-in-Assign-clause-names
form-returns-in-Assign-clause-names t c =
    let r = reading enum 3 (c.in-Assign.target, (c.in-Assign.value, tt)) _ c.in-Assign.is in
    let e = expression_at (state_of c.use_name-in-Assign.new.self) (state_of c.expression.new.self) _ _ c.expression.new.term c.deref_mut-in-Assign.ensures.value c.expression.ensures.tree c.expression.ensures.state in
    form_done _ _ _ _ _ _ (ap action_form_seen r.1 ∙ assign_is r.0.0 r.0.1.0) (assign_is c.use_name-in-Assign.new.name (with_value r.0.1.0 c.expression.new.term))
    (λ room. assigns_done (state_of c.args.self.now) (state_of c.use_name-in-Assign.new.self) (state_of c.expression.new.self) r.0.0 c.use_name-in-Assign.new.name (term_seen r.0.1.0.value) (term_seen c.expression.new.term)
    c.use_name-in-Assign.ensures.tree c.use_name-in-Assign.ensures.state e.0 e.1)

pub form-returns-in-Assign-clause-forms : goal.form-returns-in-Assign-clause-forms
form-returns-in-Assign-clause-forms t c =
    form_kept c.args.place c.args.form.now _ _ c.args.unbuilt.now c.args.unbuilt.now false c.in-Assign.is (assign_is c.in-Assign.target c.in-Assign.value) (record { kept = refl; told = refl })

pub form-returns-in-Store-clause-names : goal.form-returns-in-Store-clause-names
form-returns-in-Store-clause-names t c =
    let whole = holds_some enum 4 (c.in-Store.sides, tt) _ c.in-Store.is in
    let held = holds enum 4 (c.in-Store.sides, tt) _ c.in-Store.is in
    rw (whole, held)
    (form_done _ _ _ _ _ _ (ap action_form_seen c.in-Store.is ∙ store_is c.in-Store.sides) (store_is (with_value c.in-Store.sides c.sides.new.sides))
    (λ room. sides_at (state_of c.args.self.now) (state_of c.sides.new.self) _ _ c.sides.new.sides (c.deref_mut-in-Store.ensures.value ∙ ap (λ b. b.value) c.in-Store.sides-is) c.sides.ensures))

pub form-returns-in-Store-clause-forms : goal.form-returns-in-Store-clause-forms
form-returns-in-Store-clause-forms t c =
    form_kept c.args.place c.args.form.now _ _ c.args.unbuilt.now c.args.unbuilt.now false c.in-Store.is (store_is c.in-Store.sides) (record { kept = refl; told = refl })

pub form-returns-in-Reduce-clause-names : goal.form-returns-in-Reduce-clause-names
form-returns-in-Reduce-clause-names t c =
    let r = reading enum 5 (c.in-Reduce.op, (c.in-Reduce.target, (c.in-Reduce.value, tt))) _ c.in-Reduce.is in
    let e = expression_at (state_of c.use_name-in-Reduce.new.self) (state_of c.expression-in-Reduce.new.self) _ _ c.expression-in-Reduce.new.term c.deref_mut-in-Reduce.ensures.value c.expression-in-Reduce.ensures.tree c.expression-in-Reduce.ensures.state in
    form_done _ _ _ _ _ _ (ap action_form_seen r.1 ∙ reduce_is r.0.0 r.0.1.0 r.0.1.1.0) (reduce_is r.0.0 c.use_name-in-Reduce.new.name (with_value r.0.1.1.0 c.expression-in-Reduce.new.term))
    (λ room. reduces_done (state_of c.args.self.now) (state_of c.use_name-in-Reduce.new.self) (state_of c.expression-in-Reduce.new.self) r.0.1.0 c.use_name-in-Reduce.new.name r.0.0 (term_seen r.0.1.1.0.value) (term_seen c.expression-in-Reduce.new.term)
    c.use_name-in-Reduce.ensures.tree c.use_name-in-Reduce.ensures.state e.0 e.1)

pub form-returns-in-Reduce-clause-forms : goal.form-returns-in-Reduce-clause-forms
form-returns-in-Reduce-clause-forms t c =
    form_kept c.args.place c.args.form.now _ _ c.args.unbuilt.now c.args.unbuilt.now false c.in-Reduce.is (reduce_is c.in-Reduce.op c.in-Reduce.target c.in-Reduce.value) (record { kept = refl; told = refl })

pub form-returns-in-Call-clause-names : goal.form-returns-in-Call-clause-names
form-returns-in-Call-clause-names t c =
    let r = reading enum 6 (c.in-Call.function, (c.in-Call.arguments, tt)) _ c.in-Call.is in
    let u = used_at (state_of c.args.self.now) (state_of c.use_name-in-Call.new.self) _ _ c.use_name-in-Call.new.name c.deref_mut-in-Call.ensures.value c.use_name-in-Call.ensures.tree c.use_name-in-Call.ensures.state in
    form_done _ _ _ _ _ _ (ap action_form_seen r.1 ∙ call_is r.0.0 r.0.1.0) (call_is (with_value r.0.0 c.use_name-in-Call.new.name) c.expressions.new.terms)
    (λ room. calls_done (state_of c.args.self.now) (state_of c.use_name-in-Call.new.self) (state_of c.expressions.new.self) r.0.0.value c.use_name-in-Call.new.name (map term_seen r.0.1.0.items) (map term_seen c.expressions.new.terms.items)
    u.0 u.1 c.expressions.ensures.tree c.expressions.ensures.state)

pub form-returns-in-Call-clause-forms : goal.form-returns-in-Call-clause-forms
form-returns-in-Call-clause-forms t c =
    form_kept c.args.place c.args.form.now _ _ c.args.unbuilt.now c.keep_unbuilt.new.kept true c.in-Call.is (call_is c.in-Call.function c.in-Call.arguments) (record { kept = c.keep_unbuilt.ensures; told = refl })

pub form-returns-after-loop-part-clause-names : goal.form-returns-after-loop-part-clause-names
form-returns-after-loop-part-clause-names t c =
    let whole = holds_some enum 7 (c.in-Block.body, tt) _ c.in-Block.is in
    let held = holds enum 7 (c.in-Block.body, tt) _ c.in-Block.is in
    rw (whole, held)
    (form_done _ _ _ _ _ _ (ap action_form_seen c.in-Block.is ∙ block_is c.in-Block.body) (block_is (with_items c.in-Block.body c.loop-part.part-items))
    (blocks_done (state_of c.args.self.now) (state_of c.loop-part.self) (groups (map part_seen c.in-Block.body.items)) (groups (map part_seen (with_items c.in-Block.body c.loop-part.part-items).items))
    (parts_done (state_of c.args.self.now) (state_of c.loop-part.self) c.in-Block.body c.deref_mut-part-items.result.now c.loop-part.part-items c.loop-part.part-index
    (c.deref_mut-part-items.ensures.value ∙ ap (λ v. v.items) c.in-Block.body-is) (c.deref_mut-part-items.ensures.len ∙ ap (λ v. v.len) c.in-Block.body-is) c.loop-part-test.false c.loop-part.invariant.0 c.loop-part.invariant.1.0)))

pub form-returns-after-loop-part-clause-forms : goal.form-returns-after-loop-part-clause-forms
form-returns-after-loop-part-clause-forms t c =
    parts_kept c.args.place c.args.form.now _ c.in-Block.body c.as_slice.result.now c.deref_mut-part-items.result.now c.loop-part.part-index c.args.unbuilt.now c.loop-part.unbuilt c.has_dashes-holds.result c.loop-part.holds
    c.in-Block.is (block_is c.in-Block.body) (c.as_slice.ensures.value ∙ ap (λ v. v.items) c.in-Block.body-is) (c.deref_mut-part-items.ensures.value ∙ ap (λ v. v.items) c.in-Block.body-is) c.has_dashes-holds.ensures c.loop-part-test.false
    c.loop-part.invariant.1.1

pub form-returns-in_ok-others-in-If-clause-names : goal.form-returns-in_ok-others-in-If-clause-names
form-returns-in_ok-others-in-If-clause-names t c =
    let r = reading enum 8 (c.in-If.test, (c.in-If.then, (c.in-If.other, tt))) _ c.in-If.is in
    let e = expression_at (state_of c.args.self.now) (state_of c.expression-in-If.new.self) _ _ c.expression-in-If.new.term c.deref_mut-in-If.ensures.value c.expression-in-If.ensures.tree c.expression-in-If.ensures.state in
    form_done _ _ _ _ _ _ (ap action_form_seen r.1 ∙ if_is r.0.0 r.0.1.0 r.0.1.1.0) (if_is (with_value r.0.0 c.expression-in-If.new.term) (with_value r.0.1.0 c.inner.new.command) c.optional.new.block)
    (decides_done (state_of c.args.self.now) (state_of c.expression-in-If.new.self) (state_of c.inner.new.self) (state_of c.optional.new.self) (state_of c.leave.new.self) c.own_names-start.result
    (term_seen r.0.0.value) (term_seen c.expression-in-If.new.term) (action_seen r.0.1.0.value) (action_seen c.inner.new.command)
    (maybe_block_seen r.0.1.1.0) (maybe_block_seen c.optional.new.block)
    e.0 e.1 c.own_names-start.ensures
    (inner_at _ _ _ _ _ c.deref_mut-in-If-2.ensures.value c.in_ok-chosen-in-If.ensures.names) c.in_ok-others-in-If.ensures.names c.leave.ensures)

pub form-returns-in_ok-others-in-If-clause-forms : goal.form-returns-in_ok-others-in-If-clause-forms
form-returns-in_ok-others-in-If-clause-forms t c =
    decides_kept c.args.place c.args.form.now _ _ _ _ c.args.unbuilt.now c.inner.new.unbuilt c.optional.new.unbuilt c.in_ok-chosen-in-If.chosen c.in_ok-others-in-If.others c.in-If.is (if_is c.in-If.test c.in-If.then c.in-If.other)
    (command_at _ _ _ _ _ (c.deref_mut-in-If-2.ensures.value ∙ ap (λ b. b.value) c.in-If.then-is) c.in_ok-chosen-in-If.ensures.forms)
    (subst (λ b. KeepsOptional c.inner.new.unbuilt c.optional.new.unbuilt c.in_ok-others-in-If.others b) c.in-If.other-is c.in_ok-others-in-If.ensures.forms)

pub form-returns-in_ok-inner-in-While-clause-names : goal.form-returns-in_ok-inner-in-While-clause-names
form-returns-in_ok-inner-in-While-clause-names t c =
    let r = reading enum 9 (c.in-While.test, (c.in-While.body, tt)) _ c.in-While.is in
    let e = expression_at (state_of c.args.self.now) (state_of c.expression-in-While.new.self) _ _ c.expression-in-While.new.term c.deref_mut-in-While.ensures.value c.expression-in-While.ensures.tree c.expression-in-While.ensures.state in
    form_done _ _ _ _ _ _ (ap action_form_seen r.1 ∙ while_is r.0.0 r.0.1.0) (while_is (with_value r.0.0 c.expression-in-While.new.term) (with_value r.0.1.0 c.inner-in-While.new.command))
    (repeats_done (state_of c.args.self.now) (state_of c.expression-in-While.new.self) (state_of c.inner-in-While.new.self) (term_seen r.0.0.value) (term_seen c.expression-in-While.new.term) (action_seen r.0.1.0.value) (action_seen c.inner-in-While.new.command)
    e.0 e.1
    (inner_at _ _ _ _ _ c.deref_mut-in-While-2.ensures.value c.in_ok-inner-in-While.ensures.names))

pub form-returns-in_ok-inner-in-While-clause-forms : goal.form-returns-in_ok-inner-in-While-clause-forms
form-returns-in_ok-inner-in-While-clause-forms t c =
    repeats_kept c.args.place c.args.form.now _ _ _ c.args.unbuilt.now c.inner-in-While.new.unbuilt _ c.in-While.is (while_is c.in-While.test c.in-While.body)
    (command_at _ _ _ _ _ (c.deref_mut-in-While-2.ensures.value ∙ ap (λ b. b.value) c.in-While.body-is) c.in_ok-inner-in-While.ensures.forms)

pub form-returns-in_ok-optional-in-For-clause-names : goal.form-returns-in_ok-optional-in-For-clause-names
form-returns-in_ok-optional-in-For-clause-names t c =
    let r = reading enum 10 (c.in-For.header, (c.in-For.body, (c.in-For.combine, tt))) _ c.in-For.is in
    let h = header_at (state_of c.args.self.now) (state_of c.header.new.self) _ _ c.header.new.header c.deref_mut-in-For.ensures.value c.in_ok-header-in-For.ensures.tree c.in_ok-header-in-For.ensures.state in
    form_done _ _ _ _ _ _ (ap action_form_seen r.1 ∙ for_is r.0.0 r.0.1.0 r.0.1.1.0) (for_is (with_value r.0.0 c.header.new.header) (with_value r.0.1.0 c.command.new.command) c.optional-in-For.new.block)
    (loops_done (state_of c.args.self.now) (state_of c.header.new.self) (state_of c.command.new.self) (state_of c.optional-in-For.new.self) (state_of c.leave-in-For.new.self) c.own_names-start-in-For.result
    r.0.0.value c.header.new.header (action_seen r.0.1.0.value) (action_seen c.command.new.command) (maybe_block_seen r.0.1.1.0) (maybe_block_seen c.optional-in-For.new.block)
    c.own_names-start-in-For.ensures h.0 h.1
    (resolves_at _ _ _ _ _ c.deref_mut-in-For-2.ensures.value c.in_ok-command-in-For.ensures.names) c.in_ok-optional-in-For.ensures.names c.leave-in-For.ensures)

pub form-returns-in_ok-optional-in-For-clause-forms : goal.form-returns-in_ok-optional-in-For-clause-forms
form-returns-in_ok-optional-in-For-clause-forms t c =
    counts_kept c.args.place c.args.form.now _ _ _ _ c.args.unbuilt.now c.command.new.unbuilt c.optional-in-For.new.unbuilt c.in_ok-command-in-For.field-0 c.in_ok-optional-in-For.field-0 c.in-For.is (for_is c.in-For.header c.in-For.body c.in-For.combine)
    (command_at _ _ _ _ _ (c.deref_mut-in-For-2.ensures.value ∙ ap (λ b. b.value) c.in-For.body-is) c.in_ok-command-in-For.ensures.forms)
    (subst (λ b. KeepsOptional c.command.new.unbuilt c.optional-in-For.new.unbuilt c.in_ok-optional-in-For.field-0 b) c.in-For.combine-is c.in_ok-optional-in-For.ensures.forms)

pub inner-returns-clause-names : goal.inner-returns-clause-names
inner-returns-clause-names t c = inner_done (state_of c.args.self.now) (state_of c.command.new.self) _ _ (action_seen c.args.command.now) (action_seen c.command.new.command) c.own_names-start.ensures c.in_ok-steps.ensures.names c.leave.ensures

pub next-returns-then-is_block-clause-names : goal.next-returns-then-is_block-clause-names
next-returns-then-is_block-clause-names t c =
    MatchResult-weaker c.inner.result c.inner.ensures.names
    (λ _ done room. next_block (state_of c.args.self.now) (state_of c.inner.new.self) c.args.command.now.id c.args.command.now.place (action_form_seen c.args.command.now.form) (action_seen c.inner.new.command) (sym c.is_block.ensures ∙ c.if-is_block.true) (done room))
    (λ _ some. some)

pub next-returns-else-is_block-clause-names : goal.next-returns-else-is_block-clause-names
next-returns-else-is_block-clause-names t c =
    MatchResult-weaker c.command.result c.command.ensures.names
    (λ _ done room. next_other (state_of c.args.self.now) (state_of c.command.new.self) c.args.command.now.id c.args.command.now.place (action_form_seen c.args.command.now.form) (action_seen c.command.new.command) (sym c.is_block.ensures ∙ c.if-is_block.false) (done room))
    (λ _ some. some)

pub part-loop-command-preserved : goal.part-loop-command-preserved
part-loop-command-preserved t c =
    let turned = turn_fits action_seen action_step action_made entity_count declared_in action_grows (2 ^ 32) c.deref_mut-command-items.result.now c.loop-command.command-items c.loop-command.command-index (state_of c.args.self.now) (state_of c.loop-command.self) (state_of c.next.new.self) c.command-item.result c.next.new.command
    (omega (arith, c.loop-command-test.true, c.loop-command.auto.command-items)) c.loop-command.invariant.0 c.loop-command.invariant.1.0 c.command-item.is
    (next_turn (state_of c.loop-command.self) (state_of c.next.new.self) c.command-item.result _ (action_seen c.next.new.command) c.command-item.is c.in_ok-steps.ensures.names) in (
      turned.0,
      (
        turned.1,
        command_turn c.deref_mut-command-items.result.now c.loop-command.command-items c.loop-command.command-index c.command-item.result c.args.unbuilt.now c.loop-command.unbuilt c.next.new.unbuilt c.keep_second.new.kept
            c.loop-command.stepped c.in_ok-steps.steps (omega (arith, c.loop-command-test.true, c.loop-command.auto.command-items)) c.loop-command.invariant.0 c.command-item.is c.in_ok-steps.ensures.forms c.keep_second.ensures
            c.loop-command.invariant.1.1,
      ),
    )

pub part-returns-clause-names : goal.part-returns-clause-names
part-returns-clause-names t c =
    part_done (state_of c.args.self.now) (state_of c.loop-command.self) c.args.part.now c.deref_mut-command-items.result.now c.loop-command.command-items c.loop-command.command-index
    c.deref_mut-command-items.ensures.value c.deref_mut-command-items.ensures.len c.loop-command-test.false c.loop-command.invariant.0 c.loop-command.invariant.1.0

pub part-returns-clause-forms : goal.part-returns-clause-forms
part-returns-clause-forms t c =
    part_kept c.args.part.now c.deref_mut-command-items.result.now c.loop-command.command-index c.args.unbuilt.now c.loop-command.unbuilt c.loop-command.stepped c.deref_mut-command-items.ensures.value c.loop-command-test.false
    c.loop-command.invariant.1.1

pub form-loop-part-preserved : goal.form-loop-part-preserved
form-loop-part-preserved t c =
    let turned = turn_fits part_seen part_step part_made entity_count declared_in_actions part_grows (2 ^ 32) c.deref_mut-part-items.result.now c.loop-part.part-items c.loop-part.part-index (state_of c.args.self.now) (state_of c.loop-part.self) (state_of c.part.new.self) c.part-item.result c.part.new.part
    (omega (arith, c.loop-part-test.true, c.loop-part.auto.part-items)) c.loop-part.invariant.0 c.loop-part.invariant.1.0 c.part-item.is
    (part_turn (state_of c.loop-part.self) (state_of c.part.new.self) c.part-item.result _ (part_seen c.part.new.part) c.part-item.is c.in_ok-steps-in-Block.ensures.names) in (
      turned.0,
      (
        turned.1,
        part_turn_kept c.deref_mut-part-items.result.now c.loop-part.part-items c.loop-part.part-index c.part-item.result c.args.unbuilt.now c.loop-part.unbuilt c.part.new.unbuilt
            c.has_dashes-holds.result c.loop-part.holds c.in_ok-steps-in-Block.steps (omega (arith, c.loop-part-test.true, c.loop-part.auto.part-items)) c.loop-part.invariant.0 c.part-item.is c.in_ok-steps-in-Block.ensures.forms
            c.loop-part.invariant.1.1,
      ),
    )

pub part-returns-in_err-steps-clause-names : goal.part-returns-in_err-steps-clause-names
part-returns-in_err-steps-clause-names t c =
    wanting _ _ c.from_residual.ensures
    (some_command c.args.part.now c.deref_mut-command-items.result.now c.loop-command.command-items c.loop-command.command-index c.command-item.result c.deref_mut-command-items.ensures.value
    (omega (arith, c.loop-command-test.true, c.loop-command.auto.command-items)) c.loop-command.invariant.0 c.in_err-steps.ensures.names)

pub form-returns-in_err-declare-in-Let-clause-names : goal.form-returns-in_err-declare-in-Let-clause-names
form-returns-in_err-declare-in-Let-clause-names t c =
    wanting _ _ c.from_residual.ensures
    (counted_as _ _ _ c.in-Let.is (let_is c.in-Let.declared c.in-Let.name c.in-Let.value) (omega arith))

pub form-returns-in_err-declare-in-LetMemory-clause-names : goal.form-returns-in_err-declare-in-LetMemory-clause-names
form-returns-in_err-declare-in-LetMemory-clause-names t c =
    wanting _ _ c.from_residual-in_err-declare-in-LetMemory.ensures
    (counted_as _ _ _ c.in-LetMemory.is (let_memory_is c.in-LetMemory.name c.in-LetMemory.shape c.in-LetMemory.shape_places c.in-LetMemory.value) (omega arith))

pub form-returns-in_err-declare-in-View-clause-names : goal.form-returns-in_err-declare-in-View-clause-names
form-returns-in_err-declare-in-View-clause-names t c =
    wanting _ _ c.from_residual-in_err-declare-in-View.ensures
    (counted_as _ _ _ c.in-View.is (view_is c.in-View.name c.in-View.parent c.in-View.form) (omega arith))

pub form-returns-in_err-steps-in-Block-clause-names : goal.form-returns-in_err-steps-in-Block-clause-names
form-returns-in_err-steps-in-Block-clause-names t c =
    wanting _ _ c.from_residual-in_err-steps-in-Block.ensures
    (counted_as _ _ _ c.in-Block.is (block_is c.in-Block.body)
    (some_part c.in-Block.body c.deref_mut-part-items.result.now c.loop-part.part-items c.loop-part.part-index c.part-item.result (c.deref_mut-part-items.ensures.value ∙ ap (λ v. v.items) c.in-Block.body-is)
    (omega (arith, c.loop-part-test.true, c.loop-part.auto.part-items)) c.loop-part.invariant.0 c.in_err-steps-in-Block.ensures.names))

pub form-returns-in_err-chosen-in-If-clause-names : goal.form-returns-in_err-chosen-in-If-clause-names
form-returns-in_err-chosen-in-If-clause-names t c =
    wanting _ _ c.from_residual-in_err-chosen-in-If.ensures
    (counted_as _ _ _ c.in-If.is (if_is c.in-If.test c.in-If.then c.in-If.other)
    (in_left _ _ (subst (λ z. 0 < declared_in (action_seen z)) (c.deref_mut-in-If-2.ensures.value ∙ ap (λ b. b.value) c.in-If.then-is) c.in_err-chosen-in-If.ensures.names)))

pub form-returns-in_err-others-in-If-clause-names : goal.form-returns-in_err-others-in-If-clause-names
form-returns-in_err-others-in-If-clause-names t c =
    wanting _ _ c.from_residual-in_err-others-in-If.ensures
    (counted_as _ _ _ c.in-If.is (if_is c.in-If.test c.in-If.then c.in-If.other)
    (in_right (declared_in (action_seen c.in-If.then.value)) _ (subst (λ b. 0 < declared_in_other (maybe_block_seen b)) c.in-If.other-is c.in_err-others-in-If.ensures.names)))

pub form-returns-in_err-inner-in-While-clause-names : goal.form-returns-in_err-inner-in-While-clause-names
form-returns-in_err-inner-in-While-clause-names t c =
    wanting _ _ c.from_residual-in_err-inner-in-While.ensures
    (counted_as _ _ _ c.in-While.is (while_is c.in-While.test c.in-While.body)
    (subst (λ z. 0 < declared_in (action_seen z)) (c.deref_mut-in-While-2.ensures.value ∙ ap (λ b. b.value) c.in-While.body-is) c.in_err-inner-in-While.ensures.names))

pub form-returns-in_err-header-in-For-clause-names : goal.form-returns-in_err-header-in-For-clause-names
form-returns-in_err-header-in-For-clause-names t c =
    wanting _ _ c.from_residual-in_err-header-in-For.ensures
    (counted_as _ _ _ c.in-For.is (for_is c.in-For.header c.in-For.body c.in-For.combine) (omega arith))

pub form-returns-in_err-command-in-For-clause-names : goal.form-returns-in_err-command-in-For-clause-names
form-returns-in_err-command-in-For-clause-names t c =
    wanting _ _ c.from_residual-in_err-command-in-For.ensures
    (counted_as _ _ _ c.in-For.is (for_is c.in-For.header c.in-For.body c.in-For.combine) (omega arith))

pub form-returns-in_err-optional-in-For-clause-names : goal.form-returns-in_err-optional-in-For-clause-names
form-returns-in_err-optional-in-For-clause-names t c =
    wanting _ _ c.from_residual-in_err-optional-in-For.ensures
    (counted_as _ _ _ c.in-For.is (for_is c.in-For.header c.in-For.body c.in-For.combine) (omega arith))
