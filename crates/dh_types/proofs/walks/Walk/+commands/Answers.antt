use Rattle.std.proofs.Common.{◌∙◌, ◌<◌, Option, ap, subst, refl, map, option_map, arith}
use Rattle.std.specs.Box.{with_value}
use Rattle.std.specs.Vec.{with_items}
use Rattle.std.proofs.lemmas.Result.{MatchResult-weaker}
use Rattle.dh_tree.specs.declared.trees.expressions.Ref.{Ref}
use Rattle.dh_tree.specs.declared.trees.expressions.Expr.{Expr}
use Rattle.dh_tree.specs.declared.trees.commands.Sides.{Sides}
use Rattle.dh_tree.specs.PlainTrees.{lets, assigns, reduces, calls, decides, repeats}
use Rattle.dh_tree.specs.Seen.{term_seen, sides_seen, action_seen, action_form_seen, part_seen, groups, maybe_block_seen}
use Rattle.dh_tree.proofs.SeenActions.{let_is, let_memory_is, view_is, assign_is, store_is, reduce_is, call_is, block_is, if_is, while_is, for_is}
use Rattle.dh_tree.specs.NameCounts.{declared_in, declared_in_other}
use Rattle.dh_tree.proofs.DeclaringParts.{wanting, counted_as, in_left, in_right, some_command, some_part}
use Rattle.dh_types.specs.Walks.{typing_state_of, entered, TypesForm}
use Rattle.dh_base.proofs.InPlace.{start, turn}
use Rattle.dh_types.proofs.ListsDone.{action_step, action_made, part_step, part_made, action_turn, part_turn, part_done, parts_done}
use Rattle.dh_types.proofs.FormsDone.{form_done, assigns_done, reduces_done, calls_done, blocks_done, repeats_done, decides_done, loops_done, memory_at, viewed_at, types_at}
use Rattle.dh_tree.specs.contracts.trees.commands.CommandForm.{enum}
use Rattle.dh_base.proofs.InArms.{holds, holds_some, reading}
use Rattle.dh_types.proofs.Wanting.{last_learns}
use Rattle.dh_types.proofs.walks.Walk.+commands.Goals as goal

pub form-returns-in-Let : goal.form-returns-in-Let
form-returns-in-Let t c =
    let r = reading enum 0 (c.in-Let.declared, (c.in-Let.name, (c.in-Let.value, tt))) _ c.in-Let.is in
    last_learns c.variable.result c.variable.ensures
    (λ told. form_done _ _ _ _ _ _ (ap action_form_seen r.1 ∙ let_is r.0.0 r.0.1.0 r.0.1.1.0) (let_is r.0.0 r.0.1.0 (with_value r.0.1.1.0 c.variable.new.value))
    (subst (λ (v : Option Expr). TypesForm (typing_state_of c.args.self.now) (typing_state_of c.variable.new.self) (lets r.0.1.0 r.0.0 (option_map term_seen v)) (lets r.0.1.0 r.0.0 (option_map term_seen c.variable.new.value)))
    c.deref_mut.ensures.value (told r.0.1.0)))
    (counted_as _ _ _ c.in-Let.is (let_is c.in-Let.declared c.in-Let.name c.in-Let.value) (omega arith))

pub form-returns-in-LetMemory : goal.form-returns-in-LetMemory
form-returns-in-LetMemory t c =
    let r = reading enum 1 (c.in-LetMemory.name, (c.in-LetMemory.shape, (c.in-LetMemory.shape_places, (c.in-LetMemory.value, tt)))) _ c.in-LetMemory.is in
    last_learns c.memory.result c.memory.ensures
    (λ told. form_done _ _ _ _ _ _ (ap action_form_seen r.1 ∙ let_memory_is r.0.0 r.0.1.0 r.0.1.1.0 r.0.1.1.1.0) (let_memory_is r.0.0 r.0.1.0 r.0.1.1.0 (with_value r.0.1.1.1.0 c.memory.new.value))
    (memory_at (typing_state_of c.args.self.now) (typing_state_of c.memory.new.self) r.0.0.value r.0.1.1.0.value _ _ _ _ c.memory.new.value c.deref.ensures c.deref_mut-in-LetMemory.ensures.value (told r.0.0.value r.0.1.1.0.value)))
    (counted_as _ _ _ c.in-LetMemory.is (let_memory_is c.in-LetMemory.name c.in-LetMemory.shape c.in-LetMemory.shape_places c.in-LetMemory.value) (omega arith))

pub form-returns-in-View : goal.form-returns-in-View
form-returns-in-View t c =
    let r = reading enum 2 (c.in-View.name, (c.in-View.parent, (c.in-View.form, tt))) _ c.in-View.is in
    last_learns c.viewed.result c.viewed.ensures
    (λ told. form_done _ _ _ _ _ _ (ap action_form_seen r.1 ∙ view_is r.0.0 r.0.1.0 r.0.1.1.0) (view_is r.0.0 r.0.1.0 (with_value r.0.1.1.0 c.viewed.new.form))
    (viewed_at (typing_state_of c.args.self.now) (typing_state_of c.viewed.new.self) r.0.0.value _ _ _ _ c.viewed.new.form c.deref-in-View.ensures c.deref_mut-in-View.ensures.value (told r.0.0.value)))
    (counted_as _ _ _ c.in-View.is (view_is c.in-View.name c.in-View.parent c.in-View.form) (omega arith))

pub form-returns-in-Assign : goal.form-returns-in-Assign
form-returns-in-Assign t c =
    let r = reading enum 3 (c.in-Assign.target, (c.in-Assign.value, tt)) _ c.in-Assign.is in
    form_done _ _ _ _ _ _ (ap action_form_seen r.1 ∙ assign_is r.0.0 r.0.1.0) (assign_is r.0.0 (with_value r.0.1.0 c.assignment.new.value))
    (subst (λ (e : Expr). TypesForm (typing_state_of c.args.self.now) (typing_state_of c.assignment.new.self) (assigns r.0.0 (term_seen e)) (assigns r.0.0 (term_seen c.assignment.new.value))) c.deref_mut-in-Assign.ensures.value
    (assigns_done (typing_state_of c.args.self.now) (typing_state_of c.assignment.new.self) r.0.0 (term_seen c.deref_mut-in-Assign.result.now) (term_seen c.assignment.new.value) c.assignment.ensures.tree c.assignment.ensures.state))

pub form-returns-in-Store : goal.form-returns-in-Store
form-returns-in-Store t c =
    let whole = holds_some enum 4 (c.in-Store.sides, tt) _ c.in-Store.is in
    let held = holds enum 4 (c.in-Store.sides, tt) _ c.in-Store.is in
    rw (whole, held)
    (form_done _ _ _ _ _ _ (ap action_form_seen c.in-Store.is ∙ store_is c.in-Store.sides) (store_is (with_value c.in-Store.sides c.sides.new.sides))
    (subst (λ (x : Sides). TypesForm (typing_state_of c.args.self.now) (typing_state_of c.sides.new.self) (sides_seen x) (sides_seen c.sides.new.sides)) (c.deref_mut-in-Store.ensures.value ∙ ap (λ b. b.value) c.in-Store.sides-is) c.sides.ensures))

pub form-returns-in-Reduce : goal.form-returns-in-Reduce
form-returns-in-Reduce t c =
    let r = reading enum 5 (c.in-Reduce.op, (c.in-Reduce.target, (c.in-Reduce.value, tt))) _ c.in-Reduce.is in
    form_done _ _ _ _ _ _ (ap action_form_seen r.1 ∙ reduce_is r.0.0 r.0.1.0 r.0.1.1.0) (reduce_is r.0.0 r.0.1.0 (with_value r.0.1.1.0 c.reduction.new.value))
    (subst (λ (e : Expr). TypesForm (typing_state_of c.args.self.now) (typing_state_of c.reduction.new.self) (reduces r.0.1.0 r.0.0 (term_seen e)) (reduces r.0.1.0 r.0.0 (term_seen c.reduction.new.value))) c.deref_mut-in-Reduce.ensures.value
    (reduces_done (typing_state_of c.args.self.now) (typing_state_of c.reduction.new.self) r.0.1.0 r.0.0 (term_seen c.deref_mut-in-Reduce.result.now) (term_seen c.reduction.new.value) c.reduction.ensures.tree c.reduction.ensures.state))

pub form-returns-in-Call : goal.form-returns-in-Call
form-returns-in-Call t c =
    let r = reading enum 6 (c.in-Call.function, (c.in-Call.arguments, tt)) _ c.in-Call.is in
    form_done _ _ _ _ _ _ (ap action_form_seen r.1 ∙ call_is r.0.0 r.0.1.0) (call_is r.0.0 c.arguments.new.arguments)
    (subst (λ (f : Ref). TypesForm (typing_state_of c.args.self.now) (typing_state_of c.arguments.new.self) (calls f (map term_seen r.0.1.0.items)) (calls f (map term_seen c.arguments.new.arguments.items))) c.deref-in-Call.ensures
    (calls_done (typing_state_of c.args.self.now) (typing_state_of c.arguments.new.self) c.deref-in-Call.result.now (map term_seen r.0.1.0.items) (map term_seen c.arguments.new.arguments.items) c.arguments.ensures.tree c.arguments.ensures.state))

pub form-returns-after-loop-part : goal.form-returns-after-loop-part
form-returns-after-loop-part t c =
    let whole = holds_some enum 7 (c.in-Block.body, tt) _ c.in-Block.is in
    let held = holds enum 7 (c.in-Block.body, tt) _ c.in-Block.is in
    rw (whole, held)
    (form_done _ _ _ _ _ _ (ap action_form_seen c.in-Block.is ∙ block_is c.in-Block.body) (block_is (with_items c.in-Block.body c.loop-part.part-items))
    (blocks_done (typing_state_of c.args.self.now) (typing_state_of c.loop-part.self) (groups (map part_seen c.in-Block.body.items)) (groups (map part_seen (with_items c.in-Block.body c.loop-part.part-items).items))
    (parts_done (typing_state_of c.args.self.now) (typing_state_of c.loop-part.self) c.in-Block.body c.deref_mut-part-items.result.now c.loop-part.part-items c.loop-part.part-index
    (c.deref_mut-part-items.ensures.value ∙ ap (λ v. v.items) c.in-Block.body-is) (c.deref_mut-part-items.ensures.len ∙ ap (λ v. v.len) c.in-Block.body-is) c.loop-part-test.false c.loop-part.invariant.0 c.loop-part.invariant.1)))

pub form-returns-in_ok-command-in-If : goal.form-returns-in_ok-command-in-If
form-returns-in_ok-command-in-If t c =
    let r = reading enum 8 (c.in-If.test, (c.in-If.then, (c.in-If.other, tt))) _ c.in-If.is in
    MatchResult-weaker c.optional.result c.optional.ensures
    (λ x told. form_done _ _ _ _ _ _ (ap action_form_seen r.1 ∙ if_is r.0.0 r.0.1.0 r.0.1.1.0) (if_is (with_value r.0.0 c.condition.new.test) (with_value r.0.1.0 c.command.new.command) c.optional.new.block)
    (subst (λ (e : Expr). TypesForm (typing_state_of c.args.self.now) (typing_state_of c.optional.new.self) (decides (term_seen e) (action_seen r.0.1.0.value) (maybe_block_seen r.0.1.1.0))
    (decides (term_seen c.condition.new.test) (action_seen c.command.new.command) (maybe_block_seen c.optional.new.block))) c.deref_mut-in-If.ensures.value
    (decides_done (typing_state_of c.args.self.now) (typing_state_of c.condition.new.self) (typing_state_of c.command.new.self) (typing_state_of c.optional.new.self)
    (term_seen c.deref_mut-in-If.result.now) (term_seen c.condition.new.test) (action_seen r.0.1.0.value) (action_seen c.command.new.command) (maybe_block_seen r.0.1.1.0) (maybe_block_seen c.optional.new.block)
    c.condition.ensures.tree c.condition.ensures.state (types_at _ _ _ _ _ c.deref_mut-in-If-2.ensures.value c.in_ok-command-in-If.ensures) told)))
    (λ x lacks. counted_as _ _ _ c.in-If.is (if_is c.in-If.test c.in-If.then c.in-If.other)
    (in_right (declared_in (action_seen c.in-If.then.value)) _ (subst (λ b. 0 < declared_in_other (maybe_block_seen b)) c.in-If.other-is lacks)))

pub form-returns-in-While : goal.form-returns-in-While
form-returns-in-While t c =
    let r = reading enum 9 (c.in-While.test, (c.in-While.body, tt)) _ c.in-While.is in
    MatchResult-weaker c.command-in-While.result c.command-in-While.ensures
    (λ x told. form_done _ _ _ _ _ _ (ap action_form_seen r.1 ∙ while_is r.0.0 r.0.1.0) (while_is (with_value r.0.0 c.condition-in-While.new.test) (with_value r.0.1.0 c.command-in-While.new.command))
    (subst (λ (e : Expr). TypesForm (typing_state_of c.args.self.now) (typing_state_of c.command-in-While.new.self) (repeats (term_seen e) (action_seen r.0.1.0.value)) (repeats (term_seen c.condition-in-While.new.test) (action_seen c.command-in-While.new.command)))
    c.deref_mut-in-While.ensures.value
    (repeats_done (typing_state_of c.args.self.now) (typing_state_of c.condition-in-While.new.self) (typing_state_of c.command-in-While.new.self)
    (term_seen c.deref_mut-in-While.result.now) (term_seen c.condition-in-While.new.test) (action_seen r.0.1.0.value) (action_seen c.command-in-While.new.command)
    c.condition-in-While.ensures.tree c.condition-in-While.ensures.state (types_at _ _ _ _ _ c.deref_mut-in-While-2.ensures.value told))))
    (λ x lacks. counted_as _ _ _ c.in-While.is (while_is c.in-While.test c.in-While.body)
    (subst (λ z. 0 < declared_in (action_seen z)) (c.deref_mut-in-While-2.ensures.value ∙ ap (λ b. b.value) c.in-While.body-is) lacks))

pub form-returns-in_ok-command-in-For : goal.form-returns-in_ok-command-in-For
form-returns-in_ok-command-in-For t c =
    let r = reading enum 10 (c.in-For.header, (c.in-For.body, (c.in-For.combine, tt))) _ c.in-For.is in
    MatchResult-weaker c.optional-in-For.result c.optional-in-For.ensures
    (λ x told. form_done _ _ _ _ _ _ (ap action_form_seen r.1 ∙ for_is r.0.0 r.0.1.0 r.0.1.1.0) (for_is r.0.0 (with_value r.0.1.0 c.command-in-For.new.command) c.optional-in-For.new.block)
    (loops_done (typing_state_of c.args.self.now) (typing_state_of c.header.new.self) (typing_state_of c.command-in-For.new.self) (typing_state_of c.optional-in-For.new.self) r.0.0.value
    (action_seen r.0.1.0.value) (action_seen c.command-in-For.new.command) (maybe_block_seen r.0.1.1.0) (maybe_block_seen c.optional-in-For.new.block)
    (c.in_ok-header-in-For.ensures ∙ ap (entered (typing_state_of c.args.self.now)) c.deref-in-For.ensures)
    (types_at _ _ _ _ _ c.deref_mut-in-For.ensures.value c.in_ok-command-in-For.ensures) told))
    (λ x lacks. counted_as _ _ _ c.in-For.is (for_is c.in-For.header c.in-For.body c.in-For.combine) (omega arith))

pub part-loop-command-init : goal.part-loop-command-init
part-loop-command-init t c = ((refl, λ k d past. refl), start action_seen action_step action_made _ _)

pub part-loop-command-preserved : goal.part-loop-command-preserved
part-loop-command-preserved t c =
    let made = action_turn (typing_state_of c.loop-command.self) (typing_state_of c.command.new.self) c.command-item.result _ (action_seen c.command.new.command) c.command-item.is c.in_ok-command.ensures in
    turn action_seen action_step action_made c.deref_mut-command-items.result.now c.loop-command.command-items c.loop-command.command-index (typing_state_of c.args.self.now) (typing_state_of c.loop-command.self) (typing_state_of c.command.new.self) c.command-item.result c.command.new.command
    (omega (arith, c.loop-command-test.true, c.loop-command.auto.command-items)) c.loop-command.invariant.0 c.loop-command.invariant.1 c.command-item.is made.0 made.1

pub part-returns : goal.part-returns
part-returns t c =
    part_done (typing_state_of c.args.self.now) (typing_state_of c.loop-command.self) c.args.part.now c.deref_mut-command-items.result.now c.loop-command.command-items c.loop-command.command-index
    c.deref_mut-command-items.ensures.value c.deref_mut-command-items.ensures.len c.loop-command-test.false c.loop-command.invariant.0 c.loop-command.invariant.1

pub form-loop-part-init : goal.form-loop-part-init
form-loop-part-init t c = ((refl, λ k d past. refl), start part_seen part_step part_made _ _)

pub form-loop-part-preserved : goal.form-loop-part-preserved
form-loop-part-preserved t c =
    let made = part_turn (typing_state_of c.loop-part.self) (typing_state_of c.part.new.self) c.part-item.result _ (part_seen c.part.new.part) c.part-item.is c.in_ok-part-in-Block.ensures in
    turn part_seen part_step part_made c.deref_mut-part-items.result.now c.loop-part.part-items c.loop-part.part-index (typing_state_of c.args.self.now) (typing_state_of c.loop-part.self) (typing_state_of c.part.new.self) c.part-item.result c.part.new.part
    (omega (arith, c.loop-part-test.true, c.loop-part.auto.part-items)) c.loop-part.invariant.0 c.loop-part.invariant.1 c.part-item.is made.0 made.1

pub part-returns-in_err-command : goal.part-returns-in_err-command
part-returns-in_err-command t c =
    wanting _ _ c.from_residual.ensures
    (some_command c.args.part.now c.deref_mut-command-items.result.now c.loop-command.command-items c.loop-command.command-index c.command-item.result c.deref_mut-command-items.ensures.value
    (omega (arith, c.loop-command-test.true, c.loop-command.auto.command-items)) c.loop-command.invariant.0 c.in_err-command.ensures)

pub form-returns-in_err-part-in-Block : goal.form-returns-in_err-part-in-Block
form-returns-in_err-part-in-Block t c =
    wanting _ _ c.from_residual.ensures
    (counted_as _ _ _ c.in-Block.is (block_is c.in-Block.body)
    (some_part c.in-Block.body c.deref_mut-part-items.result.now c.loop-part.part-items c.loop-part.part-index c.part-item.result (c.deref_mut-part-items.ensures.value ∙ ap (λ v. v.items) c.in-Block.body-is)
    (omega (arith, c.loop-part-test.true, c.loop-part.auto.part-items)) c.loop-part.invariant.0 c.in_err-part-in-Block.ensures))

pub form-returns-in_err-command-in-If : goal.form-returns-in_err-command-in-If
form-returns-in_err-command-in-If t c =
    wanting _ _ c.from_residual-in_err-command-in-If.ensures
    (counted_as _ _ _ c.in-If.is (if_is c.in-If.test c.in-If.then c.in-If.other)
    (in_left _ _ (subst (λ z. 0 < declared_in (action_seen z)) (c.deref_mut-in-If-2.ensures.value ∙ ap (λ b. b.value) c.in-If.then-is) c.in_err-command-in-If.ensures)))

pub form-returns-in_err-header-in-For : goal.form-returns-in_err-header-in-For
form-returns-in_err-header-in-For t c =
    wanting _ _ c.from_residual-in_err-header-in-For.ensures
    (counted_as _ _ _ c.in-For.is (for_is c.in-For.header c.in-For.body c.in-For.combine) (omega arith))

pub form-returns-in_err-command-in-For : goal.form-returns-in_err-command-in-For
form-returns-in_err-command-in-For t c =
    wanting _ _ c.from_residual-in_err-command-in-For.ensures
    (counted_as _ _ _ c.in-For.is (for_is c.in-For.header c.in-For.body c.in-For.combine) (omega arith))
