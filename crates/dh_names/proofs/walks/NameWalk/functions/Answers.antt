use Rattle.std.proofs.Common.{◌≡◌, ◌∙◌, ◌+◌, ◌^◌, ap, sym, map, refl, subst, length, get_or, arith}
use Rattle.dh_tree.specs.declared.trees.programs.Function.{Function}
use Rattle.dh_tree.specs.Seen.{defined_seen}
use Rattle.dh_tree.specs.NameCounts.{declared_in, declared_in_functions}
use Rattle.dh_tree.specs.Seen.{action_seen, formal_seen}
use Rattle.dh_names.specs.Walks.{HasRoomToDeclare, state_of}
use Rattle.dh_base.proofs.InPlace.{start_fits, turn_fits, item_fits}
use Rattle.dh_names.proofs.FunctionsDone.{function_step, function_made, state_size, function_cost, function_grows, functions_start, function_turn, functions_done, length_map}
use Rattle.dh_names.proofs.walks.NameWalk.functions.Goals as goal

pub loop-function-init : goal.loop-function-init
loop-function-init c = record {
  unvisited = (refl, λ k d past. refl);
  so = start_fits defined_seen function_step function_made state_size function_cost function_grows (2 ^ 32) _ _
      (functions_start (c.args.first, state_of c.args.self.now) _ (subst (λ l. HasRoomToDeclare (state_of c.args.self.now) (declared_in_functions (map defined_seen l))) (sym c.deref_mut-function-items.ensures.value) c.requires.room));
  outside = c.requires.outside;
  number = omega arith;
}

pub function-requires-clause-outside : goal.function-requires-clause-outside
function-requires-clause-outside c = c.loop-function.invariant.outside

pub function-requires-clause-room : goal.function-requires-clause-room
function-requires-clause-room c =
    let x = c.function-item.result in
    let y = get_or c.loop-function.function-items c.loop-function.function-index x in
    subst (λ (z : Function). HasRoomToDeclare (state_of c.loop-function.self) (length z.parameters.items + declared_in (action_seen z.body))) c.function-item.is
    (subst (λ n. HasRoomToDeclare (state_of c.loop-function.self) (n + declared_in (action_seen x.body))) (length_map formal_seen x.parameters.items)
    (item_fits defined_seen function_step function_made state_size function_cost function_grows (2 ^ 32) c.deref_mut-function-items.result.now c.loop-function.function-items c.loop-function.function-index (c.args.first, state_of c.args.self.now) (c.loop-function.number, state_of c.loop-function.self) x
    (omega (arith, c.loop-function-test.true, c.loop-function.auto.function-items)) c.loop-function.invariant.unvisited c.loop-function.invariant.so c.function-item.is))

pub overflow_add-number : goal.overflow_add-number
overflow_add-number c =
    let e : length c.deref_mut-function-items.result.now ≡ length c.args.functions.now.items = ap (λ l. length l) c.deref_mut-function-items.ensures.value in
    omega (arith, e, c.loop-function.invariant.number, c.loop-function-test.true, c.requires.few)

pub loop-function-preserved : goal.loop-function-preserved
loop-function-preserved c =
    let s = state_of c.loop-function.self in
    let s' = state_of c.function.new.self in
    let start = functions_start (c.args.first, state_of c.args.self.now) c.deref_mut-function-items.result.now
    (subst (λ l. HasRoomToDeclare (state_of c.args.self.now) (declared_in_functions (map defined_seen l))) (sym c.deref_mut-function-items.ensures.value) c.requires.room) in
    let one = function_turn c.loop-function.number s s' c.function-item.result _ (defined_seen c.function.new.function) c.function-item.is c.in_ok-function.ensures in
    let t = turn_fits defined_seen function_step function_made state_size function_cost function_grows (2 ^ 32) c.deref_mut-function-items.result.now c.loop-function.function-items c.loop-function.function-index (c.args.first, state_of c.args.self.now)
    (c.loop-function.number, s) (c.loop-function.number + 1, s') c.function-item.result c.function.new.function
    (omega (arith, c.loop-function-test.true, c.loop-function.auto.function-items)) c.loop-function.invariant.unvisited (λ _. c.loop-function.invariant.so) c.function-item.is (λ _. one) in
    record {
      unvisited = t.0;
      so = t.1 start;
      outside = ap (λ x. x.scope.visible) c.in_ok-function.ensures.state ∙ sym (ap (λ x. x.outer) c.in_ok-function.ensures.state);
      number = omega (arith, c.loop-function.invariant.number);
    }

pub returns : goal.returns
returns c =
    functions_done c.args.first c.loop-function.number (state_of c.args.self.now) (state_of c.loop-function.self) c.args.functions.now c.deref_mut-function-items.result.now c.loop-function.function-items c.loop-function.function-index
    c.deref_mut-function-items.ensures.value c.deref_mut-function-items.ensures.len c.loop-function-test.false c.loop-function.invariant.unvisited c.requires.outside c.loop-function.invariant.so
