use Rattle.std.proofs.Common.{refl, arith}
use Rattle.dh_tree.specs.Seen.{defined_seen}
use Rattle.dh_types.specs.Walks.{typing_state_of}
use Rattle.dh_base.proofs.InPlace.{start, turn}
use Rattle.dh_types.proofs.ListsDone.{function_step, function_made, function_turn, functions_done}
use Rattle.dh_types.proofs.Wanting.{some_function}
use Rattle.dh_tree.proofs.DeclaringParts.{wanting}
use Rattle.dh_types.proofs.walks.Walk.functions.Goals as goal

pub loop-function-init : goal.loop-function-init
loop-function-init c = ((refl, λ k d past. refl), start defined_seen function_step function_made _ _)

pub loop-function-preserved : goal.loop-function-preserved
loop-function-preserved c =
    let made = function_turn (typing_state_of c.loop-function.self) (typing_state_of c.function.new.self) c.function-item.result _ (defined_seen c.function.new.function) c.function-item.is c.in_ok-function.ensures in
    turn defined_seen function_step function_made c.deref_mut-function-items.result.now c.loop-function.function-items c.loop-function.function-index (typing_state_of c.args.self.now) (typing_state_of c.loop-function.self) (typing_state_of c.function.new.self) c.function-item.result c.function.new.function
    (omega (arith, c.loop-function-test.true, c.loop-function.auto.function-items)) c.loop-function.invariant.0 c.loop-function.invariant.1 c.function-item.is made.0 made.1

pub returns : goal.returns
returns c =
    functions_done (typing_state_of c.args.self.now) (typing_state_of c.loop-function.self) c.args.functions.now c.deref_mut-function-items.result.now c.loop-function.function-items c.loop-function.function-index
    c.deref_mut-function-items.ensures.value c.deref_mut-function-items.ensures.len c.loop-function-test.false c.loop-function.invariant.0 c.loop-function.invariant.1

pub returns-in_err-function : goal.returns-in_err-function
returns-in_err-function c =
    wanting _ _ c.from_residual.ensures
    (some_function c.args.functions.now c.deref_mut-function-items.result.now c.loop-function.function-items c.loop-function.function-index c.function-item.result c.deref_mut-function-items.ensures.value
    (omega (arith, c.loop-function-test.true, c.loop-function.auto.function-items)) c.loop-function.invariant.0 c.in_err-function.ensures)
