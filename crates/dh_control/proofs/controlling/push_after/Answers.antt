use Rattle.std.proofs.lemmas.Result.{IfOk-weaker}
use Rattle.dh_control.proofs.ControlPut.{sets_moves, after_made}
use Rattle.dh_control.proofs.MovedLists.{sized_stay}
use Rattle.dh_control.proofs.controlling.push_after.Goals as goal

pub push_moved-requires-clause-wires : goal.push_moved-requires-clause-wires
push_moved-requires-clause-wires c = sized_stay _ _ c.args.widths.now c.args.registers.now c.in_ok-push_all_sets.ensures.grows c.requires.registers

pub push_moved-requires-clause-moves : goal.push_moved-requires-clause-moves
push_moved-requires-clause-moves c =
    sets_moves _ _ c.args.widths.now c.args.commits.now c.args.wires.now c.args.blocks.now _ _ c.as_slice.result.now c.new-moves.ensures c.in_ok-push_all_sets.ensures c.as_slice.ensures

pub returns : goal.returns
returns c =
    IfOk-weaker c.push_moved.result _ _
    (λ after h. after_made _ _ _ c.args.widths.now c.args.registers.now c.args.commits.now c.args.wires.now c.args.blocks.now _ _ c.as_slice.result.now after c.new-moves.ensures c.in_ok-push_all_sets.ensures
    c.as_slice.ensures h) c.push_moved.ensures
