use Rattle.std.proofs.Common.{arith}
use Rattle.dh_cells.proofs.CellsAppended.{wire_stays}
use Rattle.dh_control.specs.RegisterSets.{SetSuits}
use Rattle.dh_control.proofs.ListFacts.{at_item}
use Rattle.dh_control.proofs.SetsMoved.{sets_turn, suits_stay}
use Rattle.dh_control.proofs.setting.push_sets.Goals as goal

pub push_set-requires-clause-commit : goal.push_set-requires-clause-commit
push_set-requires-clause-commit c = wire_stays _ _ c.args.commit 1 c.loop-i.invariant.grows c.requires.commit

pub push_set-requires-clause-suits : goal.push_set-requires-clause-suits
push_set-requires-clause-suits c =
    suits_stay _ _ c.args.widths.now c.args.wires.now c.index-operations-i.result c.loop-i.invariant.grows
    (at_item (SetSuits c.args.circuit.now c.args.widths.now c.args.wires.now) c.args.operations.now _ c.index-operations-i.result c.requires.suits (let some = c.loop-i-test.true in let most = c.loop-i.auto.i in omega (arith, some, most)) c.index-operations-i.is)

pub loop-i-preserved : goal.loop-i-preserved
loop-i-preserved c =
    sets_turn _ _ _ c.args.widths.now c.args.commit c.args.wires.now c.loop-i.i c.index-operations-i.result c.args.operations.now _ _ _ c.loop-i-test.true c.loop-i.auto.i c.index-operations-i.is c.loop-i.invariant c.in_ok-push_set.ensures
