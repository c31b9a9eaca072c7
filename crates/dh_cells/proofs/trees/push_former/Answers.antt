use Rattle.dh_cells.proofs.CellsAppended.{wire_stays}
use Rattle.dh_cells.proofs.WireTrees.{former_made}
use Rattle.dh_cells.proofs.trees.push_former.Goals as goal

pub push_choice-requires-clause-test : goal.push_choice-requires-clause-test
push_choice-requires-clause-test c = wire_stays _ _ c.args.first.test 1 c.in_ok-test.ensures.grows c.requires.first.test

pub push_choice-requires-clause-left : goal.push_choice-requires-clause-left
push_choice-requires-clause-left c = wire_stays _ _ c.args.first.value c.args.width c.in_ok-test.ensures.grows c.requires.first.value

pub push_choice-requires-clause-right : goal.push_choice-requires-clause-right
push_choice-requires-clause-right c = wire_stays _ _ c.args.second.value c.args.width c.in_ok-test.ensures.grows c.requires.second.value

pub returns : goal.returns
returns c = former_made _ _ _ c.args.width c.in_ok-test.test c.in_ok-value.value c.args.first c.args.second c.in_ok-test.ensures c.in_ok-value.ensures
