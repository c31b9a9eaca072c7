use Rattle.dh_cells.proofs.CellsAppended.{wire_stays}
use Rattle.dh_cells.specs.ShownValues.{match_shown}
use Rattle.dh_control.proofs.WiresListed.{next_listed}
use Rattle.dh_control.proofs.standing.push_numbers.Goals as goal

pub push_match-requires-clause-there : goal.push_match-requires-clause-there
push_match-requires-clause-there c = wire_stays _ _ c.args.wire c.args.width c.loop-i.invariant.grows c.requires.wire

pub loop-i-preserved : goal.loop-i-preserved
loop-i-preserved c = next_listed _ _ _ (λ i. 1) (match_shown c.args.wire) c.loop-i.i c.in_ok-test.test _ _ c.loop-i.invariant c.in_ok-test.ensures c.in_ok-push.ensures
