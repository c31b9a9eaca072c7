use Rattle.dh_cells.proofs.CellsAppended.{wire_stays, grows_then}
use Rattle.dh_control.proofs.WaysMoved.{branch_made}
use Rattle.dh_control.proofs.leading.push_branch.Goals as goal

pub push_both-requires-clause-left : goal.push_both-requires-clause-left
push_both-requires-clause-left c = wire_stays _ _ c.args.active 1 c.in_ok-test.ensures.grows c.requires.active

pub push_not-requires : goal.push_not-requires
push_not-requires c = wire_stays _ _ c.in_ok-test.test 1 c.in_ok-chosen.ensures.grows c.in_ok-test.ensures.shows.there

pub push_both-requires-2-clause-left : goal.push_both-requires-2-clause-left
push_both-requires-2-clause-left c =
    wire_stays _ _ c.args.active 1 (grows_then _ _ _ (grows_then _ _ _ c.in_ok-test.ensures.grows c.in_ok-chosen.ensures.grows) c.in_ok-fails.ensures.grows) c.requires.active

pub returns : goal.returns
returns c =
    branch_made _ _ _ _ _ c.args.active _ c.args.number c.in_ok-test.test c.in_ok-chosen.chosen c.in_ok-fails.fails c.in_ok-other.other
    c.in_ok-test.ensures c.in_ok-chosen.ensures c.in_ok-fails.ensures c.in_ok-other.ensures
