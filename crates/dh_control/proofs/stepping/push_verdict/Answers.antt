use Rattle.dh_cells.proofs.CellsAppended.{grows_then, wire_stays}
use Rattle.dh_cells.proofs.WireTrees.{tests_stay}
use Rattle.dh_control.proofs.StepsPaced.{verdict_made}
use Rattle.dh_control.proofs.stepping.push_verdict.Goals as goal

pub push_first-requires-clause-wires : goal.push_first-requires-clause-wires
push_first-requires-clause-wires c = tests_stay _ _ c.args.tests.now 32 c.in_ok-none.ensures.grows c.requires.tests

pub push_both-requires-clause-left : goal.push_both-requires-clause-left
push_both-requires-clause-left c =
    wire_stays _ _ c.args.last 1 (grows_then _ _ _ (grows_then _ _ _ c.in_ok-none.ensures.grows c.in_ok-failed.ensures.grows) c.in_ok-fine.ensures.grows) c.requires.last

pub push_not-requires : goal.push_not-requires
push_not-requires c = wire_stays _ _ c.in_ok-fine.fine 1 c.in_ok-commit.ensures.grows c.in_ok-fine.ensures.shows.there

pub push_both-requires-2-clause-left : goal.push_both-requires-2-clause-left
push_both-requires-2-clause-left c =
    wire_stays _ _ c.args.last 1
    (grows_then _ _ _ (grows_then _ _ _ (grows_then _ _ _ (grows_then _ _ _ c.in_ok-none.ensures.grows c.in_ok-failed.ensures.grows) c.in_ok-fine.ensures.grows) c.in_ok-commit.ensures.grows) c.in_ok-wrong.ensures.grows)
    c.requires.last

pub returns : goal.returns
returns c =
    verdict_made _ _ _ _ _ _ _ c.args.last c.in_ok-none.none c.in_ok-failed.failed c.in_ok-fine.fine c.in_ok-commit.commit c.in_ok-wrong.wrong c.in_ok-faulted.faulted c.args.tests.now
    c.in_ok-none.ensures c.in_ok-failed.ensures c.in_ok-fine.ensures c.in_ok-commit.ensures c.in_ok-wrong.ensures c.in_ok-faulted.ensures
