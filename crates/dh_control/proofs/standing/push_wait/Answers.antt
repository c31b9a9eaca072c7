use Rattle.std.proofs.lemmas.Result.{IfOk-weaker}
use Rattle.dh_cells.proofs.CellsAppended.{wire_stays, grows_then}
use Rattle.dh_control.proofs.StandsTell.{less_next, wait_made}
use Rattle.dh_control.proofs.standing.push_wait.Goals as goal

pub push-requires : goal.push-requires
push-requires c = less_next _ c.args.clock c.in_ok-last.last c.args.width (wire_stays _ _ c.args.clock c.args.width c.in_ok-last.ensures.grows c.requires.clock) c.in_ok-last.ensures.shows.there

pub push_both-requires-clause-left : goal.push_both-requires-clause-left
push_both-requires-clause-left c = wire_stays _ _ c.args.active 1 (grows_then _ _ _ c.in_ok-last.ensures.grows c.in_ok-earlier.ensures.shows.grows) c.requires.active

pub returns : goal.returns
returns c =
    IfOk-weaker c.push_both.result _ _
    (λ wire h. wait_made _ _ _ _ c.args.width c.args.clock c.args.active c.args.len c.in_ok-last.last c.in_ok-earlier.earlier wire c.requires.some c.in_ok-last.ensures c.in_ok-earlier.ensures.shows h) c.push_both.ensures
