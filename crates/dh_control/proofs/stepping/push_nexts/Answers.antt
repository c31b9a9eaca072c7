use Rattle.dh_cells.proofs.CellsAppended.{grows_then, wire_stays}
use Rattle.dh_control.proofs.StepsPaced.{nexts_made}
use Rattle.dh_control.proofs.stepping.push_nexts.Goals as goal

pub push_guarded-requires-clause-guard : goal.push_guarded-requires-clause-guard
push_guarded-requires-clause-guard c = wire_stays _ _ c.args.pace.waiting 1 c.in_ok-more.ensures.grows c.requires.waiting

pub push_choice-requires-clause-test : goal.push_choice-requires-clause-test
push_choice-requires-clause-test c = wire_stays _ _ c.args.pace.last 1 (grows_then _ _ _ c.in_ok-more.ensures.grows c.in_ok-next.ensures.grows) c.requires.last

pub push_choice-requires-clause-left : goal.push_choice-requires-clause-left
push_choice-requires-clause-left c = wire_stays _ _ c.args.failed 32 (grows_then _ _ _ c.in_ok-more.ensures.grows c.in_ok-next.ensures.grows) c.requires.failed

pub push_choice-requires-clause-right : goal.push_choice-requires-clause-right
push_choice-requires-clause-right c = wire_stays _ _ c.args.fault 32 (grows_then _ _ _ c.in_ok-more.ensures.grows c.in_ok-next.ensures.grows) c.requires.fault

pub push_not-requires : goal.push_not-requires
push_not-requires c =
    wire_stays _ _ c.args.pace.going 1 (grows_then _ _ _ (grows_then _ _ _ c.in_ok-more.ensures.grows c.in_ok-next.ensures.grows) c.in_ok-kept.ensures.grows) c.requires.going

pub push_match-requires-clause-there : goal.push_match-requires-clause-there
push_match-requires-clause-there c =
    wire_stays _ _ c.args.fault 32
    (grows_then _ _ _ (grows_then _ _ _ (grows_then _ _ _ c.in_ok-more.ensures.grows c.in_ok-next.ensures.grows) c.in_ok-kept.ensures.grows) c.in_ok-over.ensures.grows) c.requires.fault

pub push_both-requires-clause-left : goal.push_both-requires-clause-left
push_both-requires-clause-left c = wire_stays _ _ c.in_ok-over.over 1 c.in_ok-fine.ensures.grows c.in_ok-over.ensures.shows.there

pub returns : goal.returns
returns c =
    nexts_made _ _ _ _ _ _ _ c.args.width c.args.clock c.args.fault c.args.pace c.args.failed c.in_ok-more.more c.in_ok-next.next c.in_ok-kept.kept c.in_ok-over.over c.in_ok-fine.fine c.in_ok-done.done
    c.in_ok-more.ensures c.in_ok-next.ensures c.in_ok-kept.ensures c.in_ok-over.ensures c.in_ok-fine.ensures c.in_ok-done.ensures
