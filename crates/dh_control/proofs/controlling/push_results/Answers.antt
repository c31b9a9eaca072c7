use Rattle.std.proofs.Common.{◌++◌, ◌∷◌, [], ap, ◌∙◌}
use Rattle.dh_cells.proofs.CellsAppended.{grows_then, wire_stays}
use Rattle.dh_control.proofs.ControlPut.{from_none, moves_listed, one_sized, results_made}
use Rattle.dh_control.proofs.MovedLists.{sized_stay}
use Rattle.dh_control.proofs.controlling.push_results.Goals as goal

pub push_lead-requires-clause-active : goal.push_lead-requires-clause-active
push_lead-requires-clause-active c = wire_stays _ _ c.args.verdict.faulted 1 c.in_ok-push_ways.ensures.grows c.requires.faulted

pub push_moved-requires-clause-wires : goal.push_moved-requires-clause-wires
push_moved-requires-clause-wires c = sized_stay _ _ c.args.widths.now c.args.after.now (grows_then _ _ _ c.in_ok-push_ways.ensures.grows c.in_ok-push_lead.ensures.grows) c.requires.after

pub push_moved-requires-clause-moves : goal.push_moved-requires-clause-moves
push_moved-requires-clause-moves c =
    moves_listed _ _ c.args.widths.now _ c.as_slice.result.now c.in_ok-push_lead.ensures.grows (c.in_ok-push_ways.ensures.moves_fit (from_none c.args.circuit.now c.args.widths.now _ c.new-moves.ensures)) c.as_slice.ensures

pub push_moved-requires-2-clause-wires : goal.push_moved-requires-2-clause-wires
push_moved-requires-2-clause-wires c =
    one_sized _ _ c.args.width c.args.state (grows_then _ _ _ (grows_then _ _ _ c.in_ok-push_ways.ensures.grows c.in_ok-push_lead.ensures.grows) c.in_ok-news.ensures.grows) c.requires.state

pub push_moved-requires-2-clause-moves : goal.push_moved-requires-2-clause-moves
push_moved-requires-2-clause-moves c =
    moves_listed _ _ (c.args.width ∷ []) _ c.as_slice-2.result.now c.in_ok-news.ensures.grows
    (c.in_ok-push_lead.ensures.fits (c.in_ok-push_ways.ensures.leads_fit (from_none c.args.circuit.now (c.args.width ∷ []) _ c.new-leads.ensures))) c.as_slice-2.ensures

pub returns : goal.returns
returns c =
    results_made _ _ _ _ _ c.args.widths.now c.args.after.now _ c.args.width c.args.state c.args.verdict c.args.states.now _ _ c.as_slice.result.now _ _ _ c.as_slice-2.result.now c.in_ok-news.news c.in_ok-state.state
    (c.in_ok-extend_from_slice.ensures.items ∙ ap (λ l. l ++ c.args.after.now) c.new-wires.ensures.items) c.new-moves.ensures c.new-leads.ensures c.in_ok-push_ways.ensures c.in_ok-push_lead.ensures c.as_slice.ensures
    c.in_ok-news.ensures c.as_slice-2.ensures c.in_ok-state.ensures
