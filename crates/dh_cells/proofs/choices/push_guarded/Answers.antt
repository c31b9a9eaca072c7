use Rattle.std.proofs.lemmas.Result.{IfOk-weaker}
use Rattle.dh_cells.proofs.CellsAppended.{wire_stays}
use Rattle.dh_cells.proofs.WiresMade.{guarded_made}
use Rattle.dh_cells.proofs.choices.push_guarded.Goals as goal

pub push_choice-requires-clause-test : goal.push_choice-requires-clause-test
push_choice-requires-clause-test c = wire_stays _ _ c.args.guard 1 c.in_ok-zero.ensures.grows c.requires.guard

pub push_choice-requires-clause-left : goal.push_choice-requires-clause-left
push_choice-requires-clause-left c = wire_stays _ _ c.args.a c.args.width c.in_ok-zero.ensures.grows c.requires.there

pub returns : goal.returns
returns c = IfOk-weaker c.push_choice.result _ _ (λ wire h. guarded_made _ _ _ wire c.args.guard c.args.a c.in_ok-zero.zero c.args.width c.in_ok-zero.ensures h) c.push_choice.ensures
