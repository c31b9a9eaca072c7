use Rattle.std.proofs.lemmas.Result.{IfOk-weaker}
use Rattle.dh_cells.proofs.CellsAppended.{wire_stays}
use Rattle.dh_cells.proofs.WireTrees.{first_done}
use Rattle.dh_cells.proofs.trees.push_first.Goals as goal

pub push_choice-requires-clause-right : goal.push_choice-requires-clause-right
push_choice-requires-clause-right c = wire_stays _ _ c.args.default c.args.width c.in_ok-found.ensures.grows c.requires.default

pub returns : goal.returns
returns c =
    IfOk-weaker c.push_choice.result _ _
    (λ wire h. first_done _ _ _ c.args.width wire c.args.default c.args.tests.now c.in_ok-found.found c.in_ok-found.ensures h) c.push_choice.ensures
