use Rattle.std.proofs.lemmas.Result.{IfOk-weaker}
use Rattle.dh_join.proofs.CellsGrown.{either_added}
use Rattle.dh_join.proofs.choices.push_either.Goals as goal

pub returns : goal.returns
returns c = IfOk-weaker c.push_cell.result _ _ (λ wire h. either_added _ _ c.args.a c.args.b wire c.requires.left c.requires.right h) c.push_cell.ensures
