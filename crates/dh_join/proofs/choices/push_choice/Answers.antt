use Rattle.std.proofs.lemmas.Result.{IfOk-weaker}
use Rattle.dh_join.proofs.CellsGrown.{choice_added, choice_same}
use Rattle.dh_join.proofs.choices.push_choice.Goals as goal

pub returns-then-a-b : goal.returns-then-a-b
returns-then-a-b c = choice_same _ c.args.width c.args.test c.args.a c.args.b c.if-a-b.true c.requires.left

pub returns-else-a-b : goal.returns-else-a-b
returns-else-a-b c =
    IfOk-weaker c.push_cell.result _ _ (λ wire h. choice_added _ _ c.args.width c.args.test c.args.a c.args.b wire c.requires.test c.requires.left c.requires.right h) c.push_cell.ensures
