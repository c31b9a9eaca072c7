use Rattle.std.proofs.lemmas.Result.{IfOk-weaker}
use Rattle.dh_cells.proofs.WiresMade.{alike_made}
use Rattle.dh_cells.proofs.operators.push_operator.Goals as goal

pub returns-in-Add : goal.returns-in-Add
returns-in-Add c =
    IfOk-weaker c.push_alike.result _ _
    (λ wire h. alike_made c.args.op c.args.left_kind c.args.right_kind _ _ wire c.args.a c.args.b c.requires.suits h) c.push_alike.ensures
