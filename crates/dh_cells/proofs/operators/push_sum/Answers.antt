use Rattle.std.proofs.lemmas.Result.{IfOk-weaker}
use Rattle.dh_cells.proofs.WiresMade.{sum_made}
use Rattle.dh_cells.proofs.operators.push_sum.Goals as goal

pub returns : goal.returns
returns c =
    IfOk-weaker c.push.result _ _
    (λ wire h. sum_made c.args.kind _ _ wire _ c.args.a c.args.b c.width.ensures c.requires.left c.requires.right c.requires.integers h)
    c.push.ensures.shows
