use Rattle.std.proofs.lemmas.Result.{IfOk-weaker}
use Rattle.dh_cells.proofs.WiresMade.{difference_made}
use Rattle.dh_cells.proofs.operators.push_difference.Goals as goal

pub returns : goal.returns
returns c =
    IfOk-weaker c.push.result _ _
    (λ wire h. difference_made c.args.kind _ _ wire _ c.args.a c.args.b c.width.ensures c.requires.left c.requires.right c.requires.integers h)
    c.push.ensures.shows
