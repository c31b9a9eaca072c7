use Rattle.std.proofs.lemmas.Result.{IfOk-weaker}
use Rattle.dh_cells.proofs.WiresMade.{equal_made}
use Rattle.dh_cells.proofs.operators.push_equal.Goals as goal

pub returns : goal.returns
returns c = IfOk-weaker c.push.result _ _ (λ wire h. equal_made c.args.kind _ _ wire c.args.a c.args.b c.requires.left c.requires.right h) c.push.ensures.shows
