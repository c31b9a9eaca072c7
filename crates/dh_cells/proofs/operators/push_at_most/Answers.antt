use Rattle.std.proofs.lemmas.Result.{IfOk-weaker}
use Rattle.dh_cells.proofs.WiresMade.{at_most_made}
use Rattle.dh_cells.proofs.operators.push_at_most.Goals as goal

pub returns : goal.returns
returns c = IfOk-weaker c.push_not.result _ _ (λ wire h. at_most_made c.args.kind _ _ _ wire c.in_ok-greater.greater c.args.a c.args.b c.in_ok-greater.ensures h) c.push_not.ensures
