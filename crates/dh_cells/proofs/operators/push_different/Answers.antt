use Rattle.std.proofs.lemmas.Result.{IfOk-weaker}
use Rattle.dh_cells.proofs.WiresMade.{different_made}
use Rattle.dh_cells.proofs.operators.push_different.Goals as goal

pub returns : goal.returns
returns c = IfOk-weaker c.push_not.result _ _ (λ wire h. different_made c.args.kind _ _ _ wire c.in_ok-equal.equal c.args.a c.args.b c.in_ok-equal.ensures h) c.push_not.ensures
