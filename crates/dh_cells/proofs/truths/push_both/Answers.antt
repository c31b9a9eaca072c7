use Rattle.std.proofs.lemmas.Result.{IfOk-weaker}
use Rattle.dh_cells.proofs.WiresMade.{both_made}
use Rattle.dh_cells.proofs.truths.push_both.Goals as goal

pub returns : goal.returns
returns c = IfOk-weaker c.push.result _ _ (λ wire h. both_made _ _ wire c.args.a c.args.b c.requires.left c.requires.right h) c.push.ensures.shows
