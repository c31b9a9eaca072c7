use Rattle.std.proofs.lemmas.Result.{IfOk-weaker}
use Rattle.dh_cells.proofs.WiresMade.{match_made}
use Rattle.dh_cells.proofs.truths.push_match.Goals as goal

pub returns : goal.returns
returns c = IfOk-weaker c.push.result _ _ (λ wire h. match_made _ _ _ wire c.args.wire c.in_ok-right.right c.args.number c.args.width c.in_ok-right.ensures h) c.push.ensures.shows
