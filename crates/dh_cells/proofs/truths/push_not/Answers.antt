use Rattle.std.proofs.lemmas.Result.{IfOk-weaker}
use Rattle.dh_cells.proofs.WiresMade.{not_made}
use Rattle.dh_cells.proofs.truths.push_not.Goals as goal

pub returns : goal.returns
returns c = IfOk-weaker c.push.result _ _ (λ wire h. not_made _ _ _ wire c.args.a c.in_ok-zero.zero c.requires c.in_ok-zero.ensures h) c.push.ensures.shows
