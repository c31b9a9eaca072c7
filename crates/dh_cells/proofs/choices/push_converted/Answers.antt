use Rattle.std.proofs.lemmas.Result.{IfOk-weaker}
use Rattle.dh_cells.proofs.WiresMade.{same_made, low_made}
use Rattle.dh_cells.proofs.choices.push_converted.Goals as goal

pub returns-then-wanted-had : goal.returns-then-wanted-had
returns-then-wanted-had c = same_made c.args.from c.args.to _ c.args.wire _ _ c.width-wanted.ensures c.width-had.ensures c.if-wanted-had.true c.requires.there

pub returns-then-wanted-had-2 : goal.returns-then-wanted-had-2
returns-then-wanted-had-2 c =
    IfOk-weaker c.push.result _ _ (λ new h. low_made c.args.from c.args.to _ _ new c.args.wire _ _ c.width-wanted.ensures c.width-had.ensures c.if-wanted-had-2.true h) c.push.ensures.shows
