use Rattle.std.proofs.Common.{◌≤◌, ◌^◌, arith}
use Rattle.std.proofs.Math.Pow.{pow_mono}
use Rattle.std.proofs.lemmas.Result.{IfOk-weaker}
use Rattle.dh_cells.proofs.CellsAppended.{wire_stays}
use Rattle.dh_cells.proofs.WiresMade.{sum_next, more_made}
use Rattle.dh_cells.proofs.truths.push_more.Goals as goal

pub push_constant-requires-clause-fits : goal.push_constant-requires-clause-fits
push_constant-requires-clause-fits c =
    let more : 2 ^ 1 ≤ 2 ^ c.args.width = pow_mono c.requires.least in
    omega (arith, more)

pub push-requires : goal.push-requires
push-requires c =
    sum_next _ c.args.wire c.in_ok-one.one c.args.width (wire_stays _ _ c.args.wire c.args.width c.in_ok-one.ensures.grows c.requires) c.in_ok-one.ensures.shows.there

pub returns : goal.returns
returns c = IfOk-weaker c.push.result _ _ (λ wire h. more_made _ _ _ wire c.args.wire c.in_ok-one.one c.args.width c.in_ok-one.ensures h) c.push.ensures.shows
