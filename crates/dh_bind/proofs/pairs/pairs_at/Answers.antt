-- One turn over the listed banks.
use Rattle.std.proofs.Common.{arith}
use Rattle.dh_bind.proofs.Paired.{pairs_turn}
use Rattle.dh_bind.proofs.pairs.pairs_at.Goals as goal

pub loop-listed-preserved : goal.loop-listed-preserved
loop-listed-preserved c =
    let t = pairs_turn c.args.wide c.args.firsts.now c.args.reach.now.access c.places-row.result c.args.reach.now.banks c.as_slice-listed-items.result.now c.loop-listed.listed-index c.loop-listed.pairs c.push_pair.new.pairs _
    c.as_slice-listed-items.ensures (omega arith) c.places-row.ensures.number c.requires.fits.row c.loop-listed.invariant.fit c.loop-listed.invariant.so_far c.in_ok-push_pair.ensures in
    record { so_far = t.0; fit = t.1 }
