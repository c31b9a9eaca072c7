use Rattle.std.proofs.Common.{◌*◌, arith}
use Rattle.dh_bind.proofs.Noting.{raise_turn}
use Rattle.dh_bind.proofs.costs.note_banks.Goals as goal

pub loop-listed-preserved : goal.loop-listed-preserved
loop-listed-preserved c =
    raise_turn (c.args.reach.now.access * c.args.wide) c.args.wide c.places-row.result c.args.reach.now.banks c.as_slice-listed-items.result.now c.loop-listed.listed-index c.args.counts.now c.loop-listed.counts c.max.result
    c.as_slice-listed-items.ensures c.places-row.ensures.number (omega arith) c.requires.row c.requires.fit c.loop-listed.invariant c.max.ensures
