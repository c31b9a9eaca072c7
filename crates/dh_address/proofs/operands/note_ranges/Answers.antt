use Rattle.std.proofs.Common.{subst, ◌≤◌}
use Rattle.std.specs.Prelude.{◌++◌}
use Rattle.dh_address.specs.WaysMade.{ranges_by}
use Rattle.dh_address.proofs.WayTurns.{ranges_ended}
use Rattle.dh_address.proofs.operands.note_ranges.Goals as goal

pub returns : goal.returns
returns c =
    ranges_ended c.args.dims.now c.args.indices.now c.loop-i.i c.loop-i.ranges (c.args.ranges.now ++ ranges_by c.args.dims.now c.args.indices.now)
    (subst (λ n. n ≤ c.loop-i.i) c.min-i-end.ensures c.loop-i-test.false) c.loop-i.invariant
