use Rattle.std.proofs.Common.{refl, ◌-◌}
use Rattle.dh_rows.proofs.TurnsOfBits.{below_bound, taken_turn}
use Rattle.dh_rows.proofs.dividing.divide_long.Goals as goal

pub loop-by-preserved : goal.loop-by-preserved
loop-by-preserved c =
    taken_turn c.loop-by.list c.take_part.new.list c.args.width c.args.banks c.loop-by.by (c.loop-by.by - 1) c.loop-by.so_far.quotient c.loop-by.so_far.rest _ c.in_ok-so_far.so_far _
    (below_bound c.loop-by.by c.loop-by-test.true) refl c.in_ok-so_far.ensures c.loop-by.invariant
