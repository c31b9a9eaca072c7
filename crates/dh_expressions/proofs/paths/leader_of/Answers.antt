use Rattle.std.proofs.Common.{◌∙◌}
use Rattle.dh_expressions.specs.Levels.{is_counted_level, parts_from}
use Rattle.dh_expressions.proofs.PathLeaders.{parts_last, parts_more}
use Rattle.dh_expressions.proofs.paths.leader_of.Goals as goal

pub loop-i-preserved : goal.loop-i-preserved
loop-i-preserved c = record {
  small = c.saturating_add-leader.type_inv;
  sum =
      parts_more c.args.levels.now (is_counted_level c.args.counts.now) c.args.number c.loop-i.leader c.leader_part-part.result c.saturating_add-leader.result c.loop-i.i _ _ c.counts_at.result c.loop-i-test.true c.counts_at.ensures c.leader_part-part.ensures
      c.saturating_add-leader.ensures c.loop-i.invariant.sum;
}

pub returns : goal.returns
returns c =
    c.min.ensures
    ∙ parts_last c.args.levels.now (is_counted_level c.args.counts.now) c.args.number c.loop-i.leader c.loop-i.i (parts_from c.args.levels.now (is_counted_level c.args.counts.now) 0 c.args.number) c.loop-i-test.false c.loop-i.invariant.small c.ranges.number.fits c.loop-i.invariant.sum
