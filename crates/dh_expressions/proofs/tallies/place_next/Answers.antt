use Rattle.dh_expressions.proofs.CopiesCounted.{placed_next}
use Rattle.dh_expressions.proofs.tallies.place_next.Goals as goal

pub returns : goal.returns
returns c =
    placed_next c.args.tally c.entered-now.result c.counted-next.result c.args.group c.args.bank c.get_at-count.result c.saturating_add-sum.result c.narrow-place.result c.args.leads c.is_group-same.result c.args.numbers.now.items
    c.keep_counts.new.numbers.items c.as_slice.result.now c.count_leader.new.numbers.items c.is_group-same.ensures c.keep_counts.ensures c.entered-now.ensures c.as_slice.ensures.value c.get_at-count.ensures c.saturating_add-sum.ensures c.narrow-place.ensures
    c.counted-next.ensures c.in_ok-count_leader.ensures
