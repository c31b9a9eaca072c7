use Rattle.std.proofs.Common.{ℕ, ◌<◌, map, subst, arith}
use Rattle.dh_ways.specs.Seen.{led_seen}
use Rattle.dh_unroll.proofs.ViewsListed.{lists_all, lists_none}
use Rattle.dh_unroll.proofs.viewing.list_views.Goals as goal

pub loop-place-init : goal.loop-place-init
loop-place-init c = lists_none (map led_seen c.args.ways.now) c.new-views.result c.new-through.result.items c.new-views.ensures c.new-through.ensures.items

pub list_at-requires-clause-there : goal.list_at-requires-clause-there
list_at-requires-clause-there c = subst (λ (n : ℕ). c.loop-place.place < n) c.len-place-end.ensures c.loop-place-test.true

pub list_at-requires-clause-leads : goal.list_at-requires-clause-leads
list_at-requires-clause-leads c = c.requires.leads

pub list_at-requires-clause-lists : goal.list_at-requires-clause-lists
list_at-requires-clause-lists c = c.loop-place.invariant

pub returns : goal.returns
returns c =
    let few = c.requires.few in
    lists_all c.args.ways.now c.loop-place.place c.len-place-end.result c.loop-place.views c.loop-place.through.items c.len-place-end.ensures c.loop-place-test.false c.loop-place.auto.place-end (omega (arith, few)) c.loop-place.invariant
