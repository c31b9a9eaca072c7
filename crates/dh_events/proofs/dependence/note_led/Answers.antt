use Rattle.std.proofs.Common.{ℕ, ◌<◌, subst}
use Rattle.dh_events.proofs.ScopeFacts.{place_turn}
use Rattle.dh_events.proofs.dependence.note_led.Goals as goal

pub at-way-requires : goal.at-way-requires
at-way-requires c = subst (λ (n : ℕ). c.loop-place.place < n) c.len-place-end.ensures c.loop-place-test.true

pub entity_at-entity-requires : goal.entity_at-entity-requires
entity_at-entity-requires c = subst (λ (n : ℕ). c.loop-place.place < n) c.len-place-end.ensures c.loop-place-test.true

pub loop-place-preserved : goal.loop-place-preserved
loop-place-preserved c =
    place_turn c.args.ways.now c.loop-place.place c.entity_at-entity.result c.at-way.result _ _ c.deepest.result c.told_depth-depth.result _ (subst (λ (n : ℕ). c.loop-place.place < n) c.len-place-end.ensures c.loop-place-test.true)
    c.entity_at-entity.ensures c.at-way.ensures c.deepest.ensures c.told_depth-depth.ensures c.in_ok-declare_entity.ensures c.loop-place.invariant
