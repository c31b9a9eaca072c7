use Rattle.std.proofs.Common.{◌++◌, map, arith, add-one}
use denote.Ref.{Bor}
use Rattle.dh_tree.specs.declared.viewing.ViewMap.{ViewMap}
use Rattle.dh_meaning.specs.Ways.{step_of}
use Rattle.dh_expressions.specs.Evaluated.{steps_told}
use Rattle.dh_expressions.proofs.WaysShown.{map_shown, shown_past, shown_within, steps_last, steps_turn}
use Rattle.dh_expressions.proofs.passages.add_views.Goals as goal

pub behind-rest-requires : goal.behind-rest-requires
behind-rest-requires c = let e = c.in_ok-count.ensures.taken_is in omega (arith, e)

pub loop-i-preserved : goal.loop-i-preserved
loop-i-preserved c = rw (add-one c.loop-i.i)
    (steps_turn c.args.scene.now.through.now (map (λ (v : Bor ViewMap). v.now) c.args.links.now) c.loop-i.i c.loop-i.number c.view_behind-number.result c.in_ok-count.count c.loop-i.rest.now c.behind-rest.result.now c.loop-i.steps c.add_view.new.steps
    (c.args.steps.now ++ steps_told c.args.scene.now.through.now c.args.first (map step_of (map (λ (v : Bor ViewMap). v.now) c.args.links.now)) c.args.values.now) c.index-links-i.result.now (shown_within c.args.links.now c.loop-i.i c.loop-i-test.true) (map_shown c.args.links.now c.loop-i.i c.index-links-i.result c.loop-i-test.true c.index-links-i.is)
    c.in_ok-count.ensures c.behind-rest.ensures c.view_behind-number.ensures c.loop-i.invariant)

pub returns : goal.returns
returns c =
    steps_last c.args.scene.now.through.now (map (λ (v : Bor ViewMap). v.now) c.args.links.now) c.loop-i.i c.loop-i.number c.loop-i.rest.now c.loop-i.steps (c.args.steps.now ++ steps_told c.args.scene.now.through.now c.args.first (map step_of (map (λ (v : Bor ViewMap). v.now) c.args.links.now)) c.args.values.now)
    (shown_past c.args.links.now c.loop-i.i c.loop-i-test.false) c.loop-i.invariant
