use Rattle.std.proofs.Common.{ℕ, subst}
use Rattle.std.specs.Prelude.{Option}
use Rattle.std.proofs.lemmas.Result.{IfOk-weaker}
use Rattle.dh_ways.specs.Placed.{FindsPlace}
use Rattle.dh_ways.specs.Stands.{standing_seen}
use Rattle.dh_ways.proofs.PlacedWays.{found_inside}
use Rattle.dh_ways.proofs.WaysMade.{led_behind_one, led_behind_none}
use Rattle.dh_ways.proofs.tracing.lead_behind.Goals as goal

pub at-parent-requires : goal.at-parent-requires
at-parent-requires c = found_inside c.args.ways.now c.args.view.now.parent.now.entity c.place_of.result c.in-Some.place c.place_of.ensures.finds c.in-Some.is

pub returns-in-Some : goal.returns-in-Some
returns-in-Some c =
    let at = subst (λ (o : Option ℕ). FindsPlace c.args.ways.now c.args.view.now.parent.now.entity o) c.in-Some.is c.place_of.ensures.finds in
    let inside = found_inside c.args.ways.now c.args.view.now.parent.now.entity c.place_of.result c.in-Some.place c.place_of.ensures.finds c.in-Some.is in
    IfOk-weaker c.lead_on.result _ _ (λ link h. led_behind_one c.args.ways.now (standing_seen c.args.view.now) c.args.own c.in-Some.place c.at-parent.result link at c.at-parent.ensures (h c.args.ways.now inside c.at-parent.ensures)) c.lead_on.ensures

pub returns-in-None : goal.returns-in-None
returns-in-None c = led_behind_none c.args.ways.now (standing_seen c.args.view.now) c.args.own (subst (λ (o : Option ℕ). FindsPlace c.args.ways.now c.args.view.now.parent.now.entity o) c.in-None.is c.place_of.ensures.finds)
