use Rattle.std.proofs.Common.{ℕ, sym, subst}
use Rattle.std.specs.Prelude.{Option}
use Rattle.dh_ways.specs.Placed.{FindsPlace}
use Rattle.dh_ways.proofs.PlacedWays.{found_inside, found_way}
use Rattle.dh_ways.proofs.placing.WayTable.get.Goals as goal

pub at-requires : goal.at-requires
at-requires c = found_inside c.args.self.now c.args.entity c.place_of.result c.in-Some.place c.place_of.ensures.finds c.in-Some.is

pub returns-in-Some : goal.returns-in-Some
returns-in-Some c = found_way c.args.self.now c.args.entity c.in-Some.place c.at.result (subst (λ (o : Option ℕ). FindsPlace c.args.self.now c.args.entity o) c.in-Some.is c.place_of.ensures.finds) c.at.ensures

pub returns-in-None : goal.returns-in-None
returns-in-None c = sym (subst (λ (o : Option ℕ). FindsPlace c.args.self.now c.args.entity o) c.in-None.is c.place_of.ensures.finds)
