use Rattle.dh_ways.proofs.PlacedWays.{finds_place, place_same}
use Rattle.dh_ways.proofs.placing.WayTable.place_of.Goals as goal

pub returns-clause-place : goal.returns-clause-place
returns-clause-place c = place_same c.self.inside.links c.args.self.now c.self.inside.places.items c.as_slice.result.now c.args.entity c.place_at.result c.self.invariant.0 c.self.view_is c.as_slice.ensures.value c.place_at.ensures

pub returns-clause-finds : goal.returns-clause-finds
returns-clause-finds c = finds_place c.self.inside.links c.args.self.now c.self.inside.places.items c.as_slice.result.now c.args.entity c.place_at.result c.self.invariant.0 c.self.view_is c.as_slice.ensures.value c.place_at.ensures
