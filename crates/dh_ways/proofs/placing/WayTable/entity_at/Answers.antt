use Rattle.std.proofs.Common.{◌≡◌, Some, List, subst}
use Rattle.dh_ways.specs.Kept.{KeptLed}
use Rattle.std.specs.Prelude.{option_map, slice_get}
use Rattle.dh_ways.proofs.LinksTold.{shown_inside, shown_linked, shown_ways}
use Rattle.dh_ways.proofs.placing.WayTable.entity_at.Goals as goal

pub entity_of-requires : goal.entity_of-requires
entity_of-requires c = record {
  linked = shown_linked c.self.inside.links c.as_slice.result.now c.as_slice.ensures c.self.invariant.1;
  there = shown_inside c.self.inside.links c.as_slice.result.now c.args.self.now c.args.place c.as_slice.ensures c.self.view_is c.requires;
}

pub returns : goal.returns
returns c = subst (λ (ls : List KeptLed). Some c.entity_of.result ≡ option_map (λ (l : KeptLed). l.entity) (slice_get ls c.args.place)) (shown_ways c.self.inside.links c.as_slice.result.now c.args.self.now c.as_slice.ensures c.self.view_is) c.entity_of.ensures
