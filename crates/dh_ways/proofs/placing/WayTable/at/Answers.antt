use Rattle.std.proofs.Common.{◌≡◌, Some, List, subst}
use Rattle.dh_ways.specs.Kept.{KeptLed}
use Rattle.dh_ways.specs.Linked.{way_there}
use Rattle.dh_ways.proofs.LinksTold.{shown_inside, shown_linked, shown_ways}
use Rattle.dh_ways.proofs.placing.WayTable.at.Goals as goal

pub way_at-requires : goal.way_at-requires
way_at-requires c = record {
  linked = shown_linked c.self.inside.links c.as_slice.result.now c.as_slice.ensures c.self.invariant.1;
  there = shown_inside c.self.inside.links c.as_slice.result.now c.args.self.now c.args.place c.as_slice.ensures c.self.view_is c.requires;
}

pub returns : goal.returns
returns c = subst (λ (ls : List KeptLed). Some c.way_at.result ≡ way_there ls (Some c.args.place)) (shown_ways c.self.inside.links c.as_slice.result.now c.args.self.now c.as_slice.ensures c.self.view_is) c.way_at.ensures
