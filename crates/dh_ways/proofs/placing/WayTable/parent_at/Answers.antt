use Rattle.std.proofs.Common.{List, subst}
use Rattle.dh_ways.specs.Kept.{KeptLed}
use Rattle.dh_ways.specs.Linked.{IsParentAt}
use Rattle.dh_ways.proofs.LinksTold.{shown_inside, shown_linked, shown_ways}
use Rattle.dh_ways.proofs.placing.WayTable.parent_at.Goals as goal

pub parent_of-requires : goal.parent_of-requires
parent_of-requires c = record {
  linked = shown_linked c.self.inside.links c.as_slice.result.now c.as_slice.ensures c.self.invariant.1;
  there = shown_inside c.self.inside.links c.as_slice.result.now c.args.self.now c.args.place c.as_slice.ensures c.self.view_is c.requires;
}

pub returns : goal.returns
returns c = subst (λ (ls : List KeptLed). IsParentAt ls c.args.place c.parent_of.result) (shown_ways c.self.inside.links c.as_slice.result.now c.args.self.now c.as_slice.ensures c.self.view_is) c.parent_of.ensures
