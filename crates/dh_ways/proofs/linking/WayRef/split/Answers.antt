use Rattle.dh_ways.specs.Linked.{ways_linked}
use Rattle.dh_ways.proofs.LinksTold.{split_told}
use Rattle.dh_ways.proofs.linking.WayRef.split.Goals as goal

pub way_behind-behind-requires : goal.way_behind-behind-requires
way_behind-behind-requires c = c.self.invariant

pub returns : goal.returns
returns c = split_told (ways_linked c.self.inside.links.now) c.self.inside.link.now c.args.self.now c.as_slice.result.now c.way_behind-behind.result c.self.view_is c.as_slice.ensures c.way_behind-behind.ensures
