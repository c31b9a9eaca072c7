use Rattle.std.proofs.Common.{sym}
use Rattle.dh_ways.specs.Linked.{ways_linked}
use Rattle.dh_ways.proofs.LinksTold.{link_read, link_told, way_told}
use Rattle.dh_ways.proofs.linking.way_at.Goals as goal

pub invariant_of-result : goal.invariant_of-result
invariant_of-result c = record { linked = c.requires.linked; there = link_read c.args.links.now c.args.place c.index-links-place.result c.requires.there c.index-links-place.is }

pub returns : goal.returns
returns c =
    sym (way_told (ways_linked c.args.links.now) c.args.place c.index-links-place.result (link_told c.args.links.now c.args.place c.index-links-place.result c.requires.linked (link_read c.args.links.now c.args.place c.index-links-place.result c.requires.there c.index-links-place.is)))
