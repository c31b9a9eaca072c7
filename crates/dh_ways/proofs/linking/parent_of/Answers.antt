use Rattle.std.proofs.Common.{ap}
use Rattle.dh_ways.specs.declared.linking.Link.{Link}
use Rattle.dh_ways.specs.Linked.{ways_linked}
use Rattle.dh_ways.proofs.LinksTold.{link_read, link_told, parent_told}
use Rattle.dh_ways.proofs.linking.parent_of.Goals as goal

pub returns : goal.returns
returns c =
    parent_told (ways_linked c.args.links.now) c.args.place c.index-links-place.result (link_told c.args.links.now c.args.place c.index-links-place.result c.requires.linked (link_read c.args.links.now c.args.place c.index-links-place.result c.requires.there c.index-links-place.is))
    _ (ap (λ (l : Link). l.parent) c.index-links-place.is)
