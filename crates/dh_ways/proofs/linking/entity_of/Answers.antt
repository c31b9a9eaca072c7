use Rattle.std.proofs.Common.{Some, ap, sym, ◌∙◌}
use Rattle.dh_ways.specs.declared.linking.Link.{Link}
use Rattle.dh_ways.specs.Linked.{ways_linked}
use Rattle.dh_ways.proofs.LinksTold.{entity_told, link_read, link_told}
use Rattle.dh_ways.proofs.linking.entity_of.Goals as goal

pub returns : goal.returns
returns c =
    ap (λ (l : Link). Some l.entity) (sym c.index-links-place.is)
    ∙ entity_told (ways_linked c.args.links.now) c.args.place c.index-links-place.result (link_told c.args.links.now c.args.place c.index-links-place.result c.requires.linked (link_read c.args.links.now c.args.place c.index-links-place.result c.requires.there c.index-links-place.is))
