use Rattle.std.proofs.Common.{ap, sym, ◌∙◌}
use Rattle.dh_ways.specs.Linked.{way_there, ways_linked}
use Rattle.dh_ways.proofs.LinksTold.{parent_there}
use Rattle.dh_ways.proofs.linking.way_behind.Goals as goal

pub way_at-requires : goal.way_at-requires
way_at-requires c = record { linked = c.requires.linked; there = parent_there c.args.links.now c.args.place c.args.link.now c.in-Some.parent c.requires c.in-Some.is }

pub returns-in-Some : goal.returns-in-Some
returns-in-Some c = c.way_at.ensures ∙ ap (way_there (ways_linked c.args.links.now)) (sym c.in-Some.is)

pub returns-in-None : goal.returns-in-None
returns-in-None c = ap (way_there (ways_linked c.args.links.now)) (sym c.in-None.is)
