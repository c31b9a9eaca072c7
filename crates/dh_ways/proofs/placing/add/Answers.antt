use Rattle.std.specs.Prelude.{is_ok}
use Rattle.dh_ways.proofs.LinksTold.{linked_pushed, ways_pushed}
use Rattle.dh_ways.proofs.PlacedWays.{none_pushed}
use Rattle.dh_ways.proofs.placing.add.Goals as goal

pub returns-in-Some-clause-linked : goal.returns-in-Some-clause-linked
returns-in-Some-clause-linked c = linked_pushed c.args.links.now c.add_entity.new.links c.args.link (is_ok c.add_entity.result) c.requires.linked c.requires.follows c.add_entity.ensures.added

pub returns-in-Some-clause-added : goal.returns-in-Some-clause-added
returns-in-Some-clause-added c = ways_pushed c.add_entity.result c.args.links.now c.add_entity.new.links c.args.link c.add_entity.ensures.added

pub returns-in-None-clause-placed : goal.returns-in-None-clause-placed
returns-in-None-clause-placed c = none_pushed c.args.links.now c.push.new.self c.args.link c.args.places.now.items (is_ok c.push.result) c.requires.placed c.in-None.is c.push.ensures

pub returns-in-None-clause-linked : goal.returns-in-None-clause-linked
returns-in-None-clause-linked c = linked_pushed c.args.links.now c.push.new.self c.args.link (is_ok c.push.result) c.requires.linked c.requires.follows c.push.ensures

pub returns-in-None-clause-added : goal.returns-in-None-clause-added
returns-in-None-clause-added c = ways_pushed c.push.result c.args.links.now c.push.new.self c.args.link c.push.ensures
