use Rattle.std.proofs.Common.{None, ap}
use Rattle.dh_types.specs.Facts.{facts_seen}
use Rattle.dh_types.proofs.ProgramsDone.{walked_as, suits, has_names, has_entities, has_kinds, answered}
use Rattle.dh_types.proofs.programs.type_program.Goals as goal

pub walk_tree-requires : goal.walk_tree-requires
walk_tree-requires c = record { start = ap (λ l. record { facts = facts_seen l; least = None }) c.new.ensures.items }

pub settled-requires-clause-names : goal.settled-requires-clause-names
settled-requires-clause-names c = has_names c.into_tree-tree.result c.walk_tree.new.tree c.walk_tree.new.walk.least c.in-Ok.ensures (rw c.into_tree-tree.ensures.tree c.into_tree-tree.ensures.names)

pub settled-requires-clause-entities : goal.settled-requires-clause-entities
settled-requires-clause-entities c = has_entities c.into_tree-tree.result c.walk_tree.new.tree c.walk_tree.new.walk.least c.in-Ok.ensures (rw c.into_tree-tree.ensures.tree c.into_tree-tree.ensures.entities)

pub settled-requires-clause-kinds : goal.settled-requires-clause-kinds
settled-requires-clause-kinds c = has_kinds c.into_tree-tree.result c.walk_tree.new.tree c.walk_tree.new.walk.least c.in-Ok.ensures

pub settled-requires-clause-suits : goal.settled-requires-clause-suits
settled-requires-clause-suits c = suits c.into_tree-tree.result c.walk_tree.new.tree c.walk_tree.new.walk.least c.in-Ok.ensures

pub returns-in-Ok : goal.returns-in-Ok
returns-in-Ok c =
    answered c.args.named c.walk_tree.new.tree c.walk_tree.new.walk.least (walked_as c.args.named c.into_tree-tree.result c.walk_tree.new.tree c.walk_tree.new.walk.least c.into_tree-tree.ensures.tree c.in-Ok.ensures)
    c.settled.result c.settled.ensures
