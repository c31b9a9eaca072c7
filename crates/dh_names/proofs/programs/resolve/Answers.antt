use Rattle.dh_tree.specs.Seen.{program_seen}
use Rattle.dh_names.proofs.ProgramsAnswered.{keeps_names, has_entities, answered}
use Rattle.dh_names.proofs.programs.resolve.Goals as goal

pub named-requires-clause-names : goal.named-requires-clause-names
named-requires-clause-names c = keeps_names (program_seen c.args.tree) c.walk_program.new.tree c.in-Ok.found c.in-Ok.ensures

pub named-requires-clause-entities : goal.named-requires-clause-entities
named-requires-clause-entities c = has_entities (program_seen c.args.tree) c.walk_program.new.tree c.in-Ok.found c.in-Ok.ensures

pub returns-in-Ok : goal.returns-in-Ok
returns-in-Ok c = answered (program_seen c.args.tree) c.walk_program.new.tree c.in-Ok.found c.named.result c.in-Ok.ensures c.named.ensures
