use Rattle.dh_tree.specs.Seen.{program_seen}
use Rattle.dh_ports.proofs.LayoutFacts.{no_scopes_noted, rounds_none}
use Rattle.dh_ports.proofs.nesting.nests_with.Goals as goal

pub returns-then-has_single_loops-clause-rounds : goal.returns-then-has_single_loops-clause-rounds
returns-then-has_single_loops-clause-rounds c = rounds_none (program_seen c.args.typed.now) c.new-nests.result.rounds.items c.new-nests.ensures.rounds (c.has_single_loops.ensures c.if-has_single_loops.true)

pub returns-then-has_single_loops-clause-scopes : goal.returns-then-has_single_loops-clause-scopes
returns-then-has_single_loops-clause-scopes c = λ id h. no_scopes_noted (program_seen c.args.typed.now) c.new-nests.result.rounds.items c.new-nests.result.scopes.items c.new-nests.ensures.rounds id h
