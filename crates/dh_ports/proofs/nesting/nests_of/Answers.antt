use Rattle.std.proofs.Common.{ap}
use Rattle.dh_tree.specs.declared.trees.programs.Tree.{Tree}
use Rattle.dh_tree.specs.Seen.{action_seen, program_seen}
use Rattle.dh_ports.proofs.LayoutFacts.{no_scopes_noted, rounds_none, rounds_noted, scopes_noted, stages_noted}
use Rattle.dh_ports.proofs.nesting.nests_of.Goals as goal

pub returns-then-has_single_loops-clause-stages : goal.returns-then-has_single_loops-clause-stages
returns-then-has_single_loops-clause-stages c =
    stages_noted (program_seen c.args.typed.now) (action_seen c.tree.result.now.body) (ap (λ (t : Tree). action_seen t.body) c.tree.ensures.tree) c.new-nests.result.stages.items c.note_stages.new.stages.items c.new-nests.ensures.stages c.in_ok-note_stages.ensures.noted

pub returns-then-has_single_loops-clause-rounds : goal.returns-then-has_single_loops-clause-rounds
returns-then-has_single_loops-clause-rounds c = rounds_none (program_seen c.args.typed.now) c.new-nests.result.rounds.items c.new-nests.ensures.rounds (c.has_single_loops.ensures c.if-has_single_loops.true)

pub returns-then-has_single_loops-clause-scopes : goal.returns-then-has_single_loops-clause-scopes
returns-then-has_single_loops-clause-scopes c = λ id h. no_scopes_noted (program_seen c.args.typed.now) c.new-nests.result.rounds.items c.new-nests.result.scopes.items c.new-nests.ensures.rounds id h

pub returns-clause-stages : goal.returns-clause-stages
returns-clause-stages c =
    stages_noted (program_seen c.args.typed.now) (action_seen c.tree.result.now.body) (ap (λ (t : Tree). action_seen t.body) c.tree.ensures.tree) c.new-nests.result.stages.items c.note_nests.new.nests.stages.items c.new-nests.ensures.stages c.in_ok-note_nests.ensures.noted

pub returns-clause-rounds : goal.returns-clause-rounds
returns-clause-rounds c =
    rounds_noted (program_seen c.args.typed.now) (action_seen c.tree.result.now.body) (ap (λ (t : Tree). action_seen t.body) c.tree.ensures.tree) c.new-nests.result.rounds c.note_nests.new.nests.rounds c.new-nests.ensures.rounds c.in_ok-note_nests.ensures.rounds

pub returns-clause-scopes : goal.returns-clause-scopes
returns-clause-scopes c = λ id h.
    scopes_noted (program_seen c.args.typed.now) (action_seen c.tree.result.now.body) (ap (λ (t : Tree). action_seen t.body) c.tree.ensures.tree) c.new-nests.result.scopes.items c.note_nests.new.nests.scopes.items c.new-nests.ensures.scopes c.in_ok-note_nests.ensures.scopes
