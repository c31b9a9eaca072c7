use Rattle.std.proofs.Common.{map}
use Rattle.std.proofs.lemmas.Result.{MatchResult-weaker}
use Rattle.dh_tree.specs.Seen.{defined_seen, action_seen}
use Rattle.dh_tree.proofs.DeclaringParts.{wanting}
use Rattle.dh_types.specs.Walks.{typing_state_of}
use Rattle.dh_types.proofs.ProgramsDone.{walk_done}
use Rattle.dh_types.proofs.Wanting.{some_memories, some_learned, some_walked, some_body}
use Rattle.dh_types.proofs.programs.walk_tree.Goals as goal

pub returns : goal.returns
returns c =
    MatchResult-weaker c.command.result c.command.ensures
    (λ x told. walk_done c.args.tree.now (typing_state_of c.args.walk.now) (typing_state_of c.learn_memories.new.self) (typing_state_of c.learn_functions.new.self) (typing_state_of c.functions.new.self) (typing_state_of c.command.new.self)
    c.deref.result.now c.deref-2.result.now (map defined_seen c.functions.new.functions.items) (action_seen c.command.new.command)
    c.requires.start c.deref.ensures.value c.deref-2.ensures.value c.in_ok-learn_memories.ensures c.in_ok-learn_functions.ensures c.in_ok-functions.ensures told)
    (λ x lacks. some_body c.args.tree.now lacks)

pub returns-in_err-learn_memories : goal.returns-in_err-learn_memories
returns-in_err-learn_memories c = wanting _ _ c.from_residual.ensures (some_memories c.args.tree.now c.deref.result.now c.deref.ensures.value c.in_err-learn_memories.ensures)

pub returns-in_err-learn_functions : goal.returns-in_err-learn_functions
returns-in_err-learn_functions c = wanting _ _ c.from_residual-in_err-learn_functions.ensures (some_learned c.args.tree.now c.deref-2.result.now c.deref-2.ensures.value c.in_err-learn_functions.ensures)

pub returns-in_err-functions : goal.returns-in_err-functions
returns-in_err-functions c = wanting _ _ c.from_residual-in_err-functions.ensures (some_walked c.args.tree.now c.in_err-functions.ensures)
