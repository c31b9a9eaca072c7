use Rattle.std.proofs.Common.{arith, sym, map, subst, ◌+◌}
use Rattle.std.proofs.lemmas.Result.{on_ok_weaker}
use Rattle.dh_tree.specs.NameCounts.{declared_in}
use Rattle.dh_tree.specs.Seen.{formal_seen, action_seen, defined_seen}
use Rattle.dh_names.specs.Walks.{HasRoomToDeclare, state_of}
use Rattle.dh_names.proofs.Wanting.{bound_ok}
use Rattle.dh_names.proofs.FunctionsDone.{function_done, length_map}
use Rattle.dh_names.proofs.walks.NameWalk.function.Goals as goal

pub parameters-requires : goal.parameters-requires
parameters-requires c = omega (arith, c.requires.room)

pub returns : goal.returns
returns c =
    on_ok_weaker c.bind.result
    (λ bound. function_done c.args.number (state_of c.args.self.now) (state_of c.parameters.new.self) (state_of c.command.new.self) (defined_seen c.args.function.now) (map formal_seen c.parameters.new.parameters.items) (action_seen c.command.new.command) c.bind.new.self c.truncate.new.self
    c.requires.outside
    (subst (λ n. HasRoomToDeclare (state_of c.args.self.now) (n + declared_in (action_seen c.args.function.now.body))) (sym (length_map formal_seen c.args.function.now.parameters.items)) c.requires.room)
    (λ room. c.in_ok-parameters.ensures)
    c.in_ok-command.ensures.names c.truncate.ensures bound)
    (bound_ok c.command.new.self.names.outer c.bind.new.self c.args.function.now.name.name c.args.number c.bind.result c.bind.ensures)
