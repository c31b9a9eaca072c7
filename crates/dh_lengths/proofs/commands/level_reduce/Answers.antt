use Rattle.std.proofs.lemmas.Result.{on_ok_weaker}
use Rattle.dh_lengths.proofs.CommandLevels.{gives_reduce}
use Rattle.dh_lengths.proofs.commands.level_reduce.Goals as goal

pub returns : goal.returns
returns c = on_ok_weaker c.assign.result (λ a. gives_reduce c.args.held.now c.level_term.new.held c.assign.new.self c.args.outer c.level_of-now.result c.in_ok-level.level c.max.result c.args.target.now c.args.value.now c.level_of-now.ensures c.max.ensures c.in_ok-level.ensures a) c.assign.ensures
