use Rattle.std.proofs.lemmas.Result.{IfOk-weaker}
use Rattle.dh_bind.proofs.PortsBound.{ports_fit, are_placed, no_stop}
use Rattle.dh_bind.proofs.binding.ports_of.Goals as goal

pub ports-requires : goal.ports-requires
ports-requires c = ports_fit c.args.plan.now c.requires c.in_ok-walker.walker c.walk.new.walker c.in_ok-walker.ensures c.in-Ok.ensures

pub unreachable-requires : goal.unreachable-requires
unreachable-requires c = no_stop c.args.plan.now c.requires c.in_ok-walker.walker c.walk.new.walker c.in_ok-walker.ensures c.in-Err-Full.field-0 c.in-Err-Full.field-0-is c.in-Err-Full.ensures

pub returns-in-Ok : goal.returns-in-Ok
returns-in-Ok c =
    IfOk-weaker c.ports.result _ _ (λ ports e. are_placed c.args.plan.now c.requires c.in_ok-walker.walker c.walk.new.walker c.in_ok-walker.ensures c.in-Ok.ensures ports e) c.ports.ensures
