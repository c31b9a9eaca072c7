use Rattle.std.proofs.lemmas.Result.{IfOk-weaker}
use Rattle.dh_compile.proofs.compiling.joined_net.Goals as goal

pub sweep-requires : goal.sweep-requires
sweep-requires c = c.in-Ok.ensures.valid

pub returns-in-Ok : goal.returns-in-Ok
returns-in-Ok c = IfOk-weaker c.sweep.result _ _ (λ net swept. record { between = c.in-Ok.joined; joined = c.in-Ok.ensures; swept = swept }) c.sweep.ensures
