use Rattle.std.proofs.Common.{arith}
use Rattle.dh_backend.proofs.examples.storing_plan_suits_nets.Goals as goal

pub returns : goal.returns
returns c = record { registers = ((omega arith, omega arith), tt) }
