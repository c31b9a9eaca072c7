use Rattle.std.proofs.Common.{◌≡◌, drop}
use Rattle.dh_verilog.specs.Locals.{has_local}
use Rattle.dh_verilog.proofs.locals.is_any_local.Given as goal

-- none so far
abbrev pub invariant-loop-port : goal.invariant-loop-port
invariant-loop-port l = has_local (drop l.port-index l.ports) ≡ has_local l.ports
