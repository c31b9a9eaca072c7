use Rattle.std.proofs.Common.{◌≡◌, ◌++◌, string_bytes, drop}
use Rattle.dh_verilog.specs.Listed.{each}
use Rattle.dh_verilog.specs.Locals.{local_zeros}
use Rattle.dh_verilog.proofs.locals.write_all_zeros.Given as goal

abbrev pub invariant-loop-port : goal.invariant-loop-port
invariant-loop-port l = string_bytes l.out ++ each local_zeros (drop l.port-index l.ports) ≡ string_bytes l.fn.out ++ each local_zeros l.ports
