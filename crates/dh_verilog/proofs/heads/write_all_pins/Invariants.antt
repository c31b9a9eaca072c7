use Rattle.std.proofs.Common.{◌≡◌, ◌++◌, string_bytes, drop}
use Rattle.dh_verilog.specs.Listed.{each}
use Rattle.dh_verilog.specs.Head.{outer_pins}
use Rattle.dh_verilog.proofs.heads.write_all_pins.Given as goal

abbrev pub invariant-loop-port : goal.invariant-loop-port
invariant-loop-port l = string_bytes l.out ++ each outer_pins (drop l.port-index l.ports) ≡ string_bytes l.fn.out ++ each outer_pins l.ports
