use Rattle.std.proofs.Common.{◌≡◌, ◌++◌, string_bytes, drop}
use Rattle.dh_verilog.specs.Listed.{each_numbered}
use Rattle.dh_verilog.specs.Text.{register_line}
use Rattle.dh_verilog.proofs.writing.write_registers.Given as goal

abbrev pub invariant-loop-i : goal.invariant-loop-i
invariant-loop-i l = string_bytes l.out ++ each_numbered register_line l.i (drop l.i l.registers) ≡ string_bytes l.fn.out ++ each_numbered register_line 0 l.registers
