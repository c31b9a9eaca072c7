use Rattle.std.proofs.Common.{◌≡◌, ◌++◌, string_bytes, drop}
use Rattle.dh_verilog.specs.Listed.{each_numbered}
use Rattle.dh_verilog.specs.Head.{memory_line}
use Rattle.dh_verilog.proofs.heads.write_memories.Given as goal

abbrev pub invariant-loop-i : goal.invariant-loop-i
invariant-loop-i l = string_bytes l.out ++ each_numbered memory_line l.i (drop l.i l.table) ≡ string_bytes l.fn.out ++ each_numbered memory_line 0 l.table
