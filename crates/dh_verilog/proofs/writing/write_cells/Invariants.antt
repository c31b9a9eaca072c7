use Rattle.std.proofs.Common.{◌≡◌, ◌++◌, string_bytes, drop}
use Rattle.dh_verilog.specs.Listed.{each_numbered}
use Rattle.dh_verilog.specs.Text.{cell_line}
use Rattle.dh_verilog.proofs.writing.write_cells.Given as goal

abbrev pub invariant-loop-i : goal.invariant-loop-i
invariant-loop-i l =
    string_bytes l.out ++ each_numbered (cell_line l.cells) l.i (drop l.i l.cells) ≡ string_bytes l.fn.out ++ each_numbered (cell_line l.cells) 0 l.cells
