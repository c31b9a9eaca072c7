use Rattle.std.proofs.Common.{◌≡◌, ◌+◌, ◌++◌, string_bytes, drop}
use Rattle.std.specs.List.{AllByRecursion}
use Rattle.dh_verilog.specs.Listed.{each_numbered}
use Rattle.dh_verilog.specs.Head.{fault_line}
use Rattle.dh_verilog.specs.Ranges.{IsPlaceInRange}
use Rattle.dh_verilog.proofs.heads.write_faults.Given as goal

abbrev pub invariant-loop-i : goal.invariant-loop-i
invariant-loop-i l =
    record {
      text : string_bytes l.out ++ each_numbered fault_line (l.i + 1) (drop l.i l.faults) ≡ string_bytes l.fn.out ++ each_numbered fault_line 1 l.faults;
      range : AllByRecursion (λ f. IsPlaceInRange f.1) (drop l.i l.faults) → AllByRecursion (λ f. IsPlaceInRange f.1) l.faults;
    }
