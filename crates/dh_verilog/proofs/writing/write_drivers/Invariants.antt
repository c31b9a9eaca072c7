use Rattle.std.proofs.Common.{◌≡◌, ◌++◌, string_bytes, drop}
use Rattle.dh_verilog.specs.Driving.{driving_text}
use Rattle.dh_verilog.proofs.writing.write_drivers.Given as goal

abbrev pub invariant-loop-i : goal.invariant-loop-i
invariant-loop-i l =
    string_bytes l.out ++ driving_text (drop l.i l.ports) (drop l.i l.drivers) ≡ string_bytes l.fn.out ++ driving_text l.ports l.drivers
