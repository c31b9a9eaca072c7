use Rattle.std.proofs.Common.{◌≡◌, ◌++◌, string_bytes, drop}
use Rattle.dh_verilog.specs.Listed.{each}
use Rattle.dh_verilog.specs.Driving.{choice_text}
use Rattle.dh_verilog.proofs.ports.write_choices.Given as goal

abbrev pub invariant-loop-driver : goal.invariant-loop-driver
invariant-loop-driver l = string_bytes l.out ++ each (choice_text l.signal l.port) (drop l.driver-index l.drivers) ≡ string_bytes l.fn.out ++ each (choice_text l.signal l.port) l.drivers
