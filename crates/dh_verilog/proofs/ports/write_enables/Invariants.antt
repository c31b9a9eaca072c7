use Rattle.std.proofs.Common.{◌≡◌, ◌++◌, string_bytes, drop}
use Rattle.dh_verilog.specs.Listed.{each}
use Rattle.std.specs.Prelude.{codes}
use Rattle.std.specs.Fmt.{decimal}
use Rattle.dh_verilog.proofs.ports.write_enables.Given as goal

abbrev pub invariant-loop-driver : goal.invariant-loop-driver
invariant-loop-driver l = string_bytes l.out ++ each (λ e. codes " | w" ++ decimal e.enable) (drop l.driver-index l.others) ≡ string_bytes l.initial.out ++ each (λ e. codes " | w" ++ decimal e.enable) l.others
