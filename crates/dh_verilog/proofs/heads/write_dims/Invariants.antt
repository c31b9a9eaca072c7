use Rattle.std.proofs.Common.{◌≡◌, ◌++◌, string_bytes, drop}
use Rattle.dh_verilog.specs.Listed.{each}
use Rattle.std.specs.Prelude.{codes}
use Rattle.dh_verilog.specs.Head.{dim_text}
use Rattle.dh_verilog.proofs.heads.write_dims.Given as goal

abbrev pub invariant-loop-dim : goal.invariant-loop-dim
invariant-loop-dim l = string_bytes l.out ++ each (λ e. codes "x" ++ dim_text e) (drop l.dim-index l.others) ≡ string_bytes l.initial.out ++ each (λ e. codes "x" ++ dim_text e) l.others
