use Rattle.std.proofs.Common.{◌≡◌, ◌++◌, drop, map}
use Rattle.dh_value.specs.Words.{width_of}
use Rattle.dh_build.proofs.sizing.list_widths.Given as goal

abbrev pub invariant-loop-kind : goal.invariant-loop-kind
invariant-loop-kind l = l.widths ++ map width_of (drop l.kind-index l.kinds) ≡ map width_of l.kinds
