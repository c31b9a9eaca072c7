-- The operands so far are kept.
use Rattle.std.proofs.Common.{◌≡◌, ◌+◌, ◌++◌, drop}
use Rattle.dh_code.specs.Flattening.{kept_from}
use Rattle.dh_code.proofs.flattening.kept_in.Given as goal

abbrev pub invariant-loop-i : goal.invariant-loop-i
invariant-loop-i l = l.kept ++ kept_from l.names.places.now (l.fn.first + l.i) (drop l.i l.offsets) ≡ kept_from l.names.places.now l.fn.first l.offsets
