-- The numbers so far, and of the rest.
use Rattle.std.specs.Prelude.{◌≡◌, ◌++◌, drop}
use Rattle.dh_address.specs.Pieces.{operand_values}
use Rattle.dh_address.proofs.operands.values_of.Given as goal

abbrev pub invariant-loop-operand : goal.invariant-loop-operand
invariant-loop-operand l = l.values ++ operand_values (drop l.operand-index l.operands) ≡ operand_values l.operands
