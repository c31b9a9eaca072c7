-- The values so far are told.
use Rattle.std.proofs.Common.{◌≡◌, ◌++◌, drop}
use Rattle.dh_viewing.specs.Numbers.{numbers_in}
use Rattle.dh_code.specs.Operated.{index_values, view_seen}
use Rattle.dh_code.proofs.passing.numbers_of.Given as goal

abbrev pub invariant-loop-operand : goal.invariant-loop-operand
invariant-loop-operand l =
    (numbers_in l.numbers ++ index_values (view_seen l.view) (drop l.operand-index l.operands) ≡ index_values (view_seen l.view) l.operands) × (l.numbers.len ≡ l.operand-index)
