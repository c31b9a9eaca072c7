-- What the code's functions promise one another of a single test, and what they know around a block, as the pieces
-- have it.
use Rattle.std.specs.Prelude.{◌≡◌, ℕ, ◌%◌, ◌^◌, List, [], ◌∷◌, Option}
use Rattle.dh_tree.specs.Elements.{dims_at, rows_of}
use Rattle.dh_plan.specs.declared.operations.Operation.{Operation}
use Rattle.dh_plan.specs.declared.operations.Reach.{Reach}
use Rattle.dh_rows.specs.MadeOperations.{IsSummed}
use Rattle.dh_address.specs.declared.operands.Ranged.{Ranged}
use Rattle.dh_address.specs.declared.passing.PassedIndices.{PassedIndices}
use Rattle.dh_address.specs.declared.ranging.OldBlock.{OldBlock}
use Rattle.dh_address.specs.declared.renumbering.Renumbering.{Renumbering}
use Rattle.dh_address.specs.WaysMade.{IsIndexWay, ranged_operand, operand_of, passed_to, reach_passed}
use Rattle.dh_address.specs.Pieces.{RenumberedBlock, IsRangeTested, both_made, check_made}

abbrev pub around_seen : OldBlock → Renumbering → RenumberedBlock
around_seen old known = record {
  table = old.table.now;
  views = old.views.now;
  operations = old.operations.now;
  first = known.first;
  probed = old.probed;
  numbers = known.numbers;
  kinds = known.kinds;
}

-- as a block begins
abbrev pub around_first : OldBlock → (first : ℕ) → RenumberedBlock
around_first old first = record { table = old.table.now; views = old.views.now; operations = old.operations.now; first = first; probed = old.probed; numbers = []; kinds = [] }

-- a guard, and the test of one value
pub record IsGuardedOne (guard : Option ℕ) (r : Ranged) (old new : List Operation) (on : Option ℕ) : Type 0 where
  pub mid : List Operation
  pub test : Option ℕ
  pub tested : IsRangeTested r old mid test
  pub both : IsSummed new on (both_made mid guard test)

-- the check of one value
pub record IsCheckedOne (guard : Option ℕ) (fault : ℕ) (r : Ranged) (old new : List Operation) : Type 0 where
  pub mid : List Operation
  pub test : Option ℕ
  pub tested : IsRangeTested r old mid test
  pub check : new ≡ check_made mid guard fault test

-- what an access needs before its tests
abbrev pub IsPassedTo : RenumberedBlock → Reach → (row : Option ℕ) → (old new : List Operation) → PassedIndices → Type 0
IsPassedTo a r row old new p = IsIndexWay new p.ranges p.indices (passed_to a r row old)

abbrev pub IsReachPassed : RenumberedBlock → Reach → (old new : List Operation) → PassedIndices → Type 0
IsReachPassed a r old new p = IsIndexWay new p.ranges p.indices (reach_passed a r old)

-- of a row, of which nothing is put down
abbrev pub IsRowPassed : RenumberedBlock → Reach → (row : ℕ) → PassedIndices → Type 0
IsRowPassed a r row p = (p.ranges ≡ ranged_operand (operand_of a row) (rows_of (dims_at a.table r.memory) % 2 ^ 64) ∷ []) × (p.indices ≡ [])
