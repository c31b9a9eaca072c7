-- What is known as the operations of a block are put down: the old block, and of its operations so far the new numbers and
-- the kinds of their values.
use Rattle.std.specs.Prelude.{ℕ, Bool, List, Option}
use Rattle.dh_value.specs.declared.kinds.Kind.{Kind}
use Rattle.dh_tree.specs.declared.tables.MemEntry.{MemEntry}
use Rattle.dh_tree.specs.declared.viewing.ViewMap.{ViewMap}
use Rattle.dh_plan.specs.declared.operations.Operation.{Operation}
use Rattle.dh_plan.specs.PlanKinds.{kind_of_value}
use Rattle.dh_address.specs.Renumbered.{renumbered, maybe_renumbered}

-- a block of the old plan, and of its operations so far the new numbers and the kinds of their values
pub record RenumberedBlock : Type 0 where
  pub table : List MemEntry
  pub views : List ViewMap
  pub operations : List Operation
  -- the number of the block's first operation
  pub first : ℕ
  -- some operation of the block takes the value of a probe
  pub probed : Bool
  pub numbers : List ℕ
  pub kinds : List Kind

-- the number of a value in the new plan
abbrev pub new_number : RenumberedBlock → (value : ℕ) → ℕ
new_number a value = renumbered a.first a.numbers value

abbrev pub new_or_none : RenumberedBlock → Option ℕ → Option ℕ
new_or_none a value = maybe_renumbered a.first a.numbers value

abbrev pub known_kind : RenumberedBlock → (value : ℕ) → Kind
known_kind a value = kind_of_value a.first a.kinds value
