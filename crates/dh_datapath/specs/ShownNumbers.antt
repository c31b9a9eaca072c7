-- What is known of one value of a plan, by its number among all operations.
use Rattle.std.specs.Prelude.{◌≡◌, ℕ, ◌<◌, length, slice_index, slice_index_or}
use Rattle.dh_value.specs.declared.kinds.Kind.{Kind}
use Rattle.dh_value.specs.declared.kinds.Kind.TheVariants as kind
use Rattle.dh_value.specs.Words.{width_of, with_bits}
use Rattle.dh_plan.specs.Blocks.{word_at}
use Rattle.dh_plan.specs.PlainPlans.{PlainPlan, first_in}
use Rattle.dh_plan.specs.PlanKinds.{kind_of_value, kinds_of}
use Rattle.dh_lower.specs.ShownWords.{block_shown}
use Rattle.dh_cells.specs.PlainCircuits.{PlainCircuit}
use Rattle.dh_cells.specs.Settled.{Signals, IsWire, shown}
use Rattle.dh_datapath.specs.declared.blocks.PlanWires.{PlanWires}
use Rattle.dh_datapath.specs.BlockWires.{layout_of}

abbrev pub kind_at_number : PlanWires → (number : ℕ) → Kind
kind_at_number wires number = slice_index_or wires.kinds number kind.Bool

abbrev pub wire_at_number : PlanWires → (number : ℕ) → ℕ
wire_at_number wires number = slice_index wires.values number

-- the value has a wire of its kind's width, and the word that wires show of it in its block is what that wire shows
pub record IsShownNumber (d : PlainCircuit) (plan : PlainPlan) (wires : PlanWires) (block number : ℕ) : Type 0 where
  pub there : number < length wires.values
  pub wire : IsWire d (wire_at_number wires number) (width_of (kind_at_number wires number))
  pub kind_is : kind_at_number wires number ≡ kind_of_value (first_in plan block) (kinds_of plan block) number
  pub word : (x : Signals)
      → word_at (first_in plan block) (block_shown plan (layout_of plan wires) block x.wires) number ≡ with_bits (kind_at_number wires number) (shown x (wire_at_number wires number))
