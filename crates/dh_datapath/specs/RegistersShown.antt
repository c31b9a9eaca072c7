-- The wires of a plan's registers: those of a circuit from a first one on, in order.
use Rattle.std.specs.Prelude.{◌≡◌, ℕ, ◌+◌, ◌<◌, List, length, slice_get, slice_index, Some}
use Rattle.dh_value.specs.declared.kinds.Kind.{Kind}
use Rattle.dh_value.specs.Words.{IsKind, width_of}
use Rattle.dh_plan.specs.Blocks.{kind_at}
use Rattle.dh_cells.specs.PlainCircuits.{PlainCircuit}
use Rattle.dh_cells.specs.Settled.{Grows, Shows}
use Rattle.dh_cells.specs.ShownValues.{register_shown}
use Rattle.dh_datapath.specs.declared.registers.RegisterWires.{RegisterWires}

-- the circuit has a register for each of these kinds, of its width, from this number on
pub record HasRegisters (d : PlainCircuit) (offset : ℕ) (kinds : List Kind) : Type 0 where
  pub sized : (r : ℕ) → r < length kinds → IsKind (kind_at kinds r)
  pub there : (r : ℕ) → r < length kinds → slice_get d.widths (offset + r) ≡ Some (width_of (kind_at kinds r))

-- the first so many of them have a wire each that shows the register
pub record AreRegisterWires (d : PlainCircuit) (offset : ℕ) (kinds : List Kind) (wires : List ℕ) (count : ℕ) : Type 0 where
  pub long : length wires ≡ count
  pub each : (r : ℕ) → r < count → Shows d (slice_index wires r) (width_of (kind_at kinds r)) (register_shown (offset + r))

-- all of them do
abbrev pub ShowRegisters : PlainCircuit → (kinds : List Kind) → RegisterWires → Type 0
ShowRegisters d kinds registers = AreRegisterWires d registers.offset kinds registers.wires (length kinds)

-- cells were added, and all registers from this one on have such wires
pub record RegistersAdded (old new : PlainCircuit) (kinds : List Kind) (offset : ℕ) (registers : RegisterWires) : Type 0 where
  pub grows : Grows old new
  pub from : registers.offset ≡ offset
  pub show : ShowRegisters new kinds registers
