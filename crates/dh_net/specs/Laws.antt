-- What a valid net has exactly one of, and which states fit it.
use Rattle.std.specs.Prelude.{◌≡◌, ℕ, ◌<◌, ◌^◌, List, slice_get, slice_index, Some}
use Rattle.dh_net.specs.BankPorts.{ports_of}
use Rattle.dh_net.specs.declared.nets.Register.{Register}
use Rattle.dh_net.specs.declared.nets.Cell.{Cell}
use Rattle.dh_net.specs.declared.nets.Net.{Net}
use Rattle.dh_net.specs.declared.ports.Port.{Port}
use Rattle.dh_net.specs.Clock.{State, Settles, ClocksTo}

-- each register and each held datum is below 2 to the power of its width
pub record FitsNet (net : Net) (s : State) : Type 0 where
  pub registers : (i : ℕ) (r : Register) → slice_get net.registers i ≡ Some r → slice_index s.registers i < 2 ^ r.width
  pub held : (i : ℕ) (p : Port) → slice_get (ports_of net.table) i ≡ Some p → slice_index s.held i < 2 ^ p.width

-- each wire is below 2 to the power of its cell's width
abbrev pub WiresFit : List Cell → List ℕ → Type 0
WiresFit cells wires = (i : ℕ) (c : Cell) → slice_get cells i ≡ Some c → slice_index wires i < 2 ^ c.width

-- the state has a valuation, and every valuation of it is that one
abbrev pub HasOneValuation : Net → State → Type 0
HasOneValuation net s = (ws : List ℕ) × (Settles net s ws × ((vs : List ℕ) → Settles net s vs → vs ≡ ws))

-- so many clocks lead from the state to a state, and to no other
abbrev pub HasOneRun : Net → ℕ → State → Type 0
HasOneRun net c s = (t : State) × (ClocksTo net c s t × ((u : State) → ClocksTo net c s u → u ≡ t))

-- each state has one valuation, whose wires fit where the state fits, and one run
pub record IsDetermined (net : Net) : Type 0 where
  pub one_valuation : (s : State) → HasOneValuation net s
  pub one_run : (clocks : ℕ) (s : State) → HasOneRun net clocks s
  pub fits : (s : State) (wires : List ℕ) → Settles net s wires → FitsNet net s → WiresFit net.cells wires
