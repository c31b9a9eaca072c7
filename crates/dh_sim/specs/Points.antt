-- What a contract sees of a simulator, and what holds of every simulator.
use Rattle.std.specs.Prelude.{◌≡◌, ℕ, Bool, false, List, length, map, Vec}
use Rattle.std.specs.Global.{Global}
use Rattle.dh_tree.specs.Tables.{Fits}
use Rattle.dh_net.specs.declared.nets.Net.{Net}
use Rattle.dh_net.specs.declared.ports.Port.{Port}
use Rattle.dh_net.specs.Valid.{IsValid}
use Rattle.dh_net.specs.Clock.{State, Settles, has_clashes, held_after, memories_after, start_of}
use Rattle.dh_net.specs.Laws.{FitsNet}
use Rattle.dh_sim.specs.declared.layouts.Layout.{Layout}
use Rattle.dh_sim.specs.Layouts.{IsTableLayout}

-- a simulator: its net, the state in which it stands, and whether the last clock had a clash
pub record Point : Type 0 where
  pub net : Net
  pub state : State
  pub clash : Bool

-- the items of lists
abbrev pub lists_of : List (Vec ℕ Global) → List (List ℕ)
lists_of memories = map (λ m. m.items) memories

-- the state that flat arrays hold
abbrev pub state_of_arrays : (registers held : List ℕ) (memories : List (Vec ℕ Global)) → State
state_of_arrays registers held memories = record { registers = registers; held = held; memories = lists_of memories }

-- a simulator before its net's first clock, with these memories
abbrev pub started : Net → List (List ℕ) → Point
started net memories = record { net = net; state = start_of net memories; clash = false }

-- in a clock with these wires the ports take what they read of the memories into the held data
abbrev pub ReadsPorts : Net → List Port → (wires : List ℕ) → List (Vec ℕ Global) → (before after : List ℕ) → Type 0
ReadsPorts net ports wires memories before after = after ≡ held_after net.table wires net.drivers ports (lists_of memories) before

-- in a clock with these wires the ports write into the memories
abbrev pub WritesPorts : Net → List Port → (wires : List ℕ) → (before after : List (Vec ℕ Global)) → Type 0
WritesPorts net ports wires before after = lists_of after ≡ memories_after net.table wires net.drivers ports (lists_of before)

-- a clock from where the simulator stands has a clash, or has none
abbrev pub Clashes : Point → Bool → Type 0
Clashes p clash = (wires : List ℕ) → Settles p.net p.state wires → clash ≡ has_clashes wires p.net.drivers

-- the net is valid, the state is one that it can have, and the wires are those of the state
pub record IsSoundPoint (net : Net) (s : State) (wires : List ℕ) : Type 0 where
  pub valid : IsValid net
  pub registers : length s.registers ≡ length net.registers
  pub held : length s.held ≡ length net.drivers
  pub memories : Fits net.table s.memories
  pub small : FitsNet net s
  pub settled : Settles net s wires

-- so it is of a simulator of this net, whose layout is that of the net
abbrev pub IsSoundSim : Net → Layout → (registers held : List ℕ) → (memories : List (Vec ℕ Global)) → (wires : List ℕ) → Type 0
IsSoundSim net layout registers held memories wires = IsTableLayout net.table layout × IsSoundPoint net (state_of_arrays registers held memories) wires
