-- What a net shows by its wires.
use Rattle.std.specs.Prelude.{◌≡◌, ◌↔◌, ℕ, Bool, IsTrue, List, slice_index}
use Rattle.dh_net.specs.declared.nets.Net.{Net}
use Rattle.dh_net.specs.Clock.{Settles}
use Rattle.dh_sim.specs.Points.{Point}
use Rattle.dh_sim.specs.declared.arrays.Shown.{Shown}

-- this is what the net shows by these wires, after a clock of which it is known whether it had a clash
pub record ShowsAs (shown : Shown) (net : Net) (wires : List ℕ) (clash : Bool) : Type 0 where
  pub tick : IsTrue shown.tick ↔ (slice_index wires net.tick ≡ 1)
  pub done : IsTrue shown.done ↔ (slice_index wires net.done ≡ 1)
  pub fault : shown.fault ≡ slice_index wires net.fault
  pub clashed : shown.clash ≡ clash

-- this is what the net of a simulator shows where it stands
abbrev pub ShowsAt : Shown → Point → Type 0
ShowsAt shown p = (wires : List ℕ) → Settles p.net p.state wires → ShowsAs shown p.net wires p.clash
