-- How a graph goes on behind a step, from wherever its threads stand; and the blocks that its next step does.
use Rattle.std.specs.Prelude.{ℕ, ◌&&◌, Bool, true, false, if◌then◌else◌, List, [], ◌∷◌, ◌++◌, slice_get}
use Rattle.dh_value.specs.declared.kinds.Kind.{Kind}
use Rattle.dh_plan.specs.Ways.{GraphStop, Flow, GraphSpot, rests, in_state, in_fork, Spots, no_spots, spot_then, GraphLed, led, resolve, block_of_stop, way_of_stop, way_of_join}

abbrev pub spot_rests : GraphSpot → Bool
spot_rests rests = true
spot_rests (in_state state) = false
spot_rests (in_fork fork ss) = false

abbrev pub all_rest : Spots → Bool
all_rest no_spots = true
all_rest (spot_then s ss) = spot_rests s && all_rest ss

-- threads, and the registers behind them
pub record LedAll : Type 0 where
  pub spots : Spots
  pub registers : List ℕ

abbrev pub with_thread : GraphLed → LedAll → LedAll
with_thread l ls = record { spots = spot_then l.spot ls.spots; registers = ls.registers }

-- threads that all rest are left
abbrev pub spots_joined : List Kind → Flow → LedAll → (fork : ℕ) → GraphLed
spots_joined kinds g ls fork =
    if all_rest ls.spots then resolve kinds (way_of_join (slice_get g.joins fork)) ls.registers else led (in_fork fork ls.spots) ls.registers

abbrev mutual
  -- where the graph stands behind a step; registers go through threads in order
  pub spot_after : List Kind → Flow → GraphSpot → (registers : List ℕ) → GraphLed
  spot_after kinds g rests registers = led rests registers
  spot_after kinds g (in_state state) registers = resolve kinds (way_of_stop (slice_get g.states state)) registers
  spot_after kinds g (in_fork fork ss) registers = spots_joined kinds g (spots_after kinds g ss registers) fork

  pub spots_after : List Kind → Flow → Spots → (registers : List ℕ) → LedAll
  spots_after kinds g no_spots registers = record { spots = no_spots; registers = registers }
  spots_after kinds g (spot_then s ss) registers =
      with_thread (spot_after kinds g s registers) (spots_after kinds g ss (spot_after kinds g s registers).registers)

abbrev mutual
  -- the blocks that the next step does, in order of threads
  pub blocks_of_spot : List GraphStop → GraphSpot → List ℕ
  blocks_of_spot states rests = []
  blocks_of_spot states (in_state state) = block_of_stop (slice_get states state) ∷ []
  blocks_of_spot states (in_fork fork ss) = blocks_of_spots states ss

  pub blocks_of_spots : List GraphStop → Spots → List ℕ
  blocks_of_spots states no_spots = []
  blocks_of_spots states (spot_then s ss) = blocks_of_spot states s ++ blocks_of_spots states ss
