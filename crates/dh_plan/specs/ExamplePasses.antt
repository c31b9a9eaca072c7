-- A graph, a schedule and a binding of the plan of three stores.
use Rattle.std.specs.Prelude.{[], ◌∷◌, None}
use Rattle.dh_plan.specs.BoundPorts.{Uses}
use Rattle.dh_plan.specs.LegalSchedules.{Timing}
use Rattle.dh_plan.specs.Ways.{to_state, by_count, to_end, Flow}

-- one state, whose turns the counter counts
abbrev pub storing_flow : Flow
storing_flow = record { states = record { block = 0; way = by_count 0 2 (to_state 0) to_end } ∷ []; first = to_state 0; joins = None ∷ [] }

-- all in one clock
abbrev pub storing_timing : Timing
storing_timing = record { clocks = 0 ∷ 0 ∷ 0 ∷ 0 ∷ []; lengths = 1 ∷ [] }

-- the write uses the one port
abbrev pub storing_uses : Uses
storing_uses = record { ports = [] ∷ [] ∷ [] ∷ ((0, 0) ∷ []) ∷ []; units = 0 ∷ 0 ∷ 0 ∷ 0 ∷ [] }
