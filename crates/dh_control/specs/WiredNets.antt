-- What makes a net that of a plan of one thread: its control shows what it does for every valuation, and its drivers ask
-- for what the users of their ports do at each clock that the control shows.
use Rattle.std.specs.Prelude.{◌≡◌, ℕ, ◌<◌, ◌≤◌, ◌^◌, ◌&&◌, List, [], ◌∷◌, length, map, drop, slice_get, slice_index, Some}
use Rattle.dh_net.specs.BankPorts.{ports_of}
use Rattle.dh_net.specs.Clock.{State, IsValuation}
use Rattle.dh_net.specs.Laws.{FitsNet}
use Rattle.dh_net.specs.Valid.{IsValid}
use Rattle.dh_net.specs.declared.nets.Driver.{Driver}
use Rattle.dh_net.specs.declared.nets.Net.{Net}
use Rattle.dh_net.specs.declared.ports.Port.{Port}
use Rattle.dh_plan.specs.Blocks.{AreValues}
use Rattle.dh_plan.specs.PlainPlans.{first_in, operations_in}
use Rattle.dh_plan.specs.PlanRuns.{start_at, first_registers}
use Rattle.dh_plan.specs.Ways.{GraphStop, GraphWay, to_state, by_flag, by_count, to_fork, to_end, resolve}
use Rattle.dh_cells.specs.Settled.{Signals, signals, shown}
use Rattle.dh_cells.specs.ShownValues.{is_one}
use Rattle.dh_lower.specs.NetOfPlan.{Making, words_of}
use Rattle.dh_lower.specs.PortUsers.{AreUsers, Moment, DriveFor, is_among}
use Rattle.dh_lower.specs.ShownWords.{in_ports}
use Rattle.dh_control.specs.ThreadHolds.{ControlWires, ControlShows, next_wires, own_registers}
use Rattle.dh_control.specs.WayMoves.{spot_number}

-- a way of one thread, to states that are there
abbrev pub IsStraight : (states : ℕ) → GraphWay → Type 0
IsStraight states (to_state state) = state < states
IsStraight states (by_flag flag w v) = IsStraight states w × IsStraight states v
IsStraight states (by_count counter last w v) = IsStraight states w × IsStraight states v
IsStraight states (to_fork fork ws) = ⊥
IsStraight states to_end = Unit {0}

-- the control shows this moment: the blocks that are active, the clock, and whether their writes are made
pub record MomentShown (count : ℕ) (c : ControlWires) (x : Signals) (m : Moment) : Type 0 where
  pub blocks : (b : ℕ) → b < count → is_one x (slice_index c.active b) ≡ is_among b m.active
  pub clock_is : shown x c.clock ≡ m.clock
  pub commits_are : (b : ℕ) → b < count → is_one x (slice_index c.commits b) ≡ (m.commits && is_among b m.active)

pub record IsWired (k : Making) (net : Net) (c : ControlWires) : Type 0 where
  pub valid : IsValid net
  pub table : net.table ≡ k.plan.table
  pub fault_names : net.faults ≡ k.plan.faults
  pub users : AreUsers k.plan k.uses k.users
  -- the graph is of one thread
  pub first_straight : IsStraight (length k.flow.states) k.flow.first
  pub straight : (i : ℕ) (s : GraphStop) → slice_get k.flow.states i ≡ Some s → IsStraight (length k.flow.states) s.way
  pub blocks : (i : ℕ) (s : GraphStop) → slice_get k.flow.states i ≡ Some s → s.block < length k.plan.blocks
  pub wide : (b : ℕ) → slice_index k.timing.lengths b ≤ 2 ^ c.clock_width
  -- its registers, and its outputs
  pub nexts_are : map (λ r. r.next) net.registers ≡ next_wires c
  pub initials_are : map (λ r. r.initial) net.registers
      ≡ 0 ∷ 0 ∷ 0 ∷ spot_number (length k.flow.states) (resolve k.plan.registers k.flow.first (first_registers k.plan)).spot
      ∷ (resolve k.plan.registers k.flow.first (first_registers k.plan)).registers
  pub tick_is : net.tick ≡ c.tick
  pub done_is : net.done ≡ c.nexts.done
  pub fault_is : net.fault ≡ c.fault
  -- for every valuation of a state that fits, and has the plan's registers
  pub control : (s : State) (wires : List ℕ) → FitsNet net s → IsValuation net.table net.cells s.registers s.held wires → length (drop own_registers s.registers) ≡ length k.plan.registers
      → ControlShows k c (signals s.registers s.held wires)
  pub words : (s : State) (wires : List ℕ) → FitsNet net s → IsValuation net.table net.cells s.registers s.held wires → (block : ℕ)
      → AreValues (start_at k.plan (drop own_registers s.registers) []) (in_ports k.plan k.uses s.held block) (first_in k.plan block) (operations_in k.plan block) (words_of k wires block)
  pub drives : (s : State) (wires : List ℕ) (m : Moment) → FitsNet net s → IsValuation net.table net.cells s.registers s.held wires
      → MomentShown (length k.plan.blocks) c (signals s.registers s.held wires) m
      → (q : ℕ) (ds : List Driver) (p : Port) → slice_get net.drivers q ≡ Some ds → slice_get (ports_of net.table) q ≡ Some p → DriveFor k.plan k.timing (words_of k wires) m p wires ds (k.users q)
