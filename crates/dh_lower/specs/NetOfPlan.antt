-- What a net shows that is made of a plan, at each clock of a step and once the run is over, for every valuation of
-- its wires. `Holds` says which registers of the net stand for a place in the graph, the clock of the step, the tick,
-- the fault and the registers of the plan: how they do so is the net's own matter.
use Rattle.std.specs.Prelude.{◌≡◌, ℕ, suc, ◌<◌, ◌==◌, ◌&&◌, false, is_none, if◌then◌else◌, List, [], ◌∷◌, ◌++◌, map, slice_get, slice_index, Option, Some, None}
use Rattle.dh_value.specs.declared.words.Word.{Word}
use Rattle.dh_net.specs.BankPorts.{ports_of}
use Rattle.dh_net.specs.Clock.{State, IsValuation, is_active}
use Rattle.dh_net.specs.Laws.{FitsNet}
use Rattle.dh_net.specs.Valid.{IsValid}
use Rattle.dh_net.specs.declared.nets.Driver.{Driver}
use Rattle.dh_net.specs.declared.nets.Net.{Net}
use Rattle.dh_net.specs.declared.ports.Port.{Port}
use Rattle.dh_plan.specs.Blocks.{BlockEvent, RegisterSet, AreValues, block_events, block_sets, first_fault, all_set}
use Rattle.dh_plan.specs.BoundPorts.{Uses}
use Rattle.dh_plan.specs.LegalSchedules.{Timing}
use Rattle.dh_plan.specs.PlainPlans.{PlainPlan, first_in, operations_in}
use Rattle.dh_plan.specs.PlanRuns.{start_at, first_registers}
use Rattle.dh_plan.specs.PlayedPlans.{longest}
use Rattle.dh_plan.specs.Ways.{Flow, GraphSpot, rests, GraphLed, resolve}
use Rattle.dh_lower.specs.ShownWords.{Layout, block_shown, in_ports}
use Rattle.dh_lower.specs.SpotsDone.{blocks_of_spot, spot_after}
use Rattle.dh_lower.specs.PortUsers.{User, AreUsers, Moment, DriveFor}

-- of what a net is made, and how its wires and ports stand for the plan
pub record Making : Type 0 where
  pub plan : PlainPlan
  pub flow : Flow
  pub timing : Timing
  pub uses : Uses
  pub layout : Layout
  pub users : (port : ℕ) → List User

-- what blocks do by given words, in order; whether an element is there needs no memories
abbrev pub events_by : PlainPlan → (registers : List ℕ) → (words : (block : ℕ) → List Word) → (blocks : List ℕ) → List BlockEvent
events_by plan registers words [] = []
events_by plan registers words (b ∷ bs) = block_events (start_at plan registers []) (first_in plan b) (words b) (operations_in plan b) ++ events_by plan registers words bs

abbrev pub sets_by : PlainPlan → (words : (block : ℕ) → List Word) → (blocks : List ℕ) → List RegisterSet
sets_by plan words [] = []
sets_by plan words (b ∷ bs) = block_sets (first_in plan b) (words b) (operations_in plan b) ++ sets_by plan words bs

-- the clocks of the step that starts at a place
abbrev pub spot_length : Making → GraphSpot → ℕ
spot_length k spot = longest k.timing.lengths (blocks_of_spot k.flow.states spot)

-- the words that wires show
abbrev pub words_of : Making → (wires : List ℕ) → (block : ℕ) → List Word
words_of k wires block = block_shown k.plan k.layout block wires

-- the first fault of the step, as wires show it
abbrev pub fault_seen : Making → GraphSpot → (registers wires : List ℕ) → Option ℕ
fault_seen k spot registers wires = first_fault (events_by k.plan registers (words_of k wires) (blocks_of_spot k.flow.states spot))

-- where the step leads, as wires show it
abbrev pub led_on : Making → GraphSpot → (registers wires : List ℕ) → GraphLed
led_on k spot registers wires =
    spot_after k.plan.registers k.flow spot (all_set (sets_by k.plan (words_of k wires) (blocks_of_spot k.flow.states spot)) registers)

-- a clock of the step
abbrev pub moment_at : Making → GraphSpot → (clock : ℕ) → (registers wires : List ℕ) → Moment
moment_at k spot clock registers wires =
    record { active = blocks_of_spot k.flow.states spot; clock = clock; commits = (suc clock == spot_length k spot) && is_none (fault_seen k spot registers wires) }

-- what registers of a net stand for: a place in the graph, a clock, a tick, a fault (0 is none) and registers of a plan
abbrev pub RegisterMeaning : Type 1
RegisterMeaning = (spot : GraphSpot) → (clock tick fault : ℕ) → (registers : List ℕ) → (net_registers : List ℕ) → Type 0

module _ (k : Making) (net : Net) (Holds : RegisterMeaning) where
  -- the registers of the net after the clock
  abbrev pub next_registers : (wires : List ℕ) → List ℕ
  next_registers wires = map (λ r. slice_index wires r.next) net.registers

  -- at a clock of a step, by any wires that settle
  pub record ShowsAtClock (spot : GraphSpot) (clock tick : ℕ) (registers held wires : List ℕ) : Type 0 where
    pub words : (block : ℕ)
        → AreValues (start_at k.plan registers []) (in_ports k.plan k.uses held block) (first_in k.plan block) (operations_in k.plan block) (words_of k wires block)
    -- before the last clock
    pub waits : suc clock < spot_length k spot → Holds spot (suc clock) 0 0 registers (next_registers wires)
    -- in the last one
    pub goes_on : suc clock ≡ spot_length k spot → fault_seen k spot registers wires ≡ None
        → Holds (led_on k spot registers wires).spot 0 1 0 (led_on k spot registers wires).registers (next_registers wires)
    pub faults : (fault : ℕ) → suc clock ≡ spot_length k spot → fault_seen k spot registers wires ≡ Some fault
        → Holds rests 0 0 (suc fault) registers (next_registers wires)
    pub drives : (q : ℕ) (ds : List Driver) (p : Port) → slice_get net.drivers q ≡ Some ds → slice_get (ports_of net.table) q ≡ Some p
        → DriveFor k.plan k.timing (words_of k wires) (moment_at k spot clock registers wires) p wires ds (k.users q)
    pub ticks : slice_index wires net.tick ≡ tick
    pub not_done : slice_index wires net.done ≡ 0
    pub no_fault : slice_index wires net.fault ≡ 0

  -- once the run is over
  pub record ShowsOver (tick fault : ℕ) (registers wires : List ℕ) : Type 0 where
    pub stays : Holds rests 0 0 fault registers (next_registers wires)
    pub silent : (q i : ℕ) (ds : List Driver) (d : Driver) → slice_get net.drivers q ≡ Some ds → slice_get ds i ≡ Some d → is_active wires d ≡ false
    pub ticks : slice_index wires net.tick ≡ tick
    pub done : slice_index wires net.done ≡ (if fault == 0 then 1 else 0)
    pub fault_is : slice_index wires net.fault ≡ fault

  -- the net is made of the plan so
  pub record IsNetOf : Type 0 where
    pub valid : IsValid net
    pub table : net.table ≡ k.plan.table
    pub fault_names : net.faults ≡ k.plan.faults
    pub users : AreUsers k.plan k.uses k.users
    -- its registers begin where the plan does
    pub starts : Holds (resolve k.plan.registers k.flow.first (first_registers k.plan)).spot 0 0 0
        (resolve k.plan.registers k.flow.first (first_registers k.plan)).registers (map (λ r. r.initial) net.registers)
    -- in a state that fits the widths it shows what it stands for
    pub at_clock : (spot : GraphSpot) (clock tick : ℕ) (registers : List ℕ) (s : State) (wires : List ℕ)
        → (blocks_of_spot k.flow.states spot ≡ [] → ⊥) → clock < spot_length k spot → Holds spot clock tick 0 registers s.registers
        → FitsNet net s → IsValuation net.table net.cells s.registers s.held wires → ShowsAtClock spot clock tick registers s.held wires
    pub over : (clock tick fault : ℕ) (registers : List ℕ) (s : State) (wires : List ℕ)
        → Holds rests clock tick fault registers s.registers → FitsNet net s → IsValuation net.table net.cells s.registers s.held wires
        → ShowsOver tick fault registers wires
