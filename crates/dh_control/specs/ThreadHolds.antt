-- The registers of a net of one thread, and what its control shows at a clock.
-- Threads side by side have a state for each group behind the fault, and a spot stands for their numbers; the clock of
-- the step, the tick and the fault are one for all.
use Rattle.std.specs.Prelude.{◌≡◌, ℕ, ◌<◌, ◌==◌, ◌&&◌, not, true, false, List, ◌∷◌, length, drop, map, slice_get, slice_index, Some}
use Rattle.dh_plan.specs.Blocks.{StepStart}
use Rattle.dh_plan.specs.PlainPlans.{first_in}
use Rattle.dh_plan.specs.Ways.{GraphStop, GraphSpot, rests, in_state, in_fork, resolve}
use Rattle.dh_cells.specs.Settled.{Signals, shown}
use Rattle.dh_cells.specs.ShownValues.{is_one, any_one}
use Rattle.dh_lower.specs.NetOfPlan.{Making, RegisterMeaning, words_of}
use Rattle.dh_lower.specs.PortUsers.{is_among}
use Rattle.dh_control.specs.declared.stepping.Nexts.{Nexts}
use Rattle.dh_control.specs.declared.stepping.Pace.{Pace}
use Rattle.dh_control.specs.declared.stepping.Verdict.{Verdict}
use Rattle.dh_control.specs.AllBlocks.{BlockWords, blocks_set, blocks_code}
use Rattle.dh_control.specs.SizedWires.{shown_all}
use Rattle.dh_control.specs.StateWires.{blocks_active}
use Rattle.dh_control.specs.StepWires.{any_waits, next_clock_shown, next_fault_shown, done_shown}
use Rattle.dh_control.specs.WayMoves.{spot_number}

-- a thread stands where its number says
abbrev pub ThreadStandsAt : (states : ℕ) → GraphSpot → (number : ℕ) → Type 0
ThreadStandsAt states rests n = n ≡ states
ThreadStandsAt states (in_state state) n = (n ≡ state) × (state < states)
ThreadStandsAt states (in_fork fork ss) n = ⊥

-- the registers are the clock of the step, the tick, the fault, the state, and then so many of the plan
abbrev pub holds_thread : (states count : ℕ) → RegisterMeaning
holds_thread states count spot clock tick fault registers net_registers =
    (n : ℕ) × (ThreadStandsAt states spot n × ((length registers ≡ count) × (net_registers ≡ clock ∷ tick ∷ fault ∷ n ∷ registers)))

-- how many registers stand before those of the plan
abbrev pub own_registers : ℕ
own_registers = 4

-- the wires of the control
pub record ControlWires : Type 0 where
  pub clock_width : ℕ
  pub clock : ℕ
  pub tick : ℕ
  pub fault : ℕ
  pub state : ℕ
  pub pace : Pace
  pub verdict : Verdict
  pub nexts : Nexts
  pub next_state : ℕ
  -- whether each block is active, and whether its writes are made
  pub active : List ℕ
  pub commits : List ℕ
  -- the registers of the plan, as they are after sets, and as they are after the step
  pub registers : List ℕ
  pub after : List ℕ
  pub news : List ℕ

-- the wires that the net's registers take
abbrev pub next_wires : ControlWires → List ℕ
next_wires c = c.nexts.clock ∷ c.verdict.commit ∷ c.nexts.fault ∷ c.next_state ∷ c.news

-- the words that wires show, block by block
abbrev pub shown_blocks : Making → Signals → BlockWords
shown_blocks k x = record { first = first_in k.plan; words = words_of k x.wires }

abbrev pub state_blocks : Making → List ℕ
state_blocks k = map (λ s. s.block) k.flow.states

-- What the wires of the control show of a plan, whatever its registers and ports hold.
pub record ControlShows (k : Making) (c : ControlWires) (x : Signals) : Type 0 where
  pub clock_is : shown x c.clock ≡ slice_index x.registers 0
  pub tick_is : shown x c.tick ≡ slice_index x.registers 1
  pub fault_is : shown x c.fault ≡ slice_index x.registers 2
  pub state_is : shown x c.state ≡ slice_index x.registers 3
  pub registers_are : shown_all x c.registers ≡ drop own_registers x.registers
  pub active_long : length c.active ≡ length k.plan.blocks
  pub active_is : (b : ℕ) → b < length k.plan.blocks → is_one x (slice_index c.active b) ≡ is_among b (blocks_active (state_blocks k) (shown x c.state))
  pub going_is : is_one x c.pace.going ≡ any_one x c.active
  pub waiting_is : is_one x c.pace.waiting ≡ any_waits x c.clock c.active k.timing.lengths 0 (length c.active)
  pub last_is : is_one x c.pace.last ≡ (any_one x c.active && not (any_waits x c.clock c.active k.timing.lengths 0 (length c.active)))
  pub failed_is : (s : StepStart) → shown x c.verdict.failed ≡ blocks_code x c.active s (shown_blocks k x) 0 k.plan.blocks 0
  pub commit_fits : shown x c.verdict.commit < 2
  pub commit_is : is_one x c.verdict.commit ≡ (is_one x c.pace.last && (shown x c.verdict.failed == 0))
  pub faulted_is : is_one x c.verdict.faulted ≡ (is_one x c.pace.last && not (shown x c.verdict.failed == 0))
  pub commits_are : (b : ℕ) → b < length k.plan.blocks → is_one x (slice_index c.commits b) ≡ (is_one x c.verdict.commit && is_one x (slice_index c.active b))
  pub after_is : shown_all x c.after ≡ blocks_set x c.commits (shown_blocks k x) 0 k.plan.blocks (shown_all x c.registers)
  -- where the step leads
  pub turns : is_one x c.verdict.commit ≡ true → (s : GraphStop) → slice_get k.flow.states (shown x c.state) ≡ Some s
      → shown_all x c.news ≡ (resolve k.plan.registers s.way (shown_all x c.after)).registers
  pub keeps : is_one x c.verdict.commit ≡ false → shown_all x c.news ≡ shown_all x c.after
  pub goes : is_one x c.verdict.commit ≡ true → (s : GraphStop) → slice_get k.flow.states (shown x c.state) ≡ Some s
      → shown x c.next_state ≡ spot_number (length k.flow.states) (resolve k.plan.registers s.way (shown_all x c.after)).spot
  pub halts : is_one x c.verdict.faulted ≡ true → shown x c.next_state ≡ length k.flow.states
  pub stays : is_one x c.verdict.commit ≡ false → is_one x c.verdict.faulted ≡ false → shown x c.next_state ≡ shown x c.state
  pub next_clock : shown x c.nexts.clock ≡ next_clock_shown c.clock_width c.clock c.pace.waiting x
  pub next_fault : shown x c.nexts.fault ≡ next_fault_shown c.pace.last c.verdict.failed c.fault x
  pub done_is : shown x c.nexts.done ≡ done_shown c.pace.going c.fault x
