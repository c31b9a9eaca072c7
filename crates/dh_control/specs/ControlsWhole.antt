-- The control of one thread as a whole, of a plan with its graph and its schedule.
use Rattle.std.specs.Prelude.{◌≡◌, ℕ, List, [], ◌∷◌, length, map, drop, slice_index}
use Rattle.dh_value.specs.Words.{width_of}
use Rattle.dh_value.specs.declared.kinds.Kind.{Kind}
use Rattle.dh_plan.specs.declared.graphs.State.{State}
use Rattle.dh_plan.specs.declared.operations.PlanBlock.{PlanBlock}
use Rattle.dh_cells.specs.PlainCircuits.{PlainCircuit}
use Rattle.dh_cells.specs.Settled.{Signals, IsSettled, Grows, IsWire, AreWires, shown}
use Rattle.dh_lower.specs.NetOfPlan.{Making}
use Rattle.dh_control.specs.declared.controlling.Control.{Control}
use Rattle.dh_control.specs.declared.controlling.ControlRegisters.{ControlRegisters}
use Rattle.dh_control.specs.AllBlocks.{AreBlockWords, state_ways}
use Rattle.dh_control.specs.SizedWires.{WiresAreSized, shown_all}
use Rattle.dh_control.specs.ThreadHolds.{own_registers, ControlWires, ControlShows, shown_blocks, state_blocks}
use Rattle.dh_control.specs.WayMoves.{HoldsStates}

-- the wires of the control's own registers
pub record OwnWires (d : PlainCircuit) (own : ControlRegisters) (states : ℕ) : Type 0 where
  pub clock_wire : IsWire d own.clock own.clock_width
  pub fault_wire : IsWire d own.fault 32
  pub state_wire : IsWire d own.state own.state_width
  pub holds : HoldsStates own.state_width states

-- they show the first registers of the net, and other wires those of the plan
pub record OwnShown (own : ControlRegisters) (registers : List ℕ) (x : Signals) : Type 0 where
  pub clock_is : shown x own.clock ≡ slice_index x.registers 0
  pub tick_is : shown x own.tick ≡ slice_index x.registers 1
  pub fault_is : shown x own.fault ≡ slice_index x.registers 2
  pub state_is : shown x own.state ≡ slice_index x.registers 3
  pub registers_are : shown_all x registers ≡ drop own_registers x.registers

-- blocks, states, lengths and widths of the code are those of a plan with its graph and schedule
pub record AreOfMaking (k : Making) (widths : List ℕ) (blocks : List PlanBlock) (states : List State) (lengths : List ℕ) : Type 0 where
  pub blocks_are : blocks ≡ k.plan.blocks
  pub lengths_are : lengths ≡ k.timing.lengths
  pub widths_are : map width_of k.plan.registers ≡ widths
  pub state_blocks_are : map (λ s. s.block) states ≡ state_blocks k
  pub ways_are : state_ways states ≡ map (λ s. s.way) k.flow.states

abbrev pub control_wires : ControlRegisters → (registers : List ℕ) → Control → ControlWires
control_wires own registers c = record {
  clock_width = own.clock_width;
  clock = own.clock;
  tick = own.tick;
  fault = own.fault;
  state = own.state;
  pace = c.outcome.pace;
  verdict = c.outcome.verdict;
  nexts = c.nexts;
  next_state = slice_index c.results.state 0;
  active = c.activity.active;
  commits = c.outcome.commits;
  registers = registers;
  after = c.after;
  news = c.results.news;
}

-- the control was added: its wires are there, and it shows what it does of every making of these parts
pub record ControlMade (old new : PlainCircuit) (own : ControlRegisters) (widths registers wires : List ℕ) (blocks : List PlanBlock) (states : List State) (lengths : List ℕ) (c : Control) : Type 0 where
  pub grows : Grows old new
  pub active_wires : AreWires new c.activity.active 1
  pub active_long : length c.activity.active ≡ length blocks
  pub commit_wires : AreWires new c.outcome.commits 1
  pub commits_long : length c.outcome.commits ≡ length blocks
  pub commit_wire : IsWire new c.outcome.verdict.commit 1
  pub clock_wire : IsWire new c.nexts.clock own.clock_width
  pub fault_wire : IsWire new c.nexts.fault 32
  pub done_wire : IsWire new c.nexts.done 1
  pub state_wires : WiresAreSized new (own.state_width ∷ []) c.results.state
  pub news_wires : WiresAreSized new widths c.results.news
  pub shows : (k : Making) (kinds : List Kind) (x : Signals) → IsSettled new x → AreOfMaking k widths blocks states lengths → OwnShown own registers x
      → AreBlockWords (shown_blocks k x) kinds wires x 0 blocks → ControlShows k (control_wires own registers c) x
