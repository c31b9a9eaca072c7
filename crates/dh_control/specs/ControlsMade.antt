-- Parts of the control as they are put together: what each adds to the circuit, and what its wires then show.
use Rattle.std.specs.Prelude.{◌≡◌, ℕ, ◌<◌, ◌==◌, ◌&&◌, not, true, false, List, [], ◌∷◌, length, map, slice_index}
use Rattle.dh_value.specs.Words.{width_of}
use Rattle.dh_value.specs.declared.kinds.Kind.{Kind}
use Rattle.dh_plan.specs.declared.graphs.State.{State}
use Rattle.dh_plan.specs.declared.operations.PlanBlock.{PlanBlock}
use Rattle.dh_plan.specs.Blocks.{StepStart}
use Rattle.dh_plan.specs.Ways.{resolve}
use Rattle.dh_cells.specs.PlainCircuits.{PlainCircuit}
use Rattle.dh_cells.specs.Settled.{Signals, IsSettled, Grows, IsWire, AreWires, shown}
use Rattle.dh_cells.specs.ShownValues.{is_one, any_one}
use Rattle.dh_lower.specs.PortUsers.{is_among}
use Rattle.dh_control.specs.declared.controlling.Activity.{Activity}
use Rattle.dh_control.specs.declared.controlling.StepOutcome.{StepOutcome}
use Rattle.dh_control.specs.declared.controlling.Results.{Results}
use Rattle.dh_control.specs.declared.stepping.Verdict.{Verdict}
use Rattle.dh_control.specs.AllBlocks.{BlockWords, AreBlockWords, blocks_set, blocks_code, state_ways, graph_way_at}
use Rattle.dh_control.specs.SizedWires.{WiresAreSized, shown_all}
use Rattle.dh_control.specs.StateWires.{AreStands, blocks_active}
use Rattle.dh_control.specs.StepWires.{any_waits}
use Rattle.dh_control.specs.WayMoves.{spot_number}

-- where the graph stands; `blocks` are those of the states, and `count` is how many there are in the plan
pub record ActivityMade (old new : PlainCircuit) (state : ℕ) (blocks : List ℕ) (count : ℕ) (a : Activity) : Type 0 where
  pub grows : Grows old new
  pub stands_are : AreStands new state 0 blocks a.stands
  pub long : length a.active ≡ count
  pub wires : AreWires new a.active 1
  pub active_is : (x : Signals) (b : ℕ) → IsSettled new x → b < count → is_one x (slice_index a.active b) ≡ is_among b (blocks_active blocks (shown x state))

-- what becomes of a step
pub record OutcomeMade (old new : PlainCircuit) (clock : ℕ) (active lengths wires : List ℕ) (blocks : List PlanBlock) (o : StepOutcome) : Type 0 where
  pub grows : Grows old new
  pub going : IsWire new o.pace.going 1
  pub waiting : IsWire new o.pace.waiting 1
  pub last : IsWire new o.pace.last 1
  pub failed : IsWire new o.verdict.failed 32
  pub commit : IsWire new o.verdict.commit 1
  pub faulted : IsWire new o.verdict.faulted 1
  pub commits : AreWires new o.commits 1
  pub commits_long : length o.commits ≡ length active
  pub going_is : (x : Signals) → IsSettled new x → is_one x o.pace.going ≡ any_one x active
  pub waiting_is : (x : Signals) → IsSettled new x → is_one x o.pace.waiting ≡ any_waits x clock active lengths 0 (length active)
  pub last_is : (x : Signals) → IsSettled new x → is_one x o.pace.last ≡ (any_one x active && not (any_waits x clock active lengths 0 (length active)))
  pub failed_is : (x : Signals) (s : StepStart) (w : BlockWords) (kinds : List Kind) → IsSettled new x → AreBlockWords w kinds wires x 0 blocks
      → shown x o.verdict.failed ≡ blocks_code x active s w 0 blocks 0
  pub commit_is : (x : Signals) → IsSettled new x → is_one x o.verdict.commit ≡ (is_one x o.pace.last && (shown x o.verdict.failed == 0))
  pub faulted_is : (x : Signals) → IsSettled new x → is_one x o.verdict.faulted ≡ (is_one x o.pace.last && not (shown x o.verdict.failed == 0))
  pub commits_are : (x : Signals) (b : ℕ) → IsSettled new x → b < length active → is_one x (slice_index o.commits b) ≡ (is_one x o.verdict.commit && is_one x (slice_index active b))

-- the registers after sets
pub record AfterMade (old new : PlainCircuit) (widths registers commits wires : List ℕ) (blocks : List PlanBlock) (after : List ℕ) : Type 0 where
  pub grows : Grows old new
  pub sized : WiresAreSized new widths after
  pub shows : (x : Signals) (w : BlockWords) (kinds : List Kind) → IsSettled new x → AreBlockWords w kinds wires x 0 blocks
      → shown_all x after ≡ blocks_set x commits w 0 blocks (shown_all x registers)

-- the registers and the state after the step
pub record ResultsMade (old new : PlainCircuit) (widths after : List ℕ) (width state : ℕ) (v : Verdict) (states : List State) (r : Results) : Type 0 where
  pub grows : Grows old new
  pub news : WiresAreSized new widths r.news
  pub next : WiresAreSized new (width ∷ []) r.state
  pub turns : (x : Signals) (kinds : List Kind) (n : ℕ) → IsSettled new x → map width_of kinds ≡ widths → is_one x v.commit ≡ true → shown x state ≡ n → n < length states
      → shown_all x r.news ≡ (resolve kinds (graph_way_at (state_ways states) n) (shown_all x after)).registers
  pub keeps : (x : Signals) → IsSettled new x → is_one x v.commit ≡ false → shown_all x r.news ≡ shown_all x after
  pub goes : (x : Signals) (kinds : List Kind) (n : ℕ) → IsSettled new x → map width_of kinds ≡ widths → is_one x v.commit ≡ true → is_one x v.faulted ≡ false → shown x state ≡ n → n < length states
      → shown_all x r.state ≡ spot_number (length states) (resolve kinds (graph_way_at (state_ways states) n) (shown_all x after)).spot ∷ []
  pub halts : (x : Signals) → IsSettled new x → is_one x v.commit ≡ false → is_one x v.faulted ≡ true → shown_all x r.state ≡ length states ∷ []
  pub stays : (x : Signals) → IsSettled new x → is_one x v.commit ≡ false → is_one x v.faulted ≡ false → shown_all x r.state ≡ shown x state ∷ []
