-- What the blocks of a plan do at the end of a step, by wires that say which of them are active.
use Rattle.std.specs.Prelude.{◌≡◌, ◌⊎◌, ℕ, suc, ◌<◌, ◌≤◌, true, false, List, [], ◌∷◌, map, slice_index, slice_index_or}
use Rattle.std.specs.List.{AllByRecursion}
use Rattle.dh_value.specs.Words.{width_of}
use Rattle.dh_value.specs.declared.kinds.Kind.{Kind}
use Rattle.dh_value.specs.declared.words.Word.{Word}
use Rattle.dh_plan.specs.declared.graphs.State.{State}
use Rattle.dh_plan.specs.declared.operations.PlanBlock.{PlanBlock}
use Rattle.dh_plan.specs.Blocks.{StepStart, block_events, block_sets, first_fault}
use Rattle.dh_plan.specs.Ways.{GraphWay, to_end, resolve}
use Rattle.dh_cells.specs.FirstTests.{AreTested}
use Rattle.dh_cells.specs.PlainCircuits.{PlainCircuit}
use Rattle.dh_cells.specs.Settled.{Signals, IsSettled, Grows, shown}
use Rattle.dh_cells.specs.ShownValues.{is_one, first_of}
use Rattle.dh_cells.specs.declared.trees.Tested.{Tested}
use Rattle.dh_control.specs.FaultTests.{code_where, CheckSuits}
use Rattle.dh_control.specs.MovedValues.{Move, moved_values, AreMoves}
use Rattle.dh_control.specs.RegisterSets.{all_set_where, SetSuits}
use Rattle.dh_control.specs.SizedWires.{shown_all}
use Rattle.dh_control.specs.ValuesShown.{AreShownWords}
use Rattle.dh_control.specs.WayMoves.{spot_number, way_of_decision}

-- of each block the number of its first value, and the words of its values
pub record BlockWords : Type 0 where
  pub first : ℕ → ℕ
  pub words : ℕ → List Word

-- these are the words of all values that the operations of blocks take; the blocks are numbered from one on
abbrev pub AreBlockWords : BlockWords → List Kind → (wires : List ℕ) → Signals → (from : ℕ) → List PlanBlock → Type 0
AreBlockWords w kinds wires x from [] = Unit {0}
AreBlockWords w kinds wires x from (b ∷ bs) = AreShownWords (w.first from) (w.words from) kinds wires x b.operations × AreBlockWords w kinds wires x (suc from) bs

-- registers after the sets of those blocks whose writes are made
abbrev pub blocks_set : Signals → (commits : List ℕ) → BlockWords → (from : ℕ) → List PlanBlock → (registers : List ℕ) → List ℕ
blocks_set x commits w from [] registers = registers
blocks_set x commits w from (b ∷ bs) registers =
    blocks_set x commits w (suc from) bs (all_set_where (is_one x (slice_index commits from)) (block_sets (w.first from) (w.words from) b.operations) registers)

-- the number of the first fault of active blocks, or a default
abbrev pub blocks_code : Signals → (active : List ℕ) → StepStart → BlockWords → (from : ℕ) → List PlanBlock → (default : ℕ) → ℕ
blocks_code x active s w from [] default = default
blocks_code x active s w from (b ∷ bs) default =
    code_where (is_one x (slice_index active from)) (first_fault (block_events s (w.first from) (w.words from) b.operations)) (blocks_code x active s w (suc from) bs default)

abbrev pub SetsSuit : PlainCircuit → (widths wires : List ℕ) → List PlanBlock → Type 0
SetsSuit d widths wires bs = AllByRecursion (λ b. AllByRecursion (SetSuits d widths wires) b.operations) bs

abbrev pub ChecksSuit : PlainCircuit → (wires : List ℕ) → List PlanBlock → Type 0
ChecksSuit d wires bs = AllByRecursion (λ b. AllByRecursion (CheckSuits d wires) b.operations) bs

-- moves were added, in front of those that were there, for the sets of all blocks
pub record AllSetsAdded (old new : PlainCircuit) (widths commits wires : List ℕ) (from : ℕ) (blocks : List PlanBlock) (before after : List Move) : Type 0 where
  pub grows : Grows old new
  pub moves : AreMoves old widths before → AreMoves new widths after
  pub does : (x : Signals) (w : BlockWords) (kinds : List Kind) (values : List ℕ) → IsSettled new x → AreBlockWords w kinds wires x from blocks
      → moved_values x after values ≡ moved_values x before (blocks_set x commits w from blocks values)

-- tests were added, behind those that were there, for the faults of all blocks
pub record AllChecksAdded (old new : PlainCircuit) (active wires : List ℕ) (blocks : List PlanBlock) (before after : List Tested) : Type 0 where
  pub grows : Grows old new
  pub tests : AreTested old before 32 → AreTested new after 32
  pub does : (x : Signals) (s : StepStart) (w : BlockWords) (kinds : List Kind) (default : ℕ) → IsSettled new x → AreBlockWords w kinds wires x 0 blocks
      → first_of x after default ≡ first_of x before (blocks_code x active s w 0 blocks default)

-- the ways behind states
abbrev pub state_ways : List State → List GraphWay
state_ways states = map (λ s. way_of_decision s.next) states

abbrev pub graph_way_at : List GraphWay → (state : ℕ) → GraphWay
graph_way_at ways state = slice_index_or ways state to_end

-- Moves were added, in front of those that were there, for the ways behind the states below a number: they are made where
-- a wire shows 1 and the graph stands in one of those states.
pub record WaysAdded (old new : PlainCircuit) (widths : List ℕ) (width states state commit : ℕ) (after : List ℕ) (ways : List GraphWay) (count : ℕ) (moves more leads further : List Move) : Type 0 where
  pub grows : Grows old new
  pub moves_fit : AreMoves old widths moves → AreMoves new widths more
  pub leads_fit : AreMoves old (width ∷ []) leads → AreMoves new (width ∷ []) further
  pub turns : (x : Signals) (kinds : List Kind) (n : ℕ) → IsSettled new x → map width_of kinds ≡ widths → is_one x commit ≡ true → shown x state ≡ n → n < count
      → moved_values x more (shown_all x after) ≡ moved_values x moves (resolve kinds (graph_way_at ways n) (shown_all x after)).registers
  pub goes : (x : Signals) (kinds : List Kind) (n k : ℕ) → IsSettled new x → map width_of kinds ≡ widths → is_one x commit ≡ true → shown x state ≡ n → n < count
      → moved_values x further (k ∷ []) ≡ moved_values x leads (spot_number states (resolve kinds (graph_way_at ways n) (shown_all x after)).spot ∷ [])
  pub keeps : (x : Signals) (values : List ℕ) → IsSettled new x → (is_one x commit ≡ false) ⊎ (count ≤ shown x state) → moved_values x more values ≡ moved_values x moves values
  pub stays : (x : Signals) (values : List ℕ) → IsSettled new x → (is_one x commit ≡ false) ⊎ (count ≤ shown x state) → moved_values x further values ≡ moved_values x leads values
