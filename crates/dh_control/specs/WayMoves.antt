-- Where a step leads, by wires: moves of the state and of the counters that a decision counts.
-- Decisions here are those of one thread: none of them forks. A graph with forks has a state for each group: then the
-- moves of states name groups, a fork moves those of its groups, and the lemmas on flags and counters stay.
use Rattle.std.specs.Prelude.{◌≡◌, ℕ, suc, ◌+◌, ◌<◌, ◌^◌, ◌==◌, ◌&&◌, not, true, false, List, [], ◌∷◌, map}
use Rattle.dh_value.specs.Words.{IsWidth, width_of}
use Rattle.dh_value.specs.declared.kinds.Kind.{Kind}
use Rattle.dh_plan.specs.declared.graphs.Decision.{Decision}
use Rattle.dh_plan.specs.declared.graphs.Decision.TheVariants.{Go, Test', Count', Fork, Rest}
use Rattle.dh_plan.specs.Ways.{GraphWay, to_state, by_flag, by_count, to_fork, to_end, GraphSpot, rests, in_state, in_fork, resolve}
use Rattle.dh_cells.specs.PlainCircuits.{PlainCircuit}
use Rattle.dh_cells.specs.Settled.{Signals, IsSettled, Grows, IsWire, Shows, shown}
use Rattle.dh_cells.specs.ShownValues.{is_one, number_shown, more_shown}
use Rattle.dh_control.specs.declared.leading.Branch.{Branch}
use Rattle.dh_control.specs.declared.leading.Counted.{Counted}
use Rattle.dh_control.specs.MovedValues.{Move, moved_values, AreMoves}
use Rattle.dh_control.specs.SizedWires.{shown_all}

-- the way that a decision of one thread is
unfoldable pub way_of_decision : Decision → GraphWay
way_of_decision (Go state) = to_state state
way_of_decision (Test' flag at a at' b) = by_flag flag (way_of_decision a) (way_of_decision b)
way_of_decision (Count' counter last at a at' b) = by_count counter last (way_of_decision a) (way_of_decision b)
way_of_decision (Fork groups) = to_end
way_of_decision Rest = to_end

-- how many decisions a way has
abbrev pub way_weight : GraphWay → ℕ
way_weight (to_state state) = 0
way_weight (by_flag flag w v) = suc (way_weight w + way_weight v)
way_weight (by_count counter last w v) = suc (way_weight w + way_weight v)
way_weight (to_fork fork ws) = 0
way_weight to_end = 0

-- the number of where a thread stands: that of its state, or the one behind all states
abbrev pub spot_number : (states : ℕ) → GraphSpot → ℕ
spot_number states rests = states
spot_number states (in_state state) = state
spot_number states (in_fork fork ss) = states

-- numbers of states, and the one behind them, have this width
abbrev pub HoldsStates : (width states : ℕ) → Type 0
HoldsStates width states = IsWidth width × (states < 2 ^ width)

-- an active thread goes one of two ways: where a wire shows a number, or where it does not
pub record BranchMade (old new : PlainCircuit) (active wire number : ℕ) (b : Branch) : Type 0 where
  pub grows : Grows old new
  pub chosen : IsWire new b.chosen 1
  pub other : IsWire new b.other 1
  pub chosen_is : (x : Signals) → IsSettled new x → is_one x b.chosen ≡ (is_one x active && (shown x wire == number))
  pub other_is : (x : Signals) → IsSettled new x → is_one x b.other ≡ (is_one x active && not (shown x wire == number))

-- the next values of a counter on a wire of a width: none, and one more
pub record CountedMade (old new : PlainCircuit) (width wire : ℕ) (c : Counted) : Type 0 where
  pub grows : Grows old new
  pub none : Shows new c.none width (number_shown 0)
  pub more : Shows new c.more width (more_shown width wire)

-- the moves of a counter
abbrev pub counts : (counter : ℕ) → Branch → Counted → List Move
counts counter b c =
    record { key = counter; item = record { test = b.chosen; value = c.none } } ∷ record { key = counter; item = record { test = b.other; value = c.more } } ∷ []

-- a move of the state was added, in front of those that were there
pub record LeadAdded (old new : PlainCircuit) (width active number : ℕ) (before after : List Move) : Type 0 where
  pub grows : Grows old new
  pub fits : AreMoves old (width ∷ []) before → AreMoves new (width ∷ []) after
  pub goes : (x : Signals) (n : ℕ) → IsSettled new x → is_one x active ≡ true → moved_values x after (n ∷ []) ≡ moved_values x before (number ∷ [])
  pub stays : (x : Signals) (values : List ℕ) → IsSettled new x → is_one x active ≡ false → moved_values x after values ≡ moved_values x before values

-- Moves were added, in front of those that were there, for a way from registers that wires show.
pub record WayAdded (old new : PlainCircuit) (widths : List ℕ) (width states active : ℕ) (after : List ℕ) (way : GraphWay) (moves more leads further : List Move) : Type 0 where
  pub grows : Grows old new
  pub moves_fit : AreMoves old widths moves → AreMoves new widths more
  pub leads_fit : AreMoves old (width ∷ []) leads → AreMoves new (width ∷ []) further
  -- in a clock in which the thread goes on
  pub turns : (x : Signals) (kinds : List Kind) → IsSettled new x → map width_of kinds ≡ widths → is_one x active ≡ true
      → moved_values x more (shown_all x after) ≡ moved_values x moves (resolve kinds way (shown_all x after)).registers
  pub goes : (x : Signals) (kinds : List Kind) (n : ℕ) → IsSettled new x → map width_of kinds ≡ widths → is_one x active ≡ true
      → moved_values x further (n ∷ []) ≡ moved_values x leads (spot_number states (resolve kinds way (shown_all x after)).spot ∷ [])
  -- in any other
  pub keeps : (x : Signals) (values : List ℕ) → IsSettled new x → is_one x active ≡ false → moved_values x more values ≡ moved_values x moves values
  pub stays : (x : Signals) (values : List ℕ) → IsSettled new x → is_one x active ≡ false → moved_values x further values ≡ moved_values x leads values
