-- The step by wires: whether a block is done, whether the step ends in this clock, its first fault, and whether what it
-- does is kept.
use Rattle.std.specs.Prelude.{◌≡◌, ℕ, zero, suc, ◌+◌, ◌%◌, ◌^◌, ◌==◌, ◌&&◌, ◌||◌, nat_lt, not, Bool, false, if◌then◌else◌, List, length, slice_index}
use Rattle.dh_cells.specs.PlainCircuits.{PlainCircuit}
use Rattle.dh_cells.specs.Settled.{Signals, IsSettled, Grows, IsWire, Shows, shown}
use Rattle.dh_cells.specs.ShownValues.{bit, is_one, any_one, first_of}
use Rattle.dh_cells.specs.declared.trees.Tested.{Tested}
use Rattle.dh_control.specs.declared.stepping.Pace.{Pace}
use Rattle.dh_control.specs.declared.stepping.Verdict.{Verdict}
use Rattle.dh_control.specs.declared.stepping.Nexts.{Nexts}

-- whether one of so many blocks, from this number on, is active and not in its last clock
abbrev pub any_waits : Signals → (clock : ℕ) → (active lengths : List ℕ) → (from count : ℕ) → Bool
any_waits x clock active lengths from zero = false
any_waits x clock active lengths from (suc n) =
    (is_one x (slice_index active from) && nat_lt (shown x clock + 1) (slice_index lengths from)) || any_waits x clock active lengths (suc from) n

-- wires were added that tell whether the step ends in this clock
pub record PaceMade (old new : PlainCircuit) (clock : ℕ) (active lengths : List ℕ) (p : Pace) : Type 0 where
  pub grows : Grows old new
  pub going : IsWire new p.going 1
  pub waiting : IsWire new p.waiting 1
  pub last : IsWire new p.last 1
  pub going_is : (x : Signals) → IsSettled new x → is_one x p.going ≡ any_one x active
  pub waiting_is : (x : Signals) → IsSettled new x → is_one x p.waiting ≡ any_waits x clock active lengths 0 (length active)
  pub last_is : (x : Signals) → IsSettled new x → is_one x p.last ≡ (any_one x active && not (any_waits x clock active lengths 0 (length active)))

-- wires were added that tell what comes of the step, where one says that it ends
pub record VerdictMade (old new : PlainCircuit) (last : ℕ) (tests : List Tested) (v : Verdict) : Type 0 where
  pub grows : Grows old new
  pub failed : IsWire new v.failed 32
  pub commit : IsWire new v.commit 1
  pub faulted : IsWire new v.faulted 1
  pub failed_is : (x : Signals) → IsSettled new x → shown x v.failed ≡ first_of x tests 0
  pub commit_is : (x : Signals) → IsSettled new x → is_one x v.commit ≡ (is_one x last && (first_of x tests 0 == 0))
  pub faulted_is : (x : Signals) → IsSettled new x → is_one x v.faulted ≡ (is_one x last && not (first_of x tests 0 == 0))

-- the clock of the step after this clock
abbrev pub next_clock_shown : (width clock waiting : ℕ) → Signals → ℕ
next_clock_shown width clock waiting = λ x. if is_one x waiting then (shown x clock + 1) % 2 ^ width else 0

-- the fault after this clock
abbrev pub next_fault_shown : (last failed fault : ℕ) → Signals → ℕ
next_fault_shown last failed fault = λ x. if is_one x last then shown x failed else shown x fault

-- the run has ended without a fault
abbrev pub done_shown : (going fault : ℕ) → Signals → ℕ
done_shown going fault = λ x. bit (not (is_one x going) && (shown x fault == 0))

pub record NextsMade (old new : PlainCircuit) (width clock fault : ℕ) (p : Pace) (failed : ℕ) (n : Nexts) : Type 0 where
  pub grows : Grows old new
  pub clock_shows : Shows new n.clock width (next_clock_shown width clock p.waiting)
  pub fault_shows : Shows new n.fault 32 (next_fault_shown p.last failed fault)
  pub done_shows : Shows new n.done 1 (done_shown p.going fault)
