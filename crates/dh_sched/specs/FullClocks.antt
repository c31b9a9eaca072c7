-- Clocks without room, and ways over them. A count or a way past the end of its list is 0.
use Rattle.std.specs.Prelude.{◌≡◌, ℕ, suc, ◌+◌, ◌<◌, ◌≤◌, ◌==◌, ◌&&◌, max, Bool, IsTrue, if◌then◌else◌, List, length, slice_index, Option, Some, None, Result, IfOk}
use Rattle.dh_base.specs.declared.lists.NoMemory.{NoMemory}
use Rattle.dh_plan.specs.declared.operations.OperationForm.{OperationForm}
use Rattle.dh_plan.specs.LegalSchedules.{is_product}

-- the clocks from one on and before another have no room
abbrev pub AreFull : (limit : ℕ) → (counts : List ℕ) → (start end : ℕ) → Type 0
AreFull limit counts start end = (at : ℕ) → start ≤ at → at < end → limit ≤ slice_index counts at

-- a way leads over clocks without room, and a clock without room has one
pub record SkipsFullClocks (limit : ℕ) (counts : List ℕ) (at next : ℕ) : Type 0 where
  pub full : AreFull limit counts at next
  pub ends : next ≤ length counts
  pub goes : limit ≤ slice_index counts at → at < next

abbrev pub WaysSkipFullClocks : (limit : ℕ) → (counts ways : List ℕ) → Type 0
WaysSkipFullClocks limit counts ways = (at : ℕ) → SkipsFullClocks limit counts at (slice_index ways at)

-- a clock was tried: it has room, or a later one is to be tried
abbrev pub HasTried : (limit : ℕ) → (counts : List ℕ) → (at : ℕ) → Option ℕ → Type 0
HasTried limit counts at None = slice_index counts at < limit
HasTried limit counts at (Some next) = (at < next) × ((next ≤ length counts) × AreFull limit counts at next)

-- the first clock from a start on that has room
pub record FindsRoom (limit : ℕ) (counts : List ℕ) (start clock : ℕ) : Type 0 where
  pub later : start ≤ clock
  pub near : clock ≤ max start (length counts)
  pub full : AreFull limit counts start clock
  pub room : slice_index counts clock < limit

-- one more is counted at a clock
abbrev pub CountsAt : (before after : List ℕ) → (clock : ℕ) → Type 0
CountsAt before after clock = (at : ℕ) → slice_index after at ≡ (if clock == at then suc (slice_index before at) else slice_index before at)

-- An operation is placed at the first clock from a start on that has room for it, and counted, where there is a limit
-- and it is a multiplication.
pub record Fills (limit : ℕ) (product : Bool) (start clock : ℕ) (before after ways : List ℕ) : Type 0 where
  pub later : start ≤ clock
  pub near : clock ≤ max start (length before)
  pub still : (IsTrue product → ⊥) → clock ≡ start
  pub unlimited : limit ≡ 0 → clock ≡ start
  pub room : 1 ≤ limit → IsTrue product → FindsRoom limit before start clock
  pub counted : 1 ≤ limit → (at : ℕ) → slice_index after at ≡ (if product && (clock == at) then suc (slice_index before at) else slice_index before at)
  pub ways_kept : 1 ≤ limit → WaysSkipFullClocks limit after ways
  pub both : length ways ≡ length after
  pub long : length after ≤ max (length before) (clock + 1)

-- an operation of this form is placed so, where there is memory for its count
abbrev pub PlacesForm : (limit : ℕ) → OperationForm → (start : ℕ) → (before after ways : List ℕ) → Result ℕ NoMemory → Type 0
PlacesForm limit form start before after ways result = IfOk result (λ clock. Fills limit (is_product form) start clock before after ways)
