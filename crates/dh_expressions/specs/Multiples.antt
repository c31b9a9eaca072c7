-- Multiples and sums of values of integer kinds, modulo 2^width.
use Rattle.std.specs.Prelude.{◌≡◌, ℕ, ◌+◌, ◌*◌, ◌%◌, ◌^◌, ◌<◌, ◌≤◌, nat_lt, if◌then◌else◌, Option, Some, None, pos}
use Rattle.dh_value.specs.declared.kinds.Kind.{Kind}
use Rattle.dh_value.specs.Words.{IsInteger, IsWidth, word_of}
use Rattle.dh_expressions.specs.declared.drafts.Draft.{Draft}
use Rattle.dh_expressions.specs.Drafted.{BlockBegun, Extends, FitsStep, BlockStep, word_shown, tale}

-- a value shows a number as a word of a kind
abbrev pub ShowsNumber : BlockStep → (value : ℕ) → Kind → (t : ℕ) → Type 0
ShowsNumber x value kind t = word_shown x value ≡ word_of kind (pos t)

-- operations that make so many times a value
pub record Multiplies (old new : Draft) (value number factor : ℕ) : Type 0 where
  pub extends : Extends old new
  pub is : (x : BlockStep) → FitsStep x new → BlockBegun x old → (kind : Kind) → IsInteger kind → (t : ℕ) → ShowsNumber x value kind t → ShowsNumber x number kind (t * factor)
  pub quiet : (x : BlockStep) → FitsStep x new → BlockBegun x old → tale x new ≡ tale x old

-- a sum so far; none is 0
abbrev pub ShowsSum : BlockStep → Option ℕ → Kind → (t : ℕ) → Type 0
ShowsSum x None kind t = t ≡ 0
ShowsSum x (Some value) kind t = ShowsNumber x value kind t

-- operations that add a value to a sum
pub record Sums (old new : Draft) (sum : Option ℕ) (value number : ℕ) : Type 0 where
  pub extends : Extends old new
  pub is : (x : BlockStep) → FitsStep x new → BlockBegun x old → (kind : Kind) → IsInteger kind → (s t : ℕ) → ShowsSum x sum kind s → ShowsNumber x value kind t → ShowsNumber x number kind (s + t)
  pub quiet : (x : BlockStep) → FitsStep x new → BlockBegun x old → tale x new ≡ tale x old

-- the lowest bits of a factor, so many, times a value so far
pub record SumSoFar (old new : Draft) (value factor bits : ℕ) (sum : Option ℕ) : Type 0 where
  pub extends : Extends old new
  pub is : (x : BlockStep) → FitsStep x new → BlockBegun x old → (kind : Kind) → IsInteger kind → (t : ℕ) → ShowsNumber x value kind t → ShowsSum x sum kind (t * (factor % 2 ^ bits))
  pub none : sum ≡ None → factor % 2 ^ bits ≡ 0
  pub quiet : (x : BlockStep) → FitsStep x new → BlockBegun x old → tale x new ≡ tale x old

-- one bit more
abbrev pub AddsBit : (old new : Draft) → (sum : Option ℕ) → (value factor by : ℕ) → (more : Option ℕ) → Type 0
AddsBit old new sum value factor by more = (d : Draft) → by < 64 → SumSoFar d old value factor by sum → SumSoFar d new value factor (by + 1) more

-- the width of the numbers up to one, as far as bits up to this one tell it
abbrev pub width_told : (last bits width : ℕ) → ℕ
width_told last bits width = if nat_lt last (2 ^ bits) then width else bits + 1

-- the least width of a register that holds each number below a count
pub record IsCounterWidth (count width : ℕ) : Type 0 where
  pub sized : IsWidth width
  pub holds : count ≤ 2 ^ width
  pub least : (w : ℕ) → IsWidth w → count ≤ 2 ^ w → width ≤ w
