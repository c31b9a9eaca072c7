-- Ledgers of memories, one for each, and marks to come back to.
use Rattle.std.specs.Prelude.{◌≡◌, ℕ, ◌+◌, ◌<◌, ◌==◌, ◌&&◌, max, if◌then◌else◌, List, [], ◌∷◌, ◌++◌, length, slice_get, slice_set, Option, Some, None, Result, Ok, Err}
use Rattle.std.specs.List.{AllByRecursion}
use Rattle.dh_ledger.specs.declared.ledgers.Full.{Full}
use Rattle.dh_ledger.specs.Granted.{Granted}
use Rattle.dh_ledger.specs.Spending.{Spending, spent_on}
use Rattle.dh_bind.specs.declared.ledgers.LedgerMark.{LedgerMark}

abbrev pub spent_in : Option Spending → (bank : ℕ) → ℕ
spent_in None bank = 0
spent_in (Some s) bank = spent_on s bank

abbrev pub spending_ports : Option Spending → ℕ
spending_ports None = 0
spending_ports (Some s) = s.ports

abbrev pub spending_banks : Option Spending → ℕ
spending_banks None = 0
spending_banks (Some s) = length s.spent

-- what is spent on a bank of a memory, its ports, and the banks
abbrev pub spent_at : List Spending → (memory bank : ℕ) → ℕ
spent_at ledgers memory bank = spent_in (slice_get ledgers memory) bank

abbrev pub ports_in : List Spending → (memory : ℕ) → ℕ
ports_in ledgers memory = spending_ports (slice_get ledgers memory)

abbrev pub ledger_banks : List Spending → (memory : ℕ) → ℕ
ledger_banks ledgers memory = spending_banks (slice_get ledgers memory)

-- they are of the same memories
pub record Alike (old new : List Spending) : Type 0 where
  pub long : length new ≡ length old
  pub ports : (memory : ℕ) → ports_in new memory ≡ ports_in old memory
  pub banks : (memory : ℕ) → ledger_banks new memory ≡ ledger_banks old memory

-- so much more is spent on one bank
pub record SpentMore (old new : List Spending) (memory bank count : ℕ) : Type 0 where
  pub alike : Alike old new
  pub spent : (m b : ℕ) → spent_at new m b ≡ spent_at old m b + (if (m == memory) && (b == bank) then count else 0)
  pub back : (s : Spending) → slice_set new memory s ≡ slice_set old memory s

-- granting ports of a bank of a memory answers so
abbrev pub GrantsAt : (old new : List Spending) → (memory bank count : ℕ) → Result Granted Full → Type 0
GrantsAt old new memory bank count (Ok token) =
    (token ≡ record { memory = memory; bank = bank; first = spent_at old memory bank; count = count }) × SpentMore old new memory bank count
GrantsAt old new memory bank count (Err full) = (new ≡ old) × (ports_in old memory < spent_at old memory bank + count)

-- a mark is of one of these ledgers
pub record IsMark (ledgers : List Spending) (k : LedgerMark) : Type 0 where
  pub inside : k.memory < length ledgers
  pub ports : k.state.ports ≡ ports_in ledgers k.memory
  pub banks : length k.state.spent ≡ ledger_banks ledgers k.memory

abbrev pub AreMarks : List Spending → List LedgerMark → Type 0
AreMarks ledgers log = AllByRecursion (IsMark ledgers) log

-- the ledgers before the changes of a log, in which each mark is of the state before its change
abbrev pub undone_ledgers : List LedgerMark → List Spending → List Spending
undone_ledgers [] ledgers = ledgers
undone_ledgers (k ∷ ks) ledgers = slice_set (undone_ledgers ks ledgers) k.memory k.state

abbrev pub state_or : Option Spending → Spending → Spending
state_or None s = s
state_or (Some t) s = t

-- marks of the same memories, with the present states
abbrev pub ends_now : List Spending → List LedgerMark → List LedgerMark
ends_now ledgers [] = []
ends_now ledgers (k ∷ ks) = record { memory = k.memory; state = state_or (slice_get ledgers k.memory) k.state } ∷ ends_now ledgers ks

-- the most that is spent on a bank by marks
abbrev pub top : List LedgerMark → (memory bank : ℕ) → ℕ
top [] memory bank = 0
top (k ∷ ks) memory bank = max (if k.memory == memory then spent_on k.state bank else 0) (top ks memory bank)

-- each bank rises to the most of the marks, and a log says what was before
pub record Rises (ends : List LedgerMark) (old new : List Spending) (log then_log : List LedgerMark) : Type 0 where
  pub alike : Alike old new
  pub spent : (memory bank : ℕ) → spent_at new memory bank ≡ max (spent_at old memory bank) (top ends memory bank)
  pub more : List LedgerMark
  pub log_is : then_log ≡ log ++ more
  pub back : undone_ledgers more new ≡ old
