-- What banks keep of what a step has spent of their ports.
use Rattle.std.specs.Prelude.{◌≡◌, ℕ, ◌+◌, ◌≤◌, ◌==◌, suc, Bool, true, false, if◌then◌else◌, List, [], ◌∷◌, ◌++◌, slice_get, Some, None, Result, Ok, Err}
use Rattle.std.specs.List.{list_any, AllByRecursion}
use Rattle.dh_base.specs.declared.lists.NoMemory.{NoMemory}
use Rattle.dh_tree.specs.declared.tables.MemEntry.{MemEntry}
use Rattle.dh_tree.specs.Elements.{ports_at}
use Rattle.dh_meaning.specs.Effects.{Event, rows_read, spent, stop_after}
use Rattle.dh_code.specs.Banks.{HasBank, first_bank}
use Rattle.dh_code.specs.declared.spending.Bank.{Bank}

-- the distinct rows of a bank that were read in a step
abbrev pub rows_now : Bank → (step : ℕ) → List ℕ
rows_now b step = if b.step == step then b.rows.items else []

-- the ports that are left in a step of a bank with so many
abbrev pub left_now : Bank → (ports step : ℕ) → ℕ
left_now b ports step = if b.step == step then b.left else ports

-- no step after this one has used the banks
abbrev pub AreUsedBy : ℕ → List Bank → Type 0
AreUsedBy step banks = AllByRecursion (λ b. b.step ≤ step) banks

-- banks that no later step has used are such again
abbrev pub StayUsed : (step : ℕ) → (old new : List Bank) → Type 0
StayUsed step old new = AreUsedBy step old → AreUsedBy step new

abbrev pub has_row : List ℕ → ℕ → Bool
has_row rows row = list_any (λ r. r == row) rows

-- a read of a row shares its port with an earlier read of the row, or takes one
abbrev pub ReadsRow : (rows : List ℕ) → (left row : ℕ) → Result Bool NoMemory → (rows' : List ℕ) → (left' : ℕ) → Type 0
ReadsRow rows left row (Ok true) rows' left' =
    (rows' ≡ (if has_row rows row then rows else rows ++ row ∷ [])) × (left ≡ (if has_row rows row then left' else suc left'))
ReadsRow rows left row (Ok false) rows' left' = (has_row rows row ≡ false) × (left ≡ 0)
ReadsRow rows left row (Err e) rows' left' = Unit {0}

-- a write takes a port
abbrev pub WritesRow : (rows : List ℕ) → (left : ℕ) → Bool → (rows' : List ℕ) → (left' : ℕ) → Type 0
WritesRow rows left true rows' left' = (rows' ≡ rows) × (left ≡ suc left')
WritesRow rows left false rows' left' = left ≡ 0

-- a bank keeps what these events of the latest step have spent of it
pub record HasSpent (table : List MemEntry) (es : List Event) (memory number now : ℕ) (b : Bank) : Type 0 where
  pub rows : (row : ℕ) → has_row (rows_now b now) row ≡ has_row (rows_read es memory number) row
  pub left : left_now b (ports_at table memory) now + spent es memory number ≡ ports_at table memory

-- the banks keep what these events of a step have spent, which is within the ports, without a fault
pub record HaveSpent (table : List MemEntry) (es : List Event) (now : ℕ) (banks : List Bank) : Type 0 where
  pub each : (memory number : ℕ) (b : Bank) → HasBank table memory number → slice_get banks (first_bank table memory + number) ≡ Some b → HasSpent table es memory number now b
  pub clear : stop_after table [] es ≡ None
  pub used : AreUsedBy now banks
