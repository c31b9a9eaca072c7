-- Numbers by number, as functions: a place that was never set has 0.
use Rattle.std.specs.Prelude.{◌≡◌, ℕ, ◌==◌, if◌then◌else◌, List, Option, option_map, slice_index, Vec}
use Rattle.std.specs.Global.{Global}

abbrev pub table_at : List ℕ → ℕ → ℕ
table_at numbers place = slice_index numbers place

-- one number of a function changed
abbrev pub with_number : (ℕ → ℕ) → (place number : ℕ) → ℕ → ℕ
with_number f place number n = if place == n then number else f n

-- the numbers are those that this change makes of the ones before
abbrev pub ChangesNumbers : (old new : Vec ℕ Global) → ((ℕ → ℕ) → ℕ → ℕ) → Type 0
ChangesNumbers old new change = table_at new.items ≡ change (table_at old.items)

-- the numbers that are kept, where some are, as a function
abbrev pub kept_table : Option (Vec ℕ Global) → Option (ℕ → ℕ)
kept_table numbers = option_map (λ v. table_at v.items) numbers

-- they are those that this change makes of the ones before, where numbers are kept
abbrev pub ChangesKept : (old new : Option (Vec ℕ Global)) → ((ℕ → ℕ) → ℕ → ℕ) → Type 0
ChangesKept old new change = kept_table new ≡ option_map change (kept_table old)
