-- Which place a copy has among those of its access on a bank. Paths go by groups, one behind the other: those of a group
-- have one copy of each loop round the deepest shift on the way, so that a bank of the memory is reached from one bank
-- of what is named alone. A copy stands behind all that earlier groups carry, each the most of its leaders on one bank,
-- and behind the earlier leaders of its own group on its bank. (`leader` is for each path the first one with its key,
-- `bank` the bank of what is named that is reached there, and `group` the number of its group.)
use Rattle.std.specs.Prelude.{◌≡◌, ℕ, zero, suc, ◌+◌, ◌-◌, ◌^◌, ◌<◌, ◌≤◌, ◌==◌, ◌&&◌, min, max, Bool, if◌then◌else◌, List, [], slice_index}
use Rattle.dh_events.specs.Tables.{table_at, with_number}
use Rattle.dh_expressions.specs.declared.tallies.Tally.{Tally}
use Rattle.dh_expressions.specs.Numbers.{narrowed}

module _ (leader bank group : ℕ → ℕ) where
  -- how many of the first paths lead, are of a group and reach a bank
  abbrev pub leaders_in : (own_group own n : ℕ) → ℕ
  leaders_in own_group own zero = 0
  leaders_in own_group own (suc n) =
      if (leader n == n) && ((group n == own_group) && (bank n == own)) then suc (leaders_in own_group own n) else leaders_in own_group own n

  -- the most of them on one bank
  abbrev pub most_in : (own_group n : ℕ) → ℕ
  most_in own_group zero = 0
  most_in own_group (suc n) =
      if (leader n == n) && (group n == own_group) then max (most_in own_group n) (suc (leaders_in own_group (bank n) n)) else most_in own_group n

  -- what the first groups carry together, so many, as far as the first paths go
  abbrev pub carried_before : (groups n : ℕ) → ℕ
  carried_before zero n = 0
  carried_before (suc groups) n = carried_before groups n + most_in groups n

  -- the place of the copy at a path
  abbrev pub copy_place : (path : ℕ) → ℕ
  copy_place path = leaders_in (group path) (bank path) path + carried_before (group path) path

  -- The first n paths are counted: the leaders of the group of the last one on each bank, the most on one of them, and
  -- what earlier groups carry.
  pub record IsTally (n : ℕ) (t : Tally) (numbers : List ℕ) : Type 0 where
    pub counts : (own : ℕ) → slice_index numbers own ≡ leaders_in t.group own n
    pub most_is : t.most ≡ most_in t.group n
    pub base_is : t.base ≡ carried_before t.group n
    pub behind : (m : ℕ) → m < n → group m ≤ t.group
    pub ahead : (m : ℕ) → n ≤ m → t.group ≤ group m

-- the places of copies, in 32 bits
abbrev pub places_by : (leader bank group : ℕ → ℕ) → (path : ℕ) → ℕ
places_by leader bank group path = narrowed (copy_place leader bank group path)

-- One path after the other.

-- what is counted when the paths go on to a group
abbrev pub tally_in : Tally → (group : ℕ) → Tally
tally_in t group = if t.group == group then t else record { group = group; base = min (t.base + t.most) (2 ^ 64 - 1); most = 0 }

abbrev pub numbers_in_group : Tally → (group : ℕ) → List ℕ → List ℕ
numbers_in_group t group numbers = if t.group == group then numbers else []

-- one more copy, which leads or does not, where so many leaders are on its bank
abbrev pub tally_with : Tally → (leads : Bool) → (count : ℕ) → Tally
tally_with t leads count = if leads then record { group = t.group; base = t.base; most = max t.most (min (count + 1) (2 ^ 64 - 1)) } else t

abbrev pub numbers_with : List ℕ → (leads : Bool) → (bank count : ℕ) → ℕ → ℕ
numbers_with numbers leads bank count = if leads then with_number (table_at numbers) bank (min (count + 1) (2 ^ 64 - 1)) else table_at numbers

-- the copy at the next path is counted, and has this place
pub record PlacesNextCopy (t : Tally) (group bank : ℕ) (leads : Bool) (numbers after : List ℕ) (next : Tally) (place : ℕ) : Type 0 where
  pub place_is : place ≡ narrowed (min (slice_index (numbers_in_group t group numbers) bank + (tally_in t group).base) (2 ^ 64 - 1))
  pub next_is : next ≡ tally_with (tally_in t group) leads (slice_index (numbers_in_group t group numbers) bank)
  pub counts : table_at after ≡ numbers_with (numbers_in_group t group numbers) leads bank (slice_index (numbers_in_group t group numbers) bank)
