-- Which banks of its parent a view can reach from one of its own.
use Rattle.std.specs.Prelude.{◌≡◌, ℕ, ◌+◌, ◌*◌, ◌/◌, ◌%◌, ◌==◌, Bool, true, List, ◌∷◌, length, map, Some, ℤ, unsigned_abs}
use Rattle.std.specs.Int.{bit_at}
use Rattle.dh_tree.specs.declared.tables.Dim.{Dim}
use Rattle.dh_tree.specs.Elements as elements
use Rattle.dh_tree.specs.Elements.{bank_of}
use Rattle.dh_viewing.specs.declared.bank_sets.BankSet.{BankSet}
use Rattle.dh_tree.specs.declared.viewing.ViewMap.{ViewMap}
use Rattle.dh_tree.specs.declared.viewing.ViewSort.{ViewSort}
use Rattle.dh_tree.specs.declared.viewing.ViewSort.TheVariants.{Shrink, Split, Suffix, Shift}
use Rattle.dh_tree.specs.ViewElements.{element_through}

-- the bank of an element by indices that are within their dimensions
abbrev pub bank_at : List Dim → List ℤ → ℕ
bank_at dims indices = bank_of dims (map unsigned_abs indices)

-- some index of this bank of the view names, under some offsets, an element in this bank of the parent
pub record ReachesBank (v : ViewMap) (bank parent_bank : ℕ) : Type 0 where
  pub offsets : List ℤ
  pub indices : List ℤ
  pub element : List ℤ
  pub long : length offsets ≡ length v.parent.dims
  pub named : element_through v offsets indices ≡ Some element
  pub from_bank : bank_at v.shape.dims indices ≡ bank
  pub to_bank : bank_at v.parent.dims element ≡ parent_bank

-- a bank is in a set that has one bit for each
abbrev pub is_in : BankSet → (bank : ℕ) → Bool
is_in s bank = bit_at s.bits bank == 1

-- the bank of a shrunk view that covers a bank of its parent
abbrev pub covering : (view parent : List Dim) → (parent_bank : ℕ) → ℕ
covering (v ∷ vs) (p ∷ ps) bank = ((bank / elements.banks_of ps) % v.banks) * elements.banks_of vs + covering vs ps (bank % elements.banks_of ps)
covering _ _ bank = 0

-- it is told so by the sort of the view: fixed banks but for a shift, by which any bank is reached
abbrev pub is_reached_by_sort : ViewSort → (view parent : List Dim) → (bank parent_bank : ℕ) → Bool
is_reached_by_sort Shrink view parent bank parent_bank = covering view parent parent_bank == bank
is_reached_by_sort Split view parent bank parent_bank = parent_bank == bank
is_reached_by_sort Suffix view parent bank parent_bank = parent_bank == bank
is_reached_by_sort Shift view parent bank parent_bank = true

abbrev pub can_reach : ViewMap → (bank parent_bank : ℕ) → Bool
can_reach v bank parent_bank = is_reached_by_sort v.sort v.shape.dims v.parent.dims bank parent_bank
