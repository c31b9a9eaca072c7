-- Charges carried from a view to its parent: what a bank of the parent is charged with, by what the banks of the
-- view are. Shrink charges each bank that a bank of the view covers, split and suffix the bank itself, and a shift
-- every bank with the largest charge on a bank of the view. (Ports are the affine resources of Nigam and others,
-- PLDI 2020; how charges are carried is this project's.)
use Rattle.std.specs.Prelude.{◌≡◌, ◌<◌, ◌⊎◌, ℕ, zero, suc, ◌==◌, max, nat_eq, List, [], ◌∷◌, map, slice_index, Some, ℤ}
use Rattle.std.specs.Cmp.Lexicographic.{pointwise}
use Rattle.std.specs.List.{filter}
use Rattle.std.specs.Set.{distinct_count}
use Rattle.dh_tree.specs.declared.tables.Dim.{Dim}
use Rattle.dh_tree.specs.Elements.{banks_of}
use Rattle.dh_tree.specs.declared.viewing.ViewMap.{ViewMap}
use Rattle.dh_tree.specs.declared.viewing.ViewSort.{ViewSort}
use Rattle.dh_tree.specs.declared.viewing.ViewSort.TheVariants.{Shrink, Split, Suffix, Shift}
use Rattle.dh_viewing.specs.ReachedBanks.{bank_at, covering}
use Rattle.dh_tree.specs.ViewElements.{element_through}

-- the largest charge on so many banks
abbrev pub largest : (charge : ℕ → ℕ) → (banks : ℕ) → ℕ
largest charge zero = 0
largest charge (suc n) = max (largest charge n) (charge n)

abbrev pub carried_as : ViewSort → (view parent : List Dim) → (charge : ℕ → ℕ) → (bank : ℕ) → ℕ
carried_as Shrink view parent charge bank = charge (covering view parent bank)
carried_as Split view parent charge bank = charge bank
carried_as Suffix view parent charge bank = charge bank
carried_as Shift view parent charge bank = largest charge (banks_of view)

-- what a bank of the parent is charged with
abbrev pub carried : ViewMap → (charge : ℕ → ℕ) → (bank : ℕ) → ℕ
carried v charge bank = carried_as v.sort v.shape.dims v.parent.dims charge bank

-- and behind all views on the way, the named one first
abbrev pub carried_by : List ViewMap → (charge : ℕ → ℕ) → (bank : ℕ) → ℕ
carried_by [] charge bank = charge bank
carried_by (v ∷ vs) charge bank = carried_by vs (carried v charge) bank

-- Copies.

-- a copy of an access that leads to an element: its key, and the bank in which the element lies of each view on its
-- way, the named one first, and of the memory
pub record Copy : Type 0 where
  pub key : List ℕ
  pub banks : List ℕ

abbrev pub bank_in : (level : ℕ) → Copy → ℕ
bank_in level c = slice_index c.banks level

-- how many distinct keys have copies with an element in a bank, at a level of the way
abbrev pub keys_at : List Copy → (level bank : ℕ) → ℕ
keys_at cs level bank = distinct_count (pointwise nat_eq) (map (λ c. c.key) (filter (λ c. bank_in level c == bank) cs))

abbrev pub Among : Copy → List Copy → Type 0
Among c [] = ⊥
Among c (o ∷ cs) = (c ≡ o) ⊎ Among c cs

-- How the banks of a view, `from`, and of its parent, `to`, go together, for elements that are named with one list of
-- offsets: by a shift alone the bank of the one does not tell that of the other, but two elements in one bank of the
-- parent lie in one bank of the view.
abbrev pub Goes : {A : Type 0} → ViewSort → (view parent : List Dim) → (Here : A → Type 0) → (from to : A → ℕ) → Type 0
Goes {A} Shrink view parent Here from to = (a : A) → Here a → from a ≡ covering view parent (to a)
Goes {A} Split view parent Here from to = (a : A) → Here a → from a ≡ to a
Goes {A} Suffix view parent Here from to = (a : A) → Here a → from a ≡ to a
Goes {A} Shift view parent Here from to =
    ((a : A) → Here a → from a < banks_of view) × ((a b : A) → Here a → Here b → to a ≡ to b → from a ≡ from b)

-- so do the banks of copies, from one level of the way to the next
abbrev pub Leads : ViewMap → List Copy → (level : ℕ) → Type 0
Leads v cs level = Goes v.sort v.shape.dims v.parent.dims (λ c. Among c cs) (bank_in level) (bank_in (suc level))

abbrev pub AllLead : List ViewMap → List Copy → (level : ℕ) → Type 0
AllLead [] cs level = Unit {0}
AllLead (v ∷ vs) cs level = Leads v cs level × AllLead vs cs (suc level)

-- indices and what they name
pub record Passed : Type 0 where
  pub indices : List ℤ
  pub element : List ℤ

abbrev pub IsPassed : ViewMap → (offsets : List ℤ) → Passed → Type 0
IsPassed v offsets p = element_through v offsets p.indices ≡ Some p.element

-- so do the banks of indices of a view and of the elements that they name with one list of offsets
abbrev pub LeadsSo : ViewMap → Type 0
LeadsSo v = (offsets : List ℤ) → Goes v.sort v.shape.dims v.parent.dims (IsPassed v offsets) (λ p. bank_at v.shape.dims p.indices) (λ p. bank_at v.parent.dims p.element)

-- one of these views is a shift
abbrev pub HasShift : List ViewMap → Type 0
HasShift [] = ⊥
HasShift (v ∷ vs) = (v.sort ≡ Shift) ⊎ HasShift vs
