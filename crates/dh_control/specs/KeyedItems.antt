-- Items that belong to numbers.
use Rattle.std.specs.Prelude.{◌≡◌, ℕ, ◌<◌, ◌==◌, if◌then◌else◌, List, [], ◌∷◌, ◌++◌, map, set, slice_get, slice_index_or, Some, Vec}
use Rattle.std.specs.Global.{Global}
use Rattle.dh_control.specs.declared.gathering.Keyed.{Keyed}

-- the items of vectors
abbrev pub vector_items : {A : Type 0} → List (Vec A Global) → List (List A)
vector_items lists = map (λ l. l.items) lists

-- the items of a number, in order
abbrev pub items_picked : {A : Type 0} → (key : ℕ) → List (Keyed A) → List A
items_picked key [] = []
items_picked key (e ∷ es) = if e.key == key then e.item ∷ items_picked key es else items_picked key es

-- an item is put behind those of one of the lists, where that is there
abbrev pub PutsBehind : {A : Type 0} → (old new : List (Vec A Global)) → (place : ℕ) → A → Type 0
PutsBehind old new place item = vector_items new ≡ set (vector_items old) place (slice_index_or (vector_items old) place [] ++ item ∷ [])

-- the lists are those of the items of the first numbers, so many
abbrev pub AreGathered : {A : Type 0} → (count : ℕ) → List (Keyed A) → (lists : List (Vec A Global)) → Type 0
AreGathered count entries lists = (key : ℕ) → key < count → slice_get (vector_items lists) key ≡ Some (items_picked key entries)
