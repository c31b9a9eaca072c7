-- What the shape of a view is, by its sort, its parent's shape and its factors. (The table of views of this
-- profile.)
use Rattle.std.specs.Prelude.{◌≡◌, ℕ, ◌≤◌, ◌*◌, List, [], ◌∷◌}
use Rattle.dh_tree.specs.declared.tables.Dim.{Dim}
use Rattle.dh_tree.specs.Shapes.{IsShape}
use Rattle.dh_tree.specs.declared.viewing.ViewMap.{ViewMap}
use Rattle.dh_tree.specs.declared.viewing.ViewSort.{ViewSort}
use Rattle.dh_tree.specs.declared.viewing.ViewSort.TheVariants.{Shrink, Split, Suffix, Shift}

-- a dimension of a view, its parent's, and the factor
abbrev pub IsDimOf : ViewSort → (view parent : Dim) → (factor : ℕ) → Type 0
IsDimOf Shrink v p k = (v.size ≡ p.size) × ((v.banks * k ≡ p.banks) × (1 ≤ k))
IsDimOf Suffix v p k = (v ≡ p) × ((1 ≤ k) × ((m : ℕ) × (k ≡ m * p.banks)))
IsDimOf Shift v p k = ⊥
IsDimOf Split v p k = ⊥

abbrev pub AreDimsOf : ViewSort → (view parent : List Dim) → (factors : List ℕ) → Type 0
AreDimsOf sort [] [] [] = Unit {0}
AreDimsOf sort (v ∷ vs) (p ∷ ps) (k ∷ ks) = IsDimOf sort v p k × AreDimsOf sort vs ps ks
AreDimsOf sort vs ps ks = ⊥

-- of one dimension two: as many copies as the factor, and each copy's share of the elements and banks
abbrev pub AreSplitOf : (view parent : List Dim) → (factors : List ℕ) → Type 0
AreSplitOf (v ∷ w ∷ []) (p ∷ []) (k ∷ []) =
    ((v.size ≡ k) × (v.banks ≡ k)) × ((w.size * k ≡ p.size) × ((w.banks * k ≡ p.banks) × (1 ≤ k)))
AreSplitOf vs ps ks = ⊥

abbrev pub IsShapeOf : ViewSort → (view parent : List Dim) → (factors : List ℕ) → Type 0
IsShapeOf Shrink vs ps ks = AreDimsOf Shrink vs ps ks
IsShapeOf Split vs ps ks = AreSplitOf vs ps ks
IsShapeOf Suffix vs ps ks = AreDimsOf Suffix vs ps ks
IsShapeOf Shift vs ps ks = (vs ≡ ps) × (ks ≡ [])

-- a view has the kind and the ports of its parent, and the shape of its sort
pub record IsViewMap (v : ViewMap) : Type 0 where
  pub kind : v.shape.kind ≡ v.parent.kind
  pub ports : v.shape.ports ≡ v.parent.ports
  pub shape : IsShapeOf v.sort v.shape.dims v.parent.dims v.by
  pub parent : IsShape v.parent
  pub own : IsShape v.shape
