-- Passages of a plan that are the steps of a way: their views, with the offsets that the steps take.
use Rattle.std.specs.Prelude.{◌≡◌, List, [], ◌∷◌, take, drop, slice_get, Some, ℤ}
use Rattle.dh_tree.specs.declared.viewing.ViewMap.{ViewMap}
use Rattle.dh_meaning.specs.Effects.{indices_through}
use Rattle.dh_meaning.specs.Ways.{WayStep}
use Rattle.dh_plan.specs.Passages.{Passage, indices_behind}

abbrev pub AreOfSteps : (views : List ViewMap) → List WayStep → List Passage → (offsets : List ℤ) → Type 0
AreOfSteps views [] [] offsets = Unit {0}
AreOfSteps views (s ∷ ss) (p ∷ ps) offsets =
    (slice_get views p.view ≡ Some s.is) × ((p.offsets ≡ take s.offsets offsets) × AreOfSteps views ss ps (drop s.offsets offsets))
AreOfSteps views _ _ offsets = ⊥

-- through them a plan leads indices where the meaning leads them through the way
abbrev pub WaysArePassed : Type 0
WaysArePassed =
    (views : List ViewMap) (steps : List WayStep) (passages : List Passage) (offsets indices : List ℤ) → AreOfSteps views steps passages offsets
    → indices_behind views passages indices ≡ indices_through steps indices offsets
