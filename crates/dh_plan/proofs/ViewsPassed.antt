-- A plan's way is that of the meaning.
use Rattle.std.proofs.Common.{◌≡◌, List, [], ◌∷◌, take, drop, Option, Some, None, refl, ap, ◌∙◌, ℤ}
use Rattle.dh_tree.specs.declared.viewing.ViewMap.{ViewMap}
use Rattle.dh_tree.specs.ViewElements.{view_through, where_inside}
use Rattle.dh_meaning.specs.Effects.{indices_through}
use Rattle.dh_meaning.specs.Ways.{WayStep}
use Rattle.dh_plan.specs.Passages.{Passage, indices_behind, through_view}
use Rattle.dh_plan.specs.WaysPassed.{AreOfSteps}

follows_same : (o : Option (List ℤ)) (f g : List ℤ → Option (List ℤ)) → ((is : List ℤ) → f is ≡ g is) → where_inside o f ≡ where_inside o g
follows_same None f g h = refl
follows_same (Some is) f g h = h is

pub passed : (views : List ViewMap) (steps : List WayStep) (passages : List Passage) (offsets indices : List ℤ) → AreOfSteps views steps passages offsets
    → indices_behind views passages indices ≡ indices_through steps indices offsets
passed views [] [] offsets indices h = refl
passed views [] (p ∷ ps) offsets indices h = absurd h
passed views (s ∷ ss) [] offsets indices h = absurd h
passed views (s ∷ ss) (p ∷ ps) offsets indices h =
    ap (λ o. where_inside (through_view o p.offsets indices) (indices_behind views ps)) h.0
    ∙ (ap (λ os. where_inside (view_through s.is os indices) (indices_behind views ps)) h.1.0
    ∙ follows_same (view_through s.is (take s.offsets offsets) indices) (indices_behind views ps) (λ inner. indices_through ss inner (drop s.offsets offsets))
    (λ is. passed views ss ps (drop s.offsets offsets) is h.1.1))
