-- Which factors and brackets of views break the rule on them, `ViewFactor` (K13). (The rule of this profile, after
-- Nigam and others, PLDI 2020.) Numbers are read as they are written.
use Rattle.std.specs.Prelude.{ℕ, ◌%◌, ◌==◌, ◌&&◌, not, Bool, true, false, List, [], ◌∷◌, ◌++◌, length, Option, Some, None}
use Rattle.dh_base.specs.declared.places.Place.{Place}
use Rattle.dh_base.specs.declared.rules.Rule.TheVariants.{ViewFactor}
use Rattle.dh_tree.specs.declared.breaches.Breach.{Breach}
use Rattle.dh_tree.specs.declared.tables.Dim.{Dim}
use Rattle.dh_tree.specs.declared.tables.Shape.{Shape}
use Rattle.dh_tree.specs.Indices.{divides}
use Rattle.dh_tree.specs.Kinds.{when}
use Rattle.dh_tree.specs.LeastBreach.{breach}
use Rattle.dh_tree.specs.Memories.{Memory, memories_of}
use Rattle.dh_tree.specs.PlainTrees.{ViewPlan, shrinks, splits, suffixes, shifts, Program}
use Rattle.dh_tree.specs.declared.viewing.Viewed.{Viewed}
use Rattle.dh_tree.specs.Views.{Viewing, factors_of, views_of, viewed_of, shape_in}

-- Factors.

-- a factor of a suffix is a multiple of the banks, and not 0
abbrev pub is_multiple : (factor banks : ℕ) → Bool
is_multiple factor banks = not (factor == 0) && (factor % banks == 0)

-- the breach at a factor that does not keep the rule
abbrev pub factor_broken : (keeps : Bool) → Place → List Breach
factor_broken keeps place = when (not keeps) (breach ViewFactor place ∷ [])

-- a factor that divides the banks, as those of shrunk views and of splits do, or is a multiple of them
abbrev pub factor_keeps : (multiplies : Bool) → (factor banks : ℕ) → Bool
factor_keeps false factor banks = divides factor banks
factor_keeps true factor banks = is_multiple factor banks

-- factors, each where it stands and with its dimension; at the parent's name where it has no place of its own, as
-- in no text
abbrev pub factors_breaches : (multiplies : Bool) → (parent : Place) → (factors : List ℕ) → List Place → List Dim → List Breach
factors_breaches m at (k ∷ ks) (p ∷ ps) (d ∷ ds) = factor_broken (factor_keeps m k d.banks) p ++ factors_breaches m at ks ps ds
factors_breaches m at (k ∷ ks) [] (d ∷ ds) = factor_broken (factor_keeps m k d.banks) at ++ factors_breaches m at ks [] ds
factors_breaches m at (k ∷ ks) ps [] = []
factors_breaches m at [] ps ds = []

-- at the parent's name, where there is not one bracket for each of its dimensions
abbrev pub brackets_broken : (fits : Bool) → Place → List Breach
brackets_broken fits place = when (not fits) (breach ViewFactor place ∷ [])

-- how many brackets there are
abbrev pub brackets_of : ViewPlan → ℕ
brackets_of (shrinks by by_place) = length by
brackets_of (splits by by_place) = length by
brackets_of (suffixes by by_place) = length by
brackets_of (shifts by) = length by

-- one for each dimension of the parent; of a split there is one dimension
abbrev pub brackets_fit : ViewPlan → (dims : ℕ) → Bool
brackets_fit (shrinks by by_place) dims = length by == dims
brackets_fit (splits by by_place) dims = (length by == 1) && (dims == 1)
brackets_fit (suffixes by by_place) dims = length by == dims
brackets_fit (shifts by) dims = length by == dims

-- the factors are multiples of the banks, and do not divide them
abbrev pub multiplies : ViewPlan → Bool
multiplies (shrinks by by_place) = false
multiplies (splits by by_place) = false
multiplies (suffixes by by_place) = true
multiplies (shifts by) = false

abbrev pub places_of : ViewPlan → List Place
places_of (shrinks by by_place) = by_place
places_of (splits by by_place) = by_place
places_of (suffixes by by_place) = by_place
places_of (shifts by) = []

-- a view of what has these dimensions
abbrev pub plan_breaches : (dims : List Dim) → (parent : Place) → ViewPlan → List Breach
plan_breaches dims parent form =
    brackets_broken (brackets_fit form (length dims)) parent ++ factors_breaches (multiplies form) parent (factors_of form) (places_of form) dims

-- that of a view whose parent has this shape
abbrev pub viewing_breaches : Viewing → Option Shape → List Breach
viewing_breaches v None = []
viewing_breaches v (Some s) = plan_breaches s.dims v.parent.place v.form

-- those of views behind others
abbrev pub viewings_breaches : List Memory → (before : List Viewed) → List Viewing → List Breach
viewings_breaches ms before [] = []
viewings_breaches ms before (v ∷ vs) =
    viewing_breaches v (shape_in ms before v.parent.entity) ++ viewings_breaches ms (before ++ viewed_of v (shape_in ms before v.parent.entity)) vs

-- the breaches of the views of a program
abbrev pub factor_breaches_of : Program → List Breach
factor_breaches_of p = viewings_breaches (memories_of p) [] (views_of p)
