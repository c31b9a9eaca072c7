-- What the functions promise one another that list the views on a way.
use Rattle.std.specs.Prelude.{◌≡◌, ℕ, List, [], ◌∷◌, ◌++◌, length, map, min, take}
use Rattle.dh_tree.specs.declared.viewing.ViewMap.{ViewMap}
use Rattle.dh_tree.specs.ViewElements.{offsets_needed}
use Rattle.dh_meaning.specs.Ways.{Way, step_of}
use Rattle.dh_plan.specs.declared.operations.ReachStep.{ReachStep}
use Rattle.dh_expressions.specs.declared.elements.Aim.{Aim}
use Rattle.dh_expressions.specs.declared.scenes.Scene.{Scene}
use Rattle.dh_expressions.specs.Evaluated.{steps_told}

-- a view of a number, with as many of the values as it takes offsets, as far as they go
pub record AddsView (old new : List ReachStep) (number : ℕ) (link : ViewMap) (rest : List ℕ) (taken : ℕ) : Type 0 where
  pub added : new ≡ old ++ record { view = number; offsets = take (offsets_needed link.sort link.parent.dims) rest } ∷ []
  pub taken_is : taken ≡ min (offsets_needed link.sort link.parent.dims) (length rest)

-- views of which each is behind the one before it and the first has this number, with the values of their offsets
abbrev pub AddsViews : Scene → (first : ℕ) → List ViewMap → (values : List ℕ) → (old new : List ReachStep) → Type 0
AddsViews scene first links values old new = new ≡ old ++ steps_told scene.through.now first (map step_of links) values

-- those on a way, of which the first has this number
abbrev pub way_steps : Scene → (first : ℕ) → Way → (values : List ℕ) → List ReachStep
way_steps scene first w values = steps_told scene.through.now first w.steps values

-- an access that goes through these views
abbrev pub with_steps : Aim → List ReachStep → Aim
with_steps aim steps = record { indices = aim.indices; steps = steps; row = aim.row; number = aim.number }
