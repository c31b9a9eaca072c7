-- What the views of a plan and the table of a scene have to be: the views on the way of what a name stands for are those of
-- the plan by their numbers, and from each bank of what is named the banks of the memory are those that may be reached.
use Rattle.std.specs.Prelude.{◌≡◌, ℕ, ◌<◌, List, Some}
use Rattle.dh_tree.specs.declared.trees.expressions.Ref.{Ref}
use Rattle.dh_tree.specs.declared.viewing.ViewMap.{ViewMap}
use Rattle.dh_tree.specs.Elements.{banks_of}
use Rattle.dh_meaning.specs.CoreOf.{way_of}
use Rattle.dh_meaning.specs.Ways.{Way}
use Rattle.dh_meets.specs.Charges.{may_reach}
use Rattle.dh_viewing.specs.ReachedBanks.{is_in}
use Rattle.dh_expressions.specs.declared.scenes.Scene.{Scene}
use Rattle.dh_expressions.specs.Evaluated.{AreViews}
use Rattle.dh_expressions.specs.Named.{banks_seen, first_view, known_in}

-- so of a name with this way
pub record TellsWay (scene : Scene) (views : List ViewMap) (r : Ref) (w : Way) : Type 0 where
  pub views_are : AreViews scene.through.now views (first_view scene r) w.steps
  pub banks_are : (bank behind : ℕ) → bank < banks_of w.is.shape.dims → is_in (banks_seen scene r bank) behind ≡ may_reach w.steps bank behind

-- of all
abbrev pub TellsViews : Scene → List ViewMap → Type 0
TellsViews scene views = (r : Ref) (w : Way) → way_of (known_in scene) r ≡ Some w → TellsWay scene views r w
