-- What contracts see of the views of a program and of their ways, as code keeps them.
use Rattle.std.specs.Prelude.{ℕ, List, Option}
use Rattle.dh_tree.specs.declared.viewing.ViewMap.{ViewMap}
use Rattle.dh_ways.specs.declared.ways.Hidden.{Hidden}

-- the way from a view to its memory
pub record KeptWay : Type 0 where
  -- the view that is named, those behind it in order, and the entity of the memory
  pub view : ViewMap
  pub behind : List ViewMap
  pub memory : Option ℕ
  -- where the offsets of all of them are kept, in the same order
  pub hidden : List Hidden
  -- the depth of the deepest view that moves, and of the deepest shift; 0 where there is none
  pub deepest : ℕ
  pub shifts : ℕ

-- a view by its entity, with its way
pub record KeptLed : Type 0 where
  pub entity : Option ℕ
  pub way : KeptWay
