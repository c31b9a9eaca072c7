-- A program breaks no rule on shapes, indices, bounds and views.
use Rattle.std.specs.Prelude.{◌≡◌, []}
use Rattle.dh_tree.specs.Indices.{index_breaches_of}
use Rattle.dh_tree.specs.PlainTrees.{Program}
use Rattle.dh_tree.specs.ViewBreaches.{view_breaches_of}

pub record KeepsIndexRules (p : Program) : Type 0 where
  pub indices : index_breaches_of p ≡ []
  pub views : view_breaches_of p ≡ []
