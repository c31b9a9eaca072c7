-- How views and the offsets that they keep are declared: a view with the depth of the deepest view on its way that moves,
-- each offset on a way with its own depth; none of them iterates anything.
use Rattle.std.specs.Prelude.{◌≡◌, ℕ, Option, Some, None}
use Rattle.std.specs.List.{AllByRecursion}
use Rattle.dh_tree.specs.PlainTrees.{Program}
use Rattle.dh_meaning.specs.Bindings.{Binding, binding_in, depth_bound}
use Rattle.dh_meaning.specs.Ways.{Way, all_bindings_of, hidden_binding, way_to}

pub record IsBoundTo (p : Program) (entity : ℕ) (w : Way) : Type 0 where
  pub binding : Binding
  pub found : binding_in (all_bindings_of p) entity ≡ Some binding
  pub depth : binding.depth ≡ w.deepest
  pub plain : binding.iterates ≡ None

pub record ViewsBound (p : Program) : Type 0 where
  pub named : (entity : ℕ) (w : Way) → way_to p (Some entity) ≡ Some w → IsBoundTo p entity w
  pub kept : (entity : Option ℕ) (w : Way) → way_to p entity ≡ Some w → AllByRecursion (λ h. depth_bound (binding_in (all_bindings_of p) h.entity) ≡ h.depth) w.hidden
  pub bound : (entity : Option ℕ) (w : Way) → way_to p entity ≡ Some w → AllByRecursion (λ h. binding_in (all_bindings_of p) h.entity ≡ Some (hidden_binding h)) w.hidden
