-- What is declared of the iterators of loops: among all variables the first with the number of the iterator has the
-- depth and the factor of its loop.
use Rattle.std.specs.Prelude.{◌≡◌, ℕ, List, Some}
use Rattle.dh_tree.specs.declared.trees.expressions.Ref.{Ref}
use Rattle.dh_meaning.specs.Bindings.{Binding, binding_in}
use Rattle.dh_meaning.specs.CoreOf.{entity_number}

-- the first variable with an iterator's number has this depth and iterates with this factor
pub record IsFoundWith (bs : List Binding) (iterator : Ref) (depth factor : ℕ) : Type 0 where
  pub binding : Binding
  pub bound : binding_in bs (entity_number iterator.entity) ≡ Some binding
  pub depth_is : binding.depth ≡ depth
  pub iterates : binding.iterates ≡ Some factor
