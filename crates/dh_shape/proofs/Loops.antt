-- What has no entity is no iterator.
use Rattle.std.proofs.Common.{◌≡◌, ℕ, List, [], ◌∷◌, Option, Some, None, ℤ, false, if◌then◌else◌, refl, sym, ap, ◌∙◌, subst}
use Rattle.dh_value.specs.declared.kinds.Kind.{Kind}
use Rattle.dh_tree.specs.declared.trees.counters.Counter.{Counter}
use Rattle.dh_tree.specs.Counters.{counter_in}
use Rattle.dh_tree.specs.Indices as indices
use Rattle.dh_tree.specs.Memories.{same_entity}
use Rattle.dh_shape.specs.Classified.{Classifies}
use Rattle.dh_shape.specs.declared.indices.IndexKind.TheVariants as kinds

same_none : (e : Option ℕ) → same_entity e None ≡ false
same_none None = refl
same_none (Some n) = refl

none_counts : (cs : List Counter) → counter_in cs None ≡ None
none_counts [] = refl
none_counts (c ∷ cs) = ap (λ b. if b then Some c else counter_in cs None) (same_none c.entity) ∙ none_counts cs

pub no_iterator : (cs : List Counter) (kind : Option Kind) (entity : Option ℕ) (offset : ℤ) → entity ≡ None → Classifies cs (indices.counted kind (counter_in cs entity) offset) kinds.Dynamic
no_iterator cs kind entity offset is =
    subst (λ (o : Option Counter). Classifies cs (indices.counted kind o offset) kinds.Dynamic) (sym (ap (λ e. counter_in cs e) is ∙ none_counts cs)) tt
