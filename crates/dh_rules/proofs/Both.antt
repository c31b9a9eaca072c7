-- The first breach of the rules on shapes, from that of the walk and those of views behind it.
use Rattle.std.proofs.Common.{◌≡◌, [], Option, Some, None, ap, sym, ◌∙◌}
use Rattle.dh_tree.specs.declared.breaches.Breach.{Breach}
use Rattle.dh_tree.specs.Indices.{index_breaches_of}
use Rattle.dh_tree.specs.LeastBreach.{IsLeast, least_of}
use Rattle.dh_tree.specs.PlainTrees.{Program}
use Rattle.dh_tree.specs.ViewBreaches.{shapes_breaches_of, view_breaches_of}
use Rattle.dh_tree.proofs.FirstBreaches.{none_is_kept, least_is_kept}
use Rattle.dh_tree.proofs.Leasts.{least_append}

all_shapes : (p : Program) (walked all : Option Breach) → walked ≡ least_of None (index_breaches_of p) → all ≡ least_of walked (view_breaches_of p) → all ≡ least_of None (shapes_breaches_of p)
all_shapes p walked all e f = f ∙ (ap (λ k. least_of k (view_breaches_of p)) e ∙ sym (least_append None (index_breaches_of p) (view_breaches_of p)))

pub first_shape : (p : Program) (walked all : Option Breach) (b : Breach) → walked ≡ least_of None (index_breaches_of p) → all ≡ least_of walked (view_breaches_of p) → all ≡ Some b
    → IsLeast (shapes_breaches_of p) b
first_shape p walked all b e f is = least_is_kept (shapes_breaches_of p) b (sym (all_shapes p walked all e f) ∙ is)

pub no_shape : (p : Program) (walked all : Option Breach) → walked ≡ least_of None (index_breaches_of p) → all ≡ least_of walked (view_breaches_of p) → all ≡ None → shapes_breaches_of p ≡ []
no_shape p walked all e f is = none_is_kept (shapes_breaches_of p) (sym (all_shapes p walked all e f) ∙ is)
