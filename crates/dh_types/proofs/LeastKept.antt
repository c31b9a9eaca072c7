-- The least of breaches one after the other, and of breaches that may lack.
use Rattle.std.proofs.Common.{◌≡◌, List, ◌++◌, Option, sym, ap, ◌∙◌}
use Rattle.dh_tree.specs.declared.breaches.Breach.{Breach}
use Rattle.dh_tree.specs.LeastBreach.{least_of}
use Rattle.dh_tree.proofs.Leasts.{least_append}

-- breaches one after the other, where those kept and the lists are known by equations
pub two_kept : (a b c : Option Breach) (xs ys : List Breach) → b ≡ least_of a xs → c ≡ least_of b ys → c ≡ least_of a (xs ++ ys)
two_kept a b c xs ys one two = two ∙ ap (λ k. least_of k ys) one ∙ sym (least_append a xs ys)

pub three_kept : (a b c d : Option Breach) (xs ys zs : List Breach) → b ≡ least_of a xs → c ≡ least_of b ys → d ≡ least_of c zs → d ≡ least_of a (xs ++ (ys ++ zs))
three_kept a b c d xs ys zs one two three = two_kept a b d xs (ys ++ zs) one (two_kept b c d ys zs two three)
