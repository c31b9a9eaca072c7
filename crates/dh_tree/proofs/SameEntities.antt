-- Two names that are found to stand for the same entity do so.
use Rattle.std.proofs.Common.{◌≡◌, ℕ, true, Option, Some, None, refl, ap, sym, ◌∙◌}
use Rattle.std.proofs.lemmas.Bool.{eqb-true, eq-eqb}
use Rattle.dh_tree.specs.Memories.{same_entity}

pub one_entity : (a b : Option ℕ) → same_entity a b ≡ true → (n : ℕ) × ((a ≡ Some n) × (b ≡ Some n))
one_entity None b e = absurd cc
one_entity (Some m) None e = absurd cc
one_entity (Some m) (Some n) e = (n, (ap Some (eqb-true m n e), refl))

pub equal_entities : (a b : Option ℕ) → same_entity a b ≡ true → a ≡ b
equal_entities a b e = let h = one_entity a b e in h.1.0 ∙ sym h.1.1

pub is_itself : (n : ℕ) → same_entity (Some n) (Some n) ≡ true
is_itself n = eq-eqb n n refl
