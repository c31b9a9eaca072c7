-- What is left of a list of numbers behind its next one; and answers that refuse.
use Rattle.std.proofs.Common.{◌≡◌, ℕ, ◌+◌, ◌<◌, IsTrue, false, List, ◌∷◌, length, drop, get_or, ap, sym, ◌∙◌, add-one}
use Rattle.std.proofs.Math.Seq.{drop-cons}

pub number_at : (xs : List ℕ) (i : ℕ) → i < length xs → drop i xs ≡ get_or xs i 0 ∷ drop (i + 1) xs
number_at xs i within = drop-cons xs i 0 within ∙ ap (λ (n : ℕ). get_or xs i 0 ∷ drop n xs) (sym (add-one i))

untrue : IsTrue false → ⊥
untrue e = cc

-- false is right where the fact is not so
pub refused : (P : Type 0) → (P → ⊥) → (IsTrue false → P) × (P → IsTrue false)
refused P never = (λ e. absurd (untrue e), λ p. absurd (never p))
