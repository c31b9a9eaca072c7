-- A word is found in a table exactly where it is found among the spellings of its length.
use Rattle.std.proofs.Common.{◌≡◌, ◌==◌, ℕ, true, false, List, [], ◌∷◌, length, if◌then◌else◌, bytes_eq, Some, None, refl, ap, sym, ◌∙◌, inl, inr, arith}
use Rattle.std.proofs.lemmas.Bool.{cases_Bool, false≢true, false_from_ne_true}
use Rattle.std.proofs.lemmas.Bool.Decides.{nat_tests}
use Rattle.std.proofs.lemmas.Slice.Eq.{bytes_eq-Decides}
use Rattle.dh_lexer.specs.Spellings.{Entry, words}
use Rattle.dh_lexer.specs.FrontPiece.{look_up, of_length, kept_word, word_of_length}

same_number : (a b : ℕ) → a ≡ b → (b == a) ≡ true
same_number a b e = grind (arith, nat_tests)

-- another length, another spelling
other_spelling : (w v : List ℕ) → (length v == length w) ≡ false → bytes_eq w v ≡ false
other_spelling w v other =
    false_from_ne_true (bytes_eq w v) (λ same. false≢true (sym other ∙ same_number (length w) (length v) (ap length ((bytes_eq-Decides w v).0 same))))

look_same : (es : List Entry) (w : List ℕ) → look_up es w ≡ look_up (of_length (length w) es) w
look_same [] w = refl
look_same (e ∷ es) w =
    elim (cases_Bool (length e.0 == length w)) [
      | inl same ↦ rw same (ap (λ o. if bytes_eq w e.0 then Some e.1 else o) (look_same es w))
      | inr other ↦ rw (other, other_spelling w e.0 other) (look_same es w)
    ]

pub kept_by_length : (w : List ℕ) (n : ℕ) → length w ≡ n → word_of_length n w ≡ kept_word w
unfolding kept_word word_of_length
kept_by_length w n e = ap (λ n. look_up (of_length n words) w) (sym e) ∙ sym (look_same words w)

not_number : (k n : ℕ) → (n ≡ k → ⊥) → (k == n) ≡ false
not_number k n other = grind (arith, nat_tests)

-- no word has another length
pub no_word : (w : List ℕ) (n : ℕ) → length w ≡ n → (n ≡ 2 → ⊥) → (n ≡ 3 → ⊥) → (n ≡ 4 → ⊥) → (n ≡ 5 → ⊥) → (n ≡ 6 → ⊥) → (n ≡ 7 → ⊥) → None ≡ kept_word w
unfolding word_of_length
no_word w n e h2 h3 h4 h5 h6 h7 =
    let t2 = not_number 2 n h2 in
    let t3 = not_number 3 n h3 in
    let t4 = not_number 4 n h4 in
    let t5 = not_number 5 n h5 in
    let t6 = not_number 6 n h6 in
    let t7 = not_number 7 n h7 in
    let none : word_of_length n w ≡ None = rw (t2, t3, t4, t5, t6, t7) refl in
    sym none ∙ kept_by_length w n e
