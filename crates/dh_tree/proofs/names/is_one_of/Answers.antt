-- A word of the list is the text where the comparison of bytes says so.
use Rattle.std.proofs.Common.{◌≡◌, ℕ, ◌<◌, length, map, true, false, List, get_or, Bor, refl, sym, ◌∙◌, arith, below_more}
use Rattle.std.specs.Prelude.{bytes_eq}
use Rattle.std.proofs.lemmas.List.{get_or-map, length-map}
use Rattle.std.proofs.lemmas.Slice.Eq.{bytes_eq-Decides}
use Rattle.dh_tree.proofs.names.is_one_of.Goals as goal

word_at : (words : List (Bor (List ℕ))) (i : ℕ) (d : Bor (List ℕ)) (text : List ℕ) → i < length words
    → get_or (map (λ word. word.now) words) i text ≡ (get_or words i d).now
word_at words i d text inside = get_or-map (λ word. word.now) words i d text inside

same : (words : List (Bor (List ℕ))) (i : ℕ) (d : Bor (List ℕ)) (text : List ℕ) → i < length words
    → bytes_eq (get_or words i d).now text ≡ true → get_or (map (λ word. word.now) words) i text ≡ text
same words i d text inside e = word_at words i d text inside ∙ (bytes_eq-Decides (get_or words i d).now text).0 e

other : (words : List (Bor (List ℕ))) (i : ℕ) (d : Bor (List ℕ)) (text : List ℕ) → i < length words
    → bytes_eq (get_or words i d).now text ≡ false → get_or (map (λ word. word.now) words) i text ≡ text → ⊥
other words i d text inside e is =
    let yes_it_is = (bytes_eq-Decides (get_or words i d).now text).1 (sym (word_at words i d text inside) ∙ is) in
    cc

pub returns-then-eq : goal.returns-then-eq
returns-then-eq c =
    let inside : c.loop-word.word-index < length (map (λ word. word.now) c.args.words.now) = omega (arith, length-map c.args.words.now (λ word. word.now)) in
    (λ _. (c.loop-word.word-index, inside, same c.args.words.now _ _ _ c.loop-word-test.true (sym c.if-eq.ensures)), λ _. refl)

pub loop-word-preserved : goal.loop-word-preserved
loop-word-preserved c = below_more _ _ c.loop-word.invariant (other c.args.words.now _ _ _ c.loop-word-test.true (sym c.if-eq.ensures))
