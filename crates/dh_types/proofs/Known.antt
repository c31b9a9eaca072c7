-- What is known, one fact after the other.
use Rattle.std.proofs.Common.{◌≡◌, ℕ, ◌+◌, ◌<◌, ◌≤◌, List, [], ◌∷◌, length, map, drop, get_or, sym, ap, ◌∙◌}
use Rattle.std.proofs.lemmas.List.{append-nil, append_assoc, drop_all}
use Rattle.dh_tree.specs.Kinds.{Fact, Facts}
use Rattle.dh_types.specs.Walks.{TypingState, learned, knows}
use Rattle.dh_base.proofs.ListItems.{at_item}

abbrev with_facts : TypingState → Facts → TypingState
with_facts s l = record { facts = l; least = s.least }

module _ {C D : Type 0} (seen : C → D) (to : D → Fact) where
  -- one more fact is learned
  pub known_next : (s s' all : TypingState) (xs : List C) (i : ℕ) (x : C) → i < length xs → x ≡ get_or xs i x → s' ≡ learned s (to (seen x))
      → knows s (map to (map seen (drop i xs))) ≡ all → knows s' (map to (map seen (drop (i + 1) xs))) ≡ all
  known_next s s' all xs i x within is next so =
      let rest = map to (map seen (drop (i + 1) xs)) in
      ap (λ z. knows z rest) next
      ∙ ap (with_facts s) (append_assoc s.facts (to (seen x) ∷ []) rest)
      ∙ sym (ap (λ l. knows s (map to (map seen l))) (at_item xs i x within is))
      ∙ so

  -- all are learned
  pub known_all : (s all : TypingState) (xs : List C) (i : ℕ) → length xs ≤ i → knows s (map to (map seen (drop i xs))) ≡ all → s ≡ all
  known_all s all xs i past so = sym (ap (with_facts s) (append-nil s.facts)) ∙ sym (ap (λ l. knows s (map to (map seen l))) (drop_all i xs past)) ∙ so
