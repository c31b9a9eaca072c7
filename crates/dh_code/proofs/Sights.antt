-- What operations behind others see.
use Rattle.std.proofs.Common.{◌≡◌, ℕ, suc, ◌+◌, ◌<◌, ◌≤◌, List, [], ◌∷◌, ◌++◌, length, refl, ap, sym, ◌∙◌, subst, arith, append_assoc, append-nil}
use Rattle.std.specs.Prelude.{slice_index}
use Rattle.std.proofs.lemmas.List.{get_or-set_same, get_or-set_other, length-set, length-append}
use Rattle.std.proofs.Math.Nat.{mod-eq_of_lt}
use Rattle.dh_value.specs.declared.kinds.Kind.{Kind}
use Rattle.dh_value.specs.declared.words.Word.{Word}
use Rattle.dh_value.specs.Words.{IsWord, with_bits}
use Rattle.dh_meaning.specs.Effects.{Begun}
use Rattle.dh_code.specs.declared.codes.Operand.{Operand}
use Rattle.dh_code.specs.declared.codes.Operand.TheVariants.{Constant, Variable, Given}
use Rattle.dh_code.specs.declared.codes.CodeOperation.{CodeOperation}
use Rattle.dh_code.specs.Operated.{Sight, events_after, lowest_word, operand_word, events_of_operation, word_of_operation, sight_after, with_given}
use Rattle.dh_code.specs.Made.{one_more}

next_number : (at n : ℕ) → at + 1 + n ≡ at + suc n
next_number at n = omega arith

no_number : (at : ℕ) → at ≡ at + 0
no_number at = omega arith

module _ (b : Begun) where
  pub sight_append : (w : Sight) (at : ℕ) (xs ys : List CodeOperation) → sight_after b w at (xs ++ ys) ≡ sight_after b (sight_after b w at xs) (at + length xs) ys
  sight_append w at [] ys = ap (λ n. sight_after b w n ys) (no_number at)
  sight_append w at (x ∷ xs) ys =
      sight_append (with_given b w at x) (at + 1) xs ys
      ∙ ap (λ n. sight_after b (sight_after b (with_given b w at x) (at + 1) xs) n ys) (next_number at (length xs))

  pub events_append : (w : Sight) (at : ℕ) (xs ys : List CodeOperation) → events_after b w at (xs ++ ys) ≡ events_after b w at xs ++ events_after b (sight_after b w at xs) (at + length xs) ys
  events_append w at [] ys = ap (λ n. events_after b w n ys) (no_number at)
  events_append w at (x ∷ xs) ys =
      ap (λ l. events_of_operation b w x ++ l)
      (events_append (with_given b w at x) (at + 1) xs ys
      ∙ ap (λ n. events_after b (with_given b w at x) (at + 1) xs ++ events_after b (sight_after b (with_given b w at x) (at + 1) xs) n ys) (next_number at (length xs)))
      ∙ sym (append_assoc (events_of_operation b w x) (events_after b (with_given b w at x) (at + 1) xs) (events_after b (sight_after b (with_given b w at x) (at + 1) xs) (at + suc (length xs)) ys))

  pub slots_stay : (w : Sight) (at : ℕ) (xs : List CodeOperation) → (sight_after b w at xs).slots ≡ w.slots
  slots_stay w at [] = refl
  slots_stay w at (x ∷ xs) = slots_stay (with_given b w at x) (at + 1) xs

  pub ranks_stay : (w : Sight) (at : ℕ) (xs : List CodeOperation) → (sight_after b w at xs).ranks ≡ w.ranks
  ranks_stay w at [] = refl
  ranks_stay w at (x ∷ xs) = ranks_stay (with_given b w at x) (at + 1) xs

  pub room_stays : (w : Sight) (at : ℕ) (xs : List CodeOperation) → length (sight_after b w at xs).given ≡ length w.given
  room_stays w at [] = refl
  room_stays w at (x ∷ xs) = room_stays (with_given b w at x) (at + 1) xs ∙ length-set w.given at (word_of_operation b w x).bits

  -- what was given before stays
  pub given_stays : (w : Sight) (at : ℕ) (xs : List CodeOperation) (i : ℕ) → i < at → slice_index (sight_after b w at xs).given i ≡ slice_index w.given i
  given_stays w at [] i early = refl
  given_stays w at (x ∷ xs) i early =
      given_stays (with_given b w at x) (at + 1) xs i (omega (arith, early))
      ∙ get_or-set_other w.given at i (word_of_operation b w x).bits 0 (λ same. elim (never same early) [ ])
    where
      never : i ≡ at → i < at → ⊥
      never e f = omega (arith, e, f)

  -- an operand that was given before a number
  abbrev pub IsBefore : ℕ → Operand → Type 0
  IsBefore n (Constant word) = Unit {0}
  IsBefore n (Variable first depth kind mask) = Unit {0}
  IsBefore n (Given kind at mask) = at < n

  pub before_more : (m n : ℕ) (o : Operand) → m ≤ n → IsBefore m o → IsBefore n o
  before_more m n (Constant word) le h = tt
  before_more m n (Variable first depth kind mask) le h = tt
  before_more m n (Given kind at mask) le h = omega (arith, le, h)

  pub operand_stays : (w : Sight) (at : ℕ) (xs : List CodeOperation) (o : Operand) → IsBefore at o → operand_word (sight_after b w at xs) o ≡ operand_word w o
  operand_stays w at xs (Constant word) h = refl
  operand_stays w at xs (Variable first depth kind mask) h =
      ap (λ l. lowest_word kind (slice_index l (first + slice_index (sight_after b w at xs).ranks depth))) (slots_stay w at xs)
      ∙ ap (λ l. lowest_word kind (slice_index w.slots (first + slice_index l depth))) (ranks_stay w at xs)
  operand_stays w at xs (Given kind i mask) h = ap (λ n. lowest_word kind n) (given_stays w at xs i h)

  abbrev pub AreBefore : ℕ → List Operand → Type 0
  AreBefore n [] = Unit {0}
  AreBefore n (o ∷ os) = IsBefore n o × AreBefore n os

  -- one operation more, whose word has this kind
  module _ (w : Sight) (at : ℕ) (xs : List CodeOperation) (o : CodeOperation) (k : Kind) where
    abbrev there : Sight
    there = sight_after b w at xs

    abbrev word : Word
    word = word_of_operation b there o

    pub more_events : events_after b w at (xs ++ o ∷ []) ≡ events_after b w at xs ++ events_of_operation b there o
    more_events = events_append w at xs (o ∷ []) ∙ ap (λ l. events_after b w at xs ++ l) (append-nil (events_of_operation b there o))

    pub more_value : IsWord word → word.kind ≡ k → at + length xs < length w.given → operand_word (sight_after b w at (one_more at xs o k).operations) (one_more at xs o k).value ≡ word
    more_value is same room =
        ap (λ (x : Sight). lowest_word k (slice_index x.given (at + length xs))) (sight_append w at xs (o ∷ []))
        ∙ (ap (λ n. lowest_word k n) (get_or-set_same there.given (at + length xs) word.bits 0 (subst (λ (n : ℕ). at + length xs < n) (sym (room_stays w at xs)) room))
        ∙ (ap (λ (j : Kind). lowest_word j word.bits) (sym same) ∙ ap (λ n. with_bits word.kind n) (mod-eq_of_lt is.fits)))

    pub more_before : IsBefore (at + length (xs ++ o ∷ [])) (one_more at xs o k).value
    more_before = last (length xs) (length (xs ++ o ∷ [])) (length-append xs (o ∷ []))
      where
        last : (n m : ℕ) → m ≡ n + 1 → at + n < at + m
        last n m e = omega (arith, e)
