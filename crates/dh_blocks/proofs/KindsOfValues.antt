-- The value of an expression is of the kind that is written, and where it is no read it is a word: what memories hold
-- need be no word of their kind, all else is one.
use Rattle.std.proofs.Common.{◌≡◌, ℕ, ◌+◌, ◌-◌, ◌%◌, ◌^◌, Bool, true, false, refl, ap, sym, ◌∙◌, subst, ℤ}
use Rattle.std.specs.Prelude.{◌&&◌, not}
use Rattle.std.proofs.Math.Nat.{mod-lt}
use Rattle.std.proofs.lemmas.Bool.{eqb-true}
use Rattle.dh_value.specs.declared.kinds.Kind.{Kind}
use Rattle.dh_value.specs.declared.kinds.Kind.TheVariants as kind
use Rattle.dh_value.specs.declared.operators.Op.{Op}
use Rattle.dh_value.specs.declared.operators.Op.TheVariants as op
use Rattle.dh_value.specs.declared.words.Word.{Word}
use Rattle.dh_value.specs.Words as words
use Rattle.dh_value.specs.Words.{IsInteger, IsKind, IsWord, width_of, with_bits, word_of}
use Rattle.dh_value.specs.Operations.{Suits, binary_of, result_of, truth}
use Rattle.dh_value.proofs.Values.{integer_width}
use Rattle.dh_value.proofs.WordLaws.{binary_is_word, binary_kind, truth_is_word, word_again, word_of_is_word}
use Rattle.std.proofs.lemmas.Nat.{pow_pos}
use Rattle.dh_tree.specs.declared.trees.expressions.Ref.{Ref}
use Rattle.dh_tree.specs.WiderKinds.{wider}
use Rattle.dh_tree.specs.PlainTrees.{Term, term, number, truth_value, named, accessed, in_bank, applied, converted}
use Rattle.dh_meaning.specs.AccessNumbers.{term_accesses}
use Rattle.dh_meaning.specs.Bindings.{kind_or_first, kind_found}
use Rattle.dh_meaning.specs.Core.{CoreTerm}
use Rattle.dh_meaning.specs.CoreOf.{Known, core_term, extended, operation_of}
use Rattle.dh_meaning.specs.Effects.{Begun, Variables, bits_of, value_of_term}
use Rattle.dh_meaning.specs.Paths.{Path}
use Rattle.dh_tree.specs.Kinds.{same_kind}
use Rattle.dh_expressions.specs.Shown.{is_kept, is_read_term, kind_written}
use Rattle.dh_blocks.specs.SoundTerms.{GivesKind, IsSound}

-- a word of this kind
pub record IsWordOf (k : Kind) (w : Word) : Type 0 where
  pub kind_is : w.kind ≡ k
  pub word : IsWord w

pub bits_small : (k : Kind) (negative : Bool) (n : ℕ) → IsKind k → IsWord (with_bits k (bits_of k negative n))
bits_small k true n sized = record { sized = sized; fits = mod-lt (2 ^ width_of k - n % 2 ^ width_of k) (pow_pos (width_of k)) }
bits_small k false n sized = record { sized = sized; fits = mod-lt n (pow_pos (width_of k)) }

pub of_word : (k : Kind) (z : ℤ) → IsKind k → IsWordOf k (word_of k z)
of_word k z sized = record { kind_is = refl; word = word_of_is_word k z sized }

truth_word : (t : Bool) → IsWordOf kind.Bool (truth t)
truth_word t = record { kind_is = refl; word = truth_is_word t }

as_kind : (j k : Kind) (w : Word) → j ≡ k → IsWordOf j w → IsWordOf k w
as_kind j k w e h = subst (λ (i : Kind). IsWordOf i w) e h

-- kinds that are the same
pub kinds_same : (j k : Kind) → same_kind j k ≡ true → j ≡ k
kinds_same kind.Bool kind.Bool e = refl
kinds_same kind.Bool (kind.Unsigned n) e = cc
kinds_same kind.Bool (kind.Signed n) e = cc
kinds_same (kind.Unsigned m) kind.Bool e = cc
kinds_same (kind.Unsigned m) (kind.Unsigned n) e = ap kind.Unsigned (eqb-true m n e)
kinds_same (kind.Unsigned m) (kind.Signed n) e = cc
kinds_same (kind.Signed m) kind.Bool e = cc
kinds_same (kind.Signed m) (kind.Unsigned n) e = cc
kinds_same (kind.Signed m) (kind.Signed n) e = ap kind.Signed (eqb-true m n e)

module _ (b : Begun) (v : Variables) (path : Path) where
  pub extended_word : (w : Kind) (t : CoreTerm) → IsInteger w → IsWordOf w (value_of_term b v path (extended w t))
  extended_word kind.Bool t h = absurd h
  extended_word (kind.Unsigned m) t h = of_word (kind.Unsigned m) (words.value_of (value_of_term b v path t)) h
  extended_word (kind.Signed m) t h = of_word (kind.Signed m) (words.value_of (value_of_term b v path t)) h

  -- of operands that are extended to an integer kind the operation gives a word of it
  pub both_word : (o : Op) (w : Kind) (l r : CoreTerm) → ((m : ℕ) → Suits o (kind.Unsigned m) (kind.Unsigned m)) → ((m : ℕ) → Suits o (kind.Signed m) (kind.Signed m)) → ((k : Kind) → result_of o k ≡ k)
      → IsInteger w → IsWordOf w (binary_of o (value_of_term b v path (extended w l)) (value_of_term b v path (extended w r)))
  both_word o kind.Bool l r u s same h = absurd h
  both_word o (kind.Unsigned m) l r u s same h =
      let x = value_of_term b v path (extended (kind.Unsigned m) l) in
      let y = value_of_term b v path (extended (kind.Unsigned m) r) in
      record {
        kind_is = binary_kind o x y ∙ same (kind.Unsigned m);
        word = binary_is_word o x y (extended_word (kind.Unsigned m) l h).word (extended_word (kind.Unsigned m) r h).word (u m);
      }
  both_word o (kind.Signed m) l r u s same h =
      let x = value_of_term b v path (extended (kind.Signed m) l) in
      let y = value_of_term b v path (extended (kind.Signed m) r) in
      record {
        kind_is = binary_kind o x y ∙ same (kind.Signed m);
        word = binary_is_word o x y (extended_word (kind.Signed m) l h).word (extended_word (kind.Signed m) r h).word (s m);
      }

  shifted_word : (j : Kind) (z : ℤ) (w : Word) → w.kind ≡ j → IsKind j → IsWordOf j (word_of w.kind z)
  shifted_word j z w is sized = subst (λ (i : Kind). IsWordOf j (word_of i z)) (sym is) (of_word j z sized)

  applied_word : (o : Op) (j k r : Kind) (left right : CoreTerm) → GivesKind o j k r → (value_of_term b v path left).kind ≡ j → IsWordOf r (value_of_term b v path (operation_of o j k left right))
  applied_word op.Add j k r left right g is = as_kind (wider j k) r _ (sym g.1) (both_word op.Add (wider j k) left right (λ m. refl) (λ m. refl) (λ i. refl) g.0)
  applied_word op.Sub j k r left right g is = as_kind (wider j k) r _ (sym g.1) (both_word op.Sub (wider j k) left right (λ m. refl) (λ m. refl) (λ i. refl) g.0)
  applied_word op.Mul j k r left right g is = as_kind (wider j k) r _ (sym g.1) (both_word op.Mul (wider j k) left right (λ m. refl) (λ m. refl) (λ i. refl) g.0)
  applied_word op.And j k r left right g is = as_kind (wider j k) r _ (sym g.1) (both_word op.And (wider j k) left right (λ m. refl) (λ m. refl) (λ i. refl) g.0)
  applied_word op.Or j k r left right g is = as_kind (wider j k) r _ (sym g.1) (both_word op.Or (wider j k) left right (λ m. refl) (λ m. refl) (λ i. refl) g.0)
  applied_word op.Xor j k r left right g is = as_kind (wider j k) r _ (sym g.1) (both_word op.Xor (wider j k) left right (λ m. refl) (λ m. refl) (λ i. refl) g.0)
  applied_word op.Shl j k r left right g is = as_kind j r _ (sym g.1) (shifted_word j _ (value_of_term b v path left) is g.0)
  applied_word op.Shr j k r left right g is = as_kind j r _ (sym g.1) (shifted_word j _ (value_of_term b v path left) is g.0)
  applied_word op.Lt j k r left right g is = as_kind kind.Bool r _ (sym g) (truth_word _)
  applied_word op.Gt j k r left right g is = as_kind kind.Bool r _ (sym g) (truth_word _)
  applied_word op.Le j k r left right g is = as_kind kind.Bool r _ (sym g) (truth_word _)
  applied_word op.Ge j k r left right g is = as_kind kind.Bool r _ (sym g) (truth_word _)
  applied_word op.Eq j k r left right g is = as_kind kind.Bool r _ (sym g) (truth_word _)
  applied_word op.Ne j k r left right g is = as_kind kind.Bool r _ (sym g) (truth_word _)
  applied_word op.Both j k r left right g is = as_kind kind.Bool r _ (sym g) (truth_word _)
  applied_word op.Either j k r left right g is = as_kind kind.Bool r _ (sym g) (truth_word _)

  module _ (known : Known) (Name : Ref → Kind → Type 0) where
    found_written : (t : Term) → kind_found t ≡ kind_written t
    found_written (term place k f) = refl

    -- an operator on parts of which the left one has its kind
    word_of_parts : (n : ℕ) (k : Kind) (o : Op) (left right : Term) → GivesKind o (kind_written left) (kind_written right) k → (value_of_term b v path (core_term known n left)).kind ≡ kind_written left
        → IsWordOf k (value_of_term b v path (operation_of o (kind_found left) (kind_found right) (core_term known n left) (core_term known (n + term_accesses left) right)))
    word_of_parts n k o left right g is =
        applied_word o (kind_found left) (kind_found right) k (core_term known n left) (core_term known (n + term_accesses left) right)
        (subst (λ (i : Kind). GivesKind o i (kind_found right) k) (sym (found_written left)) (subst (λ (i : Kind). GivesKind o (kind_written left) i k) (sym (found_written right)) g))
        (is ∙ sym (found_written left))

    pub value_kind : (n : ℕ) (t : Term) → IsSound known b.table Name t → (value_of_term b v path (core_term known n t)).kind ≡ kind_written t
    value_kind n (term place k (number negative z)) h = refl
    value_kind n (term place k (truth_value t)) h = sym h
    value_kind n (term place k (named r)) h = refl
    value_kind n (term place k (accessed r ts)) h = sym h.1.1
    value_kind n (term place k (in_bank r bank at row)) h = sym h.1.1.1.0
    value_kind n (term place k (applied o left right)) h = (word_of_parts n (kind_or_first k) o left right h.1 (value_kind n left h.0.0)).kind_is
    value_kind n (term place k (converted inner to)) h = sym h.1.1

    pub value_word : (n : ℕ) (t : Term) → IsSound known b.table Name t → is_read_term t ≡ false → IsWordOf (kind_written t) (value_of_term b v path (core_term known n t))
    value_word n (term place k (number negative z)) h no_read = record { kind_is = refl; word = bits_small (kind_or_first k) negative z h }
    value_word n (term place k (truth_value t)) h no_read = as_kind kind.Bool (kind_or_first k) _ (sym h) (truth_word t)
    value_word n (term place k (named r)) h no_read = of_word (kind_or_first k) _ h.1
    value_word n (term place k (accessed r ts)) h no_read = absurd (cc)
    value_word n (term place k (in_bank r bank at row)) h no_read = absurd (cc)
    value_word n (term place k (applied o left right)) h no_read = word_of_parts n (kind_or_first k) o left right h.1 (value_kind n left h.0.0)
    value_word n (term place k (converted inner to)) h no_read = as_kind to (kind_or_first k) _ (sym h.1.1) (of_word to _ (integer_width to h.1.0))

    -- what needs no conversion to a kind is a word of it
    pub kept_word : (n : ℕ) (t : Term) (to : Kind) → IsSound known b.table Name t → is_kept t to ≡ true
        → word_of to (words.value_of (value_of_term b v path (core_term known n t))) ≡ value_of_term b v path (core_term known n t)
    kept_word n t to h kept =
        let both = parts (same_kind (kind_written t) to) (is_read_term t) kept in
        let w = value_word n t h both.1 in
        let is : (value_of_term b v path (core_term known n t)).kind ≡ to = w.kind_is ∙ kinds_same (kind_written t) to both.0 in
        ap (λ k. word_of k (words.value_of (value_of_term b v path (core_term known n t)))) (sym is) ∙ word_again (value_of_term b v path (core_term known n t)) w.word
      where
        parts : (x y : Bool) → (x && not y) ≡ true → (x ≡ true) × (y ≡ false)
        parts true false e = (refl, refl)
        parts true true e = cc
        parts false y e = cc
