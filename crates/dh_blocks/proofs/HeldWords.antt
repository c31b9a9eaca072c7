-- What the builder puts down of a value is the word of the kind of its variable or memory.
use Rattle.std.proofs.Common.{◌≡◌, ◌⊎◌, inl, inr, ℕ, zero, suc, ◌<◌, true, false, if◌then◌else◌, refl, ap, sym, ◌∙◌, subst, arith, ℤ}
use Rattle.std.specs.Prelude.{pos}
use Rattle.std.specs.Ordering.{int_eq}
use Rattle.std.proofs.lemmas.Bool.{cases_Bool}
use Rattle.dh_value.specs.declared.kinds.Kind.{Kind}
use Rattle.dh_value.specs.declared.kinds.Kind.TheVariants as kind
use Rattle.dh_value.specs.declared.operators.Op.{Op}
use Rattle.dh_value.specs.declared.operators.Op.TheVariants as op
use Rattle.dh_value.specs.declared.words.Word.{Word}
use Rattle.dh_value.specs.Words as words
use Rattle.dh_value.specs.Words.{IsInteger, IsKind, residue, with_bits, word_of}
use Rattle.dh_value.specs.Operations.{Suits, binary_of, result_of, truth}
use Rattle.dh_value.proofs.Residues.{residue-lt}
use Rattle.dh_value.proofs.WordLaws.{word_again}
use Rattle.dh_tree.specs.declared.trees.expressions.Ref.{Ref}
use Rattle.dh_tree.specs.WiderKinds.{wider}
use Rattle.dh_tree.specs.PlainTrees.{Term, term}
use Rattle.dh_meaning.specs.Bindings.{kind_found}
use Rattle.dh_meaning.specs.Core.{CoreTerm}
use Rattle.dh_meaning.specs.CoreOf.{Known, core_term, entity_number, extended, operation_of}
use Rattle.dh_meaning.specs.Effects.{Begun, Variables, value_of_term}
use Rattle.dh_meaning.specs.Paths.{Path}
use Rattle.dh_tree.specs.Kinds.{same_kind}
use Rattle.dh_expressions.specs.Shown.{conversion_shown, extended_shown, held_shown, is_kept, is_read_term, kind_written, lowest_bit}
use Rattle.dh_blocks.specs.SoundTerms.{IsSound}
use Rattle.dh_code.specs.Slots.{held_at}
use Rattle.dh_expressions.specs.declared.scenes.Scene.{Scene}
use Rattle.dh_commands.specs.Followed.{in_own_kind, old_extended, reduced_shown}
use Rattle.dh_blocks.specs.SoundCommands.{CanHold, CanReduce}
use Rattle.dh_blocks.proofs.KindsOfValues.{IsWordOf, both_word, kept_word, kinds_same, of_word, value_word}

-- the lowest bit of what a memory held is its value as a truth
pub lowest_is : (w : Word) → lowest_bit w ≡ word_of kind.Bool (words.value_of w)
lowest_is w = by (residue 2 (words.value_of w)) (residue-lt 2 (words.value_of w) (omega arith))
  where
    by : (n : ℕ) → n < 2 → truth (int_eq (pos n) (pos 1)) ≡ with_bits kind.Bool n
    by zero l = refl
    by (suc zero) l = refl
    by (suc (suc m)) l = absurd (none m l)
      where
        none : (m : ℕ) → suc (suc m) < 2 → ⊥
        none m l = omega (arith, l)

-- a word of a kind is as it is in another one that is the same
own_is : (j k : Kind) (w : Word) → IsWordOf j w → in_own_kind (same_kind j k) k w ≡ word_of k (words.value_of w)
own_is j k w h = by (cases_Bool (same_kind j k))
  where
    by : (same_kind j k ≡ true) ⊎ (same_kind j k ≡ false) → in_own_kind (same_kind j k) k w ≡ word_of k (words.value_of w)
    by (inl e) = ap (λ c. if c then w else word_of k (words.value_of w)) e ∙ (sym (word_again w h.word) ∙ ap (λ i. word_of i (words.value_of w)) (h.kind_is ∙ kinds_same j k e))
    by (inr e) = ap (λ c. if c then w else word_of k (words.value_of w)) e

-- and in that one
other_is : (j k : Kind) (w : Word) → IsWordOf k w → in_own_kind (same_kind j k) j w ≡ word_of j (words.value_of w)
other_is j k w h = by (cases_Bool (same_kind j k))
  where
    by : (same_kind j k ≡ true) ⊎ (same_kind j k ≡ false) → in_own_kind (same_kind j k) j w ≡ word_of j (words.value_of w)
    by (inl e) = ap (λ c. if c then w else word_of j (words.value_of w)) e ∙ (sym (word_again w h.word) ∙ ap (λ i. word_of i (words.value_of w)) (h.kind_is ∙ sym (kinds_same j k e)))
    by (inr e) = ap (λ c. if c then w else word_of j (words.value_of w)) e

module _ (b : Begun) (v : Variables) (path : Path) (known : Known) (Name : Ref → Kind → Type 0) (n : ℕ) (t : Term) (s : IsSound known b.table Name t) where
  abbrev value : Word
  value = value_of_term b v path (core_term known n t)

  pub converted_is : (to : Kind) → conversion_shown t to value ≡ word_of to (words.value_of value)
  converted_is to = by (cases_Bool (is_kept t to))
    where
      by : (is_kept t to ≡ true) ⊎ (is_kept t to ≡ false) → conversion_shown t to value ≡ word_of to (words.value_of value)
      by (inl e) = ap (λ c. if c then value else word_of to (words.value_of value)) e ∙ sym (kept_word b v path known Name n t to s e)
      by (inr e) = ap (λ c. if c then value else word_of to (words.value_of value)) e

  pub held_is : (to : Kind) → CanHold to t → held_shown t to value ≡ word_of to (words.value_of value)
  held_is kind.Bool can = by (cases_Bool (is_read_term t))
    where
      by : (is_read_term t ≡ true) ⊎ (is_read_term t ≡ false) → held_shown t kind.Bool value ≡ word_of kind.Bool (words.value_of value)
      by (inl e) = ap (λ c. if c then lowest_bit value else value) e ∙ lowest_is value
      by (inr e) =
          let w = value_word b v path known Name n t s e in
          ap (λ c. if c then lowest_bit value else value) e
          ∙ (sym (word_again value w.word) ∙ ap (λ k. word_of k (words.value_of value)) (w.kind_is ∙ can refl))
  held_is (kind.Unsigned m) can = converted_is (kind.Unsigned m)
  held_is (kind.Signed m) can = converted_is (kind.Signed m)

  -- what a reducer puts together, of operands that are extended to an integer kind
  reduced_by : (o : Op) (j w : Kind) (z : ℤ) (l : CoreTerm) → ((m : ℕ) → Suits o (kind.Unsigned m) (kind.Unsigned m)) → ((m : ℕ) → Suits o (kind.Signed m) (kind.Signed m)) → ((k : Kind) → result_of o k ≡ k)
      → IsInteger w → IsKind j → value_of_term b v path l ≡ word_of j z
      → in_own_kind (same_kind j w) j (binary_of o (old_extended j w (word_of j z)) (extended_shown t w value))
      ≡ word_of j (words.value_of (binary_of o (value_of_term b v path (extended w l)) (value_of_term b v path (extended w (core_term known n t)))))
  reduced_by o j kind.Bool z l u s same h sized is = absurd h
  reduced_by o j (kind.Unsigned m) z l u s same h sized is =
      ap (λ a. in_own_kind (same_kind j (kind.Unsigned m)) j (binary_of o a (conversion_shown t (kind.Unsigned m) value)))
      (own_is j (kind.Unsigned m) (word_of j z) (of_word j z sized) ∙ ap (λ a. word_of (kind.Unsigned m) (words.value_of a)) (sym is))
      ∙ (ap (λ a. in_own_kind (same_kind j (kind.Unsigned m)) j (binary_of o (word_of (kind.Unsigned m) (words.value_of (value_of_term b v path l))) a)) (converted_is (kind.Unsigned m))
      ∙ other_is j (kind.Unsigned m) _ (both_word b v path o (kind.Unsigned m) l (core_term known n t) u s same h))
  reduced_by o j (kind.Signed m) z l u s same h sized is =
      ap (λ a. in_own_kind (same_kind j (kind.Signed m)) j (binary_of o a (conversion_shown t (kind.Signed m) value)))
      (own_is j (kind.Signed m) (word_of j z) (of_word j z sized) ∙ ap (λ a. word_of (kind.Signed m) (words.value_of a)) (sym is))
      ∙ (ap (λ a. in_own_kind (same_kind j (kind.Signed m)) j (binary_of o (word_of (kind.Signed m) (words.value_of (value_of_term b v path l))) a)) (converted_is (kind.Signed m))
      ∙ other_is j (kind.Signed m) _ (both_word b v path o (kind.Signed m) l (core_term known n t) u s same h))

  found_written : kind_found t ≡ kind_written t
  found_written = same t
    where
      same : (u : Term) → kind_found u ≡ kind_written u
      same (term place k f) = refl

  module _ (scene : Scene) (r : Ref) (l : CoreTerm) (z : ℤ) where
    abbrev own_kind : Kind
    own_kind = (held_at scene.held.now (entity_number r.entity)).kind

    pub reduced_is : (o : Op) → CanReduce scene r o t → value_of_term b v path l ≡ word_of own_kind z
        → reduced_shown scene (entity_number r.entity) o t (word_of own_kind z) value ≡ word_of own_kind (words.value_of (value_of_term b v path (operation_of o own_kind (kind_found t) l (core_term known n t))))
    reduced_is op.Add c is = reduced_by op.Add own_kind (wider own_kind (kind_found t)) z l (λ m. refl) (λ m. refl) (λ k. refl) (subst (λ (k : Kind). IsInteger (wider own_kind k)) (sym found_written) c.integer) c.sized is
    reduced_is op.Sub c is = reduced_by op.Sub own_kind (wider own_kind (kind_found t)) z l (λ m. refl) (λ m. refl) (λ k. refl) (subst (λ (k : Kind). IsInteger (wider own_kind k)) (sym found_written) c.integer) c.sized is
    reduced_is op.Mul c is = reduced_by op.Mul own_kind (wider own_kind (kind_found t)) z l (λ m. refl) (λ m. refl) (λ k. refl) (subst (λ (k : Kind). IsInteger (wider own_kind k)) (sym found_written) c.integer) c.sized is
    reduced_is op.And c is = absurd c.operator
    reduced_is op.Or c is = absurd c.operator
    reduced_is op.Xor c is = absurd c.operator
    reduced_is op.Shl c is = absurd c.operator
    reduced_is op.Shr c is = absurd c.operator
    reduced_is op.Lt c is = absurd c.operator
    reduced_is op.Gt c is = absurd c.operator
    reduced_is op.Le c is = absurd c.operator
    reduced_is op.Ge c is = absurd c.operator
    reduced_is op.Eq c is = absurd c.operator
    reduced_is op.Ne c is = absurd c.operator
    reduced_is op.Both c is = absurd c.operator
    reduced_is op.Either c is = absurd c.operator
