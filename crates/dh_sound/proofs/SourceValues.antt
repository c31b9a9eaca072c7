-- Values of source expressions at a path. The numbers of accesses do not matter for values; expressions of one
-- structure have one value; and a variable that an expression does not mention may be set without a change.
-- Each by induction over the expression.
use Rattle.std.proofs.Common.{◌≡◌, ℕ, ◌+◌, ◌&&◌, ◌||◌, nat_eq, Bool, true, false, if◌then◌else◌, List, ◌∷◌, take, Option, Some, None, refl, sym, ◌∙◌, ap, subst, arith, ℤ}
use Rattle.std.proofs.lemmas.Bool.Decides.{nat_tests}
use Rattle.dh_value.specs.declared.kinds.Kind.{Kind}
use Rattle.dh_value.specs.declared.kinds.Kind.TheVariants as kind
use Rattle.dh_value.specs.declared.operators.Op.{Op}
use Rattle.dh_value.specs.declared.operators.Op.TheVariants as op
use Rattle.dh_value.specs.declared.words.Word.{Word}
use Rattle.dh_value.specs.Words as words
use Rattle.dh_value.specs.Words.{word_of, with_bits}
use Rattle.dh_value.specs.Operations.{binary_of}
use Rattle.dh_base.specs.declared.places.Place.{Place}
use Rattle.dh_tree.specs.Elements.{Spot}
use Rattle.dh_tree.specs.WiderKinds.{wider}
use Rattle.dh_tree.specs.Memories.{same_entity, number_in}
use Rattle.dh_tree.specs.PlainTrees.{Term, term, TermForm, number, truth_value, named, accessed, in_bank, applied, converted, Terms, no_terms, term_then}
use Rattle.dh_meaning.specs.AccessNumbers.{term_accesses, terms_accesses}
use Rattle.dh_meaning.specs.Bindings.{kind_or_first, kind_found, binding_in, depth_bound}
use Rattle.dh_meaning.specs.Core.{CoreTerm}
use Rattle.dh_meaning.specs.CoreOf.{reach_of, way_of, Known, entity_number, depth_of, extended, extended_both, operation_of, core_term, core_form, core_terms}
use Rattle.dh_meaning.specs.Effects.{Begun, Variables, value_of_term, values_of, spot_by_row, bits_at, kind_in}
use Rattle.dh_meaning.specs.Paths.{Path}
use Rattle.dh_sound.specs.Straight.{IsNamedTerm, AreNamedTerms}
use Rattle.dh_meets.specs.SourceEvents.{Element, with_indices, in_row}
use Rattle.dh_meets.specs.Sharing.{same_truth, same_maybe_kind, number_of_op, alike, alike_forms, all_alike, alike_elements, mentions, terms_mention, element_mentions}
use Rattle.dh_tree.specs.Kinds.{same_kind}
use Rattle.dh_meaning.specs.Ways.{Way, base_of, way_at}
use Rattle.dh_ways.specs.SpotsThrough.{spot_to, offsets_at}
use Rattle.dh_ways.proofs.TargetsOnWays.{target_is}
use Rattle.dh_tree.specs.declared.trees.expressions.Ref.{Ref}

-- what an operation makes of its operands' values: they are extended, or not
abbrev pub extended_value : Kind → Word → Word
extended_value kind.Bool w = w
extended_value (kind.Unsigned n) w = word_of (kind.Unsigned n) (words.value_of w)
extended_value (kind.Signed n) w = word_of (kind.Signed n) (words.value_of w)

module _ (b : Begun) where
  extended_is : (v : Variables) (path : Path) (k : Kind) (t : CoreTerm) → value_of_term b v path (extended k t) ≡ extended_value k (value_of_term b v path t)
  extended_is v path kind.Bool t = refl
  extended_is v path (kind.Unsigned n) t = refl
  extended_is v path (kind.Signed n) t = refl

  both_is : (v : Variables) (path : Path) (o : Op) (j k : Kind) (l r : CoreTerm)
      → value_of_term b v path (extended_both o j k l r) ≡ binary_of o (extended_value (wider j k) (value_of_term b v path l)) (extended_value (wider j k) (value_of_term b v path r))
  both_is v path o j k l r =
      ap (λ x. binary_of o x (value_of_term b v path (extended (wider j k) r))) (extended_is v path (wider j k) l)
      ∙ ap (λ x. binary_of o (extended_value (wider j k) (value_of_term b v path l)) x) (extended_is v path (wider j k) r)

  -- operations of operands with equal values have equal values
  both_same : (v w : Variables) (path other : Path) (o : Op) (j k : Kind) (l r m n : CoreTerm) → value_of_term b v path l ≡ value_of_term b w other m → value_of_term b v path r ≡ value_of_term b w other n
      → value_of_term b v path (extended_both o j k l r) ≡ value_of_term b w other (extended_both o j k m n)
  both_same v w path other o j k l r m n e f =
      both_is v path o j k l r
      ∙ (ap (λ x. binary_of o (extended_value (wider j k) x) (extended_value (wider j k) (value_of_term b v path r))) e
      ∙ (ap (λ x. binary_of o (extended_value (wider j k) (value_of_term b w other m)) (extended_value (wider j k) x)) f ∙ sym (both_is w other o j k m n)))

  pub operation_same : (v w : Variables) (path other : Path) (o : Op) (j k : Kind) (l r m n : CoreTerm) → value_of_term b v path l ≡ value_of_term b w other m → value_of_term b v path r ≡ value_of_term b w other n
      → value_of_term b v path (operation_of o j k l r) ≡ value_of_term b w other (operation_of o j k m n)
  operation_same v w path other op.Shl j k l r m n e f = ap (λ x. binary_of op.Shl x (value_of_term b v path r)) e ∙ ap (λ x. binary_of op.Shl (value_of_term b w other m) x) f
  operation_same v w path other op.Shr j k l r m n e f = ap (λ x. binary_of op.Shr x (value_of_term b v path r)) e ∙ ap (λ x. binary_of op.Shr (value_of_term b w other m) x) f
  operation_same v w path other op.Both j k l r m n e f = ap (λ x. binary_of op.Both x (value_of_term b v path r)) e ∙ ap (λ x. binary_of op.Both (value_of_term b w other m) x) f
  operation_same v w path other op.Either j k l r m n e f = ap (λ x. binary_of op.Either x (value_of_term b v path r)) e ∙ ap (λ x. binary_of op.Either (value_of_term b w other m) x) f
  operation_same v w path other op.Add j k l r m n e f = both_same v w path other op.Add j k l r m n e f
  operation_same v w path other op.Sub j k l r m n e f = both_same v w path other op.Sub j k l r m n e f
  operation_same v w path other op.Mul j k l r m n e f = both_same v w path other op.Mul j k l r m n e f
  operation_same v w path other op.And j k l r m n e f = both_same v w path other op.And j k l r m n e f
  operation_same v w path other op.Or j k l r m n e f = both_same v w path other op.Or j k l r m n e f
  operation_same v w path other op.Xor j k l r m n e f = both_same v w path other op.Xor j k l r m n e f
  operation_same v w path other op.Lt j k l r m n e f = both_same v w path other op.Lt j k l r m n e f
  operation_same v w path other op.Gt j k l r m n e f = both_same v w path other op.Gt j k l r m n e f
  operation_same v w path other op.Le j k l r m n e f = both_same v w path other op.Le j k l r m n e f
  operation_same v w path other op.Ge j k l r m n e f = both_same v w path other op.Ge j k l r m n e f
  operation_same v w path other op.Eq j k l r m n e f = both_same v w path other op.Eq j k l r m n e f
  operation_same v w path other op.Ne j k l r m n e f = both_same v w path other op.Ne j k l r m n e f

  -- Values by the expression alone, with numbers from 0.
  module _ (known : Known) where
    abbrev pub source_value : Variables → Path → Term → Word
    source_value v path t = value_of_term b v path (core_term known 0 t)

    abbrev pub source_values : Variables → Path → Terms → List ℤ
    source_values v path ts = values_of b v path (core_terms known 0 ts)

    -- where an access of what a name stands for leads
    abbrev pub way_of_entity : Option ℕ → Option Way
    way_of_entity entity = way_at known.memories known.ways entity

    abbrev pub memory_at : Option ℕ → ℕ
    memory_at entity = entity_number (number_in known.memories (base_of (way_of_entity entity) entity))

    -- by indices that are these numbers
    abbrev pub spot_named : Variables → Path → Option ℕ → List ℤ → Option Spot
    spot_named v path entity zs = spot_to b.table (memory_at entity) (way_of_entity entity) zs (offsets_at b v path (way_of_entity entity))

    abbrev pub source_spot : Variables → Path → Option ℕ → Element → Option Spot
    source_spot v path entity (with_indices ts) = spot_named v path entity (source_values v path ts)
    source_spot v path entity (in_row bank t) = spot_by_row b.table (memory_at entity) bank (words.value_of (source_value v path t))

    -- the value of a read that leads to an element
    abbrev pub read_value : Option ℕ → Option Spot → Word
    read_value entity s = with_bits (kind_in b.table (memory_at entity)) (bits_at b.memories s)

    -- the value of an access by indices
    pub accessed_is : (v : Variables) (path : Path) (n : ℕ) (place : Place) (k : Option Kind) (r : Ref) (ts : Terms)
        → value_of_term b v path (core_term known n (term place k (accessed r ts))) ≡ read_value r.entity (spot_named v path r.entity (values_of b v path (core_terms known n ts)))
    accessed_is v path n place k r ts = ap (λ s. read_value r.entity s) (target_is b v path (reach_of known (n + terms_accesses ts) place r) (way_of known r) (core_terms known n ts))

    -- What holds of two readings of expressions: by variables, paths and numbers.
    mutual
      pub numbers_aside : (v : Variables) (path : Path) (m n : ℕ) (t : Term) → value_of_term b v path (core_term known m t) ≡ value_of_term b v path (core_term known n t)
      numbers_aside v path m n (term place k (number negative x)) = refl
      numbers_aside v path m n (term place k (truth_value x)) = refl
      numbers_aside v path m n (term place k (named r)) = refl
      numbers_aside v path m n (term place k (accessed r ts)) =
          accessed_is v path m place k r ts ∙ (ap (λ zs. read_value r.entity (spot_named v path r.entity zs)) (all_numbers_aside v path m n ts) ∙ sym (accessed_is v path n place k r ts))
      numbers_aside v path m n (term place k (in_bank r bank at t)) = ap (λ x. read_value r.entity (spot_by_row b.table (memory_at r.entity) bank (words.value_of x))) (numbers_aside v path m n t)
      numbers_aside v path m n (term place k (applied o l r)) = operation_same v v path path o (kind_found l) (kind_found r) _ _ _ _ (numbers_aside v path m n l) (numbers_aside v path (m + term_accesses l) (n + term_accesses l) r)
      numbers_aside v path m n (term place k (converted t to)) = ap (λ x. word_of to (words.value_of x)) (numbers_aside v path m n t)

      pub all_numbers_aside : (v : Variables) (path : Path) (m n : ℕ) (ts : Terms) → values_of b v path (core_terms known m ts) ≡ values_of b v path (core_terms known n ts)
      all_numbers_aside v path m n no_terms = refl
      all_numbers_aside v path m n (term_then t ts) =
          ap (λ x. words.value_of x ∷ values_of b v path (core_terms known (m + term_accesses t) ts)) (numbers_aside v path m n t)
          ∙ ap (λ zs. words.value_of (value_of_term b v path (core_term known n t)) ∷ zs) (all_numbers_aside v path (m + term_accesses t) (n + term_accesses t) ts)

    -- a variable is set that an expression does not mention
    or_false : (x y : Bool) → (x || y) ≡ false → (x ≡ false) × (y ≡ false)
    or_false true y e = cc
    or_false false y e = (refl, e)

    -- variables by which the offsets that ways keep are the same at a path
    abbrev pub SameOffsets : Variables → Variables → Path → Type 0
    SameOffsets v w path = (entity : Option ℕ) → offsets_at b v path (way_of_entity entity) ≡ offsets_at b w path (way_of_entity entity)

    abbrev pub offsets_named : (v w : Variables) (path : Path) → SameOffsets v w path → (entity : Option ℕ) (zs : List ℤ) → spot_named v path entity zs ≡ spot_named w path entity zs
    offsets_named v w path o entity zs = ap (λ os. spot_to b.table (memory_at entity) (way_of_entity entity) zs os) (o entity)

    -- variables that differ at one entity alone
    abbrev pub AgreeBut : (entity : ℕ) → Variables → Variables → Type 0
    AgreeBut entity v w = (e : ℕ) (q : Path) → nat_eq e entity ≡ false → v e q ≡ w e q

    named_same : (v w : Variables) (path : Path) (entity : ℕ) (o : Option ℕ) (e : ℕ) → o ≡ Some e → same_entity o (Some entity) ≡ false → AgreeBut entity v w → (d : ℕ) → v (entity_number o) (take d path) ≡ w (entity_number o) (take d path)
    named_same v w path entity None e is m h d = cc
    named_same v w path entity (Some x) e is m h d = h x (take d path) m

    mutual
      pub unmentioned : (v w : Variables) (path : Path) (entity n : ℕ) (t : Term) → AgreeBut entity v w → SameOffsets v w path → IsNamedTerm t → mentions (Some entity) t ≡ false → value_of_term b v path (core_term known n t) ≡ value_of_term b w path (core_term known n t)
      unmentioned v w path entity n (term place k (number negative x)) a o h m = refl
      unmentioned v w path entity n (term place k (truth_value x)) a o h m = refl
      unmentioned v w path entity n (term place k (named r)) a o h m = ap (λ z. word_of (kind_or_first k) z) (named_same v w path entity r.entity h.0 h.1 m a (depth_of known r))
      unmentioned v w path entity n (term place k (accessed r ts)) a o h m =
          accessed_is v path n place k r ts
          ∙ (ap (λ zs. read_value r.entity (spot_named v path r.entity zs)) (all_unmentioned v w path entity n ts a o h m)
          ∙ (ap (λ s. read_value r.entity s) (offsets_named v w path o r.entity (values_of b w path (core_terms known n ts))) ∙ sym (accessed_is w path n place k r ts)))
      unmentioned v w path entity n (term place k (in_bank r bank at t)) a o h m = ap (λ x. read_value r.entity (spot_by_row b.table (memory_at r.entity) bank (words.value_of x))) (unmentioned v w path entity n t a o h m)
      unmentioned v w path entity n (term place k (applied op l r)) a o h m =
          let e = or_false (mentions (Some entity) l) (mentions (Some entity) r) m in
          operation_same v w path path op (kind_found l) (kind_found r) _ _ _ _ (unmentioned v w path entity n l a o h.0 e.0) (unmentioned v w path entity (n + term_accesses l) r a o h.1 e.1)
      unmentioned v w path entity n (term place k (converted t to)) a o h m = ap (λ x. word_of to (words.value_of x)) (unmentioned v w path entity n t a o h m)

      pub all_unmentioned : (v w : Variables) (path : Path) (entity n : ℕ) (ts : Terms) → AgreeBut entity v w → SameOffsets v w path → AreNamedTerms ts → terms_mention (Some entity) ts ≡ false → values_of b v path (core_terms known n ts) ≡ values_of b w path (core_terms known n ts)
      all_unmentioned v w path entity n no_terms a o h m = refl
      all_unmentioned v w path entity n (term_then t ts) a o h m =
          let e = or_false (mentions (Some entity) t) (terms_mention (Some entity) ts) m in
          ap (λ x. words.value_of x ∷ values_of b v path (core_terms known (n + term_accesses t) ts)) (unmentioned v w path entity n t a o h.0 e.0)
          ∙ ap (λ zs. words.value_of (value_of_term b w path (core_term known n t)) ∷ zs) (all_unmentioned v w path entity (n + term_accesses t) ts a o h.1 e.1)

    -- the names in an access's indices
    abbrev pub IsNamedElement : Element → Type 0
    IsNamedElement (with_indices ts) = AreNamedTerms ts
    IsNamedElement (in_row bank t) = IsNamedTerm t

    pub spot_unmentioned : (v w : Variables) (path : Path) (entity : ℕ) (of : Option ℕ) (e : Element) → AgreeBut entity v w → SameOffsets v w path → IsNamedElement e → element_mentions (Some entity) e ≡ false
        → source_spot v path of e ≡ source_spot w path of e
    spot_unmentioned v w path entity of (with_indices ts) a o h m =
        ap (λ zs. spot_named v path of zs) (all_unmentioned v w path entity 0 ts a o h m) ∙ offsets_named v w path o of (source_values w path ts)
    spot_unmentioned v w path entity of (in_row bank t) a o h m = ap (λ x. spot_by_row b.table (memory_at of) bank (words.value_of x)) (unmentioned v w path entity 0 t a o h m)

    -- expressions of one structure

    both_so : (x y : Bool) → (x && y) ≡ true → (x ≡ true) × (y ≡ true)
    both_so true y e = (refl, e)
    both_so false y e = cc

    number_is : (m n : ℕ) → nat_eq m n ≡ true → m ≡ n
    number_is m n e = grind (arith, nat_tests)

    truth_is : (x y : Bool) → same_truth x y ≡ true → x ≡ y
    truth_is true true e = refl
    truth_is true false e = cc
    truth_is false true e = cc
    truth_is false false e = refl

    kind_is : (j k : Kind) → same_kind j k ≡ true → j ≡ k
    kind_is kind.Bool kind.Bool e = refl
    kind_is kind.Bool (kind.Unsigned n) e = cc
    kind_is kind.Bool (kind.Signed n) e = cc
    kind_is (kind.Unsigned m) kind.Bool e = cc
    kind_is (kind.Unsigned m) (kind.Unsigned n) e = ap (λ w. kind.Unsigned w) (number_is m n e)
    kind_is (kind.Unsigned m) (kind.Signed n) e = cc
    kind_is (kind.Signed m) kind.Bool e = cc
    kind_is (kind.Signed m) (kind.Unsigned n) e = cc
    kind_is (kind.Signed m) (kind.Signed n) e = ap (λ w. kind.Signed w) (number_is m n e)

    maybe_kind_is : (j k : Option Kind) → same_maybe_kind j k ≡ true → j ≡ k
    maybe_kind_is None None e = refl
    maybe_kind_is None (Some k) e = cc
    maybe_kind_is (Some j) None e = cc
    maybe_kind_is (Some j) (Some k) e = ap Some (kind_is j k e)

    pub entity_is : (x y : Option ℕ) → same_entity x y ≡ true → x ≡ y
    entity_is None None e = cc
    entity_is None (Some n) e = cc
    entity_is (Some m) None e = cc
    entity_is (Some m) (Some n) e = ap Some (number_is m n e)

    abbrev op_of : ℕ → Op
    op_of n = if nat_eq n 0 then op.Add else (if nat_eq n 1 then op.Sub else (if nat_eq n 2 then op.Mul else (if nat_eq n 3 then op.And else (if nat_eq n 4 then op.Or else (if nat_eq n 5 then op.Xor
        else (if nat_eq n 6 then op.Shl else (if nat_eq n 7 then op.Shr else (if nat_eq n 8 then op.Lt else (if nat_eq n 9 then op.Gt else (if nat_eq n 10 then op.Le else (if nat_eq n 11 then op.Ge
        else (if nat_eq n 12 then op.Eq else (if nat_eq n 13 then op.Ne else (if nat_eq n 14 then op.Both else op.Either))))))))))))))

    op_told : (o : Op) → op_of (number_of_op o) ≡ o
    op_told op.Add = refl
    op_told op.Sub = refl
    op_told op.Mul = refl
    op_told op.And = refl
    op_told op.Or = refl
    op_told op.Xor = refl
    op_told op.Shl = refl
    op_told op.Shr = refl
    op_told op.Lt = refl
    op_told op.Gt = refl
    op_told op.Le = refl
    op_told op.Ge = refl
    op_told op.Eq = refl
    op_told op.Ne = refl
    op_told op.Both = refl
    op_told op.Either = refl

    op_is : (o p : Op) → nat_eq (number_of_op o) (number_of_op p) ≡ true → o ≡ p
    op_is o p e = sym (op_told o) ∙ (ap op_of (number_is _ _ e) ∙ op_told p)

    found_is : (s t : Term) → alike s t ≡ true → kind_found s ≡ kind_found t
    found_is (term p j f) (term q k g) e = ap kind_or_first (maybe_kind_is j k (both_so (same_maybe_kind j k) (alike_forms f g) e).0)

    mutual
      pub alike_value : (v : Variables) (path : Path) (n : ℕ) (s t : Term) → alike s t ≡ true → value_of_term b v path (core_term known n s) ≡ value_of_term b v path (core_term known n t)
      alike_value v path n (term p j f) (term q k g) e =
          let h = both_so (same_maybe_kind j k) (alike_forms f g) e in
          alike_form_value v path n p q (kind_or_first j) (kind_or_first k) f g (ap kind_or_first (maybe_kind_is j k h.0)) h.1

      alike_form_value : (v : Variables) (path : Path) (n : ℕ) (p q : Place) (j k : Kind) (f g : TermForm) → j ≡ k → alike_forms f g ≡ true → value_of_term b v path (core_form known n p j f) ≡ value_of_term b v path (core_form known n q k g)
      alike_form_value v path n p q j k (number s x) (number t y) e h =
          let a = both_so (same_truth s t) (nat_eq x y) h in
          let c = truth_is s t a.0 in let d = number_is x y a.1 in cc
      alike_form_value v path n p q j k (truth_value x) (truth_value y) e h = let c = truth_is x y h in cc
      alike_form_value v path n p q j k (named r) (named s) e h = let c = entity_is r.entity s.entity h in
          subst (λ (kk : Kind). value_of_term b v path (core_form known n p j (named r)) ≡ word_of kk (v (entity_number s.entity) (take (depth_of known s) path))) e (ap (λ o. word_of j (v (entity_number o) (take (depth_bound (binding_in known.bindings (entity_number o))) path))) c)
      alike_form_value v path n p q j k (accessed r ts) (accessed s us) e h =
          let a = both_so (same_entity r.entity s.entity) (all_alike ts us) h in
          accessed_is v path n p (Some j) r ts
          ∙ (ap (λ o. read_value o (spot_named v path o (values_of b v path (core_terms known n ts)))) (entity_is r.entity s.entity a.0)
          ∙ (ap (λ zs. read_value s.entity (spot_named v path s.entity zs)) (all_alike_values v path n ts us a.1) ∙ sym (accessed_is v path n q (Some k) s us)))
      alike_form_value v path n p q j k (in_bank r x at t) (in_bank s y other u) e h =
          let a = both_so (same_entity r.entity s.entity) (nat_eq x y && alike t u) h in
          let c = both_so (nat_eq x y) (alike t u) a.1 in
          ap (λ o. read_value o (spot_by_row b.table (memory_at o) x (words.value_of (value_of_term b v path (core_term known n t))))) (entity_is r.entity s.entity a.0)
          ∙ (ap (λ z. read_value s.entity (spot_by_row b.table (memory_at s.entity) z (words.value_of (value_of_term b v path (core_term known n t))))) (number_is x y c.0)
          ∙ ap (λ z. read_value s.entity (spot_by_row b.table (memory_at s.entity) y (words.value_of z))) (alike_value v path n t u c.1))
      alike_form_value v path n p q j k (applied o l r) (applied x m s) e h =
          let a = both_so (nat_eq (number_of_op o) (number_of_op x)) (alike l m && alike r s) h in
          let c = both_so (alike l m) (alike r s) a.1 in
          operation_same v v path path o (kind_found l) (kind_found r) (core_term known n l) (core_term known (n + term_accesses l) r) (core_term known n m) (core_term known (n + term_accesses m) s)
          (alike_value v path n l m c.0) (numbers_aside v path (n + term_accesses l) (n + term_accesses m) r ∙ alike_value v path (n + term_accesses m) r s c.1)
          ∙ (ap (λ z. value_of_term b v path (operation_of z (kind_found l) (kind_found r) (core_term known n m) (core_term known (n + term_accesses m) s))) (op_is o x a.0)
          ∙ (ap (λ z. value_of_term b v path (operation_of x z (kind_found r) (core_term known n m) (core_term known (n + term_accesses m) s))) (found_is l m c.0)
          ∙ ap (λ z. value_of_term b v path (operation_of x (kind_found m) z (core_term known n m) (core_term known (n + term_accesses m) s))) (found_is r s c.1)))
      alike_form_value v path n p q j k (converted t x) (converted u y) e h =
          let a = both_so (same_kind x y) (alike t u) h in
          ap (λ z. word_of z (words.value_of (value_of_term b v path (core_term known n t)))) (kind_is x y a.0) ∙ ap (λ z. word_of y (words.value_of z)) (alike_value v path n t u a.1)
      alike_form_value v path n p q j k (number s x) (truth_value y) e h = cc
      alike_form_value v path n p q j k (number s x) (named r) e h = cc
      alike_form_value v path n p q j k (number s x) (accessed r ts) e h = cc
      alike_form_value v path n p q j k (number s x) (in_bank r y at t) e h = cc
      alike_form_value v path n p q j k (number s x) (applied o l r) e h = cc
      alike_form_value v path n p q j k (number s x) (converted t y) e h = cc
      alike_form_value v path n p q j k (truth_value x) (number t y) e h = cc
      alike_form_value v path n p q j k (truth_value x) (named r) e h = cc
      alike_form_value v path n p q j k (truth_value x) (accessed r ts) e h = cc
      alike_form_value v path n p q j k (truth_value x) (in_bank r y at t) e h = cc
      alike_form_value v path n p q j k (truth_value x) (applied o l r) e h = cc
      alike_form_value v path n p q j k (truth_value x) (converted t y) e h = cc
      alike_form_value v path n p q j k (named r) (number t y) e h = cc
      alike_form_value v path n p q j k (named r) (truth_value y) e h = cc
      alike_form_value v path n p q j k (named r) (accessed s ts) e h = cc
      alike_form_value v path n p q j k (named r) (in_bank s y at t) e h = cc
      alike_form_value v path n p q j k (named r) (applied o l s) e h = cc
      alike_form_value v path n p q j k (named r) (converted t y) e h = cc
      alike_form_value v path n p q j k (accessed r ts) (number t y) e h = cc
      alike_form_value v path n p q j k (accessed r ts) (truth_value y) e h = cc
      alike_form_value v path n p q j k (accessed r ts) (named s) e h = cc
      alike_form_value v path n p q j k (accessed r ts) (in_bank s y at t) e h = cc
      alike_form_value v path n p q j k (accessed r ts) (applied o l s) e h = cc
      alike_form_value v path n p q j k (accessed r ts) (converted t y) e h = cc
      alike_form_value v path n p q j k (in_bank r x at t) (number u y) e h = cc
      alike_form_value v path n p q j k (in_bank r x at t) (truth_value y) e h = cc
      alike_form_value v path n p q j k (in_bank r x at t) (named s) e h = cc
      alike_form_value v path n p q j k (in_bank r x at t) (accessed s ts) e h = cc
      alike_form_value v path n p q j k (in_bank r x at t) (applied o l s) e h = cc
      alike_form_value v path n p q j k (in_bank r x at t) (converted u y) e h = cc
      alike_form_value v path n p q j k (applied o l r) (number u y) e h = cc
      alike_form_value v path n p q j k (applied o l r) (truth_value y) e h = cc
      alike_form_value v path n p q j k (applied o l r) (named s) e h = cc
      alike_form_value v path n p q j k (applied o l r) (accessed s ts) e h = cc
      alike_form_value v path n p q j k (applied o l r) (in_bank s y at t) e h = cc
      alike_form_value v path n p q j k (applied o l r) (converted u y) e h = cc
      alike_form_value v path n p q j k (converted t x) (number u y) e h = cc
      alike_form_value v path n p q j k (converted t x) (truth_value y) e h = cc
      alike_form_value v path n p q j k (converted t x) (named s) e h = cc
      alike_form_value v path n p q j k (converted t x) (accessed s ts) e h = cc
      alike_form_value v path n p q j k (converted t x) (in_bank s y at u) e h = cc
      alike_form_value v path n p q j k (converted t x) (applied o l s) e h = cc

      pub all_alike_values : (v : Variables) (path : Path) (n : ℕ) (ts us : Terms) → all_alike ts us ≡ true → values_of b v path (core_terms known n ts) ≡ values_of b v path (core_terms known n us)
      all_alike_values v path n no_terms no_terms e = refl
      all_alike_values v path n no_terms (term_then u us) e = cc
      all_alike_values v path n (term_then t ts) no_terms e = cc
      all_alike_values v path n (term_then t ts) (term_then u us) e =
          let a = both_so (alike t u) (all_alike ts us) e in
          ap (λ x. words.value_of x ∷ values_of b v path (core_terms known (n + term_accesses t) ts)) (alike_value v path n t u a.0)
          ∙ (ap (λ zs. words.value_of (value_of_term b v path (core_term known n u)) ∷ zs) (all_numbers_aside v path (n + term_accesses t) (n + term_accesses u) ts ∙ all_alike_values v path (n + term_accesses u) ts us a.1))

    pub spot_alike : (v : Variables) (path : Path) (of other : Option ℕ) (e f : Element) → same_entity of other ≡ true → alike_elements e f ≡ true → source_spot v path of e ≡ source_spot v path other f
    spot_alike v path of other (with_indices ts) (with_indices us) s a =
        ap (λ o. spot_named v path o (source_values v path ts)) (entity_is of other s) ∙ ap (λ zs. spot_named v path other zs) (all_alike_values v path 0 ts us a)
    spot_alike v path of other (in_row x t) (in_row y u) s a =
        let c = both_so (nat_eq x y) (alike t u) a in
        ap (λ o. spot_by_row b.table (memory_at o) x (words.value_of (source_value v path t))) (entity_is of other s)
        ∙ (ap (λ z. spot_by_row b.table (memory_at other) z (words.value_of (source_value v path t))) (number_is x y c.0)
        ∙ ap (λ z. spot_by_row b.table (memory_at other) y (words.value_of z)) (alike_value v path 0 t u c.1))
    spot_alike v path of other (with_indices ts) (in_row y u) s a = cc
    spot_alike v path of other (in_row x t) (with_indices us) s a = cc
