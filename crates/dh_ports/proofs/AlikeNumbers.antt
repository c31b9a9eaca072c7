-- Two expressions have one number exactly where they are alike, where no structure has two numbers; those with a
-- name that stands for nothing are like none.
use Rattle.std.proofs.Common.{◌≡◌, ℕ, zero, suc, ◌+◌, ◌==◌, ◌&&◌, Bool, true, false, List, refl, ap, sym, ◌∙◌, subst, arith, ◌⊎◌, inl, inr}
use Rattle.std.specs.Prelude.{Option, Some, None}
use Rattle.std.proofs.lemmas.Bool.{eqb-true, eq-eqb}
use Rattle.dh_value.specs.declared.kinds.Kind.{Kind}
use Rattle.dh_value.specs.declared.kinds.Kind.TheVariants as kind
use Rattle.dh_tree.specs.Memories.{same_entity}
use Rattle.dh_tree.specs.PlainTrees.{Term, term, TermForm, number, truth_value, named, accessed, in_bank, applied, converted, Terms, no_terms, term_then}
use Rattle.dh_meets.specs.Sharing.{same_truth, same_maybe_kind, number_of_op, alike, alike_forms, all_alike, alike_elements}
use Rattle.dh_tree.specs.Kinds.{same_kind}
use Rattle.dh_meets.specs.SourceEvents.{Element, with_indices, in_row}
use Rattle.dh_events.specs.declared.structures.Structure.{Structure}
use Rattle.dh_events.specs.declared.structures.MaybeKind.{MaybeKind}
use Rattle.dh_events.specs.declared.structures.MaybeKind.TheVariants as sort
use Rattle.dh_events.specs.declared.structures.Form.{Form}
use Rattle.dh_events.specs.declared.structures.Form.TheVariants as form
use Rattle.dh_events.specs.Structures.{kind_sort, sort_found, StructureStands, Describes, DescribesForm, DescribesFrom, DescribesElement}
use Rattle.dh_events.proofs.StructureFacts.{one_sort, one_form, sorts_alike, alike_sorts}

absurd : {A : Type 0} → ⊥ → A
absurd e = elim e [ ]

pub first_true : (a b : Bool) → (a && b) ≡ true → a ≡ true
first_true true b e = refl
first_true false b e = cc

pub second_true : (a b : Bool) → (a && b) ≡ true → b ≡ true
second_true true b e = e
second_true false b e = cc

both_true : (a b : Bool) → a ≡ true → b ≡ true → (a && b) ≡ true
both_true true b e f = f
both_true false b e f = cc

same_truths : (a b : Bool) → a ≡ b → same_truth a b ≡ true
same_truths true true e = refl
same_truths true false e = cc
same_truths false true e = cc
same_truths false false e = refl

pub truths_same : (a b : Bool) → same_truth a b ≡ true → a ≡ b
truths_same true true e = refl
truths_same true false e = cc
truths_same false true e = cc
truths_same false false e = refl

entities_alike : (a b : Option ℕ) (n : ℕ) → a ≡ Some n → b ≡ Some n → same_entity a b ≡ true
entities_alike a b n e f = ap (λ x. same_entity x b) e ∙ (ap (λ x. same_entity (Some n) x) f ∙ eq-eqb n n refl)

pub entities_same : (a b : Option ℕ) (m n : ℕ) → a ≡ Some m → b ≡ Some n → same_entity a b ≡ true → m ≡ n
entities_same a b m n e f g = eqb-true m n (sym (ap (λ x. same_entity x b) e ∙ ap (λ x. same_entity (Some m) x) f) ∙ g)

kinds_alike : (j k : Option Kind) → sort_found j ≡ sort_found k → same_maybe_kind j k ≡ true
kinds_alike None None e = refl
kinds_alike None (Some kind.Bool) e = cc
kinds_alike None (Some (kind.Unsigned n)) e = cc
kinds_alike None (Some (kind.Signed n)) e = cc
kinds_alike (Some kind.Bool) None e = cc
kinds_alike (Some (kind.Unsigned n)) None e = cc
kinds_alike (Some (kind.Signed n)) None e = cc
kinds_alike (Some j) (Some k) e = sorts_alike j k e

pub alike_kinds : (j k : Option Kind) → same_maybe_kind j k ≡ true → sort_found j ≡ sort_found k
alike_kinds None None e = refl
alike_kinds None (Some k) e = cc
alike_kinds (Some j) None e = cc
alike_kinds (Some j) (Some k) e = alike_sorts j k e

-- forms that are one have their parts in common
number_sign : (a b : Bool) (x y : ℕ) → form.Number a x ≡ form.Number b y → a ≡ b
number_sign a b x y e = cc

number_value : (a b : Bool) (x y : ℕ) → form.Number a x ≡ form.Number b y → x ≡ y
number_value a b x y e = cc

truth_is : (a b : Bool) → form.Truth a ≡ form.Truth b → a ≡ b
truth_is a b e = cc

variable_is : (a b : ℕ) → form.Variable a ≡ form.Variable b → a ≡ b
variable_is a b e = cc

read_entity : (a b m n : ℕ) → form.Read a m ≡ form.Read b n → a ≡ b
read_entity a b m n e = cc

read_element : (a b m n : ℕ) → form.Read a m ≡ form.Read b n → m ≡ n
read_element a b m n e = cc

operation_name : (a b l m r s : ℕ) → form.Operation a l r ≡ form.Operation b m s → a ≡ b
operation_name a b l m r s e = cc

operation_left : (a b l m r s : ℕ) → form.Operation a l r ≡ form.Operation b m s → l ≡ m
operation_left a b l m r s e = cc

operation_right : (a b l m r s : ℕ) → form.Operation a l r ≡ form.Operation b m s → r ≡ s
operation_right a b l m r s e = cc

cast_sort : (a b : MaybeKind) (m n : ℕ) → form.Cast a m ≡ form.Cast b n → a ≡ b
cast_sort a b m n e = cc

cast_inner : (a b : MaybeKind) (m n : ℕ) → form.Cast a m ≡ form.Cast b n → m ≡ n
cast_inner a b m n e = cc

row_bank : (a b m n : ℕ) → form.Row a m ≡ form.Row b n → a ≡ b
row_bank a b m n e = cc

row_inner : (a b m n : ℕ) → form.Row a m ≡ form.Row b n → m ≡ n
row_inner a b m n e = cc

-- the kind of a form, and that of an expression's form
abbrev tag : Form → ℕ
tag (form.Number negative value) = 0
tag (form.Truth value) = 1
tag (form.Variable entity) = 2
tag (form.Read entity element) = 3
tag (form.Operation op left right) = 4
tag (form.Cast to inner) = 5
tag form.NoIndex = 6
tag (form.Index before last) = 7
tag (form.Row bank row) = 8

abbrev tag_of : TermForm → ℕ
tag_of (number negative n) = 0
tag_of (truth_value value) = 1
tag_of (named r) = 2
tag_of (accessed r indices) = 3
tag_of (in_bank r bank bank_place row) = 3
tag_of (applied op left right) = 4
tag_of (converted inner to) = 5

module _ (known : List Structure) where
  stands_so : (n : ℕ) (s : MaybeKind) (f : TermForm) → DescribesForm known n s f → (x : Form) × (StructureStands known n s x × (tag x ≡ tag_of f))
  stands_so n s (number negative value) d = (_, (d, refl))
  stands_so n s (truth_value value) d = (_, (d, refl))
  stands_so n s (named r) (e, (h, d)) = (_, (d, refl))
  stands_so n s (accessed r indices) (e, (m, (h, (i, d)))) = (_, (d, refl))
  stands_so n s (in_bank r bank bank_place row) (e, (m, (l, (h, (i, (g, d)))))) = (_, (d, refl))
  stands_so n s (applied op left right) (l, (r, (i, (j, d)))) = (_, (d, refl))
  stands_so n s (converted inner to) (m, (i, d)) = (_, (d, refl))

  sorts_same : (n : ℕ) (s t : MaybeKind) (f g : TermForm) → DescribesForm known n s f → DescribesForm known n t g → s ≡ t
  sorts_same n s t f g d e = let x = stands_so n s f d in let y = stands_so n t g e in one_sort known n s t x.0 y.0 x.1.0 y.1.0

  tags_same : (n : ℕ) (s t : MaybeKind) (f g : TermForm) → DescribesForm known n s f → DescribesForm known n t g → tag_of f ≡ tag_of g
  tags_same n s t f g d e =
      let x = stands_so n s f d in
      let y = stands_so n t g e in
      sym x.1.1 ∙ (ap tag (one_form known n s t x.0 y.0 x.1.0 y.1.0) ∙ y.1.1)

  -- how many indices stand behind one another in a number
  abbrev HasHeight : (h : ℕ) → Option ℕ → Type 0
  HasHeight zero b = b ≡ None
  HasHeight (suc h) b = (m : ℕ) × ((b ≡ Some m) × ((c : Option ℕ) × ((l : ℕ) × (StructureStands known m sort.Unknown (form.Index c l) × HasHeight h c))))

  some_one : (m n : ℕ) → Some m ≡ Some n → m ≡ n
  some_one m n e = cc

  one_height : (h i : ℕ) (b : Option ℕ) → HasHeight h b → HasHeight i b → h ≡ i
  one_height zero zero b d e = refl
  one_height zero (suc i) b d (m, (e, r)) = absurd (apart m (sym d ∙ e))
    where
      apart : (m : ℕ) → None ≡ Some m → ⊥
      apart m e = cc
  one_height (suc h) zero b (m, (d, r)) e = absurd (apart m (sym e ∙ d))
    where
      apart : (m : ℕ) → None ≡ Some m → ⊥
      apart m e = cc
  one_height (suc h) (suc i) b (m, (d, (c, (l, (s, r))))) (n, (e, (c1, (l1, (s1, r1))))) =
      let same : m ≡ n = some_one m n (sym d ∙ e) in
      let both : form.Index c l ≡ form.Index c1 l1 = one_form known n sort.Unknown sort.Unknown _ _ (subst (λ (x : ℕ). StructureStands known x sort.Unknown (form.Index c l)) same s) s1 in
      let before : c ≡ c1 = befores c c1 l l1 both in
      ap suc (one_height h i c1 (subst (λ (x : Option ℕ). HasHeight h x) before r) r1)
    where
      befores : (c c1 : Option ℕ) (l l1 : ℕ) → form.Index c l ≡ form.Index c1 l1 → c ≡ c1
      befores c c1 l l1 e = cc

  abbrev many : Terms → ℕ
  many no_terms = 0
  many (term_then t ts) = suc (many ts)

  tall : (h : ℕ) (b : ℕ) (ts : Terms) (n : ℕ) → HasHeight h (Some b) → DescribesFrom known (Some b) ts n → HasHeight (h + many ts) (Some n)
  tall h b no_terms n d e = subst (λ (k : ℕ). HasHeight k (Some n)) (plus_none h) (subst (λ (x : ℕ). HasHeight h (Some x)) e d)
    where
      plus_none : (h : ℕ) → h ≡ h + 0
      plus_none h = omega arith
  tall h b (term_then t ts) n d (l, (m, (i, (s, r)))) = subst (λ (k : ℕ). HasHeight k (Some n)) (shift h (many ts)) (tall (suc h) m ts n (m, (refl, (Some b, (l, (s, d))))) r)
    where
      shift : (h n : ℕ) → suc h + n ≡ h + suc n
      shift h n = omega arith

  -- indices that are there are the height of their number
  tall_all : (t : Term) (ts : Terms) (n : ℕ) → DescribesFrom known None (term_then t ts) n → HasHeight (suc (many ts)) (Some n)
  tall_all t ts n (l, (m, (i, (s, r)))) = subst (λ (k : ℕ). HasHeight k (Some n)) (one_more (many ts)) (tall 1 m ts n (m, (refl, (None, (l, (s, refl))))) r)
    where
      one_more : (n : ℕ) → 1 + n ≡ suc n
      one_more n = omega arith

  index_tag : (h n : ℕ) → HasHeight (suc h) (Some n) → (x : Form) × (StructureStands known n sort.Unknown x × (tag x ≡ 7))
  index_tag h n (m, (e, (c, (l, (s, r))))) = (form.Index c l, (subst (λ (x : ℕ). StructureStands known x sort.Unknown (form.Index c l)) (sym (some_one n m e)) s, refl))

  -- the form of the number of indices
  abbrev IsIndices : Form → Type 0
  IsIndices x = (tag x ≡ 6) ⊎ (tag x ≡ 7)

  indices_tag : (ts : Terms) (n : ℕ) → DescribesFrom known None ts n → (x : Form) × (StructureStands known n sort.Unknown x × IsIndices x)
  indices_tag no_terms n d = (form.NoIndex, (d, inl refl))
  indices_tag (term_then t ts) n d = let x = index_tag (many ts) n (tall_all t ts n d) in (x.0, (x.1.0, inr x.1.1))

  no_row : (ts : Terms) (n bank l : ℕ) → DescribesFrom known None ts n → StructureStands known n sort.Unknown (form.Row bank l) → ⊥
  no_row ts n bank l d s =
      let x = indices_tag ts n d in
      let same : tag x.0 ≡ 8 = ap tag (one_form known n sort.Unknown sort.Unknown x.0 (form.Row bank l) x.1.0 s) in
      elim x.1.1 [ inl e ↦ six (sym e ∙ same) | inr e ↦ seven (sym e ∙ same) ]
    where
      six : ◌≡◌ {A = ℕ} 6 8 → ⊥
      six e = omega (arith, e)

      seven : ◌≡◌ {A = ℕ} 7 8 → ⊥
      seven e = omega (arith, e)

  clash : (m n : ℕ) → m ≡ n → (m == n) ≡ false → ⊥
  clash m n e f = let g : (m == n) ≡ true = eq-eqb m n e in cc

  mutual
    pub numbers_alike : (n : ℕ) (t u : Term) → Describes known n t → Describes known n u → alike t u ≡ true
    numbers_alike n (term p j f) (term q k g) d e = both_true (same_maybe_kind j k) (alike_forms f g) (kinds_alike j k (sorts_same n (sort_found j) (sort_found k) f g d e)) (forms_alike n (sort_found j) (sort_found k) f g d e)

    forms_alike : (n : ℕ) (s t : MaybeKind) (f g : TermForm) → DescribesForm known n s f → DescribesForm known n t g → alike_forms f g ≡ true
    forms_alike n s t (number a x) (number b y) d e =
        let k = one_form known n s t (form.Number a x) (form.Number b y) d e in
        both_true (same_truth a b) (x == y) (same_truths a b (number_sign a b x y k)) (eq-eqb x y (number_value a b x y k))
    forms_alike n s t (truth_value a) (truth_value b) d e = same_truths a b (truth_is a b (one_form known n s t (form.Truth a) (form.Truth b) d e))
    forms_alike n s t (named r) (named q) (x, (h, d)) (y, (i, e)) =
        entities_alike r.entity q.entity y (h ∙ ap (λ z. Some z) (variable_is x y (one_form known n s t (form.Variable x) (form.Variable y) d e))) i
    forms_alike n s t (accessed r ts) (accessed q us) (x, (m, (h, (a, d)))) (y, (l, (i, (b, e)))) =
        let k = one_form known n s t (form.Read x m) (form.Read y l) d e in
        both_true (same_entity r.entity q.entity) (all_alike ts us) (entities_alike r.entity q.entity y (h ∙ ap (λ z. Some z) (read_entity x y m l k)) i)
        (indices_alike l ts us (subst (λ (z : ℕ). DescribesFrom known None ts z) (read_element x y m l k) a) b)
    forms_alike n s t (accessed r ts) (in_bank q bank bank_place u) (x, (m, (h, (a, d)))) (y, (l, (k, (i, (b, (c, e)))))) =
        absurd (no_row ts l bank k (subst (λ (z : ℕ). DescribesFrom known None ts z) (read_element x y m l (one_form known n s t (form.Read x m) (form.Read y l) d e)) a) c)
    forms_alike n s t (in_bank q bank bank_place u) (accessed r ts) (y, (l, (k, (i, (b, (c, e)))))) (x, (m, (h, (a, d)))) =
        absurd (no_row ts l bank k (subst (λ (z : ℕ). DescribesFrom known None ts z) (sym (read_element y x l m (one_form known n s t (form.Read y l) (form.Read x m) e d))) a) c)
    forms_alike n s t (in_bank r bank bank_place u) (in_bank q other other_place v) (x, (m, (l, (h, (a, (c, d)))))) (y, (m1, (l1, (i, (b, (c1, e)))))) =
        let k = one_form known n s t (form.Read x m) (form.Read y m1) d e in
        let rows = one_form known m1 sort.Unknown sort.Unknown (form.Row bank l) (form.Row other l1) (subst (λ (z : ℕ). StructureStands known z sort.Unknown (form.Row bank l)) (read_element x y m m1 k) c) c1 in
        both_true (same_entity r.entity q.entity) ((bank == other) && alike u v) (entities_alike r.entity q.entity y (h ∙ ap (λ z. Some z) (read_entity x y m m1 k)) i)
        (both_true (bank == other) (alike u v) (eq-eqb bank other (row_bank bank other l l1 rows)) (numbers_alike l1 u v (subst (λ (z : ℕ). Describes known z u) (row_inner bank other l l1 rows) a) b))
    forms_alike n s t (applied o a b) (applied p c g) (l, (r, (i, (j, d)))) (l1, (r1, (i1, (j1, e)))) =
        let k = one_form known n s t (form.Operation (number_of_op o) l r) (form.Operation (number_of_op p) l1 r1) d e in
        both_true (number_of_op o == number_of_op p) (alike a c && alike b g) (eq-eqb (number_of_op o) (number_of_op p) (operation_name (number_of_op o) (number_of_op p) l l1 r r1 k))
        (both_true (alike a c) (alike b g) (numbers_alike l1 a c (subst (λ (z : ℕ). Describes known z a) (operation_left (number_of_op o) (number_of_op p) l l1 r r1 k) i) i1)
        (numbers_alike r1 b g (subst (λ (z : ℕ). Describes known z b) (operation_right (number_of_op o) (number_of_op p) l l1 r r1 k) j) j1))
    forms_alike n s t (converted a to) (converted b other) (m, (i, d)) (m1, (i1, e)) =
        let k = one_form known n s t (form.Cast (kind_sort to) m) (form.Cast (kind_sort other) m1) d e in
        both_true (same_kind to other) (alike a b) (sorts_alike to other (cast_sort (kind_sort to) (kind_sort other) m m1 k)) (numbers_alike m1 a b (subst (λ (z : ℕ). Describes known z a) (cast_inner (kind_sort to) (kind_sort other) m m1 k) i) i1)
    forms_alike n s t (number a b) (truth_value k) d e = absurd (clash 0 1 (tags_same n s t (number a b) (truth_value k) d e) refl)
    forms_alike n s t (number a b) (named k) d e = absurd (clash 0 2 (tags_same n s t (number a b) (named k) d e) refl)
    forms_alike n s t (number a b) (accessed k l) d e = absurd (clash 0 3 (tags_same n s t (number a b) (accessed k l) d e) refl)
    forms_alike n s t (number a b) (in_bank k l m y) d e = absurd (clash 0 3 (tags_same n s t (number a b) (in_bank k l m y) d e) refl)
    forms_alike n s t (number a b) (applied k l m) d e = absurd (clash 0 4 (tags_same n s t (number a b) (applied k l m) d e) refl)
    forms_alike n s t (number a b) (converted k l) d e = absurd (clash 0 5 (tags_same n s t (number a b) (converted k l) d e) refl)
    forms_alike n s t (truth_value a) (number k l) d e = absurd (clash 1 0 (tags_same n s t (truth_value a) (number k l) d e) refl)
    forms_alike n s t (truth_value a) (named k) d e = absurd (clash 1 2 (tags_same n s t (truth_value a) (named k) d e) refl)
    forms_alike n s t (truth_value a) (accessed k l) d e = absurd (clash 1 3 (tags_same n s t (truth_value a) (accessed k l) d e) refl)
    forms_alike n s t (truth_value a) (in_bank k l m y) d e = absurd (clash 1 3 (tags_same n s t (truth_value a) (in_bank k l m y) d e) refl)
    forms_alike n s t (truth_value a) (applied k l m) d e = absurd (clash 1 4 (tags_same n s t (truth_value a) (applied k l m) d e) refl)
    forms_alike n s t (truth_value a) (converted k l) d e = absurd (clash 1 5 (tags_same n s t (truth_value a) (converted k l) d e) refl)
    forms_alike n s t (named a) (number k l) d e = absurd (clash 2 0 (tags_same n s t (named a) (number k l) d e) refl)
    forms_alike n s t (named a) (truth_value k) d e = absurd (clash 2 1 (tags_same n s t (named a) (truth_value k) d e) refl)
    forms_alike n s t (named a) (accessed k l) d e = absurd (clash 2 3 (tags_same n s t (named a) (accessed k l) d e) refl)
    forms_alike n s t (named a) (in_bank k l m y) d e = absurd (clash 2 3 (tags_same n s t (named a) (in_bank k l m y) d e) refl)
    forms_alike n s t (named a) (applied k l m) d e = absurd (clash 2 4 (tags_same n s t (named a) (applied k l m) d e) refl)
    forms_alike n s t (named a) (converted k l) d e = absurd (clash 2 5 (tags_same n s t (named a) (converted k l) d e) refl)
    forms_alike n s t (accessed a b) (number k l) d e = absurd (clash 3 0 (tags_same n s t (accessed a b) (number k l) d e) refl)
    forms_alike n s t (accessed a b) (truth_value k) d e = absurd (clash 3 1 (tags_same n s t (accessed a b) (truth_value k) d e) refl)
    forms_alike n s t (accessed a b) (named k) d e = absurd (clash 3 2 (tags_same n s t (accessed a b) (named k) d e) refl)
    forms_alike n s t (accessed a b) (applied k l m) d e = absurd (clash 3 4 (tags_same n s t (accessed a b) (applied k l m) d e) refl)
    forms_alike n s t (accessed a b) (converted k l) d e = absurd (clash 3 5 (tags_same n s t (accessed a b) (converted k l) d e) refl)
    forms_alike n s t (in_bank a b c y) (number k l) d e = absurd (clash 3 0 (tags_same n s t (in_bank a b c y) (number k l) d e) refl)
    forms_alike n s t (in_bank a b c y) (truth_value k) d e = absurd (clash 3 1 (tags_same n s t (in_bank a b c y) (truth_value k) d e) refl)
    forms_alike n s t (in_bank a b c y) (named k) d e = absurd (clash 3 2 (tags_same n s t (in_bank a b c y) (named k) d e) refl)
    forms_alike n s t (in_bank a b c y) (applied k l m) d e = absurd (clash 3 4 (tags_same n s t (in_bank a b c y) (applied k l m) d e) refl)
    forms_alike n s t (in_bank a b c y) (converted k l) d e = absurd (clash 3 5 (tags_same n s t (in_bank a b c y) (converted k l) d e) refl)
    forms_alike n s t (applied a b c) (number k l) d e = absurd (clash 4 0 (tags_same n s t (applied a b c) (number k l) d e) refl)
    forms_alike n s t (applied a b c) (truth_value k) d e = absurd (clash 4 1 (tags_same n s t (applied a b c) (truth_value k) d e) refl)
    forms_alike n s t (applied a b c) (named k) d e = absurd (clash 4 2 (tags_same n s t (applied a b c) (named k) d e) refl)
    forms_alike n s t (applied a b c) (accessed k l) d e = absurd (clash 4 3 (tags_same n s t (applied a b c) (accessed k l) d e) refl)
    forms_alike n s t (applied a b c) (in_bank k l m y) d e = absurd (clash 4 3 (tags_same n s t (applied a b c) (in_bank k l m y) d e) refl)
    forms_alike n s t (applied a b c) (converted k l) d e = absurd (clash 4 5 (tags_same n s t (applied a b c) (converted k l) d e) refl)
    forms_alike n s t (converted a b) (number k l) d e = absurd (clash 5 0 (tags_same n s t (converted a b) (number k l) d e) refl)
    forms_alike n s t (converted a b) (truth_value k) d e = absurd (clash 5 1 (tags_same n s t (converted a b) (truth_value k) d e) refl)
    forms_alike n s t (converted a b) (named k) d e = absurd (clash 5 2 (tags_same n s t (converted a b) (named k) d e) refl)
    forms_alike n s t (converted a b) (accessed k l) d e = absurd (clash 5 3 (tags_same n s t (converted a b) (accessed k l) d e) refl)
    forms_alike n s t (converted a b) (in_bank k l m y) d e = absurd (clash 5 3 (tags_same n s t (converted a b) (in_bank k l m y) d e) refl)
    forms_alike n s t (converted a b) (applied k l m) d e = absurd (clash 5 4 (tags_same n s t (converted a b) (applied k l m) d e) refl)

    -- indices of one number
    indices_alike : (n : ℕ) (ts us : Terms) → DescribesFrom known None ts n → DescribesFrom known None us n → all_alike ts us ≡ true
    indices_alike n no_terms no_terms d e = refl
    indices_alike n no_terms (term_then u us) d e = let x = index_tag (many us) n (tall_all u us n e) in absurd (apart (ap tag (one_form known n sort.Unknown sort.Unknown form.NoIndex x.0 d x.1.0) ∙ x.1.1))
      where
        apart : ◌≡◌ {A = ℕ} 6 7 → ⊥
        apart e = omega (arith, e)
    indices_alike n (term_then t ts) no_terms d e = let x = index_tag (many ts) n (tall_all t ts n d) in absurd (apart (ap tag (one_form known n sort.Unknown sort.Unknown form.NoIndex x.0 e x.1.0) ∙ x.1.1))
      where
        apart : ◌≡◌ {A = ℕ} 6 7 → ⊥
        apart e = omega (arith, e)
    indices_alike n (term_then t ts) (term_then u us) (l, (m, (i, (s, r)))) (l1, (m1, (i1, (s1, r1)))) =
        let long : suc (many ts) ≡ suc (many us) = one_height (suc (many ts)) (suc (many us)) (Some n) (tall_all t ts n (l, (m, (i, (s, r))))) (tall_all u us n (l1, (m1, (i1, (s1, r1))))) in
        let rest = rest_alike n ts us m m1 (less (many ts) (many us) long) r r1 in
        let both : form.Index None l ≡ form.Index None l1 = one_form known m1 sort.Unknown sort.Unknown _ _ (subst (λ (z : ℕ). StructureStands known z sort.Unknown (form.Index None l)) rest.0 s) s1 in
        let inner : l ≡ l1 = last l l1 both in
        both_true (alike t u) (all_alike ts us) (numbers_alike l1 t u (subst (λ (z : ℕ). Describes known z t) inner i) i1) rest.1
      where
        less : (m n : ℕ) → suc m ≡ suc n → m ≡ n
        less m n e = omega (arith, e)

        last : (l l1 : ℕ) → form.Index None l ≡ form.Index None l1 → l ≡ l1
        last l l1 e = cc

    rest_alike : (n : ℕ) (ts us : Terms) (b c : ℕ) → many ts ≡ many us → DescribesFrom known (Some b) ts n → DescribesFrom known (Some c) us n → (b ≡ c) × (all_alike ts us ≡ true)
    rest_alike n no_terms no_terms b c h d e = (d ∙ sym e, refl)
    rest_alike n no_terms (term_then u us) b c h d e = absurd (none (many us) h)
      where
        none : (n : ℕ) → 0 ≡ suc n → ⊥
        none n e = omega (arith, e)
    rest_alike n (term_then t ts) no_terms b c h d e = absurd (none (many ts) h)
      where
        none : (n : ℕ) → suc n ≡ 0 → ⊥
        none n e = omega (arith, e)
    rest_alike n (term_then t ts) (term_then u us) b c h (l, (m, (i, (s, r)))) (l1, (m1, (i1, (s1, r1)))) =
        let rest = rest_alike n ts us m m1 (less (many ts) (many us) h) r r1 in
        let both : form.Index (Some b) l ≡ form.Index (Some c) l1 = one_form known m1 sort.Unknown sort.Unknown _ _ (subst (λ (z : ℕ). StructureStands known z sort.Unknown (form.Index (Some b) l)) rest.0 s) s1 in
        let inner : l ≡ l1 = last b c l l1 both in
        (before b c l l1 both, both_true (alike t u) (all_alike ts us) (numbers_alike l1 t u (subst (λ (z : ℕ). Describes known z t) inner i) i1) rest.1)
      where
        less : (m n : ℕ) → suc m ≡ suc n → m ≡ n
        less m n e = omega (arith, e)

        last : (b c l l1 : ℕ) → form.Index (Some b) l ≡ form.Index (Some c) l1 → l ≡ l1
        last b c l l1 e = cc

        before : (b c l l1 : ℕ) → form.Index (Some b) l ≡ form.Index (Some c) l1 → b ≡ c
        before b c l l1 e = cc

  pub element_alike : (n : ℕ) (e f : Element) → DescribesElement known n e → DescribesElement known n f → alike_elements e f ≡ true
  element_alike n (with_indices ts) (with_indices us) d e = indices_alike n ts us d e
  element_alike n (with_indices ts) (in_row bank u) d (l, (i, s)) = absurd (no_row ts n bank l d s)
  element_alike n (in_row bank u) (with_indices ts) (l, (i, s)) d = absurd (no_row ts n bank l d s)
  element_alike n (in_row bank t) (in_row other u) (l, (i, s)) (l1, (i1, s1)) = same (one_form known n sort.Unknown sort.Unknown _ _ s s1)
    where
      same : form.Row bank l ≡ form.Row other l1 → ((bank == other) && alike t u) ≡ true
      same k =
          let first : bank ≡ other = cc in
          let second : l ≡ l1 = cc in
          both_true (bank == other) (alike t u) (eq-eqb bank other first) (numbers_alike l1 t u (subst (λ (z : ℕ). Describes known z t) second i) i1)
