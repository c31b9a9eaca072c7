-- What expressions that are alike have in common: their numbers, that no name in them stands for nothing, and the
-- moment of the newest variable in them.
use Rattle.std.proofs.Common.{◌≡◌, ℕ, ◌≤◌, ◌==◌, ◌&&◌, ◌||◌, Bool, true, false, List, max, refl, ap, sym, ◌∙◌, subst, arith, inl, inr}
use Rattle.std.specs.Prelude.{Option, Some, None}
use Rattle.std.proofs.lemmas.Bool.{eqb-true, eq-eqb, or_cases}
use Rattle.dh_tree.specs.Memories.{same_entity}
use Rattle.dh_tree.specs.PlainTrees.{Term, term, TermForm, number, truth_value, named, accessed, in_bank, applied, converted, Terms, no_terms, term_then}
use Rattle.dh_meets.specs.Sharing.{same_truth, same_maybe_kind, number_of_op, alike, alike_forms, all_alike, alike_elements, mentions, form_mentions, terms_mention, element_mentions}
use Rattle.dh_tree.specs.Kinds.{same_kind}
use Rattle.dh_meets.specs.SourceEvents.{Element, with_indices, in_row}
use Rattle.dh_events.specs.declared.structures.Structure.{Structure}
use Rattle.dh_events.specs.declared.structures.MaybeKind.{MaybeKind}
use Rattle.dh_events.specs.declared.structures.MaybeKind.TheVariants as sort
use Rattle.dh_events.specs.declared.structures.Form.TheVariants as form
use Rattle.dh_events.specs.Structures.{kind_sort, sort_found, Describes, DescribesForm, DescribesFrom, DescribesElement, StructuresAreDistinct, IsNameless, FormNameless, AnyNameless, newest_in, form_newest, newest_behind, entity_newest, element_newest}
use Rattle.dh_events.specs.Elements.{ElementNameless}
use Rattle.dh_events.proofs.StructureFacts.{one_number, alike_sorts}
use Rattle.dh_ports.proofs.AlikeNumbers.{first_true, second_true, truths_same, entities_same, alike_kinds}

absurd : {A : Type 0} → ⊥ → A
absurd e = elim e [ ]

-- One number.

module _ (known : List Structure) (distinct : StructuresAreDistinct known) where
  mutual
    pub alike_number : (m n : ℕ) (t u : Term) → Describes known m t → Describes known n u → alike t u ≡ true → m ≡ n
    alike_number m n (term p j f) (term q k g) d e h = forms_number m n (sort_found j) (sort_found k) f g (alike_kinds j k (first_true (same_maybe_kind j k) _ h)) d e (second_true (same_maybe_kind j k) _ h)

    forms_number : (m n : ℕ) (s t : MaybeKind) (f g : TermForm) → s ≡ t → DescribesForm known m s f → DescribesForm known n t g → alike_forms f g ≡ true → m ≡ n
    forms_number m n s t (number a x) (number b y) q d e h =
        one_number known distinct m n s t _ _ q (ap (λ z. form.Number z x) (truths_same a b (first_true (same_truth a b) _ h)) ∙ ap (λ z. form.Number b z) (eqb-true x y (second_true (same_truth a b) _ h))) d e
    forms_number m n s t (truth_value a) (truth_value b) q d e h = one_number known distinct m n s t _ _ q (ap (λ z. form.Truth z) (truths_same a b h)) d e
    forms_number m n s t (named r) (named o) q (x, (i, d)) (y, (j, e)) h = one_number known distinct m n s t _ _ q (ap (λ z. form.Variable z) (entities_same r.entity o.entity x y i j h)) d e
    forms_number m n s t (accessed r ts) (accessed o us) q (x, (l, (i, (a, d)))) (y, (k, (j, (b, e)))) h =
        one_number known distinct m n s t _ _ q
        (ap (λ z. form.Read z l) (entities_same r.entity o.entity x y i j (first_true (same_entity r.entity o.entity) _ h))
        ∙ ap (λ z. form.Read y z) (from_number l k None None ts us a b refl (second_true (same_entity r.entity o.entity) _ h))) d e
    forms_number m n s t (in_bank r bank bp u) (in_bank o other op v) q (x, (l, (c, (i, (a, (w, d)))))) (y, (k, (g, (j, (b, (z, e)))))) h =
        let inside : ((bank == other) && alike u v) ≡ true = second_true (same_entity r.entity o.entity) _ h in
        let rows : l ≡ k = one_number known distinct l k sort.Unknown sort.Unknown _ _ refl (ap (λ v. form.Row v c) (eqb-true bank other (first_true (bank == other) _ inside)) ∙ ap (λ v. form.Row other v) (alike_number c g u v a b (second_true (bank == other) _ inside))) w z in
        one_number known distinct m n s t _ _ q (ap (λ v. form.Read v l) (entities_same r.entity o.entity x y i j (first_true (same_entity r.entity o.entity) _ h)) ∙ ap (λ v. form.Read y v) rows) d e
    forms_number m n s t (applied o a b) (applied p c g) q (l, (r, (i, (j, d)))) (k, (w, (x, (y, e)))) h =
        let both : (alike a c && alike b g) ≡ true = second_true (number_of_op o == number_of_op p) _ h in
        one_number known distinct m n s t _ _ q
        (ap (λ v. form.Operation v l r) (eqb-true (number_of_op o) (number_of_op p) (first_true (number_of_op o == number_of_op p) _ h))
        ∙ (ap (λ v. form.Operation (number_of_op p) v r) (alike_number l k a c i x (first_true (alike a c) _ both)) ∙ ap (λ v. form.Operation (number_of_op p) k v) (alike_number r w b g j y (second_true (alike a c) _ both)))) d e
    forms_number m n s t (converted a to) (converted b other) q (l, (i, d)) (k, (j, e)) h =
        one_number known distinct m n s t _ _ q (ap (λ v. form.Cast v l) (alike_sorts to other (first_true (same_kind to other) _ h)) ∙ ap (λ v. form.Cast (kind_sort other) v) (alike_number l k a b i j (second_true (same_kind to other) _ h))) d e
    forms_number m n s t f g q d e h = cc

    from_number : (m n : ℕ) (b c : Option ℕ) (ts us : Terms) → DescribesFrom known b ts m → DescribesFrom known c us n → b ≡ c → all_alike ts us ≡ true → m ≡ n
    from_number m n None None no_terms no_terms d e q h = one_number known distinct m n sort.Unknown sort.Unknown _ _ refl refl d e
    from_number m n None (Some c) no_terms no_terms d e q h = cc
    from_number m n (Some b) None no_terms no_terms d e q h = cc
    from_number m n (Some b) (Some c) no_terms no_terms d e q h = sym d ∙ (some_one b c q ∙ e)
      where
        some_one : (b c : ℕ) → Some b ≡ Some c → b ≡ c
        some_one b c e = cc
    from_number m n b c no_terms (term_then u us) d e q h = cc
    from_number m n b c (term_then t ts) no_terms d e q h = cc
    from_number m n b c (term_then t ts) (term_then u us) (l, (k, (i, (s, r)))) (l1, (k1, (i1, (s1, r1)))) q h =
        let inner : l ≡ l1 = alike_number l l1 t u i i1 (first_true (alike t u) _ h) in
        let next : k ≡ k1 = one_number known distinct k k1 sort.Unknown sort.Unknown _ _ refl (ap (λ v. form.Index v l) q ∙ ap (λ v. form.Index c v) inner) s s1 in
        from_number m n (Some k) (Some k1) ts us r r1 (ap (λ v. Some v) next) (second_true (alike t u) _ h)

  pub element_number : (m n : ℕ) (e f : Element) → DescribesElement known m e → DescribesElement known n f → alike_elements e f ≡ true → m ≡ n
  element_number m n (with_indices ts) (with_indices us) d e h = from_number m n None None ts us d e refl h
  element_number m n (with_indices ts) (in_row bank u) d e h = cc
  element_number m n (in_row bank u) (with_indices ts) d e h = cc
  element_number m n (in_row bank t) (in_row other u) (l, (i, s)) (k, (j, r)) h =
      one_number known distinct m n sort.Unknown sort.Unknown _ _ refl (ap (λ v. form.Row v l) (eqb-true bank other (first_true (bank == other) _ h)) ∙ ap (λ v. form.Row other v) (alike_number l k t u i j (second_true (bank == other) _ h))) s r

-- No name that stands for nothing.

none_first : (a b : Option ℕ) → a ≡ None → same_entity a b ≡ true → ⊥
none_first None b e f = untrue f
  where
    untrue : false ≡ true → ⊥
    untrue e = cc
none_first (Some m) b e f = some_none e
  where
    some_none : Some m ≡ None → ⊥
    some_none e = cc

none_second : (a b : Option ℕ) → b ≡ None → same_entity a b ≡ true → ⊥
none_second None b e f = untrue f
  where
    untrue : false ≡ true → ⊥
    untrue e = cc
none_second (Some m) None e f = untrue f
  where
    untrue : false ≡ true → ⊥
    untrue e = cc
none_second (Some m) (Some n) e f = some_none e
  where
    some_none : Some n ≡ None → ⊥
    some_none e = cc

mutual
  first_named : (t u : Term) → alike t u ≡ true → IsNameless t → ⊥
  first_named (term p j f) (term q k g) h n = first_form f g (second_true (same_maybe_kind j k) _ h) n

  first_form : (f g : TermForm) → alike_forms f g ≡ true → FormNameless f → ⊥
  first_form (number a x) g h n = n
  first_form (truth_value a) g h n = n
  first_form (named r) (named o) h n = none_first r.entity o.entity n h
  first_form (named r) g h n = cc
  first_form (accessed r ts) (accessed o us) h (inl n) = none_first r.entity o.entity n (first_true (same_entity r.entity o.entity) _ h)
  first_form (accessed r ts) (accessed o us) h (inr n) = first_all ts us (second_true (same_entity r.entity o.entity) _ h) n
  first_form (accessed r ts) g h n = cc
  first_form (in_bank r bank bp u) (in_bank o other op v) h (inl n) = none_first r.entity o.entity n (first_true (same_entity r.entity o.entity) _ h)
  first_form (in_bank r bank bp u) (in_bank o other op v) h (inr n) = first_named u v (second_true (bank == other) _ (second_true (same_entity r.entity o.entity) _ h)) n
  first_form (in_bank r bank bp u) g h n = cc
  first_form (applied o a b) (applied p c d) h (inl n) = first_named a c (first_true (alike a c) _ (second_true (number_of_op o == number_of_op p) _ h)) n
  first_form (applied o a b) (applied p c d) h (inr n) = first_named b d (second_true (alike a c) _ (second_true (number_of_op o == number_of_op p) _ h)) n
  first_form (applied o a b) g h n = cc
  first_form (converted a to) (converted b other) h n = first_named a b (second_true (same_kind to other) _ h) n
  first_form (converted a to) g h n = cc

  first_all : (ts us : Terms) → all_alike ts us ≡ true → AnyNameless ts → ⊥
  first_all no_terms us h n = n
  first_all (term_then t ts) no_terms h n = cc
  first_all (term_then t ts) (term_then u us) h (inl n) = first_named t u (first_true (alike t u) _ h) n
  first_all (term_then t ts) (term_then u us) h (inr n) = first_all ts us (second_true (alike t u) _ h) n

mutual
  second_named : (t u : Term) → alike t u ≡ true → IsNameless u → ⊥
  second_named (term p j f) (term q k g) h n = second_form f g (second_true (same_maybe_kind j k) _ h) n

  second_form : (f g : TermForm) → alike_forms f g ≡ true → FormNameless g → ⊥
  second_form f (number a x) h n = n
  second_form f (truth_value a) h n = n
  second_form (named r) (named o) h n = none_second r.entity o.entity n h
  second_form f (named r) h n = cc
  second_form (accessed r ts) (accessed o us) h (inl n) = none_second r.entity o.entity n (first_true (same_entity r.entity o.entity) _ h)
  second_form (accessed r ts) (accessed o us) h (inr n) = second_all ts us (second_true (same_entity r.entity o.entity) _ h) n
  second_form f (accessed r ts) h n = cc
  second_form (in_bank r bank bp u) (in_bank o other op v) h (inl n) = none_second r.entity o.entity n (first_true (same_entity r.entity o.entity) _ h)
  second_form (in_bank r bank bp u) (in_bank o other op v) h (inr n) = second_named u v (second_true (bank == other) _ (second_true (same_entity r.entity o.entity) _ h)) n
  second_form f (in_bank r bank bp u) h n = cc
  second_form (applied o a b) (applied p c d) h (inl n) = second_named a c (first_true (alike a c) _ (second_true (number_of_op o == number_of_op p) _ h)) n
  second_form (applied o a b) (applied p c d) h (inr n) = second_named b d (second_true (alike a c) _ (second_true (number_of_op o == number_of_op p) _ h)) n
  second_form f (applied o a b) h n = cc
  second_form (converted a to) (converted b other) h n = second_named a b (second_true (same_kind to other) _ h) n
  second_form f (converted a to) h n = cc

  second_all : (ts us : Terms) → all_alike ts us ≡ true → AnyNameless us → ⊥
  second_all ts no_terms h n = n
  second_all no_terms (term_then t us) h n = cc
  second_all (term_then t ts) (term_then u us) h (inl n) = second_named t u (first_true (alike t u) _ h) n
  second_all (term_then t ts) (term_then u us) h (inr n) = second_all ts us (second_true (alike t u) _ h) n

pub first_element : (e f : Element) → alike_elements e f ≡ true → ElementNameless e → ⊥
first_element (with_indices ts) (with_indices us) h n = first_all ts us h n
first_element (with_indices ts) (in_row bank u) h n = cc
first_element (in_row bank u) (with_indices ts) h n = cc
first_element (in_row bank t) (in_row other u) h n = first_named t u (second_true (bank == other) _ h) n

pub second_element : (e f : Element) → alike_elements e f ≡ true → ElementNameless f → ⊥
second_element (with_indices ts) (with_indices us) h n = second_all ts us h n
second_element (with_indices ts) (in_row bank u) h n = cc
second_element (in_row bank u) (with_indices ts) h n = cc
second_element (in_row bank t) (in_row other u) h n = second_named t u (second_true (bank == other) _ h) n

-- The newest variable.

module _ (v : ℕ → ℕ) where
  entity_alike : (a b : Option ℕ) → same_entity a b ≡ true → entity_newest v a ≡ entity_newest v b
  entity_alike None b e = cc
  entity_alike (Some m) None e = cc
  entity_alike (Some m) (Some n) e = ap v (eqb-true m n e)

  mutual
    newest_alike : (t u : Term) → alike t u ≡ true → newest_in v t ≡ newest_in v u
    newest_alike (term p j f) (term q k g) h = form_alike f g (second_true (same_maybe_kind j k) _ h)

    form_alike : (f g : TermForm) → alike_forms f g ≡ true → form_newest v f ≡ form_newest v g
    form_alike (number a x) (number b y) h = refl
    form_alike (number a x) g h = cc
    form_alike (truth_value a) (truth_value b) h = refl
    form_alike (truth_value a) g h = cc
    form_alike (named r) (named o) h = entity_alike r.entity o.entity h
    form_alike (named r) g h = cc
    form_alike (accessed r ts) (accessed o us) h = behind_alike 0 ts us (second_true (same_entity r.entity o.entity) _ h)
    form_alike (accessed r ts) g h = cc
    form_alike (in_bank r bank bp t) (in_bank o other op u) h = newest_alike t u (second_true (bank == other) _ (second_true (same_entity r.entity o.entity) _ h))
    form_alike (in_bank r bank bp t) g h = cc
    form_alike (applied o a b) (applied p c d) h =
        ap (λ n. max n (newest_in v b)) (newest_alike a c (first_true (alike a c) _ (second_true (number_of_op o == number_of_op p) _ h)))
        ∙ ap (λ n. max (newest_in v c) n) (newest_alike b d (second_true (alike a c) _ (second_true (number_of_op o == number_of_op p) _ h)))
    form_alike (applied o a b) g h = cc
    form_alike (converted a to) (converted b other) h = newest_alike a b (second_true (same_kind to other) _ h)
    form_alike (converted a to) g h = cc

    behind_alike : (b : ℕ) (ts us : Terms) → all_alike ts us ≡ true → newest_behind v b ts ≡ newest_behind v b us
    behind_alike b no_terms no_terms h = refl
    behind_alike b no_terms (term_then u us) h = cc
    behind_alike b (term_then t ts) no_terms h = cc
    behind_alike b (term_then t ts) (term_then u us) h =
        ap (λ n. newest_behind v (max b n) ts) (newest_alike t u (first_true (alike t u) _ h)) ∙ behind_alike (max b (newest_in v u)) ts us (second_true (alike t u) _ h)

  pub element_newest_alike : (e f : Element) → alike_elements e f ≡ true → element_newest v e ≡ element_newest v f
  element_newest_alike (with_indices ts) (with_indices us) h = behind_alike 0 ts us h
  element_newest_alike (with_indices ts) (in_row bank u) h = cc
  element_newest_alike (in_row bank u) (with_indices ts) h = cc
  element_newest_alike (in_row bank t) (in_row other u) h = newest_alike t u (second_true (bank == other) _ h)

  -- no variable is newer than all
  module _ (most : ℕ) (bound : (x : ℕ) → v x ≤ most) where
    both_most : (a b : ℕ) → a ≤ most → b ≤ most → max a b ≤ most
    both_most a b e f = grind (arith, e, f)

    zero_most : 0 ≤ most
    zero_most = omega arith

    mutual
      newest_most : (t : Term) → newest_in v t ≤ most
      newest_most (term p k f) = form_most f

      form_most : (f : TermForm) → form_newest v f ≤ most
      form_most (number negative n) = zero_most
      form_most (truth_value value) = zero_most
      form_most (named r) = of_entity r.entity
        where
          of_entity : (o : Option ℕ) → entity_newest v o ≤ most
          of_entity None = zero_most
          of_entity (Some e) = bound e
      form_most (accessed r ts) = behind_most 0 ts zero_most
      form_most (in_bank r bank bp t) = newest_most t
      form_most (applied o a b) = both_most (newest_in v a) (newest_in v b) (newest_most a) (newest_most b)
      form_most (converted a to) = newest_most a

      behind_most : (b : ℕ) (ts : Terms) → b ≤ most → newest_behind v b ts ≤ most
      behind_most b no_terms h = h
      behind_most b (term_then t ts) h = behind_most (max b (newest_in v t)) ts (both_most b (newest_in v t) h (newest_most t))

    pub element_most : (e : Element) → element_newest v e ≤ most
    element_most (with_indices ts) = behind_most 0 ts zero_most
    element_most (in_row bank t) = newest_most t

  -- what is mentioned is no newer
  first_max : (x a b : ℕ) → x ≤ a → x ≤ max a b
  first_max x a b e = grind (arith, e)

  second_max : (x a b : ℕ) → x ≤ b → x ≤ max a b
  second_max x a b e = grind (arith, e)

  behind_least : (x b : ℕ) (ts : Terms) → x ≤ b → x ≤ newest_behind v b ts
  behind_least x b no_terms h = h
  behind_least x b (term_then t ts) h = behind_least x (max b (newest_in v t)) ts (first_max x b (newest_in v t) h)

  mutual
    newest_least : (x : ℕ) (t : Term) → mentions (Some x) t ≡ true → v x ≤ newest_in v t
    newest_least x (term p k f) m = form_least x f m

    form_least : (x : ℕ) (f : TermForm) → form_mentions (Some x) f ≡ true → v x ≤ form_newest v f
    form_least x (number negative n) m = cc
    form_least x (truth_value value) m = cc
    form_least x (named r) m = of_entity r.entity m
      where
        same : (n : ℕ) → n ≤ n
        same n = omega arith

        of_entity : (o : Option ℕ) → same_entity o (Some x) ≡ true → v x ≤ entity_newest v o
        of_entity None m = cc
        of_entity (Some e) m = subst (λ (y : ℕ). v x ≤ v y) (sym (eqb-true e x m)) (same (v x))
    form_least x (accessed r ts) m = all_least x 0 ts m
    form_least x (in_bank r bank bp t) m = newest_least x t m
    form_least x (applied o a b) m = elim (or_cases (mentions (Some x) a) (mentions (Some x) b) m) [
      | inl h ↦ first_max (v x) (newest_in v a) (newest_in v b) (newest_least x a h)
      | inr h ↦ second_max (v x) (newest_in v a) (newest_in v b) (newest_least x b h)
    ]
    form_least x (converted a to) m = newest_least x a m

    all_least : (x b : ℕ) (ts : Terms) → terms_mention (Some x) ts ≡ true → v x ≤ newest_behind v b ts
    all_least x b no_terms m = cc
    all_least x b (term_then t ts) m = elim (or_cases (mentions (Some x) t) (terms_mention (Some x) ts) m) [
      | inl h ↦ behind_least (v x) (max b (newest_in v t)) ts (second_max (v x) b (newest_in v t) (newest_least x t h))
      | inr h ↦ all_least x (max b (newest_in v t)) ts h
    ]

  pub element_least : (x : ℕ) (e : Element) → element_mentions (Some x) e ≡ true → v x ≤ element_newest v e
  element_least x (with_indices ts) m = all_least x 0 ts m
  element_least x (in_row bank t) m = newest_least x t m

-- only what is mentioned counts
module _ (v w : ℕ → ℕ) where
  or_first : (a b : Bool) → a ≡ true → (a || b) ≡ true
  or_first true b e = refl
  or_first false b e = cc

  or_second : (a b : Bool) → b ≡ true → (a || b) ≡ true
  or_second true b e = refl
  or_second false b e = e

  mutual
    newest_same : (t : Term) → ((x : ℕ) → mentions (Some x) t ≡ true → v x ≡ w x) → newest_in v t ≡ newest_in w t
    newest_same (term p k f) h = form_same f h

    form_same : (f : TermForm) → ((x : ℕ) → form_mentions (Some x) f ≡ true → v x ≡ w x) → form_newest v f ≡ form_newest w f
    form_same (number negative n) h = refl
    form_same (truth_value value) h = refl
    form_same (named r) h = of_entity r.entity h
      where
        of_entity : (o : Option ℕ) → ((x : ℕ) → same_entity o (Some x) ≡ true → v x ≡ w x) → entity_newest v o ≡ entity_newest w o
        of_entity None h = refl
        of_entity (Some e) h = h e (eq-eqb e e refl)
    form_same (accessed r ts) h = all_same 0 ts h
    form_same (in_bank r bank bp t) h = newest_same t h
    form_same (applied o a b) h =
        ap (λ n. max n (newest_in v b)) (newest_same a (λ x m. h x (or_first (mentions (Some x) a) (mentions (Some x) b) m)))
        ∙ ap (λ n. max (newest_in w a) n) (newest_same b (λ x m. h x (or_second (mentions (Some x) a) (mentions (Some x) b) m)))
    form_same (converted a to) h = newest_same a h

    all_same : (b : ℕ) (ts : Terms) → ((x : ℕ) → terms_mention (Some x) ts ≡ true → v x ≡ w x) → newest_behind v b ts ≡ newest_behind w b ts
    all_same b no_terms h = refl
    all_same b (term_then t ts) h =
        ap (λ n. newest_behind v (max b n) ts) (newest_same t (λ x m. h x (or_first (mentions (Some x) t) (terms_mention (Some x) ts) m)))
        ∙ all_same (max b (newest_in w t)) ts (λ x m. h x (or_second (mentions (Some x) t) (terms_mention (Some x) ts) m))

  pub element_newest_same : (e : Element) → ((x : ℕ) → element_mentions (Some x) e ≡ true → v x ≡ w x) → element_newest v e ≡ element_newest w e
  element_newest_same (with_indices ts) h = all_same 0 ts h
  element_newest_same (in_row bank t) h = newest_same t h
