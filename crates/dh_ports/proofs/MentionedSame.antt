-- Expressions of one structure mention the same variables.
use Rattle.std.proofs.Common.{◌≡◌, ℕ, ◌==◌, ◌&&◌, ◌||◌, Bool, true, false, List, [], ◌∷◌, refl, ap, sym, ◌∙◌}
use Rattle.std.specs.Prelude.{Option, Some, None}
use Rattle.std.proofs.lemmas.Bool.{eqb-true, eq-eqb}
use Rattle.dh_tree.specs.Memories.{same_entity}
use Rattle.dh_tree.specs.PlainTrees.{Term, term, TermForm, number, truth_value, named, accessed, in_bank, applied, converted, Terms, no_terms, term_then}
use Rattle.dh_meets.specs.Sharing.{number_of_op, same_maybe_kind, alike, alike_forms, all_alike, alike_elements, mentions, form_mentions, terms_mention, element_mentions, reassigned}
use Rattle.dh_tree.specs.Kinds.{same_kind}
use Rattle.dh_meets.specs.SourceEvents.{Element, with_indices, in_row, SourceEvent, accesses, assigned}

absurd : {A : Type 0} → ⊥ → A
absurd e = elim e [ ]

first_true : (a b : Bool) → (a && b) ≡ true → a ≡ true
first_true true b e = refl
first_true false b e = cc

second_true : (a b : Bool) → (a && b) ≡ true → b ≡ true
second_true true b e = e
second_true false b e = cc

either_same : (a b c d : Bool) → a ≡ c → b ≡ d → (a || b) ≡ (c || d)
either_same a b c d e f = ap (λ x. x || b) e ∙ ap (λ x. c || x) f

entity_mentioned : (a b n : Option ℕ) → same_entity a b ≡ true → same_entity a n ≡ same_entity b n
entity_mentioned None None n e = refl
entity_mentioned None (Some y) n e = cc
entity_mentioned (Some x) None n e = cc
entity_mentioned (Some x) (Some y) None e = refl
entity_mentioned (Some x) (Some y) (Some n) e = ap (λ z. z == n) (eqb-true x y e)

mutual
  mentioned_same : (n : Option ℕ) (t u : Term) → alike t u ≡ true → mentions n t ≡ mentions n u
  mentioned_same n (term place kind f) (term place' kind' g) e = form_mentioned n f g (second_true (same_maybe_kind kind kind') _ e)

  form_mentioned : (n : Option ℕ) (f g : TermForm) → alike_forms f g ≡ true → form_mentions n f ≡ form_mentions n g
  form_mentioned n (number s m) (number s' m') e = refl
  form_mentioned n (number s m) (truth_value a') e = refl
  form_mentioned n (number s m) (named r') e = cc
  form_mentioned n (number s m) (accessed r' ts') e = cc
  form_mentioned n (number s m) (in_bank r' b' bp' t') e = cc
  form_mentioned n (number s m) (applied o' l' x') e = cc
  form_mentioned n (number s m) (converted l' k') e = cc
  form_mentioned n (truth_value a) (number s' m') e = refl
  form_mentioned n (truth_value a) (truth_value a') e = refl
  form_mentioned n (truth_value a) (named r') e = cc
  form_mentioned n (truth_value a) (accessed r' ts') e = cc
  form_mentioned n (truth_value a) (in_bank r' b' bp' t') e = cc
  form_mentioned n (truth_value a) (applied o' l' x') e = cc
  form_mentioned n (truth_value a) (converted l' k') e = cc
  form_mentioned n (named r) (named r') e = entity_mentioned r.entity r'.entity n e
  form_mentioned n (named r) g e = cc
  form_mentioned n (accessed r ts) (accessed r' ts') e = all_mentioned n ts ts' (second_true (same_entity r.entity r'.entity) _ e)
  form_mentioned n (accessed r ts) g e = cc
  form_mentioned n (in_bank r b bp t) (in_bank r' b' bp' t') e = mentioned_same n t t' (second_true (b == b') _ (second_true (same_entity r.entity r'.entity) _ e))
  form_mentioned n (in_bank r b bp t) g e = cc
  form_mentioned n (applied o l x) (applied o' l' x') e =
      either_same (mentions n l) (mentions n x) (mentions n l') (mentions n x') (mentioned_same n l l' (first_true (alike l l') _ (second_true (number_of_op o == number_of_op o') _ e))) (mentioned_same n x x' (second_true (alike l l') _ (second_true (number_of_op o == number_of_op o') _ e)))
  form_mentioned n (applied o l x) g e = cc
  form_mentioned n (converted l k) (converted l' k') e = mentioned_same n l l' (second_true (same_kind k k') _ e)
  form_mentioned n (converted l k) g e = cc

  all_mentioned : (n : Option ℕ) (ts us : Terms) → all_alike ts us ≡ true → terms_mention n ts ≡ terms_mention n us
  all_mentioned n no_terms no_terms e = refl
  all_mentioned n no_terms (term_then u us) e = cc
  all_mentioned n (term_then t ts) no_terms e = cc
  all_mentioned n (term_then t ts) (term_then u us) e = either_same (mentions n t) (terms_mention n ts) (mentions n u) (terms_mention n us) (mentioned_same n t u (first_true (alike t u) _ e)) (all_mentioned n ts us (second_true (alike t u) _ e))

pub element_mentioned : (n : Option ℕ) (t u : Element) → alike_elements t u ≡ true → element_mentions n t ≡ element_mentions n u
element_mentioned n (with_indices ts) (with_indices us) e = all_mentioned n ts us e
element_mentioned n (with_indices ts) (in_row b u) e = cc
element_mentioned n (in_row b t) (with_indices us) e = cc
element_mentioned n (in_row b t) (in_row b' u) e = mentioned_same n t u (second_true (b == b') _ e)

-- no expression mentions a name that stands for nothing
none_either : (a b : Bool) → a ≡ false → b ≡ false → (a || b) ≡ false
none_either a b e f = ap (λ x. x || b) e ∙ f

none_same : (a : Option ℕ) → same_entity a None ≡ false
none_same None = refl
none_same (Some x) = refl

mutual
  none_mentioned : (t : Term) → mentions None t ≡ false
  none_mentioned (term place kind f) = form_none f

  form_none : (f : TermForm) → form_mentions None f ≡ false
  form_none (number s m) = refl
  form_none (truth_value a) = refl
  form_none (named r) = none_same r.entity
  form_none (accessed r ts) = all_none ts
  form_none (in_bank r b bp t) = none_mentioned t
  form_none (applied o l x) = none_either (mentions None l) (mentions None x) (none_mentioned l) (none_mentioned x)
  form_none (converted l k) = none_mentioned l

  all_none : (ts : Terms) → terms_mention None ts ≡ false
  all_none no_terms = refl
  all_none (term_then t ts) = none_either (mentions None t) (terms_mention None ts) (none_mentioned t) (all_none ts)

element_none : (t : Element) → element_mentions None t ≡ false
element_none (with_indices ts) = all_none ts
element_none (in_row b t) = none_mentioned t

-- whether a variable is assigned to
abbrev pub set_by : ℕ → SourceEvent → Bool
set_by e (accesses a) = false
set_by e (assigned entity) = same_entity entity (Some e)

abbrev pub set_in : ℕ → List SourceEvent → Bool
set_in e [] = false
set_in e (h ∷ hs) = set_by e h || set_in e hs

neither : (a b : Bool) → (a || b) ≡ false → (a ≡ false) × (b ≡ false)
neither true b e = cc
neither false b e = (refl, e)

-- nothing that the indices mention is assigned to
pub unset_where : (t : Element) (hs : List SourceEvent) → reassigned t hs ≡ false → (e : ℕ) → element_mentions (Some e) t ≡ true → set_in e hs ≡ false
unset_where t [] r e m = refl
unset_where t (accesses a ∷ hs) r e m = unset_where t hs r e m
unset_where t (assigned None ∷ hs) r e m = unset_where t hs (neither (element_mentions None t) (reassigned t hs) r).1 e m
unset_where t (assigned (Some n) ∷ hs) r e m =
    none_either (n == e) (set_in e hs) (by_test (n == e) refl) (unset_where t hs (neither (element_mentions (Some n) t) (reassigned t hs) r).1 e m)
  where
    by_test : (b : Bool) → (n == e) ≡ b → b ≡ false
    by_test true h = sym m ∙ (ap (λ x. element_mentions (Some x) t) (sym (eqb-true n e h)) ∙ (neither (element_mentions (Some n) t) (reassigned t hs) r).0)
    by_test false h = refl

pub reassigned_where : (t : Element) (hs : List SourceEvent) → ((e : ℕ) → element_mentions (Some e) t ≡ true → set_in e hs ≡ false) → reassigned t hs ≡ false
reassigned_where t [] f = refl
reassigned_where t (accesses a ∷ hs) f = reassigned_where t hs f
reassigned_where t (assigned None ∷ hs) f = none_either (element_mentions None t) (reassigned t hs) (element_none t) (reassigned_where t hs f)
reassigned_where t (assigned (Some n) ∷ hs) f =
    none_either (element_mentions (Some n) t) (reassigned t hs) (by_test (element_mentions (Some n) t) refl) (reassigned_where t hs (λ e m. (neither (n == e) (set_in e hs) (f e m)).1))
  where
    by_test : (b : Bool) → element_mentions (Some n) t ≡ b → b ≡ false
    by_test true h = sym (eq-eqb n n refl) ∙ (neither (n == n) (set_in n hs) (f n h)).0
    by_test false h = refl
