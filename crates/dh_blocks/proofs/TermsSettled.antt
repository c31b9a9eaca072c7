-- An expression has one value at two paths that agree where it depends, where each variable in it has, and each offset that is
-- kept on the way of what it accesses. By induction over the expression.
use Rattle.std.proofs.Common.{◌≡◌, ℕ, ◌+◌, List, [], ◌∷◌, take, refl, sym, ◌∙◌, ap, ℤ}
use Rattle.std.specs.List.{AllByRecursion}
use Rattle.dh_value.specs.Words as words
use Rattle.dh_value.specs.Words.{word_of}
use Rattle.dh_tree.specs.declared.trees.expressions.Ref.{Ref}
use Rattle.dh_tree.specs.PlainTrees.{Term, term, TermForm, number, truth_value, named, accessed, in_bank, applied, converted, Terms, no_terms, term_then}
use Rattle.dh_meaning.specs.AccessNumbers.{term_accesses}
use Rattle.dh_meaning.specs.Bindings.{kind_found, kind_or_first}
use Rattle.dh_meaning.specs.CoreOf.{Known, core_term, core_terms, kept_terms, way_of}
use Rattle.dh_meaning.specs.Effects.{Begun, Variables, spot_by_row, value_of_term, values_of}
use Rattle.dh_meaning.specs.Paths.{Path}
use Rattle.dh_meaning.specs.Ways.{Hidden}
use Rattle.dh_meets.specs.Charges.{entity_depends, term_depends, terms_depend}
use Rattle.dh_ways.specs.SpotsThrough.{offsets_at, spot_to}
use Rattle.dh_sound.specs.SameKeys.{CopiesAgree, IsSettledName}
use Rattle.dh_sound.proofs.SameKeys.{agree_left, agree_right}
use Rattle.dh_sound.proofs.SourceValues.{accessed_is, memory_at, operation_same, read_value, spot_named}

module _ (b : Begun) (known : Known) (v w : Variables) (p q : Path) where
  -- the offsets on the way of a name have one value, where the paths agree in the loops on which it depends
  abbrev pub WaySettles : Ref → Type 0
  WaySettles r = CopiesAgree (λ l. entity_depends known.bindings l r.entity) p q → offsets_at b v p (way_of known r) ≡ offsets_at b w q (way_of known r)

  -- all variables in an expression have one, and all offsets
  abbrev mutual
    pub Settles : Term → Type 0
    Settles (term place k form) = SettlesForm form

    pub SettlesForm : TermForm → Type 0
    SettlesForm (number negative z) = Unit {0}
    SettlesForm (truth_value t) = Unit {0}
    SettlesForm (named r) = IsSettledName known v w p q r
    SettlesForm (accessed r ts) = SettleAll ts × WaySettles r
    SettlesForm (in_bank r bank at t) = Settles t
    SettlesForm (applied o l r) = Settles l × Settles r
    SettlesForm (converted t to) = Settles t

    pub SettleAll : Terms → Type 0
    SettleAll no_terms = Unit {0}
    SettleAll (term_then t ts) = Settles t × SettleAll ts

  -- where an access leads whose indices have one value
  named_same : (r : Ref) (zs ys : List ℤ) → WaySettles r → CopiesAgree (λ l. entity_depends known.bindings l r.entity) p q → zs ≡ ys → spot_named b known v p r.entity zs ≡ spot_named b known w q r.entity ys
  named_same r zs ys still agree e =
      ap (λ xs. spot_named b known v p r.entity xs) e ∙ ap (λ os. spot_to b.table (memory_at b known r.entity) (way_of known r) ys os) (still agree)

  mutual
    pub settled_value : (n : ℕ) (t : Term) → Settles t → CopiesAgree (λ l. term_depends known.bindings l t) p q → value_of_term b v p (core_term known n t) ≡ value_of_term b w q (core_term known n t)
    settled_value n (term place k (number negative z)) s a = refl
    settled_value n (term place k (truth_value t)) s a = refl
    settled_value n (term place k (named r)) s a = ap (λ z. word_of (kind_or_first k) z) (s a)
    settled_value n (term place k (accessed r ts)) s a =
        accessed_is b known v p n place k r ts
        ∙ (ap (λ x. read_value b known r.entity x)
        (named_same r _ _ s.1 (agree_left (λ l. entity_depends known.bindings l r.entity) (λ l. terms_depend known.bindings l ts) p q a)
        (settled_values n ts s.0 (agree_right (λ l. entity_depends known.bindings l r.entity) (λ l. terms_depend known.bindings l ts) p q a)))
        ∙ sym (accessed_is b known w q n place k r ts))
    settled_value n (term place k (in_bank r bank at t)) s a =
        ap (λ x. read_value b known r.entity (spot_by_row b.table (memory_at b known r.entity) bank (words.value_of x))) (settled_value n t s a)
    settled_value n (term place k (applied o l r)) s a =
        operation_same b v w p q o (kind_found l) (kind_found r) _ _ _ _
        (settled_value n l s.0 (agree_left (λ i. term_depends known.bindings i l) (λ i. term_depends known.bindings i r) p q a))
        (settled_value (n + term_accesses l) r s.1 (agree_right (λ i. term_depends known.bindings i l) (λ i. term_depends known.bindings i r) p q a))
    settled_value n (term place k (converted t to)) s a = ap (λ x. word_of to (words.value_of x)) (settled_value n t s a)

    pub settled_values : (n : ℕ) (ts : Terms) → SettleAll ts → CopiesAgree (λ l. terms_depend known.bindings l ts) p q → values_of b v p (core_terms known n ts) ≡ values_of b w q (core_terms known n ts)
    settled_values n no_terms s a = refl
    settled_values n (term_then t ts) s a =
        ap (λ x. words.value_of x ∷ values_of b v p (core_terms known (n + term_accesses t) ts))
        (settled_value n t s.0 (agree_left (λ i. term_depends known.bindings i t) (λ i. terms_depend known.bindings i ts) p q a))
        ∙ ap (λ zs. words.value_of (value_of_term b w q (core_term known n t)) ∷ zs)
        (settled_values (n + term_accesses t) ts s.1 (agree_right (λ i. term_depends known.bindings i t) (λ i. terms_depend known.bindings i ts) p q a))

-- offsets that are kept have one value at two paths where each variable has
pub two_same : (b : Begun) (v w : Variables) (p q : Path) (hs : List Hidden) → AllByRecursion (λ (h : Hidden). v h.entity (take h.depth p) ≡ w h.entity (take h.depth q)) hs
    → values_of b v p (kept_terms hs) ≡ values_of b w q (kept_terms hs)
two_same b v w p q [] a = refl
two_same b v w p q (h ∷ hs) a =
    ap (λ z. words.value_of (word_of h.kind z) ∷ values_of b v p (kept_terms hs)) a.0
    ∙ ap (λ zs. words.value_of (word_of h.kind (w h.entity (take h.depth q))) ∷ zs) (two_same b v w p q hs a.1)
