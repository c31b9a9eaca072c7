-- The slots of variables, where one copy of one of them is set.
use Rattle.std.proofs.Common.{◌≡◌, ℕ, zero, suc, ◌+◌, ◌*◌, ◌<◌, ◌≤◌, ◌^◌, ◌==◌, ◌&&◌, Bool, true, false, if◌then◌else◌, List, [], ◌∷◌, length, ℤ, refl, ap, sym, ◌∙◌, ◌⊎◌, inl, inr, subst, arith, drop}
use Rattle.std.specs.Prelude.{slice_index, slice_set}
use Rattle.std.specs.Cmp.Lexicographic.{same_text, other_text}
use Rattle.std.proofs.lemmas.Bool.{eqb-true, eq-eqb, cases_Bool}
use Rattle.std.proofs.lemmas.List.{get_or-set_same, get_or-set_other, length-set}
use Rattle.dh_value.specs.Words.{residue}
use Rattle.dh_meaning.specs.Paths.{Path, same_path}
use Rattle.dh_meaning.specs.Effects.{Variables, set_variable}
use Rattle.dh_code.specs.Ranks.{IsPath, copies_in, rank_of}
use Rattle.dh_code.specs.declared.places.VariableSlots.{VariableSlots}
use Rattle.dh_code.specs.Slots.{EndsBefore, Holds, IsPlacing, Placing, held_at, held_nowhere, slot_of}
use Rattle.dh_code.proofs.Ranked.{rank_below, ranks_differ}

-- a slot of a variable lies among its own
pub slot_below : (p : Placing) (e : ℕ) (path : Path) → IsPath (p.factors e) path → slot_of p e path < (held_at p.held e).first + copies_in (p.factors e)
slot_below p e path h = by (rank_of (p.factors e) path) (copies_in (p.factors e)) (held_at p.held e).first (rank_below 0 (p.factors e) path h)
  where
    by : (n k f : ℕ) → n < (0 + 1) * k → f + n < f + k
    by n k f e = omega (arith, e)

slot_from : (p : Placing) (e : ℕ) (path : Path) → (held_at p.held e).first ≤ slot_of p e path
slot_from p e path = from _ _
  where
    from : (f n : ℕ) → f ≤ f + n
    from f n = omega arith

-- copies of one slot are one copy
pub one_copy : (p : Placing) (n : ℕ) (e e' : ℕ) (path path' : Path) → IsPlacing p n → e < length p.held → e' < length p.held
    → IsPath (p.factors e) path → IsPath (p.factors e') path' → slot_of p e path ≡ slot_of p e' path' → (e ≡ e') × (path ≡ path')
one_copy p n e e' path path' placing within within' h h' same = by (cases_Bool (e == e'))
  where
    between : (other another : ℕ) (x y : Path) → IsPath (p.factors other) x → IsPath (p.factors another) y → slot_of p other x ≡ slot_of p another y → EndsBefore p other another → ⊥
    between other another x y i j s ends =
        let a = slot_below p other x i in
        let b = slot_from p another y in
        apart _ _ _ _ a b s ends
      where
        apart : (u v k l : ℕ) → u < k → l ≤ v → u ≡ v → k ≤ l → ⊥
        apart u v k l a b s t = omega (arith, a, b, s, t)

    never : ((e ≡ e') → ⊥) → ⊥
    never differ = either (placing.apart e e' within within' differ)
      where
        either : EndsBefore p e e' ⊎ EndsBefore p e' e → ⊥
        either (inl x) = between e e' path path' h h' same x
        either (inr x) = between e' e path' path h' h (sym same) x

    one : (i : ℕ) (y : Path) → e ≡ i → IsPath (p.factors i) y → slot_of p e path ≡ slot_of p i y → path ≡ y
    one i y is k s =
        let k' : IsPath (p.factors e) y = subst (λ (x : ℕ). IsPath (p.factors x) y) (sym is) k in
        let s' : slot_of p e path ≡ slot_of p e y = s ∙ ap (λ x. slot_of p x y) (sym is) in
        (ranks_differ 0 0 (p.factors e) path y h k' (less _ _ _ s')).1
      where
        less : (f a b : ℕ) → f + a ≡ f + b → a ≡ b
        less f a b t = omega (arith, t)

    by : ((e == e') ≡ true) ⊎ ((e == e') ≡ false) → (e ≡ e') × (path ≡ path')
    by (inl t) = let is = eqb-true e e' t in (is, one e' path' is h' same)
    by (inr t) = absurd (never (λ is. clash (eq-eqb e e' is) t))
      where
        clash : (e == e') ≡ true → (e == e') ≡ false → ⊥
        clash u v = cc

is_same : (path other : Path) → same_path path other ≡ true → path ≡ other
is_same path other e = same_text path other (sym e)

-- one copy of a variable is set
pub held_more : (p : Placing) (slots : List ℕ) (v : Variables) (e : ℕ) (path : Path) (z : ℤ) (slot bits : ℕ) → Holds p slots v → e < length p.held → IsPath (p.factors e) path
    → slot ≡ slot_of p e path → bits ≡ residue (2 ^ 64) z → Holds p (slice_set slots slot bits) (set_variable v e path z)
held_more p slots v e path z slot bits h within inside at are = record {
  placing = subst (λ (n : ℕ). IsPlacing p n) (sym (length-set slots slot bits)) h.placing;
  each = λ e' path' within' inside'. by e' path' within' inside' (cases_Bool (e' == e)) (cases_Bool (same_path path' path));
}
  where
    there : slot < length slots
    there = let a = slot_below p e path inside in let b = h.placing.within e within in under _ _ _ _ at a b
      where
        under : (s t k n : ℕ) → s ≡ t → t < k → k ≤ n → s < n
        under s t k n x y w = omega (arith, x, y, w)

    other : (e' : ℕ) (path' : Path) → e' < length p.held → IsPath (p.factors e') path' → ((e' ≡ e) × (path' ≡ path) → ⊥) → (b : Bool) → ((e' == e) && same_path path' path) ≡ b → b ≡ false
        → slice_index (slice_set slots slot bits) (slot_of p e' path') ≡ residue (2 ^ 64) (if (e' == e) && same_path path' path then z else v e' path')
    other e' path' within' inside' differ b is not =
        get_or-set_other slots slot (slot_of p e' path') bits 0 (λ same. elim (differ (one_copy p (length slots) e' e path' path h.placing within' within inside' inside (same ∙ at))) [ ])
        ∙ (h.each e' path' within' inside' ∙ ap (λ t. residue (2 ^ 64) (if t then z else v e' path')) (sym (is ∙ not)))

    by : (e' : ℕ) (path' : Path) → e' < length p.held → IsPath (p.factors e') path' → ((e' == e) ≡ true) ⊎ ((e' == e) ≡ false) → (same_path path' path ≡ true) ⊎ (same_path path' path ≡ false)
        → slice_index (slice_set slots slot bits) (slot_of p e' path') ≡ residue (2 ^ 64) (if (e' == e) && same_path path' path then z else v e' path')
    by e' path' within' inside' (inl a) (inl b) =
        let same : slot_of p e' path' ≡ slot = ap (λ x. slot_of p x path') (eqb-true e' e a) ∙ (ap (λ x. slot_of p e x) (is_same path' path b) ∙ sym at) in
        ap (λ i. slice_index (slice_set slots slot bits) i) same
        ∙ (get_or-set_same slots slot bits 0 there
        ∙ (are ∙ ap (λ t. residue (2 ^ 64) (if t then z else v e' path')) (sym (ap (λ t. t && same_path path' path) a ∙ b))))
    by e' path' within' inside' (inl a) (inr b) =
        other e' path' within' inside' (λ same. differ (same.1)) false (ap (λ t. t && same_path path' path) a ∙ b) refl
      where
        differ : path' ≡ path → ⊥
        differ is = elim (other_text path' path (sym b) is) [ ]
    by e' path' within' inside' (inr a) b =
        other e' path' within' inside' (λ same. clash (eq-eqb e' e same.0) a) false (ap (λ t. t && same_path path' path) a) refl
      where
        clash : (e' == e) ≡ true → (e' == e) ≡ false → ⊥
        clash u v = cc

-- past the end nothing is held
pub held_past : (held : List VariableSlots) (n : ℕ) → length held ≤ n → held_at held n ≡ held_nowhere
held_past [] zero h = refl
held_past [] (suc n) h = refl
held_past (x ∷ held) zero h = absurd (never (length held) h)
  where
    never : (m : ℕ) → suc m ≤ 0 → ⊥
    never m e = omega (arith, e)
held_past (x ∷ held) (suc n) h = held_past held n (less (length held) n h)
  where
    less : (m l : ℕ) → suc m ≤ suc l → m ≤ l
    less m l e = omega (arith, e)

-- those behind others
pub held_dropped : (held : List VariableSlots) (e n : ℕ) → held_at (drop e held) n ≡ held_at held (e + n)
held_dropped held zero n = ap (λ k. held_at held k) (none n)
  where
    none : (n : ℕ) → n ≡ 0 + n
    none n = omega arith
held_dropped [] (suc e) n = held_past [] n (least n) ∙ sym (held_past [] (suc e + n) (least (suc e + n)))
  where
    least : (n : ℕ) → length {A = VariableSlots} [] ≤ n
    least n = omega arith
held_dropped (x ∷ held) (suc e) n = held_dropped held e n ∙ ap (λ k. held_at (x ∷ held) k) (moved e n)
  where
    moved : (a b : ℕ) → suc (a + b) ≡ suc a + b
    moved a b = omega arith
