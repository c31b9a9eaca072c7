-- An access that is not charged itself finds a charge up to it where a charged one before it may meet it.
use Rattle.std.proofs.Common.{◌≡◌, ℕ, ◌+◌, ◌≤◌, ◌==◌, ◌||◌, Bool, true, false, if◌then◌else◌, refl, ap, sym, ◌∙◌, subst, arith, ◌⊎◌, inl, inr}
use Rattle.std.specs.Prelude.{IsTrue}
use Rattle.std.proofs.lemmas.Bool.{cases_Bool, cases_lt, or_cases, eqb-true, eq-eqb}
use Rattle.dh_tree.specs.Meets.{Meets, nothing, access, all, one, In, Distinct, Before, Apart, total, upto}
use Rattle.dh_tree.proofs.LargestSums.{before_left, upto_is_largest}
use Rattle.dh_ports.specs.WritesFound.{Meeting}

absurd : {A : Type 0} → ⊥ → A
absurd e = elim e [ ]

-- a sum that is not 0 has a charged member
pub record Member (c : ℕ → ℕ) (chosen : ℕ → Bool) (t : Meets) : Type 0 where
  pub number : ℕ
  pub chosen_is : IsTrue (chosen number)
  pub inside : In number t
  pub charged : 1 ≤ c number

member : (c : ℕ → ℕ) (chosen : ℕ → Bool) (t : Meets) → 1 ≤ total c chosen t → Member c chosen t
member c chosen nothing e = absurd (none e)
  where
    none : 1 ≤ 0 → ⊥
    none e = omega (arith, e)
member c chosen (access a) e = by_test (cases_Bool (chosen a))
  where
    none : 1 ≤ 0 → ⊥
    none e = omega (arith, e)

    by_test : (chosen a ≡ true) ⊎ (chosen a ≡ false) → Member c chosen (access a)
    by_test (inl f) = record { number = a; chosen_is = f; inside = refl; charged = subst (λ (b : Bool). 1 ≤ (if b then c a else 0)) f e }
    by_test (inr f) = absurd (none (subst (λ (b : Bool). 1 ≤ (if b then c a else 0)) f e))
member c chosen (all l r) e =
    elim (cases_lt 0 (total c chosen l)) [
      | inl some ↦ let m = member c chosen l some in record { number = m.number; chosen_is = m.chosen_is; inside = inl m.inside; charged = m.charged }
      | inr none ↦ let m = member c chosen r (rest _ _ e none) in record { number = m.number; chosen_is = m.chosen_is; inside = inr m.inside; charged = m.charged }
    ]
  where
    rest : (a b : ℕ) → 1 ≤ a + b → a ≤ 0 → 1 ≤ b
    rest a b e f = omega (arith, e, f)
member c chosen (one l r) e =
    elim (cases_lt 0 (total c chosen l)) [
      | inl some ↦ let m = member c chosen l some in record { number = m.number; chosen_is = m.chosen_is; inside = inl m.inside; charged = m.charged }
      | inr none ↦ let m = member c chosen r (rest _ _ e none) in record { number = m.number; chosen_is = m.chosen_is; inside = inr m.inside; charged = m.charged }
    ]
  where
    rest : (a b : ℕ) → 1 ≤ a + b → a ≤ 0 → 1 ≤ b
    rest a b e f = omega (arith, e, f)

-- and one with a charged member is not 0
total_some : (c : ℕ → ℕ) (chosen : ℕ → Bool) (t : Meets) (a : ℕ) → In a t → IsTrue (chosen a) → 1 ≤ c a → 1 ≤ total c chosen t
total_some c chosen nothing a i e f = absurd i
total_some c chosen (access b) a i e f = subst (λ (x : ℕ). 1 ≤ (if chosen x then c x else 0)) i (subst (λ (x : Bool). 1 ≤ (if x then c a else 0)) (sym e) f)
total_some c chosen (all l r) a (inl i) e f = more _ _ (total_some c chosen l a i e f)
  where
    more : (x y : ℕ) → 1 ≤ x → 1 ≤ x + y
    more x y g = omega (arith, g)
total_some c chosen (all l r) a (inr i) e f = more _ _ (total_some c chosen r a i e f)
  where
    more : (x y : ℕ) → 1 ≤ y → 1 ≤ x + y
    more x y g = omega (arith, g)
total_some c chosen (one l r) a (inl i) e f = more _ _ (total_some c chosen l a i e f)
  where
    more : (x y : ℕ) → 1 ≤ x → 1 ≤ x + y
    more x y g = omega (arith, g)
total_some c chosen (one l r) a (inr i) e f = more _ _ (total_some c chosen r a i e f)
  where
    more : (x y : ℕ) → 1 ≤ y → 1 ≤ x + y
    more x y g = omega (arith, g)

apart_swap : (t : Meets) (a b : ℕ) → Apart t a b → Apart t b a
apart_swap nothing a b e = absurd e
apart_swap (access c) a b e = absurd e
apart_swap (all l r) a b (inl e) = inl (apart_swap l a b e)
apart_swap (all l r) a b (inr e) = inr (apart_swap r a b e)
apart_swap (one l r) a b (inl (inl e)) = inl (inr (e.1, e.0))
apart_swap (one l r) a b (inl (inr e)) = inl (inl (e.1, e.0))
apart_swap (one l r) a b (inr (inl e)) = inr (inl (apart_swap l a b e))
apart_swap (one l r) a b (inr (inr e)) = inr (inr (apart_swap r a b e))

never_itself : (t : Meets) (a : ℕ) → Distinct t → Apart t a a → ⊥
never_itself nothing a d e = absurd e
never_itself (access c) a d e = absurd e
never_itself (all l r) a d (inl e) = never_itself l a d.0.0 e
never_itself (all l r) a d (inr e) = never_itself r a d.0.1 e
never_itself (one l r) a d (inl (inl e)) = d.1 a e.0 e.1
never_itself (one l r) a d (inl (inr e)) = d.1 a e.1 e.0
never_itself (one l r) a d (inr (inl e)) = never_itself l a d.0.0 e
never_itself (one l r) a d (inr (inr e)) = never_itself r a d.0.1 e

abbrev pair : ℕ → ℕ → ℕ → Bool
pair a b x = (x == a) || (x == b)

either : (a b x : ℕ) → IsTrue (pair a b x) → (x ≡ a) ⊎ (x ≡ b)
either a b x e = elim (or_cases (x == a) (x == b) e) [ inl f ↦ inl (eqb-true x a f) | inr f ↦ inr (eqb-true x b f) ]

pub or_second : (x y : Bool) → y ≡ true → (x || y) ≡ true
or_second true y e = refl
or_second false y e = e

pub or_first : (x y : Bool) → x ≡ true → (x || y) ≡ true
or_first true y e = refl
or_first false y e = cc

module _ (c : ℕ → ℕ) (t : Meets) (k : ℕ) (distinct : Distinct t) (inside : In k t) where
  pub found_meeting : c k ≡ 0 → 1 ≤ upto c k t → Meeting c t k
  found_meeting free some =
      let reached = (upto_is_largest c t k distinct inside).attained in
      let m = member c reached.0 t (subst (λ (n : ℕ). 1 ≤ n) (sym reached.1.1) some) in
      record {
        number = m.number;
        charged = m.charged;
        before = elim (reached.1.0.no_later m.number m.chosen_is m.inside) [ inl e ↦ absurd (clash (c m.number) m.charged (ap c e ∙ free)) | inr b ↦ b ];
        meet = λ a. reached.1.0.together m.number k m.chosen_is reached.1.0.last a;
      }
    where
      clash : (x : ℕ) → 1 ≤ x → x ≡ 0 → ⊥
      clash x e f = omega (arith, e, f)

  pub meeting_found : Meeting c t k → 1 ≤ upto c k t
  meeting_found m =
      above (total c (pair m.number k) t) (upto c k t)
      (total_some c (pair m.number k) t m.number (before_left t m.number k m.before) (or_first (m.number == m.number) _ (eq-eqb m.number m.number refl)) m.charged)
      ((upto_is_largest c t k distinct inside).most (pair m.number k) (record {
        last = or_second (k == m.number) (k == k) (eq-eqb k k refl);
        together = λ a b e f x. apart_never a b (either m.number k a e) (either m.number k b f) x;
        no_later = λ x e i. elim (either m.number k x e) [ inl f ↦ inr (subst (λ (y : ℕ). Before t y k) (sym f) m.before) | inr f ↦ inl f ];
      }))
    where
      above : (x y : ℕ) → 1 ≤ x → x ≤ y → 1 ≤ y
      above x y e f = omega (arith, e, f)

      apart_never : (a b : ℕ) → (a ≡ m.number) ⊎ (a ≡ k) → (b ≡ m.number) ⊎ (b ≡ k) → Apart t a b → ⊥
      apart_never a b (inl e) (inl f) x = never_itself t m.number distinct (subst (λ (y : ℕ). Apart t m.number y) f (subst (λ (y : ℕ). Apart t y b) e x))
      apart_never a b (inl e) (inr f) x = m.meet (subst (λ (y : ℕ). Apart t m.number y) f (subst (λ (y : ℕ). Apart t y b) e x))
      apart_never a b (inr e) (inl f) x = m.meet (apart_swap t k m.number (subst (λ (y : ℕ). Apart t k y) f (subst (λ (y : ℕ). Apart t y b) e x)))
      apart_never a b (inr e) (inr f) x = never_itself t k distinct (subst (λ (y : ℕ). Apart t k y) f (subst (λ (y : ℕ). Apart t y b) e x))
