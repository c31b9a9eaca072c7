-- The breach that is kept is the least.
use Rattle.std.proofs.Common.{◌≡◌, ◌⊎◌, inl, inr, ℕ, zero, suc, ◌<◌, Bool, true, false, List, [], ◌∷◌, Some, None, Contains, if◌then◌else◌, ◌==◌, ◌&&◌, ◌||◌, nat_lt, refl, sym, subst, ◌∙◌, arith}
use Rattle.std.proofs.lemmas.Bool.Decides.{nat_tests}
use Rattle.std.proofs.lemmas.List.Elements.{Contains-append_right}
use Rattle.dh_base.specs.Rules.{number_of}
use Rattle.dh_tree.specs.declared.breaches.Breach.{Breach}
use Rattle.dh_tree.specs.LeastBreach.{Precedes, precedes, IsLeast, least_of}

-- the order on three numbers, as a test and as it is said
abbrev test : ℕ → ℕ → ℕ → ℕ → ℕ → ℕ → Bool
test l c n l' c' n' = nat_lt l l' || (l == l' && (nat_lt c c' || (c == c' && nat_lt n n')))

abbrev Said : ℕ → ℕ → ℕ → ℕ → ℕ → ℕ → Type 0
Said l c n l' c' n' = (l < l') ⊎ ((l ≡ l') × ((c < c') ⊎ ((c ≡ c') × (n < n'))))

test_said : (l c n l' c' n' : ℕ) → Said l c n l' c' n' → test l c n l' c' n' ≡ true
test_said l c n l' c' n' (inl p) = grind (arith, nat_tests)
test_said l c n l' c' n' (inr (p, inl q)) = grind (arith, nat_tests)
test_said l c n l' c' n' (inr (p, inr (q, r))) = grind (arith, nat_tests)

never_itself : (l c n : ℕ) → test l c n l c n ≡ false
never_itself l c n = grind (arith, nat_tests)

between : (l c n l' c' n' l'' c'' n'' : ℕ) → test l c n l'' c'' n'' ≡ true → test l' c' n' l'' c'' n'' ≡ false → test l c n l' c' n' ≡ true
between l c n l' c' n' l'' c'' n'' p q = grind (arith, nat_tests)

onward : (l c n l' c' n' l'' c'' n'' : ℕ) → test l c n l' c' n' ≡ true → test l' c' n' l'' c'' n'' ≡ true → test l c n l'' c'' n'' ≡ true
onward l c n l' c' n' l'' c'' n'' p q = grind (arith, nat_tests)

clash : true ≡ false → ⊥
clash z = cc

told : (a b : Breach) → precedes a b ≡ false → Precedes a b → ⊥
told a b e p =
    let t : precedes a b ≡ true = test_said a.place.line a.place.column (number_of a.rule) b.place.line b.place.column (number_of b.rule) p in
    clash (sym t ∙ e)

cases : {X : Type 0} (x : X) (xs : List X) (c : X) → Contains (x ∷ xs) c → (c ≡ x) ⊎ Contains xs c
cases x xs c (zero, within, is) = inl (sym is)
cases x xs c (suc k, within, is) = inr (k, omega (arith, within), is)

-- what is kept of one breach and further ones
record Kept (a : Breach) (bs : List Breach) (b : Breach) : Type 0 where
  pub among : (b ≡ a) ⊎ Contains bs b
  pub first : precedes a b ≡ false
  pub others : (c : Breach) → Contains bs c → precedes c b ≡ false

flip : (p q : Breach) (t : Bool) → precedes p q ≡ t → (precedes p q ≡ true → ⊥) → precedes p q ≡ false
flip p q true is never = absurd (never is)
flip p q false is never = is

kept : (a : Breach) (bs : List Breach) (b : Breach) → least_of (Some a) bs ≡ Some b → Kept a bs b
kept a [] b e =
    let is : a ≡ b = cc in
    record {
      among = inl (sym is);
      first = subst (λ x. precedes a x ≡ false) is (never_itself a.place.line a.place.column (number_of a.rule));
      others = λ c at. absurd (nothing c at);
    }
  where
    nothing : (c : Breach) → Contains [] c → ⊥
    nothing c at = omega (arith, at.1)
kept a (x ∷ xs) b e = by (precedes x a) refl (kept x xs b) (kept a xs b) e
  where
    by : (t : Bool) → precedes x a ≡ t → (least_of (Some x) xs ≡ Some b → Kept x xs b) → (least_of (Some a) xs ≡ Some b → Kept a xs b)
        → least_of (if t then Some x else Some a) xs ≡ Some b → Kept a (x ∷ xs) b
    by true is new old h =
        let k = new h in record {
          among = inr (elim k.among [ inl same ↦ subst (Contains (x ∷ xs)) (sym same) (0, omega arith, refl) | inr there ↦ Contains-append_right (x ∷ []) xs b there ]);
          first = flip a b (precedes a b) refl (λ p. absurd (clash (sym (onward x.place.line x.place.column (number_of x.rule) a.place.line a.place.column (number_of a.rule) b.place.line b.place.column (number_of b.rule) is p) ∙ k.first)));
          others = λ c at. elim (cases x xs c at) [ inl same ↦ subst (λ z. precedes z b ≡ false) (sym same) k.first | inr there ↦ k.others c there ];
        }
    by false is new old h =
        let k = old h in record {
          among = elim k.among [ inl same ↦ inl same | inr there ↦ inr (Contains-append_right (x ∷ []) xs b there) ];
          first = k.first;
          others = λ c at. elim (cases x xs c at) [
            | inl same ↦ subst (λ z. precedes z b ≡ false) (sym same) (flip x b (precedes x b) refl (λ p. absurd (clash (sym (between x.place.line x.place.column (number_of x.rule) a.place.line a.place.column (number_of a.rule) b.place.line b.place.column (number_of b.rule) p k.first) ∙ is))))
            | inr there ↦ k.others c there
          ];
        }

some_stays : (a : Breach) (bs : List Breach) → least_of (Some a) bs ≡ None → ⊥
some_stays a [] e = cc
some_stays a (x ∷ xs) e = by (precedes x a) (some_stays x xs) (some_stays a xs) e
  where
    by : (t : Bool) → (least_of (Some x) xs ≡ None → ⊥) → (least_of (Some a) xs ≡ None → ⊥) → least_of (if t then Some x else Some a) xs ≡ None → ⊥
    by true new old h = new h
    by false new old h = old h

pub none_kept : (bs : List Breach) → least_of None bs ≡ None → bs ≡ []
none_kept [] e = refl
none_kept (x ∷ xs) e = absurd (some_stays x xs e)

pub least_kept : (bs : List Breach) (b : Breach) → least_of None bs ≡ Some b → IsLeast bs b
least_kept [] b e = cc
least_kept (x ∷ xs) b e =
    let k = kept x xs b e in record {
      among = elim k.among [ inl same ↦ subst (Contains (x ∷ xs)) (sym same) (0, omega arith, refl) | inr there ↦ Contains-append_right (x ∷ []) xs b there ];
      least = λ c at. elim (cases x xs c at) [ inl same ↦ told c b (subst (λ z. precedes z b ≡ false) (sym same) k.first) | inr there ↦ told c b (k.others c there) ];
    }
