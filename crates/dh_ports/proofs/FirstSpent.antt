-- From loads to sets: where ports are spent, and where none are.
use Rattle.std.proofs.Common.{◌≡◌, ℕ, ◌+◌, ◌-◌, ◌<◌, ◌≤◌, max, refl, sym, subst, arith, ◌⊎◌, inl, inr}
use Rattle.std.specs.Prelude.{Some}
use Rattle.std.proofs.lemmas.Bool.{cases_lt}
use Rattle.dh_base.specs.declared.places.Place.{Place}
use Rattle.dh_tree.specs.PlainTrees.{Program}
use Rattle.dh_tree.specs.Meets.{Meets, nothing, access, all, one, In, Distinct, Before, total, load, upto}
use Rattle.dh_meets.specs.Charges.{charge}
use Rattle.dh_meets.specs.MayMeet.{meets_in}
use Rattle.dh_meets.specs.Ports.{ports_of_entity, place_in, KeepsPorts, PortsSpent}
use Rattle.dh_tree.proofs.LargestSums.{before_left, upto_first, upto_second, upto_one_first, upto_one_second, load_is_largest, upto_is_largest}
use Rattle.dh_ports.specs.Spent.{AccessOverspends}
use Rattle.dh_ports.proofs.Wholes.{whole}

absurd : {A : Type 0} → ⊥ → A
absurd e = elim e [ ]

-- an access that is charged, and with which more than so much comes together
pub record Exceeds (c : ℕ → ℕ) (p : ℕ) (t : Meets) : Type 0 where
  pub number : ℕ
  pub inside : In number t
  pub charged : 1 ≤ c number
  pub beyond : p < upto c number t

-- a load that is too great comes to be so at a charged access
load_exceeds : (c : ℕ → ℕ) (p : ℕ) (t : Meets) → Distinct t → p < load c t → Exceeds c p t
load_exceeds c p nothing d e = absurd (none p e)
  where
    none : (p : ℕ) → p < 0 → ⊥
    none p e = omega (arith, e)
load_exceeds c p (access a) d e = record { number = a; inside = refl; charged = some p (c a) e; beyond = e }
  where
    some : (p x : ℕ) → p < x → 1 ≤ x
    some p x e = omega (arith, e)
load_exceeds c p (all l r) d e =
    elim (cases_lt 0 (load c r)) [
      | inl some ↦ let x = load_exceeds c (p - load c l) r d.0.1 (rest p (load c l) (load c r) e some) in
          record { number = x.number; inside = inr x.inside; charged = x.charged; beyond = subst (λ (n : ℕ). p < n) (sym (upto_second c x.number l r (λ i. d.1 x.number i x.inside))) (more p (load c l) (upto c x.number r) x.beyond) }
      | inr none ↦ let x = load_exceeds c p l d.0.0 (all_first p (load c l) (load c r) e none) in
          record { number = x.number; inside = inl x.inside; charged = x.charged; beyond = subst (λ (n : ℕ). p < n) (sym (upto_first c x.number l r x.inside)) x.beyond }
    ]
  where
    rest : (p a b : ℕ) → p < a + b → 0 < b → p - a < b
    rest p a b e f = omega (arith, e, f)

    more : (p a u : ℕ) → p - a < u → p < a + u
    more p a u e = omega (arith, e)

    all_first : (p a b : ℕ) → p < a + b → b ≤ 0 → p < a
    all_first p a b e f = omega (arith, e, f)
load_exceeds c p (one l r) d e =
    elim (cases_lt p (load c l)) [
      | inl some ↦ let x = load_exceeds c p l d.0.0 some in
          record { number = x.number; inside = inl x.inside; charged = x.charged; beyond = subst (λ (n : ℕ). p < n) (sym (upto_one_first c x.number l r x.inside)) x.beyond }
      | inr none ↦ let x = load_exceeds c p r d.0.1 (other p (load c l) (load c r) e none) in
          record { number = x.number; inside = inr x.inside; charged = x.charged; beyond = subst (λ (n : ℕ). p < n) (sym (upto_one_second c x.number l r (λ i. d.1 x.number i x.inside))) x.beyond }
    ]
  where
    other : (p a b : ℕ) → p < max a b → a ≤ p → p < b
    other p a b e f = grind (arith, e, f)

-- the same up to an access: at it or before it
pub record ExceedsBy (c : ℕ → ℕ) (p : ℕ) (t : Meets) (k : ℕ) : Type 0 where
  pub at : Exceeds c p t
  pub by : (at.number ≡ k) ⊎ Before t at.number k

upto_exceeds : (c : ℕ → ℕ) (p : ℕ) (t : Meets) (k : ℕ) → Distinct t → In k t → p < upto c k t → ExceedsBy c p t k
upto_exceeds c p nothing k d i e = absurd i
upto_exceeds c p (access a) k d i e = record { at = record { number = a; inside = refl; charged = some p (c a) e; beyond = e }; by = inl (sym i) }
  where
    some : (p x : ℕ) → p < x → 1 ≤ x
    some p x e = omega (arith, e)
upto_exceeds c p (all l r) k d (inl i) e =
    let x = upto_exceeds c p l k d.0.0 i (subst (λ (n : ℕ). p < n) (upto_first c k l r i) e) in
    record {
      at = record { number = x.at.number; inside = inl x.at.inside; charged = x.at.charged; beyond = subst (λ (n : ℕ). p < n) (sym (upto_first c x.at.number l r x.at.inside)) x.at.beyond };
      by = elim x.by [ inl s ↦ inl s | inr b ↦ inr (inr (inl b)) ];
    }
upto_exceeds c p (all l r) k d (inr i) e =
    elim (cases_lt 0 (upto c k r)) [
      | inl some ↦ let x = upto_exceeds c (p - load c l) r k d.0.1 i (rest p (load c l) (upto c k r) (subst (λ (n : ℕ). p < n) (upto_second c k l r (λ j. d.1 k j i)) e) some) in
          record {
            at = record { number = x.at.number; inside = inr x.at.inside; charged = x.at.charged; beyond = subst (λ (n : ℕ). p < n) (sym (upto_second c x.at.number l r (λ j. d.1 x.at.number j x.at.inside))) (more p (load c l) (upto c x.at.number r) x.at.beyond) };
            by = elim x.by [ inl s ↦ inl s | inr b ↦ inr (inr (inr b)) ];
          }
      | inr none ↦ let x = load_exceeds c p l d.0.0 (all_first p (load c l) (upto c k r) (subst (λ (n : ℕ). p < n) (upto_second c k l r (λ j. d.1 k j i)) e) none) in
          record {
            at = record { number = x.number; inside = inl x.inside; charged = x.charged; beyond = subst (λ (n : ℕ). p < n) (sym (upto_first c x.number l r x.inside)) x.beyond };
            by = inr (inl (x.inside, i));
          }
    ]
  where
    rest : (p a b : ℕ) → p < a + b → 0 < b → p - a < b
    rest p a b e f = omega (arith, e, f)

    more : (p a u : ℕ) → p - a < u → p < a + u
    more p a u e = omega (arith, e)

    all_first : (p a b : ℕ) → p < a + b → b ≤ 0 → p < a
    all_first p a b e f = omega (arith, e, f)
upto_exceeds c p (one l r) k d (inl i) e =
    let x = upto_exceeds c p l k d.0.0 i (subst (λ (n : ℕ). p < n) (upto_one_first c k l r i) e) in
    record {
      at = record { number = x.at.number; inside = inl x.at.inside; charged = x.at.charged; beyond = subst (λ (n : ℕ). p < n) (sym (upto_one_first c x.at.number l r x.at.inside)) x.at.beyond };
      by = elim x.by [ inl s ↦ inl s | inr b ↦ inr (inr (inl b)) ];
    }
upto_exceeds c p (one l r) k d (inr i) e =
    let x = upto_exceeds c p r k d.0.1 i (subst (λ (n : ℕ). p < n) (upto_one_second c k l r (λ j. d.1 k j i)) e) in
    record {
      at = record { number = x.at.number; inside = inr x.at.inside; charged = x.at.charged; beyond = subst (λ (n : ℕ). p < n) (sym (upto_one_second c x.at.number l r (λ j. d.1 x.at.number j x.at.inside))) x.at.beyond };
      by = elim x.by [ inl s ↦ inl s | inr b ↦ inr (inr (inr b)) ];
    }

module _ (p : Program) where
  above : (a b n : ℕ) → a < n → n ≤ b → a < b
  above a b n e f = omega (arith, e, f)

  -- a program of which no access is such keeps its ports
  pub none_spends : ((k : ℕ) → In k (meets_in p) → AccessOverspends p k → ⊥) → KeepsPorts p
  none_spends none chosen together memory bank =
      elim (cases_lt (ports_of_entity p memory) (total (charge p memory bank) chosen (meets_in p))) [
        | inl over ↦ let x = load_exceeds (charge p memory bank) (ports_of_entity p memory) (meets_in p) (whole p).distinct (above _ _ _ over ((load_is_largest (charge p memory bank) (meets_in p) (whole p).distinct).most chosen together)) in
            absurd (none x.number x.inside (record { memory = memory; bank = bank; charged = x.charged; beyond = x.beyond }))
        | inr fits ↦ fits
      ]

  -- and where one is, the first of them is where ports are spent
  pub first_spends : (k : ℕ) (place : Place) → place_in p k ≡ Some place → In k (meets_in p) → AccessOverspends p k → ((x : ℕ) → x < k → AccessOverspends p x → ⊥) → PortsSpent p place
  first_spends k place stands inside s earlier =
      let reached = (upto_is_largest (charge p s.memory s.bank) (meets_in p) k (whole p).distinct inside).attained in
      record {
        number = k;
        stands = stands;
        spent = record { memory = s.memory; bank = s.bank; chosen = reached.0; completes = reached.1.0; beyond = subst (λ (n : ℕ). ports_of_entity p s.memory < n) (sym reached.1.1) s.beyond };
        first = λ x before o.
            let at = upto_exceeds (charge p o.memory o.bank) (ports_of_entity p o.memory) (meets_in p) x (whole p).distinct (before_left (meets_in p) x k before)
            (above _ _ _ o.beyond ((upto_is_largest (charge p o.memory o.bank) (meets_in p) x (whole p).distinct (before_left (meets_in p) x k before)).most o.chosen o.completes)) in
            earlier at.at.number (sooner x k at.at.number ((whole p).before x k before) (elim at.by [ inl e ↦ inl e | inr b ↦ inr ((whole p).before at.at.number x b) ])) (record { memory = o.memory; bank = o.bank; charged = at.at.charged; beyond = at.at.beyond });
      }
    where
      sooner : (x k y : ℕ) → x < k → (y ≡ x) ⊎ (y < x) → y < k
      sooner x k y e (inl f) = omega (arith, e, f)
      sooner x k y e (inr f) = omega (arith, e, f)
