-- An access that stands in one phase with another stands in every Straight phase, and in every test, that has the
-- other one: for only one of them has it. By induction on the phases: were they two, the other access would be
-- made twice.
use Rattle.std.proofs.Common.{◌≡◌, ℕ, ◌+◌, ◌≤◌, ◌&&◌, ◌||◌, ◌⊎◌, inl, inr, Bool, true, false, List, [], ◌∷◌, ◌++◌, refl, sym, ◌∙◌, ap, subst, arith}
use Rattle.std.specs.List.{list_any}
use Rattle.dh_tree.specs.PlainTrees.{Program}
use Rattle.dh_meaning.specs.Phases.{Located, Phase, straight, turns, repeated, decided, Phases, no_phases, phase, phases_of, idle_phases_of}
use Rattle.dh_meaning.specs.OnePhase.{makes, any_makes, test_makes, holds_both, hold_both, in_one_phase}
use Rattle.dh_sound.specs.PhaseFacts.{HasStraightIn, HaveStraight, HasStraight, HasTestIn, HaveTest, HasTest}
use Rattle.dh_sound.proofs.Times.{bit, made, times_in, times_of, times, times_once}

pub either : (a b : Bool) → (a || b) ≡ true → (a ≡ true) ⊎ (b ≡ true)
either true b e = inl refl
either false b e = inr e

pub two : (a b : Bool) → (a && b) ≡ true → (a ≡ true) × (b ≡ true)
two true b e = (refl, e)
two false b e = cc

pub bit_true : (b : Bool) → b ≡ true → 1 ≤ bit b
bit_true true e = omega arith
bit_true false e = cc

-- two parts, of which each has something at least once that both have at most once
two_sides : (a b : ℕ) (L R M N C : Type 0) → a + b ≤ 1 → (L → 1 ≤ a) → (R → 1 ≤ b) → (M → 1 ≤ a) → (N → 1 ≤ b)
    → (a ≤ 1 → L → M → C) → (b ≤ 1 → R → N → C) → L ⊎ R → M ⊎ N → C
two_sides a b L R M N C s l r m n f g (inl x) (inl y) = f (omega (arith, s)) x y
two_sides a b L R M N C s l r m n f g (inl x) (inr y) = let p = l x in let q = n y in let none : ⊥ = omega (arith, s, p, q) in elim none [ ]
two_sides a b L R M N C s l r m n f g (inr x) (inl y) = let p = r x in let q = m y in let none : ⊥ = omega (arith, s, p, q) in elim none [ ]
two_sides a b L R M N C s l r m n f g (inr x) (inr y) = g (omega (arith, s)) x y

module _ (k : ℕ) where
  pub made_any : (cs : List Located) → any_makes k cs ≡ true → 1 ≤ made k cs
  made_any [] e = cc
  made_any (c ∷ cs) e = by (either (makes k c.first c.command) (any_makes k cs) e) (made_any cs)
    where
      by : (makes k c.first c.command ≡ true) ⊎ (any_makes k cs ≡ true) → (any_makes k cs ≡ true → 1 ≤ made k cs) → 1 ≤ bit (makes k c.first c.command) + made k cs
      by (inl h) more = let b = bit_true (makes k c.first c.command) h in omega (arith, b)
      by (inr h) more = let m = more h in omega (arith, m)

  mutual
    straight_in : (p : Phase) (cs : List Located) → HasStraightIn p cs → any_makes k cs ≡ true → 1 ≤ times_in k p
    straight_in (straight ds) cs h e = subst (λ (x : List Located). 1 ≤ made k x) (sym h) (made_any cs e)
    straight_in (turns loop count body) cs h e = straight_of body cs h e
    straight_in (repeated loop body) cs h e = let i = straight_of body cs h e in omega (arith, i)
    straight_in (decided choice chosen other) cs (inl h) e = let i = straight_of chosen cs h e in omega (arith, i)
    straight_in (decided choice chosen other) cs (inr h) e = let i = straight_of other cs h e in omega (arith, i)

    straight_of : (ps : Phases) (cs : List Located) → HaveStraight ps cs → any_makes k cs ≡ true → 1 ≤ times_of k ps
    straight_of no_phases cs h e = elim h [ ]
    straight_of (phase p ps) cs (inl h) e = let i = straight_in p cs h e in omega (arith, i)
    straight_of (phase p ps) cs (inr h) e = let i = straight_of ps cs h e in omega (arith, i)

  pub straight_times : (ps : List Phase) (cs : List Located) → HasStraight ps cs → any_makes k cs ≡ true → 1 ≤ times k ps
  straight_times [] cs h e = elim h [ ]
  straight_times (p ∷ ps) cs (inl h) e = let i = straight_in p cs h e in omega (arith, i)
  straight_times (p ∷ ps) cs (inr h) e = let i = straight_times ps cs h e in omega (arith, i)

  mutual
    test_in : (p : Phase) (c : Located) → HasTestIn p c → test_makes k c ≡ true → 1 ≤ times_in k p
    test_in (straight ds) c h e = elim h [ ]
    test_in (turns loop count body) c h e = test_of body c h e
    test_in (repeated loop body) c (inl h) e = let i = bit_true (test_makes k loop) (ap (test_makes k) h ∙ e) in omega (arith, i)
    test_in (repeated loop body) c (inr h) e = let i = test_of body c h e in omega (arith, i)
    test_in (decided choice chosen other) c (inl h) e = let i = bit_true (test_makes k choice) (ap (test_makes k) h ∙ e) in omega (arith, i)
    test_in (decided choice chosen other) c (inr (inl h)) e = let i = test_of chosen c h e in omega (arith, i)
    test_in (decided choice chosen other) c (inr (inr h)) e = let i = test_of other c h e in omega (arith, i)

    test_of : (ps : Phases) (c : Located) → HaveTest ps c → test_makes k c ≡ true → 1 ≤ times_of k ps
    test_of no_phases c h e = elim h [ ]
    test_of (phase p ps) c (inl h) e = let i = test_in p c h e in omega (arith, i)
    test_of (phase p ps) c (inr h) e = let i = test_of ps c h e in omega (arith, i)

  pub test_times : (ps : List Phase) (c : Located) → HasTest ps c → test_makes k c ≡ true → 1 ≤ times k ps
  test_times [] c h e = elim h [ ]
  test_times (p ∷ ps) c (inl h) e = let i = test_in p c h e in omega (arith, i)
  test_times (p ∷ ps) c (inr h) e = let i = test_times ps c h e in omega (arith, i)

  module _ (j : ℕ) where
    mutual
      both_in : (p : Phase) → holds_both j k p ≡ true → 1 ≤ times_in k p
      both_in (straight cs) e = made_any cs (two (any_makes j cs) (any_makes k cs) e).1
      both_in (turns loop count body) e = both_of body e
      both_in (repeated loop body) e = by (either (test_makes j loop && test_makes k loop) (hold_both j k body) e) (both_of body)
        where
          by : ((test_makes j loop && test_makes k loop) ≡ true) ⊎ (hold_both j k body ≡ true) → (hold_both j k body ≡ true → 1 ≤ times_of k body) → 1 ≤ bit (test_makes k loop) + times_of k body
          by (inl h) more = let b = bit_true (test_makes k loop) (two (test_makes j loop) (test_makes k loop) h).1 in omega (arith, b)
          by (inr h) more = let m = more h in omega (arith, m)
      both_in (decided choice chosen other) e = by (either (test_makes j choice && test_makes k choice) (hold_both j k chosen || hold_both j k other) e) (both_of chosen) (both_of other)
        where
          by : ((test_makes j choice && test_makes k choice) ≡ true) ⊎ ((hold_both j k chosen || hold_both j k other) ≡ true)
              → (hold_both j k chosen ≡ true → 1 ≤ times_of k chosen) → (hold_both j k other ≡ true → 1 ≤ times_of k other) → 1 ≤ bit (test_makes k choice) + (times_of k chosen + times_of k other)
          by (inl h) more less = let b = bit_true (test_makes k choice) (two (test_makes j choice) (test_makes k choice) h).1 in omega (arith, b)
          by (inr h) more less = side (either (hold_both j k chosen) (hold_both j k other) h)
            where
              side : (hold_both j k chosen ≡ true) ⊎ (hold_both j k other ≡ true) → 1 ≤ bit (test_makes k choice) + (times_of k chosen + times_of k other)
              side (inl g) = let m = more g in omega (arith, m)
              side (inr g) = let m = less g in omega (arith, m)

      both_of : (ps : Phases) → hold_both j k ps ≡ true → 1 ≤ times_of k ps
      both_of no_phases e = cc
      both_of (phase p ps) e = by (either (holds_both j k p) (hold_both j k ps) e) (both_in p) (both_of ps)
        where
          by : (holds_both j k p ≡ true) ⊎ (hold_both j k ps ≡ true) → (holds_both j k p ≡ true → 1 ≤ times_in k p) → (hold_both j k ps ≡ true → 1 ≤ times_of k ps) → 1 ≤ times_in k p + times_of k ps
          by (inl h) more less = let m = more h in omega (arith, m)
          by (inr h) more less = let m = less h in omega (arith, m)

    both_times : (ps : List Phase) → list_any (holds_both j k) ps ≡ true → 1 ≤ times k ps
    both_times [] e = cc
    both_times (p ∷ ps) e = by (either (holds_both j k p) (list_any (holds_both j k) ps) e) (both_times ps)
      where
        by : (holds_both j k p ≡ true) ⊎ (list_any (holds_both j k) ps ≡ true) → (list_any (holds_both j k) ps ≡ true → 1 ≤ times k ps) → 1 ≤ times_in k p + times k ps
        by (inl h) more = let m = both_in p h in omega (arith, m)
        by (inr h) more = let m = more h in omega (arith, m)

    arms_test : (chosen other : Phases) (c : Located) → test_makes k c ≡ true → (HaveTest chosen c → test_makes k c ≡ true → 1 ≤ times_of k chosen)
        → (HaveTest other c → test_makes k c ≡ true → 1 ≤ times_of k other) → HaveTest chosen c ⊎ HaveTest other c → 1 ≤ times_of k chosen + times_of k other
    arms_test chosen other c m f g (inl x) = let i = f x m in omega (arith, i)
    arms_test chosen other c m f g (inr x) = let i = g x m in omega (arith, i)

    arms_straight : (chosen other : Phases) (cs : List Located) → any_makes k cs ≡ true → (HaveStraight chosen cs → any_makes k cs ≡ true → 1 ≤ times_of k chosen)
        → (HaveStraight other cs → any_makes k cs ≡ true → 1 ≤ times_of k other) → HaveStraight chosen cs ⊎ HaveStraight other cs → 1 ≤ times_of k chosen + times_of k other
    arms_straight chosen other cs m f g (inl x) = let i = f x m in omega (arith, i)
    arms_straight chosen other cs m f g (inr x) = let i = g x m in omega (arith, i)

    arms_both : (chosen other : Phases) → (hold_both j k chosen ≡ true → 1 ≤ times_of k chosen) → (hold_both j k other ≡ true → 1 ≤ times_of k other)
        → (hold_both j k chosen || hold_both j k other) ≡ true → 1 ≤ times_of k chosen + times_of k other
    arms_both chosen other f g e = side (either (hold_both j k chosen) (hold_both j k other) e)
      where
        side : (hold_both j k chosen ≡ true) ⊎ (hold_both j k other ≡ true) → 1 ≤ times_of k chosen + times_of k other
        side (inl x) = let i = f x in omega (arith, i)
        side (inr x) = let i = g x in omega (arith, i)

    -- what a Straight phase that makes k has, where j and k stand in one phase
    mutual
      alike_in : (p : Phase) (cs : List Located) → times_in k p ≤ 1 → HasStraightIn p cs → any_makes k cs ≡ true → holds_both j k p ≡ true → any_makes j cs ≡ true
      alike_in (straight ds) cs l h m e = subst (λ (x : List Located). any_makes j x ≡ true) h (two (any_makes j ds) (any_makes k ds) e).0
      alike_in (turns loop count body) cs l h m e = alike_of body cs l h m e
      alike_in (repeated loop body) cs l h m e =
          two_sides (bit (test_makes k loop)) (times_of k body) ⊥ (HaveStraight body cs) ((test_makes j loop && test_makes k loop) ≡ true) (hold_both j k body ≡ true) (any_makes j cs ≡ true) l
          (λ x. elim x [ ]) (λ x. straight_of body cs x m) (λ y. bit_true (test_makes k loop) (two (test_makes j loop) (test_makes k loop) y).1) (both_of body)
          (λ s x y. elim x [ ]) (λ s x y. alike_of body cs s x m y) (inr h) (either (test_makes j loop && test_makes k loop) (hold_both j k body) e)
      alike_in (decided choice chosen other) cs l h m e =
          two_sides (bit (test_makes k choice)) (times_of k chosen + times_of k other) ⊥ (HaveStraight chosen cs ⊎ HaveStraight other cs) ((test_makes j choice && test_makes k choice) ≡ true)
          ((hold_both j k chosen || hold_both j k other) ≡ true) (any_makes j cs ≡ true) l
          (λ x. elim x [ ]) (arms_straight chosen other cs m (straight_of chosen cs) (straight_of other cs)) (λ y. bit_true (test_makes k choice) (two (test_makes j choice) (test_makes k choice) y).1) (arms_both chosen other (both_of chosen) (both_of other))
          (λ s x y. elim x [ ])
          (λ s x y. two_sides (times_of k chosen) (times_of k other) (HaveStraight chosen cs) (HaveStraight other cs) (hold_both j k chosen ≡ true) (hold_both j k other ≡ true) (any_makes j cs ≡ true) s
          (λ z. straight_of chosen cs z m) (λ z. straight_of other cs z m) (both_of chosen) (both_of other)
          (λ t z w. alike_of chosen cs t z m w) (λ t z w. alike_of other cs t z m w) x (either (hold_both j k chosen) (hold_both j k other) y))
          (inr h) (either (test_makes j choice && test_makes k choice) (hold_both j k chosen || hold_both j k other) e)

      alike_of : (ps : Phases) (cs : List Located) → times_of k ps ≤ 1 → HaveStraight ps cs → any_makes k cs ≡ true → hold_both j k ps ≡ true → any_makes j cs ≡ true
      alike_of no_phases cs l h m e = elim h [ ]
      alike_of (phase p ps) cs l h m e =
          two_sides (times_in k p) (times_of k ps) (HasStraightIn p cs) (HaveStraight ps cs) (holds_both j k p ≡ true) (hold_both j k ps ≡ true) (any_makes j cs ≡ true) l
          (λ x. straight_in p cs x m) (λ x. straight_of ps cs x m) (both_in p) (both_of ps) (λ s x y. alike_in p cs s x m y) (λ s x y. alike_of ps cs s x m y) h (either (holds_both j k p) (hold_both j k ps) e)

    alike : (ps : List Phase) (cs : List Located) → times k ps ≤ 1 → HasStraight ps cs → any_makes k cs ≡ true → list_any (holds_both j k) ps ≡ true → any_makes j cs ≡ true
    alike [] cs l h m e = elim h [ ]
    alike (p ∷ ps) cs l h m e =
        two_sides (times_in k p) (times k ps) (HasStraightIn p cs) (HasStraight ps cs) (holds_both j k p ≡ true) (list_any (holds_both j k) ps ≡ true) (any_makes j cs ≡ true) l
        (λ x. straight_in p cs x m) (λ x. straight_times ps cs x m) (both_in p) (both_times ps) (λ s x y. alike_in p cs s x m y) (λ s x y. alike ps cs s x m y) h
        (either (holds_both j k p) (list_any (holds_both j k) ps) e)

    -- and a test that makes k
    mutual
      tests_in : (p : Phase) (c : Located) → times_in k p ≤ 1 → HasTestIn p c → test_makes k c ≡ true → holds_both j k p ≡ true → test_makes j c ≡ true
      tests_in (straight ds) c l h m e = elim h [ ]
      tests_in (turns loop count body) c l h m e = tests_of body c l h m e
      tests_in (repeated loop body) c l h m e =
          two_sides (bit (test_makes k loop)) (times_of k body) (loop ≡ c) (HaveTest body c) ((test_makes j loop && test_makes k loop) ≡ true) (hold_both j k body ≡ true) (test_makes j c ≡ true) l
          (λ x. bit_true (test_makes k loop) (ap (test_makes k) x ∙ m)) (λ x. test_of body c x m) (λ y. bit_true (test_makes k loop) (two (test_makes j loop) (test_makes k loop) y).1) (both_of body)
          (λ s x y. sym (ap (test_makes j) x) ∙ (two (test_makes j loop) (test_makes k loop) y).0) (λ s x y. tests_of body c s x m y) h (either (test_makes j loop && test_makes k loop) (hold_both j k body) e)
      tests_in (decided choice chosen other) c l h m e =
          two_sides (bit (test_makes k choice)) (times_of k chosen + times_of k other) (choice ≡ c) (HaveTest chosen c ⊎ HaveTest other c) ((test_makes j choice && test_makes k choice) ≡ true)
          ((hold_both j k chosen || hold_both j k other) ≡ true) (test_makes j c ≡ true) l
          (λ x. bit_true (test_makes k choice) (ap (test_makes k) x ∙ m)) (arms_test chosen other c m (test_of chosen c) (test_of other c))
          (λ y. bit_true (test_makes k choice) (two (test_makes j choice) (test_makes k choice) y).1) (arms_both chosen other (both_of chosen) (both_of other))
          (λ s x y. sym (ap (test_makes j) x) ∙ (two (test_makes j choice) (test_makes k choice) y).0)
          (λ s x y. two_sides (times_of k chosen) (times_of k other) (HaveTest chosen c) (HaveTest other c) (hold_both j k chosen ≡ true) (hold_both j k other ≡ true) (test_makes j c ≡ true) s
          (λ z. test_of chosen c z m) (λ z. test_of other c z m) (both_of chosen) (both_of other)
          (λ t z w. tests_of chosen c t z m w) (λ t z w. tests_of other c t z m w) x (either (hold_both j k chosen) (hold_both j k other) y))
          h (either (test_makes j choice && test_makes k choice) (hold_both j k chosen || hold_both j k other) e)

      tests_of : (ps : Phases) (c : Located) → times_of k ps ≤ 1 → HaveTest ps c → test_makes k c ≡ true → hold_both j k ps ≡ true → test_makes j c ≡ true
      tests_of no_phases c l h m e = elim h [ ]
      tests_of (phase p ps) c l h m e =
          two_sides (times_in k p) (times_of k ps) (HasTestIn p c) (HaveTest ps c) (holds_both j k p ≡ true) (hold_both j k ps ≡ true) (test_makes j c ≡ true) l
          (λ x. test_in p c x m) (λ x. test_of ps c x m) (both_in p) (both_of ps) (λ s x y. tests_in p c s x m y) (λ s x y. tests_of ps c s x m y) h (either (holds_both j k p) (hold_both j k ps) e)

    tests_alike : (ps : List Phase) (c : Located) → times k ps ≤ 1 → HasTest ps c → test_makes k c ≡ true → list_any (holds_both j k) ps ≡ true → test_makes j c ≡ true
    tests_alike [] c l h m e = elim h [ ]
    tests_alike (p ∷ ps) c l h m e =
        two_sides (times_in k p) (times k ps) (HasTestIn p c) (HasTest ps c) (holds_both j k p ≡ true) (list_any (holds_both j k) ps ≡ true) (test_makes j c ≡ true) l
        (λ x. test_in p c x m) (λ x. test_times ps c x m) (both_in p) (both_times ps) (λ s x y. tests_in p c s x m y) (λ s x y. tests_alike ps c s x m y) h
        (either (holds_both j k p) (list_any (holds_both j k) ps) e)

-- a Straight phase of a program that has an access has every one that stands in one phase with it
pub straight_has_both : (p : Program) (cs : List Located) (j k : ℕ)
    → HasStraight (phases_of p ++ idle_phases_of p) cs → any_makes k cs ≡ true → in_one_phase p j k ≡ true → any_makes j cs ≡ true
straight_has_both p cs j k h m e = alike k j (phases_of p ++ idle_phases_of p) cs (times_once k p) h m e

-- and so has a test
pub test_has_both : (p : Program) (c : Located) (j k : ℕ)
    → HasTest (phases_of p ++ idle_phases_of p) c → test_makes k c ≡ true → in_one_phase p j k ≡ true → test_makes j c ≡ true
test_has_both p c j k h m e = tests_alike k j (phases_of p ++ idle_phases_of p) c (times_once k p) h m e
