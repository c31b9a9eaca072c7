-- The Straight phases of phases, as a flat list of runs: a run has the accesses that are made in one Straight
-- phase, and goes by the number of the phase's first command. The test of a `while`, or of an `if` that is
-- not straight, is a run of its own. Where no two runs go by one number, two accesses stand in one run
-- exactly where both stand in runs of one number.
use Rattle.std.proofs.Common.{◌≡◌, ℕ, ◌+◌, ◌≤◌, ◌==◌, ◌&&◌, ◌||◌, Bool, true, false, if◌then◌else◌, List, [], ◌∷◌, ◌++◌, ◌⊎◌, inl, inr, refl, ap, sym, ◌∙◌, arith}
use Rattle.std.specs.Prelude.{Option, None}
use Rattle.std.specs.List.{list_any}
use Rattle.std.proofs.lemmas.Bool.{eq-eqb, and_from, and_parts, or_left, or_right}
use Rattle.dh_tree.specs.PlainTrees.{Action, action}
use Rattle.dh_meaning.specs.OnePhase.{any_makes, test_makes, holds_both, hold_both}
use Rattle.dh_meaning.specs.Phases.{Located, Phase, straight, turns, repeated, decided, Phases, no_phases, phase, of_list, one_straight}
use Rattle.dh_events.specs.Incidents.{phase_at}

pub record Run : Type 0 where
  pub tag : ℕ
  pub has : ℕ → Bool

abbrev pub id_of : Action → ℕ
id_of (action id place form) = id

abbrev pub tag_of : Located → ℕ
tag_of c = id_of c.command

-- one run has both
abbrev pub in_any : ℕ → ℕ → List Run → Bool
in_any i j [] = false
in_any i j (r ∷ rs) = (r.has i && r.has j) || in_any i j rs

-- an access stands in a run of this number, where the first run may go on with an open phase
abbrev pub stands : Option ℕ → List Run → (k p : ℕ) → Bool
stands o [] k p = false
stands o (r ∷ rs) k p = ((phase_at o r.tag == p) && r.has k) || stands None rs k p

-- how many runs go by a number
abbrev pub times : ℕ → List Run → ℕ
times t [] = 0
times t (r ∷ rs) = (if r.tag == t then 1 else 0) + times t rs

-- The runs of phases.

abbrev pub straight_run : List Located → List Run
straight_run [] = []
straight_run (c ∷ cs) = record { tag = tag_of c; has = λ k. any_makes k (c ∷ cs) } ∷ []

abbrev pub test_run : Located → Run
test_run c = record { tag = tag_of c; has = λ k. test_makes k c }

abbrev mutual
  pub flat_one : Phase → List Run
  flat_one (straight cs) = straight_run cs
  flat_one (turns loop count body) = flat_all body
  flat_one (repeated loop body) = test_run loop ∷ flat_all body
  flat_one (decided choice chosen other) = test_run choice ∷ (flat_all chosen ++ flat_all other)

  pub flat_all : Phases → List Run
  flat_all no_phases = []
  flat_all (phase p ps) = flat_one p ++ flat_all ps

abbrev pub flat : List Phase → List Run
flat [] = []
flat (p ∷ ps) = flat_one p ++ flat ps

-- Booleans.

pub or_none : (x : Bool) → (x || false) ≡ x
or_none true = refl
or_none false = refl

pub or_assoc : (x y z : Bool) → ((x || y) || z) ≡ (x || (y || z))
or_assoc true y z = refl
or_assoc false y z = refl

pub or_both : (x y u v : Bool) → x ≡ u → y ≡ v → (x || y) ≡ (u || v)
or_both x y u v e f = ap (λ b. b || y) e ∙ ap (λ b. u || b) f

pub or_either : (x y : Bool) → (x || y) ≡ true → (x ≡ true) ⊎ (y ≡ true)
or_either true y e = inl refl
or_either false y e = inr e

-- Lists of runs.

runs_assoc : (xs ys zs : List Run) → (xs ++ ys) ++ zs ≡ xs ++ (ys ++ zs)
runs_assoc [] ys zs = refl
runs_assoc (x ∷ xs) ys zs = ap (λ l. x ∷ l) (runs_assoc xs ys zs)

pub runs_nil : (xs : List Run) → xs ++ [] ≡ xs
runs_nil [] = refl
runs_nil (x ∷ xs) = ap (λ l. x ∷ l) (runs_nil xs)

pub flat_append : (ps qs : List Phase) → flat (ps ++ qs) ≡ flat ps ++ flat qs
flat_append [] qs = refl
flat_append (p ∷ ps) qs = ap (λ l. flat_one p ++ l) (flat_append ps qs) ∙ sym (runs_assoc (flat_one p) (flat ps) (flat qs))

pub flat_of_list : (ps : List Phase) → flat_all (of_list ps) ≡ flat ps
flat_of_list [] = refl
flat_of_list (p ∷ ps) = ap (λ l. flat_one p ++ l) (flat_of_list ps)

pub flat_straight : (cs : List Located) → flat (one_straight cs) ≡ straight_run cs
flat_straight [] = refl
flat_straight (c ∷ cs) = refl

pub stands_append : (rs ss : List Run) (k p : ℕ) → stands None (rs ++ ss) k p ≡ (stands None rs k p || stands None ss k p)
stands_append [] ss k p = refl
stands_append (r ∷ rs) ss k p = ap (λ b. ((r.tag == p) && r.has k) || b) (stands_append rs ss k p) ∙ sym (or_assoc ((r.tag == p) && r.has k) (stands None rs k p) (stands None ss k p))

pub times_append : (t : ℕ) (rs ss : List Run) → times t (rs ++ ss) ≡ times t rs + times t ss
times_append t [] ss = none (times t ss)
  where
    none : (n : ℕ) → n ≡ 0 + n
    none n = omega arith
times_append t (r ∷ rs) ss = ap (λ n. (if r.tag == t then 1 else 0) + n) (times_append t rs ss) ∙ more (if r.tag == t then 1 else 0) (times t rs) (times t ss)
  where
    more : (a b c : ℕ) → a + (b + c) ≡ (a + b) + c
    more a b c = omega arith

in_any_append : (i j : ℕ) (xs ys : List Run) → in_any i j (xs ++ ys) ≡ (in_any i j xs || in_any i j ys)
in_any_append i j [] ys = refl
in_any_append i j (x ∷ xs) ys = ap (λ b. (x.has i && x.has j) || b) (in_any_append i j xs ys) ∙ sym (or_assoc (x.has i && x.has j) (in_any i j xs) (in_any i j ys))

mutual
  one_told : (i j : ℕ) (p : Phase) → holds_both i j p ≡ in_any i j (flat_one p)
  one_told i j (straight []) = refl
  one_told i j (straight (c ∷ cs)) = sym (or_none (any_makes i (c ∷ cs) && any_makes j (c ∷ cs)))
  one_told i j (turns loop count body) = all_told i j body
  one_told i j (repeated loop body) = ap (λ b. (test_makes i loop && test_makes j loop) || b) (all_told i j body)
  one_told i j (decided choice chosen other) =
      ap (λ b. (test_makes i choice && test_makes j choice) || b)
      (or_both _ _ _ _ (all_told i j chosen) (all_told i j other) ∙ sym (in_any_append i j (flat_all chosen) (flat_all other)))

  all_told : (i j : ℕ) (ps : Phases) → hold_both i j ps ≡ in_any i j (flat_all ps)
  all_told i j no_phases = refl
  all_told i j (phase p ps) = or_both _ _ _ _ (one_told i j p) (all_told i j ps) ∙ sym (in_any_append i j (flat_one p) (flat_all ps))

-- two accesses stand in one Straight phase of phases where a run has both
pub phases_told : (i j : ℕ) (ps : List Phase) → list_any (holds_both i j) ps ≡ in_any i j (flat ps)
phases_told i j [] = refl
phases_told i j (p ∷ ps) = or_both _ _ _ _ (one_told i j p) (phases_told i j ps) ∙ sym (in_any_append i j (flat_one p) (flat ps))

-- Numbers of runs.

pub any_stands : (i j : ℕ) (rs : List Run) → in_any i j rs ≡ true → (p : ℕ) × ((stands None rs i p ≡ true) × (stands None rs j p ≡ true))
any_stands i j [] e = absurd cc
any_stands i j (r ∷ rs) e = by (or_either (r.has i && r.has j) (in_any i j rs) e) (any_stands i j rs)
  where
    by : ((r.has i && r.has j) ≡ true) ⊎ (in_any i j rs ≡ true) → (in_any i j rs ≡ true → (p : ℕ) × ((stands None rs i p ≡ true) × (stands None rs j p ≡ true))) → (p : ℕ) × ((stands None (r ∷ rs) i p ≡ true) × (stands None (r ∷ rs) j p ≡ true))
    by (inl f) later =
        let h = and_parts (r.has i) (r.has j) f in
        (r.tag, (or_left ((r.tag == r.tag) && r.has i) (stands None rs i r.tag) (and_from (r.tag == r.tag) (r.has i) (eq-eqb r.tag r.tag refl) h.0), or_left ((r.tag == r.tag) && r.has j) (stands None rs j r.tag) (and_from (r.tag == r.tag) (r.has j) (eq-eqb r.tag r.tag refl) h.1)))
    by (inr f) later = let x = later f in (x.0, (or_right ((r.tag == x.0) && r.has i) (stands None rs i x.0) x.1.0, or_right ((r.tag == x.0) && r.has j) (stands None rs j x.0) x.1.1))

stands_times : (k p : ℕ) (rs : List Run) → stands None rs k p ≡ true → 1 ≤ times p rs
stands_times k p [] e = absurd cc
stands_times k p (r ∷ rs) e = by (or_either ((r.tag == p) && r.has k) (stands None rs k p) e) (stands_times k p rs)
  where
    one : (b : Bool) (n : ℕ) → b ≡ true → 1 ≤ (if b then 1 else 0) + n
    one true n f = omega arith
    one false n f = absurd cc

    more : (m n : ℕ) → 1 ≤ n → 1 ≤ m + n
    more m n f = omega (arith, f)

    by : (((r.tag == p) && r.has k) ≡ true) ⊎ (stands None rs k p ≡ true) → (stands None rs k p ≡ true → 1 ≤ times p rs) → 1 ≤ times p (r ∷ rs)
    by (inl f) later = one (r.tag == p) (times p rs) (and_parts (r.tag == p) (r.has k) f).0
    by (inr f) later = more (if r.tag == p then 1 else 0) (times p rs) (later f)

clash : (b : Bool) (n : ℕ) → b ≡ true → 1 ≤ n → (if b then 1 else 0) + n ≤ 1 → ⊥
clash true n e f h = omega (arith, f, h)
clash false n e f h = cc

pub stands_any : (i j p : ℕ) (rs : List Run) → times p rs ≤ 1 → stands None rs i p ≡ true → stands None rs j p ≡ true → in_any i j rs ≡ true
stands_any i j p [] h e f = absurd cc
stands_any i j p (r ∷ rs) h e f = by (or_either ((r.tag == p) && r.has i) (stands None rs i p) e) (or_either ((r.tag == p) && r.has j) (stands None rs j p) f) (stands_any i j p rs (less (if r.tag == p then 1 else 0) (times p rs) h))
  where
    less : (m n : ℕ) → m + n ≤ 1 → n ≤ 1
    less m n x = omega (arith, x)

    by : (((r.tag == p) && r.has i) ≡ true) ⊎ (stands None rs i p ≡ true) → (((r.tag == p) && r.has j) ≡ true) ⊎ (stands None rs j p ≡ true) → (stands None rs i p ≡ true → stands None rs j p ≡ true → in_any i j rs ≡ true) → in_any i j (r ∷ rs) ≡ true
    by (inl x) (inl y) later = or_left (r.has i && r.has j) (in_any i j rs) (and_from (r.has i) (r.has j) (and_parts (r.tag == p) (r.has i) x).1 (and_parts (r.tag == p) (r.has j) y).1)
    by (inl x) (inr y) later = absurd (clash (r.tag == p) (times p rs) (and_parts (r.tag == p) (r.has i) x).0 (stands_times j p rs y) h)
    by (inr x) (inl y) later = absurd (clash (r.tag == p) (times p rs) (and_parts (r.tag == p) (r.has j) y).0 (stands_times i p rs x) h)
    by (inr x) (inr y) later = or_right (r.has i && r.has j) (in_any i j rs) (later x y)
