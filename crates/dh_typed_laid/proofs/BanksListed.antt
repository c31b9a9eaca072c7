-- The banks of an access: of a memory the one that it reaches, of a view those that may be reached from there, each once.
use Rattle.std.proofs.Common.{◌≡◌, ◌⊎◌, inl, inr, ℕ, zero, suc, ◌<◌, ◌==◌, ◌&&◌, ◌||◌, Bool, true, false, if◌then◌else◌, List, [], ◌∷◌, ◌++◌, length, Some, refl, ap, sym, ◌∙◌, subst, arith}
use Rattle.std.specs.Prelude.{slice_get}
use Rattle.std.specs.List.{AllByRecursion}
use Rattle.std.proofs.lemmas.Bool.{eqb-true}
use Rattle.dh_value.specs.declared.kinds.Kind.{Kind}
use Rattle.dh_tree.specs.declared.tables.Dim.{Dim}
use Rattle.dh_tree.specs.Elements.{banks_of, dims_at}
use Rattle.dh_meaning.specs.Ways.{WayStep}
use Rattle.dh_meets.specs.Charges.{any_below, may_reach}
use Rattle.dh_viewing.specs.declared.bank_sets.BankSet.{BankSet}
use Rattle.dh_viewing.specs.ReachedBanks.{can_reach, is_in}
use Rattle.dh_ways.specs.Leading.{StepsLead, next_dims}
use Rattle.dh_plan.specs.PlainPlans.{PlainPlan}
use Rattle.dh_plan.specs.PlanKinds.{AreBanks}
use Rattle.dh_expressions.specs.Named.{banks_below}
use Rattle.dh_expressions.proofs.ListPlaces.{place_of_more}

-- Numbers that pass a test.

below_found : (n : ℕ) (test : ℕ → Bool) → any_below n test ≡ true → (m : ℕ) × ((m < n) × (test m ≡ true))
below_found zero test e = absurd cc
below_found (suc n) test e = by (any_below n test) refl e (below_found n test)
  where
    more : (m k : ℕ) → m < k → m < suc k
    more m k l = omega (arith, l)

    own : (k : ℕ) → k < suc k
    own k = omega arith

    by : (b : Bool) → any_below n test ≡ b → (b || test n) ≡ true → (any_below n test ≡ true → (m : ℕ) × ((m < n) × (test m ≡ true))) → (m : ℕ) × ((m < suc n) × (test m ≡ true))
    by true f g later = let w = later f in (w.0, (more w.0 n w.1.0, w.1.1))
    by false f g later = (n, (own n, g))

and_second : (a b : Bool) → (a && b) ≡ true → b ≡ true
and_second true b e = e
and_second false b e = absurd cc

-- what may be reached through views lies in the memory
pub reached_lies : (ss : List WayStep) (dims : List Dim) → StepsLead ss dims → (bank behind : ℕ) → bank < banks_of (next_dims ss dims) → may_reach ss bank behind ≡ true → behind < banks_of dims
reached_lies [] dims lead bank behind low e = subst (λ (n : ℕ). n < banks_of dims) (eqb-true bank behind e) low
reached_lies (s ∷ ss) dims lead bank behind low e =
    let w = below_found (banks_of s.is.parent.dims) (λ inner. can_reach s.is bank inner && may_reach ss inner behind) e in
    reached_lies ss dims lead.1.1 w.0 behind (subst (λ (ds : List Dim). w.0 < banks_of ds) lead.1.0 w.1.0) (and_second (can_reach s.is bank w.0) (may_reach ss w.0 behind) w.1.1)

-- Lists of banks.

all_more : {A : Type 0} (P : A → Type 0) (xs : List A) (y : A) → AllByRecursion P xs → P y → AllByRecursion P (xs ++ y ∷ [])
all_more P [] y h k = (k, tt)
all_more P (x ∷ xs) y h k = (h.0, all_more P xs y h.1 k)

-- those of a set that are all below a number
below_there : (s : BankSet) (place most n : ℕ) → ((b : ℕ) → is_in s b ≡ true → b < most) → AllByRecursion (λ (b : ℕ × ℕ). b.0 < most) (banks_below s place n)
below_there s place most zero h = tt
below_there s place most (suc n) h = by (is_in s n) refl (below_there s place most n h)
  where
    by : (t : Bool) → is_in s n ≡ t → AllByRecursion (λ (b : ℕ × ℕ). b.0 < most) (banks_below s place n) → AllByRecursion (λ (b : ℕ × ℕ). b.0 < most) (if t then banks_below s place n ++ (n, place) ∷ [] else banks_below s place n)
    by true e before = all_more (λ (b : ℕ × ℕ). b.0 < most) (banks_below s place n) (n, place) before (h n e)
    by false e before = before

below_less : (s : BankSet) (place n i : ℕ) (b : ℕ × ℕ) → slice_get (banks_below s place n) i ≡ Some b → b.0 < n
below_less s place zero i b e = absurd cc
below_less s place (suc n) i b e = by (is_in s n) e (below_less s place n i b)
  where
    more : (m : ℕ) → m < n → m < suc n
    more m l = omega (arith, l)

    own : (m : ℕ) → m ≡ n → m < suc n
    own m h = omega (arith, h)

    which : (slice_get (banks_below s place n) i ≡ Some b → b.0 < n) → (slice_get (banks_below s place n) i ≡ Some b) ⊎ ((i ≡ length (banks_below s place n)) × (b ≡ (n, place))) → b.0 < suc n
    which before (inl f) = more b.0 (before f)
    which before (inr f) = own b.0 (ap (λ (c : ℕ × ℕ). c.0) f.1)

    by : (t : Bool) → slice_get (if t then banks_below s place n ++ (n, place) ∷ [] else banks_below s place n) i ≡ Some b → (slice_get (banks_below s place n) i ≡ Some b → b.0 < n) → b.0 < suc n
    by true f before = which before (place_of_more (banks_below s place n) (n, place) b i f)
    by false f before = more b.0 (before f)

below_once : (s : BankSet) (place n i j : ℕ) (b c : ℕ × ℕ) → slice_get (banks_below s place n) i ≡ Some b → slice_get (banks_below s place n) j ≡ Some c → b.0 ≡ c.0 → i ≡ j
below_once s place zero i j b c e f same = absurd cc
below_once s place (suc n) i j b c e f same = by (is_in s n) e f (λ g h. below_once s place n i j b c g h same)
  where
    never : (m k : ℕ) → m < n → k ≡ n → m ≡ k → ⊥
    never m k l h g = omega (arith, l, h, g)

    which : (slice_get (banks_below s place n) i ≡ Some b → slice_get (banks_below s place n) j ≡ Some c → i ≡ j)
        → (slice_get (banks_below s place n) i ≡ Some b) ⊎ ((i ≡ length (banks_below s place n)) × (b ≡ (n, place))) → (slice_get (banks_below s place n) j ≡ Some c) ⊎ ((j ≡ length (banks_below s place n)) × (c ≡ (n, place))) → i ≡ j
    which before (inl g) (inl h) = before g h
    which before (inl g) (inr h) = absurd (never b.0 c.0 (below_less s place n i b g) (ap (λ (x : ℕ × ℕ). x.0) h.1) same)
    which before (inr g) (inl h) = absurd (never c.0 b.0 (below_less s place n j c h) (ap (λ (x : ℕ × ℕ). x.0) g.1) (sym same))
    which before (inr g) (inr h) = g.0 ∙ sym h.0

    by : (t : Bool) → slice_get (if t then banks_below s place n ++ (n, place) ∷ [] else banks_below s place n) i ≡ Some b → slice_get (if t then banks_below s place n ++ (n, place) ∷ [] else banks_below s place n) j ≡ Some c
        → (slice_get (banks_below s place n) i ≡ Some b → slice_get (banks_below s place n) j ≡ Some c → i ≡ j) → i ≡ j
    by true g h before = which before (place_of_more (banks_below s place n) (n, place) b i g) (place_of_more (banks_below s place n) (n, place) c j h)
    by false g h before = before g h

-- Banks of a memory of a plan.

module _ (plan : PlainPlan) (first : ℕ) (kinds : List Kind) (memory : ℕ) where
  pub one_bank : (bank place : ℕ) → bank < banks_of (dims_at plan.table memory) → AreBanks plan first kinds memory ((bank, place) ∷ [])
  one_bank bank place low = record { there = (low, tt); once = once }
    where
      once : (i j : ℕ) (b c : ℕ × ℕ) → slice_get ((bank, place) ∷ []) i ≡ Some b → slice_get ((bank, place) ∷ []) j ≡ Some c → b.0 ≡ c.0 → i ≡ j
      once zero zero b c e f same = refl
      once zero (suc j) b c e f same = absurd cc
      once (suc i) j b c e f same = absurd cc

  pub set_banks : (s : BankSet) (place n : ℕ) → ((b : ℕ) → is_in s b ≡ true → b < banks_of (dims_at plan.table memory)) → AreBanks plan first kinds memory (banks_below s place n)
  set_banks s place n h = record { there = below_there s place (banks_of (dims_at plan.table memory)) n h; once = below_once s place n }
