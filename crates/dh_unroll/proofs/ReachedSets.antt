-- Sets of banks, view by view: which banks of the memory may be reached from each bank of a view, by those that may be from
-- each bank of the one behind it.
use Rattle.std.proofs.Common.{◌≡◌, ◌⊎◌, ◌↔◌, inl, inr, IsTrue, ℕ, zero, suc, ◌<◌, ◌≤◌, ◌==◌, ◌&&◌, ◌||◌, max, nat_lt, Bool, true, false, List, [], ◌∷◌, ◌++◌, length, get_or, Some, None, refl, ap, sym, ◌∙◌, subst, arith}
use Rattle.std.specs.Prelude.{bit_or, Option, slice_get}
use Rattle.std.specs.Int.{bit_at}
use Rattle.std.proofs.lemmas.Bool.{cases_lt, eqb-true}
use Rattle.std.proofs.lemmas.Bool.Decides.{nat_tests}
use Rattle.std.proofs.lemmas.Nat.Bits.{bit_at-lt, bit_at-zero, bit_at_or}
use Rattle.std.proofs.lemmas.Option.{get_or_from_slice_get}
use Rattle.dh_tree.specs.declared.viewing.ViewMap.{ViewMap}
use Rattle.dh_tree.specs.Elements.{banks_of}
use Rattle.dh_tree.specs.ViewShapes.{IsViewMap}
use Rattle.dh_meaning.specs.Ways.{WayStep, step_of}
use Rattle.dh_meets.specs.Charges.{any_below, may_reach}
use Rattle.dh_viewing.specs.declared.bank_sets.BankSet.{BankSet}
use Rattle.dh_viewing.specs.ReachedBanks.{ReachesBank, can_reach, is_in}
use Rattle.dh_viewing.proofs.ReachTold.{reach_below, reached_told, told_reached}
use Rattle.dh_expressions.specs.declared.scenes.Through.{Through}
use Rattle.dh_expressions.specs.Named.{set_or_none}
use Rattle.dh_expressions.specs.Numbers.{narrowed}
use Rattle.dh_unroll.specs.ViewsListed.{AreReached, HasSets, MakesSets, ReachedByBanks, SetsBehind, any_in, reaches_inside}

-- Truths.

same_truth : (a b : Bool) → (a ≡ true → b ≡ true) → (b ≡ true → a ≡ true) → a ≡ b
same_truth true b f g = sym (f refl)
same_truth false true f g = g refl
same_truth false false f g = refl

and_first : (a b : Bool) → (a && b) ≡ true → a ≡ true
and_first true b e = refl
and_first false b e = e

and_second : (a b : Bool) → (a && b) ≡ true → b ≡ true
and_second true b e = e
and_second false b e = absurd cc

and_both : (a b : Bool) → a ≡ true → b ≡ true → (a && b) ≡ true
and_both a b e f = ap (λ x. x && b) e ∙ f

or_first : (a b : Bool) → a ≡ true → (a || b) ≡ true
or_first a b e = ap (λ x. x || b) e

or_second : (a b : Bool) → b ≡ true → (a || b) ≡ true
or_second true b e = refl
or_second false b e = e

or_none : (a : Bool) → (a || false) ≡ a
or_none true = refl
or_none false = refl

below_so : (a n : ℕ) → nat_lt a n ≡ true → a < n
below_so a n e = grind (arith, nat_tests, e)

so_below : (a n : ℕ) → a < n → nat_lt a n ≡ true
so_below a n l = grind (arith, nat_tests, l)

-- Numbers below one that pass a test.

below_some : (n m : ℕ) (test : ℕ → Bool) → m < n → test m ≡ true → any_below n test ≡ true
below_some zero m test l e = absurd (none m l)
  where
    none : (k : ℕ) → k < 0 → ⊥
    none k h = omega (arith, h)
below_some (suc n) m test l e = by (cases_lt m n) (below_some n m test)
  where
    last : (k j : ℕ) → k < suc j → j ≤ k → k ≡ j
    last k j g h = omega (arith, g, h)

    by : (m < n) ⊎ (n ≤ m) → (m < n → test m ≡ true → any_below n test ≡ true) → (any_below n test || test n) ≡ true
    by (inl k) later = or_first (any_below n test) (test n) (later k e)
    by (inr k) later = or_second (any_below n test) (test n) (subst (λ (x : ℕ). test x ≡ true) (last m n l k) e)

below_found : (n : ℕ) (test : ℕ → Bool) → any_below n test ≡ true → (m : ℕ) × ((m < n) × (test m ≡ true))
below_found zero test e = absurd cc
below_found (suc n) test e = by (any_below n test) refl e (below_found n test)
  where
    more : (m k : ℕ) → m < k → m < suc k
    more m k l = omega (arith, l)

    own : (k : ℕ) → k < suc k
    own k = omega arith

    by : (b : Bool) → any_below n test ≡ b → (b || test n) ≡ true → (any_below n test ≡ true → (m : ℕ) × ((m < n) × (test m ≡ true))) → (m : ℕ) × ((m < suc n) × (test m ≡ true))
    by true f g later = let w = later f in (w.0, (more w.0 n w.1.0, w.1.1))
    by false f g later = (n, (own n, g))

below_same : (n : ℕ) (one two : ℕ → Bool) → ((m : ℕ) → m < n → one m ≡ two m) → any_below n one ≡ any_below n two
below_same zero one two h = refl
below_same (suc n) one two h =
    ap (λ b. b || one n) (below_same n one two (λ m l. h m (more m n l))) ∙ ap (λ b. any_below n two || b) (h n (own n))
  where
    more : (m k : ℕ) → m < k → m < suc k
    more m k l = omega (arith, l)

    own : (k : ℕ) → k < suc k
    own k = omega arith

-- Sets.

pub nothing_in : (bank : ℕ) → (bit_at 0 bank == 1) ≡ false
nothing_in bank = ap (λ b. b == 1) (bit_at-zero bank)

pub joined_in : (a b bank : ℕ) → (bit_at (bit_or a b) bank == 1) ≡ ((bit_at a bank == 1) || (bit_at b bank == 1))
joined_in a b bank = ap (λ x. x == 1) (bit_at_or a b bank) ∙ either (bit_at a bank) (bit_at b bank) (bit_at-lt a bank) (bit_at-lt b bank)
  where
    either : (x y : ℕ) → x < 2 → y < 2 → (max x y == 1) ≡ ((x == 1) || (y == 1))
    either x y h k = grind (arith, nat_tests, h, k)

pub few_banks : (bank n : ℕ) → bank < n → n ≤ 64 → bank < 64
few_banks bank n l m = omega (arith, l, m)

pub small_bank : (bank n : ℕ) → bank < n → n ≤ 64 → narrowed bank ≡ bank
small_bank bank n l m = omega (arith, l, m)

pub kept_banks : (n : ℕ) → n ≤ 64 → narrowed n ≡ n
kept_banks n l = omega (arith, l)

-- the banks of its parent that a view can reach from one of its own
pub reached_in : (v : ViewMap) (bank : ℕ) (s : BankSet) → IsViewMap v → bank < banks_of v.shape.dims → ((c : ℕ) → IsTrue (is_in s c) ↔ ReachesBank v bank c) → (behind : ℕ) → is_in s behind ≡ reaches_inside v bank behind
reached_in v bank s is there so behind =
    same_truth (is_in s behind) (reaches_inside v bank behind)
    (λ e. let r = (so behind).0 e in and_both (nat_lt behind (banks_of v.parent.dims)) (can_reach v bank behind) (so_below behind (banks_of v.parent.dims) (reach_below v bank behind is r)) (reached_told v bank behind is r))
    (λ e. (so behind).1 (told_reached v bank behind is there (below_so behind (banks_of v.parent.dims) (and_first (nat_lt behind (banks_of v.parent.dims)) (can_reach v bank behind) e))
    (and_second (nat_lt behind (banks_of v.parent.dims)) (can_reach v bank behind) e)))

pub bank_in : (found own made reaching : Bool) → own ≡ true → made ≡ (found || reaching) → made ≡ (found || (own && reaching))
bank_in found own made reaching e is = is ∙ ap (λ b. found || (b && reaching)) (sym e)

pub bank_out : (found own reaching : Bool) → own ≡ false → found ≡ (found || (own && reaching))
bank_out found own reaching e = sym (ap (λ b. found || (b && reaching)) e ∙ or_none found)

-- Behind a view.

itself : (n : ℕ) → (n == n) ≡ true
itself n = grind (arith, nat_tests)

-- of a memory each bank is its own
pub alone_reached : (v : ViewMap) (bank : ℕ) (own : BankSet) → ((b : ℕ) → is_in own b ≡ reaches_inside v bank b) → AreReached (step_of v ∷ []) bank own
alone_reached v bank own is c = is c ∙ same_truth (reaches_inside v bank c) (any_below n (λ b. can_reach v bank b && (b == c))) there back
  where
    n : ℕ
    n = banks_of v.parent.dims

    there : reaches_inside v bank c ≡ true → any_below n (λ b. can_reach v bank b && (b == c)) ≡ true
    there e =
        below_some n c (λ b. can_reach v bank b && (b == c)) (below_so c n (and_first (nat_lt c n) (can_reach v bank c) e)) (and_both (can_reach v bank c) (c == c) (and_second (nat_lt c n) (can_reach v bank c) e) (itself c))

    back : any_below n (λ b. can_reach v bank b && (b == c)) ≡ true → reaches_inside v bank c ≡ true
    back e =
        let found = below_found n (λ b. can_reach v bank b && (b == c)) e in
        let same : found.0 ≡ c = eqb-true found.0 c (and_second (can_reach v bank found.0) (found.0 == c) found.1.1) in
        and_both (nat_lt c n) (can_reach v bank c) (so_below c n (subst (λ (m : ℕ). m < n) same found.1.0)) (subst (λ (m : ℕ). can_reach v bank m ≡ true) same (and_first (can_reach v bank found.0) (found.0 == c) found.1.1))

-- the set of one bank more
pub one_in : (own : BankSet) (sets : List BankSet) (bank number : ℕ) (found more new : BankSet) → number ≡ bank → more ≡ set_or_none (slice_get sets bank) → ((b : ℕ) → is_in new b ≡ (is_in found b || (is_in own number && is_in more b)))
    → ((b : ℕ) → is_in found b ≡ any_in own sets bank b) → (b : ℕ) → is_in new b ≡ any_in own sets (suc bank) b
one_in own sets bank number found more new same is made before b =
    made b
    ∙ (ap (λ x. x || (is_in own number && is_in more b)) (before b)
    ∙ (ap (λ n. any_in own sets bank b || (is_in own n && is_in more b)) same ∙ ap (λ (s : BankSet). any_in own sets bank b || (is_in own bank && is_in s b)) is))

-- of another view what may be reached from each of its banks is known
pub behind_reached : (v : ViewMap) (ss : List WayStep) (bank : ℕ) (own s : BankSet) (sets : List BankSet) → ((b : ℕ) → is_in own b ≡ reaches_inside v bank b) → length sets ≡ banks_of v.parent.dims → ReachedByBanks ss (banks_of v.parent.dims) sets
    → ((b : ℕ) → is_in s b ≡ any_in own sets (length sets) b) → AreReached (step_of v ∷ ss) bank s
behind_reached v ss bank own s sets is many reached all c =
    all c
    ∙ (ap (λ n. any_in own sets n c) many
    ∙ below_same (banks_of v.parent.dims) (λ b. is_in own b && is_in (set_or_none (slice_get sets b)) c) (λ b. can_reach v bank b && may_reach ss b c) each)
  where
    each : (b : ℕ) → b < banks_of v.parent.dims → (is_in own b && is_in (set_or_none (slice_get sets b)) c) ≡ (can_reach v bank b && may_reach ss b c)
    each b l =
        let known = reached b l in
        ap (λ x. x && is_in (set_or_none (slice_get sets b)) c) (is b ∙ ap (λ x. x && can_reach v bank b) (so_below b (banks_of v.parent.dims) l))
        ∙ ap (λ x. can_reach v bank b && x) (ap (λ o. is_in (set_or_none o) c) known.1.0 ∙ known.1.1 c)

-- By each bank.

pub no_sets : (ss : List WayStep) (sets : List BankSet) → sets ≡ [] → (length sets ≡ 0) × ReachedByBanks ss 0 sets
no_sets ss sets e = (ap (λ (l : List BankSet). length l) e, λ bank l. absurd (none bank l))
  where
    none : (k : ℕ) → k < 0 → ⊥
    none k h = omega (arith, h)

pub before_last : {A : Type 0} (xs : List A) (x y : A) (i : ℕ) → slice_get xs i ≡ Some y → slice_get (xs ++ x ∷ []) i ≡ Some y
before_last [] x y i e = absurd cc
before_last (z ∷ xs) x y zero e = e
before_last (z ∷ xs) x y (suc i) e = before_last xs x y i e

pub at_last : {A : Type 0} (xs : List A) (x : A) (i : ℕ) → length xs ≡ i → slice_get (xs ++ x ∷ []) i ≡ Some x
at_last [] x zero e = refl
at_last [] x (suc i) e = absurd cc
at_last (z ∷ xs) x zero e = absurd cc
at_last (z ∷ xs) x (suc i) e = at_last xs x i (let f : length xs ≡ i = cc in f)

pub one_longer : {A : Type 0} (xs : List A) (x : A) → length (xs ++ x ∷ []) ≡ suc (length xs)
one_longer [] x = refl
one_longer (z ∷ xs) x = ap suc (one_longer xs x)

pub sets_more : (ss : List WayStep) (n : ℕ) (old new : List BankSet) (s : BankSet) → new ≡ old ++ s ∷ [] → AreReached ss n s → (length old ≡ n) × ReachedByBanks ss n old → (length new ≡ suc n) × ReachedByBanks ss (suc n) new
sets_more ss n old new s added reached (long, all) =
    subst (λ (l : List BankSet). (length l ≡ suc n) × ReachedByBanks ss (suc n) l) (sym added) (one_longer old s ∙ ap suc long, λ bank l. by bank l (cases_lt bank n))
  where
    last : (k j : ℕ) → k < suc j → j ≤ k → j ≡ k
    last k j g h = omega (arith, g, h)

    by : (bank : ℕ) → bank < suc n → (bank < n) ⊎ (n ≤ bank) → (t : BankSet) × ((slice_get (old ++ s ∷ []) bank ≡ Some t) × AreReached ss bank t)
    by bank l (inl k) = let w = all bank k in (w.0, (before_last old s w.0 bank w.1.0, w.1.1))
    by bank l (inr k) = (s, (at_last old s bank (long ∙ last bank n l k), subst (λ (b : ℕ). AreReached ss b s) (last bank n l k) reached))

-- one set more, whatever stands behind the view
pub none_behind : (v : ViewMap) (parent sets : List BankSet) → sets ≡ [] → SetsBehind v parent 0 sets
none_behind v parent sets e = ((no_sets [] sets e).0, λ ss r. (no_sets (step_of v ∷ ss) sets e).1)

pub more_behind : (v : ViewMap) (parent old new : List BankSet) (n : ℕ) (own s : BankSet) → new ≡ old ++ s ∷ [] → ((b : ℕ) → is_in own b ≡ reaches_inside v n b) → length parent ≡ banks_of v.parent.dims → ((b : ℕ) → is_in s b ≡ any_in own parent (length parent) b)
    → SetsBehind v parent n old → SetsBehind v parent (suc n) new
more_behind v parent old new n own s added is many all (long, known) = (
  ap (λ (l : List BankSet). length l) added ∙ (one_longer old s ∙ ap suc long),
  λ ss r. (sets_more (step_of v ∷ ss) n old new s added (behind_reached v ss n own s parent is many r all) (long, known ss r)).1,
)

-- what is made of a view behind one whose sets are kept at a place
pub behind_place : (v : ViewMap) (through : List Through) (o : Option ℕ) (place : ℕ) (t : Through) (kept sets : List BankSet) → o ≡ Some place → HasSets v through (Some place) → t ≡ get_or through place t → kept ≡ t.banks
    → (length sets ≡ banks_of v.shape.dims) × ((ss : List WayStep) → ReachedByBanks ss (banks_of v.parent.dims) kept → ReachedByBanks (step_of v ∷ ss) (banks_of v.shape.dims) sets) → MakesSets v through o sets
behind_place v through o place t kept sets is has there same (long, known) =
    subst (λ (x : Option ℕ). MakesSets v through x sets) (sym is)
    (long, λ ss u at r. known ss (subst (λ (l : List BankSet). ReachedByBanks ss (banks_of v.parent.dims) l) (sym (same ∙ ap (λ (x : Through). x.banks) (there ∙ get_or_from_slice_get through place u t at))) r))

pub place_many : (v : ViewMap) (through : List Through) (place : ℕ) (t : Through) (kept : List BankSet) → HasSets v through (Some place) → t ≡ get_or through place t → kept ≡ t.banks → length kept ≡ banks_of v.parent.dims
place_many v through place t kept has there same =
    ap (λ (l : List BankSet). length l) (same ∙ ap (λ (x : Through). x.banks) (there ∙ get_or_from_slice_get through place has.0 t has.1.0)) ∙ has.1.1

pub made_first : (v : ViewMap) (through : List Through) (o : Option ℕ) (sets : List BankSet) → o ≡ None → (length sets ≡ banks_of v.shape.dims) × ReachedByBanks (step_of v ∷ []) (banks_of v.shape.dims) sets → MakesSets v through o sets
made_first v through o sets e h = subst (λ (x : Option ℕ). MakesSets v through x sets) (sym e) h
