-- The walk that takes ports: where it stops, an access takes more of a bank than is left there before it.
use Rattle.std.proofs.Common.{◌≡◌, ℕ, suc, ◌+◌, ◌-◌, ◌<◌, ◌≤◌, ◌==◌, nat_lt, Bool, true, false, if◌then◌else◌, List, [], ◌∷◌, ◌++◌, map, refl, ap, sym, ◌∙◌, subst, arith, ◌⊎◌, inl, inr}
use mathlib.Core.Path.{fun_ext}
use Rattle.std.specs.Prelude.{Option, Some, None, option_map, slice_get}
use Rattle.std.specs.List.{AllByRecursion}
use Rattle.std.proofs.lemmas.Bool.{cases_Bool, eqb-true, eq-eqb, cases_lt}
use Rattle.std.proofs.lemmas.Bool.Decides.{nat_tests}
use Rattle.dh_base.specs.declared.places.Place.{Place}
use Rattle.dh_tree.specs.declared.trees.counters.Counter.{Counter}
use Rattle.dh_tree.specs.Kinds.{place_of as term_place}
use Rattle.dh_tree.specs.PlainTrees.{Term, term, Program}
use Rattle.dh_events.specs.declared.events.Site.{Site}
use Rattle.dh_ports.specs.declared.levels.Step.{Step}
use Rattle.dh_ports.specs.declared.moves.Move.{Move}
use Rattle.dh_ports.specs.declared.moves.Move.TheVariants as move
use Rattle.dh_ports.specs.Claims.{access_of, claims_of, moves_from}
use Rattle.dh_ports.specs.Courses.{access_count, less, before_at}
use Rattle.dh_ports.specs.Expanded.{level_behind, all_taken, AreTaking}
use Rattle.dh_events.specs.Incidents.{PortEvent, touches, assigned, arm_begins, arm_ends, begins, next, ends}
use Rattle.dh_ports.specs.Levels.{Level, slot_level, taken, begun, kept_back, settled_slot_level, left_before_each}
use Rattle.dh_ports.specs.Scanned.{flag_at, spending_step, maybe_event_place, first_beyond}
use Rattle.dh_ports.specs.Wholes.{Touched, touched}
use Rattle.dh_ports.proofs.ExpandedTies.{steps_taken}
use Rattle.dh_ports.proofs.ClaimedBanks.{IsClaimOf, all_claims}
use Rattle.dh_ports.proofs.AccessClaims.{Follows, follow_here, follow_next, nth_claims, claim_lists}

absurd : {A : Type 0} → ⊥ → A
absurd e = elim e [ ]

-- one access takes of a slot
module _ (slot t other : ℕ) (l : Level) (rest : ℕ) where
  own_slot : other ≡ slot → t + rest ≡ (if slot == other then t else 0) + rest
  own_slot e = sym (ap (λ b. (if b then t else 0) + rest) (eq-eqb slot other (sym e)))

  -- what is taken together is more than is left, if the rest is more than is left behind the first
  over_behind : (taken slot t other l).now < rest → l.now < (if slot == other then t else 0) + rest
  over_behind = by_test (slot == other)
    where
      more : (n t r : ℕ) → n - t < r → n < t + r
      more n t r e = omega (arith, e)

      none : (n r : ℕ) → n < r → n < 0 + r
      none n r e = omega (arith, e)

      by_test : (b : Bool) → (if b then slot_level (l.now - t) l.base l.low l.outer else l).now < rest → l.now < (if b then t else 0) + rest
      by_test true e = more l.now t rest e
      by_test false e = none l.now rest e

  -- and fits where the first and the rest do
  fits_behind : (other ≡ slot → t ≤ l.now) → rest ≤ (taken slot t other l).now → (if slot == other then t else 0) + rest ≤ l.now
  fits_behind = by_test (cases_Bool (slot == other))
    where
      more : (n t r : ℕ) → t ≤ n → r ≤ n - t → t + r ≤ n
      more n t r e f = omega (arith, e, f)

      none : (n r : ℕ) → r ≤ n → 0 + r ≤ n
      none n r e = omega (arith, e)

      by_test : ((slot == other) ≡ true) ⊎ ((slot == other) ≡ false) → (other ≡ slot → t ≤ l.now) → rest ≤ (taken slot t other l).now → (if slot == other then t else 0) + rest ≤ l.now
      by_test (inl e) f g =
          subst (λ (b : Bool). (if b then t else 0) + rest ≤ l.now) (sym e) (more l.now t rest (f (sym (eqb-true slot other e))) (subst (λ (b : Bool). rest ≤ (if b then slot_level (l.now - t) l.base l.low l.outer else l).now) e g))
      by_test (inr e) f g =
          subst (λ (b : Bool). (if b then t else 0) + rest ≤ l.now) (sym e) (none l.now rest (subst (λ (b : Bool). rest ≤ (if b then slot_level (l.now - t) l.base l.low l.outer else l).now) e g))

-- steps take more of a slot than is left, or no more of any
abbrev Over : (ℕ → Level) → List Step → Type 0
Over levels ss = (slot : ℕ) × ((levels slot).now < all_taken slot ss)

abbrev Fits : (ℕ → Level) → List Step → Type 0
Fits levels ss = (slot : ℕ) → all_taken slot ss ≤ (levels slot).now

module _ (flags : List Bool) (whole : List PortEvent) where
  abbrev step_of : Move → Step
  step_of m = spending_step flags m

  abbrev scan : (ℕ → Level) → List Move → Option Place
  scan levels ms = first_beyond whole ms (map step_of ms) (left_before_each levels (map step_of ms))

  abbrev behind : (ℕ → Level) → List Move → ℕ → Level
  behind levels ms slot = level_behind slot (levels slot) (map step_of ms)

  -- the claims of one access
  abbrev Scans : (event : ℕ) → (ℕ → Level) → (ms rest : List Move) → Type 0
  Scans event levels ms rest =
      ((scan levels (ms ++ rest) ≡ maybe_event_place (slice_get whole event)) × Over levels (map step_of ms))
      ⊎ ((scan levels (ms ++ rest) ≡ scan (behind levels ms) rest) × Fits levels (map step_of ms))

  abbrev taken_at : (event keys : ℕ) → ℕ
  taken_at event keys = if flag_at (slice_get flags event) then 0 else keys

  beyond : (n t r : ℕ) → nat_lt n t ≡ true → n < t + r
  beyond n t r e = let f = less_by n t e in more n t r f
    where
      less_by : (n t : ℕ) → nat_lt n t ≡ true → n < t
      less_by n t e = grind (arith, nat_tests)

      more : (n t r : ℕ) → n < t → n < t + r
      more n t r e = omega (arith, e)

  within : (n t : ℕ) → nat_lt n t ≡ false → t ≤ n
  within n t e = grind (arith, nat_tests)

  by_claim : (event e slot keys : ℕ) (ms rest : List Move) (levels : ℕ → Level) → e ≡ event → (nat_lt (levels slot).now (taken_at e keys) ≡ true) ⊎ (nat_lt (levels slot).now (taken_at e keys) ≡ false)
      → Scans event (λ other. taken slot (taken_at e keys) other (levels other)) ms rest → Scans event levels (move.Claim e slot keys ∷ ms) rest
  by_claim event e slot keys ms rest levels same_event (inl f) r = inl (
    ap (λ b. if b then maybe_event_place (slice_get whole e) else scan (λ other. taken slot (taken_at e keys) other (levels other)) (ms ++ rest)) f ∙ ap (λ n. maybe_event_place (slice_get whole n)) same_event,
    (slot, subst (λ (n : ℕ). (levels slot).now < n) (own_slot slot (taken_at e keys) slot (levels slot) (all_taken slot (map step_of ms)) refl) (beyond (levels slot).now (taken_at e keys) (all_taken slot (map step_of ms)) f)),
  )
  by_claim event e slot keys ms rest levels same_event (inr f) (inl (same, (other, over))) = inl (
    ap (λ b. if b then maybe_event_place (slice_get whole e) else scan (λ other. taken slot (taken_at e keys) other (levels other)) (ms ++ rest)) f ∙ same,
    (other, over_behind slot (taken_at e keys) other (levels other) (all_taken other (map step_of ms)) over),
  )
  by_claim event e slot keys ms rest levels same_event (inr f) (inr (same, fits)) = inr (
    ap (λ b. if b then maybe_event_place (slice_get whole e) else scan (λ other. taken slot (taken_at e keys) other (levels other)) (ms ++ rest)) f ∙ same,
    λ other. fits_behind slot (taken_at e keys) other (levels other) (all_taken other (map step_of ms)) (λ z. within_at other z) (fits other),
  )
    where
      within_at : (other : ℕ) → other ≡ slot → taken_at e keys ≤ (levels other).now
      within_at other z = subst (λ (n : ℕ). taken_at e keys ≤ (levels n).now) (sym z) (within (levels slot).now (taken_at e keys) f)

  claims_scan : (event : ℕ) (ms rest : List Move) (levels : ℕ → Level) → AllByRecursion (IsClaimOf event) ms → Scans event levels ms rest
  claims_scan event [] rest levels h = inr (refl, λ slot. least (levels slot).now)
    where
      least : (n : ℕ) → 0 ≤ n
      least n = omega arith
  claims_scan event (move.Claim e slot keys ∷ ms) rest levels h =
      by_claim event e slot keys ms rest levels h.0 (cases_Bool (nat_lt (levels slot).now (taken_at e keys))) (claims_scan event ms rest (λ other. taken slot (taken_at e keys) other (levels other)) h.1)
  claims_scan event (move.Begin ∷ ms) rest levels h = absurd h.0
  claims_scan event (move.Next ∷ ms) rest levels h = absurd h.0
  claims_scan event (move.End ∷ ms) rest levels h = absurd h.0

  taking : (event : ℕ) (ms : List Move) → AllByRecursion (IsClaimOf event) ms → AreTaking (map step_of ms)
  taking event [] h = tt
  taking event (move.Claim e slot keys ∷ ms) h = (tt, taking event ms h.1)
  taking event (move.Begin ∷ ms) h = absurd h.0
  taking event (move.Next ∷ ms) h = absurd h.0
  taking event (move.End ∷ ms) h = absurd h.0

  module _ (p : Program) (loops : Option ℕ → List Counter) (f : ℕ → List Step) where
    -- what an access takes of a slot
    abbrev pub takes_of : (slot k : ℕ) → ℕ
    takes_of slot k = all_taken slot (f k)

    abbrev pub left_of : (n : ℕ) → (ℕ → Level) → List PortEvent → (slot k : ℕ) → ℕ
    left_of n levels xs slot k = before_at (takes_of slot) n (levels slot) xs k

    -- the steps of accesses from a first number on are those of these incidents
    abbrev pub Lined : (n event : ℕ) → List PortEvent → Type 0
    Lined n event xs = (j : ℕ) → f (n + j) ≡ map step_of (nth_claims (claim_lists p loops event xs) j)

    -- an access that takes more than is left, and none before it
    pub record FirstOver (left : (slot k : ℕ) → ℕ) (n : ℕ) (ts : List Touched) (place : Place) : Type 0 where
      pub number : ℕ
      pub behind : ℕ
      pub is : number ≡ n + behind
      pub slot : ℕ
      pub beyond : left slot number < takes_of slot number
      pub stands : option_map (λ (t : Touched). t.place) (slice_get ts behind) ≡ Some place
      pub first : (x other : ℕ) → n ≤ x → x < number → takes_of other x ≤ left other x

    abbrev pub Stops : (left : (slot k : ℕ) → ℕ) → (n count : ℕ) → List Touched → Option Place → Type 0
    Stops left n count ts None = (x other : ℕ) → n ≤ x → x < n + count → takes_of other x ≤ left other x
    Stops left n count ts (Some place) = FirstOver left n ts place

    abbrev Walked : (n : ℕ) → (ℕ → Level) → List PortEvent → Option Place → Type 0
    Walked n levels xs o = Stops (left_of n levels xs) n (access_count xs) (touched xs) o

    -- an access, and what comes behind it
    module _ (n : ℕ) (levels : ℕ → Level) (t : Term) (w : Bool) (site : Site) (xs : List PortEvent) where
      pub left_here : (slot : ℕ) → left_of n levels (touches t w site ∷ xs) slot n ≡ (levels slot).now
      left_here slot = ap (λ b. if b then (levels slot).now else before_at (takes_of slot) (suc n) (less (takes_of slot n) (levels slot)) xs n) (eq-eqb n n refl)

      pub left_later : (slot k : ℕ) → suc n ≤ k → left_of n levels (touches t w site ∷ xs) slot k ≡ left_of (suc n) (λ slot. less (takes_of slot n) (levels slot)) xs slot k
      left_later slot k e = by_test (cases_Bool (n == k))
        where
          apart : (n k : ℕ) → suc n ≤ k → n ≡ k → ⊥
          apart n k e f = omega (arith, e, f)

          by_test : ((n == k) ≡ true) ⊎ ((n == k) ≡ false) → left_of n levels (touches t w site ∷ xs) slot k ≡ left_of (suc n) (λ slot. less (takes_of slot n) (levels slot)) xs slot k
          by_test (inl f) = absurd (apart n k e (eqb-true n k f))
          by_test (inr f) = ap (λ b. if b then (levels slot).now else before_at (takes_of slot) (suc n) (less (takes_of slot n) (levels slot)) xs k) f

      module _ (fits : (slot : ℕ) → takes_of slot n ≤ (levels slot).now) where
        each_fits : (last : ℕ) → ((x other : ℕ) → suc n ≤ x → x < last → takes_of other x ≤ left_of (suc n) (λ slot. less (takes_of slot n) (levels slot)) xs other x) → (x other : ℕ) → n ≤ x → x < last → takes_of other x ≤ left_of n levels (touches t w site ∷ xs) other x
        each_fits last rest x other e f = elim (cases_lt n x) [
          | inl more ↦ subst (λ (m : ℕ). takes_of other x ≤ m) (sym (left_later other x more)) (rest x other more f)
          | inr none ↦
              let same : n ≡ x = equal n x e none in
              subst (λ (m : ℕ). takes_of other m ≤ left_of n levels (touches t w site ∷ xs) other m) same (subst (λ (m : ℕ). takes_of other n ≤ m) (sym (left_here other)) (fits other))
        ]
          where
            equal : (n x : ℕ) → n ≤ x → x ≤ n → n ≡ x
            equal n x e f = omega (arith, e, f)

        pub later : (o : Option Place) → Walked (suc n) (λ slot. less (takes_of slot n) (levels slot)) xs o → Walked n levels (touches t w site ∷ xs) o
        later None r = λ x other e f. each_fits (suc n + access_count xs) r x other e (subst (λ (m : ℕ). x < m) (shift n (access_count xs)) f)
          where
            shift : (n m : ℕ) → n + suc m ≡ suc n + m
            shift n m = omega arith
        later (Some place) r = record {
          number = r.number;
          behind = suc r.behind;
          is = r.is ∙ shift n r.behind;
          slot = r.slot;
          beyond = subst (λ (m : ℕ). m < takes_of r.slot r.number) (sym (left_later r.slot r.number (subst (λ (m : ℕ). suc n ≤ m) (sym r.is) (more n r.behind)))) r.beyond;
          stands = r.stands;
          first = each_fits r.number r.first;
        }
          where
            shift : (n m : ℕ) → suc n + m ≡ n + suc m
            shift n m = omega arith

            more : (n m : ℕ) → suc n ≤ suc n + m
            more n m = omega arith

    abbrev own_claims : (event : ℕ) → Term → Bool → Site → List Move
    own_claims event t w site = claims_of p event (access_of (loops site.round) w t)

    module _ (n event : ℕ) (levels : ℕ → Level) (t : Term) (w : Bool) (site : Site) (xs : List PortEvent) (lined : Lined n event (touches t w site ∷ xs)) (follows : Follows (touches t w site ∷ xs) whole event) where
      none_more : (n : ℕ) → n + 0 ≡ n
      none_more n = omega arith

      steps : f n ≡ map step_of (own_claims event t w site)
      steps = ap f (sym (none_more n)) ∙ lined 0

      level_is : (slot : ℕ) → behind levels (own_claims event t w site) slot ≡ less (takes_of slot n) (levels slot)
      level_is slot = steps_taken slot (map step_of (own_claims event t w site)) (levels slot) (taking event (own_claims event t w site) (all_claims p event (access_of (loops site.round) w t))) ∙ ap (λ ss. less (all_taken slot ss) (levels slot)) (sym steps)

      levels_are : ◌≡◌ {A = ℕ → Level} (behind levels (own_claims event t w site)) (λ slot. less (takes_of slot n) (levels slot))
      levels_are = fun_ext level_is

      here : maybe_event_place (slice_get whole event) ≡ Some (term_place t)
      here = ap maybe_event_place (follow_here _ xs whole event follows)

      place_is : (t : Term) → option_map (λ (t : Touched). t.place) (slice_get (touched (touches t w site ∷ xs)) 0) ≡ Some (term_place t)
      place_is (term place kind form) = refl

      not_before : (n x : ℕ) → n ≤ x → x < n → ⊥
      not_before n x a b = omega (arith, a, b)

      touch_walk : Scans event levels (own_claims event t w site) (moves_from p loops (event + 1) xs) → Walked (suc n) (λ slot. less (takes_of slot n) (levels slot)) xs (scan (λ slot. less (takes_of slot n) (levels slot)) (moves_from p loops (event + 1) xs))
          → Walked n levels (touches t w site ∷ xs) (scan levels (own_claims event t w site ++ moves_from p loops (event + 1) xs))
      touch_walk (inl (e, (slot, over))) rest = subst (λ (o : Option Place). Walked n levels (touches t w site ∷ xs) o) (sym (e ∙ here)) (record {
        number = n;
        behind = 0;
        is = sym (none_more n);
        slot = slot;
        beyond = subst (λ (m : ℕ). m < takes_of slot n) (sym (left_here n levels t w site xs slot)) (subst (λ (ss : List Step). (levels slot).now < all_taken slot ss) (sym steps) over);
        stands = place_is t;
        first = λ x other a b. absurd (not_before n x a b);
      })
      touch_walk (inr (e, fits)) rest = subst (λ (o : Option Place). Walked n levels (touches t w site ∷ xs) o) (sym e)
          (later n levels t w site xs (λ slot. subst (λ (ss : List Step). all_taken slot ss ≤ (levels slot).now) (sym steps) (fits slot)) _
          (subst (λ (ls : ℕ → Level). Walked (suc n) (λ slot. less (takes_of slot n) (levels slot)) xs (scan ls (moves_from p loops (event + 1) xs))) (sym levels_are) rest))

    pub walk : (n event : ℕ) (levels : ℕ → Level) (xs : List PortEvent) → Lined n event xs → Follows xs whole event → Walked n levels xs (scan levels (moves_from p loops event xs))
    walk n event levels [] lined follows = λ x other e f. absurd (none n x e f)
      where
        none : (n x : ℕ) → n ≤ x → x < n + 0 → ⊥
        none n x e f = omega (arith, e, f)
    walk n event levels (touches t w site ∷ xs) lined follows =
        touch_walk n event levels t w site xs lined follows (claims_scan event (own_claims event t w site) (moves_from p loops (event + 1) xs) levels (all_claims p event (access_of (loops site.round) w t)))
        (walk (suc n) (event + 1) (λ slot. less (takes_of slot n) (levels slot)) xs (λ j. ap f (shift n j) ∙ lined (suc j)) (follow_next _ xs whole event follows))
      where
        shift : (n j : ℕ) → suc n + j ≡ n + suc j
        shift n j = omega arith
    walk n event levels (assigned entity ∷ xs) lined follows = walk n (event + 1) levels xs lined (follow_next _ xs whole event follows)
    walk n event levels (arm_begins ∷ xs) lined follows = walk n (event + 1) levels xs lined (follow_next _ xs whole event follows)
    walk n event levels (arm_ends ∷ xs) lined follows = walk n (event + 1) levels xs lined (follow_next _ xs whole event follows)
    walk n event levels (begins ∷ xs) lined follows = walk n (event + 1) (λ slot. begun (levels slot)) xs lined (follow_next _ xs whole event follows)
    walk n event levels (next ∷ xs) lined follows = walk n (event + 1) (λ slot. kept_back (levels slot)) xs lined (follow_next _ xs whole event follows)
    walk n event levels (ends ∷ xs) lined follows = walk n (event + 1) (λ slot. settled_slot_level (kept_back (levels slot))) xs lined (follow_next _ xs whole event follows)
