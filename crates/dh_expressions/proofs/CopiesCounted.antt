-- Copies that are counted path by path have the places of their definition. What a group carries is bounded by its
-- paths, so that no sum is cut at the greatest number; and groups come one behind the other, so that a new one has no
-- path so far.
use Rattle.std.proofs.Common.{◌≡◌, ℕ, zero, suc, ◌+◌, ◌-◌, ◌^◌, ◌<◌, ◌≤◌, ◌⊎◌, inl, inr, ⊎_elim, Bool, true, false, List, [], refl, sym, ap, ◌∙◌, subst, arith, length}
use Rattle.std.specs.Prelude.{◌/◌, ◌==◌, ◌&&◌, if◌then◌else◌, min, max, slice_get, slice_index, Option, Some, None}
use Rattle.std.proofs.Math.ListN.{get_or-eq_default}
use Rattle.std.proofs.Math.Nat.{div-mul-le_self, le-max_left, le-max_right, le_trans, max-le}
use Rattle.std.proofs.lemmas.Bool.{cases_eq, cases_lt, eq-eqb, eqb-true}
use Rattle.std.proofs.lemmas.Bool.Decides.{nat_tests}
use Rattle.std.proofs.lemmas.Nat.{le-div}
use Rattle.dh_events.specs.Tables.{table_at, with_number}
use Rattle.dh_expressions.specs.declared.paths.Level.{Level}
use Rattle.dh_expressions.specs.declared.tallies.Tally.{Tally}
use Rattle.dh_expressions.specs.Counting.{IsTally, PlacesNextCopy, carried_before, leaders_in, most_in, numbers_in_group, numbers_with, places_by, tally_in, tally_with}
use Rattle.dh_expressions.specs.Levels.{rank_number, rank_to}
use Rattle.dh_expressions.specs.Numbers.{narrowed}

differs : (a b : ℕ) → (a ≡ b → ⊥) → (a == b) ≡ false
differs a b apart = grind (arith, nat_tests)

off_second : (p q : Bool) → q ≡ false → (p && q) ≡ false
off_second true q e = e
off_second false q e = refl

-- Paths in ascending order belong to groups in ascending order.
pub ranks_rise : (levels : List Level) (depth m n : ℕ) → m ≤ n → rank_number levels depth m ≤ rank_number levels depth n
ranks_rise levels depth m n le = by (depth == 0)
  where
    divides : (stride : ℕ) (t : Bool) → (stride == 0) ≡ t → (if t then 0 else m / stride) ≤ (if t then 0 else n / stride)
    divides stride true e = omega arith
    divides stride false e = le-div (m / stride) n stride (grind (arith, nat_tests, e)) (le_trans (div-mul-le_self m stride) le)

    at_level : (o : Option Level) → rank_to o m ≤ rank_to o n
    at_level None = le
    at_level (Some l) = divides l.stride (l.stride == 0) refl

    by : (t : Bool) → (if t then 0 else rank_to (slice_get levels (depth - 1)) m) ≤ (if t then 0 else rank_to (slice_get levels (depth - 1)) n)
    by true = omega arith
    by false = at_level (slice_get levels (depth - 1))

module _ (leader bank group : ℕ → ℕ) where
  abbrev led : (g own n : ℕ) → ℕ
  led g own n = leaders_in leader bank group g own n

  abbrev most : (g n : ℕ) → ℕ
  most g n = most_in leader bank group g n

  abbrev carried : (g n : ℕ) → ℕ
  carried g n = carried_before leader bank group g n

  -- no bank has more leaders than the most
  pub leaders_within : (g own n : ℕ) → leaders_in leader bank group g own n ≤ most_in leader bank group g n
  leaders_within g own zero = omega arith
  leaders_within g own (suc n) = by (leader n == n) (group n == g) (bank n == own) refl (leaders_within g own n)
    where
      below : (l k m : ℕ) → l ≡ k → suc l ≤ max m (suc k)
      below l k m e = subst (λ (x : ℕ). suc x ≤ max m (suc k)) (sym e) (le-max_right m (suc k))

      by : (p q r : Bool) → (bank n == own) ≡ r → led g own n ≤ most g n
          → (if p && (q && r) then suc (led g own n) else led g own n) ≤ (if p && q then max (most g n) (suc (led g (bank n) n)) else most g n)
      by true true true e h = below (led g own n) (led g (bank n) n) (most g n) (ap (λ m. led g m n) (sym (eqb-true (bank n) own e)))
      by true true false e h = le_trans h (le-max_left (most g n) (suc (led g (bank n) n)))
      by true false r e h = h
      by false q r e h = h

  -- a group without paths has no leader
  leaders_none : (g own n : ℕ) → ((m : ℕ) → m < n → group m ≡ g → ⊥) → led g own n ≡ 0
  leaders_none g own zero h = refl
  leaders_none g own (suc n) h = by (leader n == n) (group n == g) refl (leaders_none g own n (λ m w. h m (wider m w)))
    where
      wider : (m : ℕ) → m < n → m < suc n
      wider m w = omega (arith, w)

      last : n < suc n
      last = omega arith

      by : (p q : Bool) → (group n == g) ≡ q → led g own n ≡ 0 → (if p && (q && (bank n == own)) then suc (led g own n) else led g own n) ≡ 0
      by true true e k = absurd (h n last (eqb-true (group n) g e))
      by true false e k = k
      by false q e k = k

  most_none : (g n : ℕ) → ((m : ℕ) → m < n → group m ≡ g → ⊥) → most g n ≡ 0
  most_none g zero h = refl
  most_none g (suc n) h = by (leader n == n) (group n == g) refl (most_none g n (λ m w. h m (wider m w)))
    where
      wider : (m : ℕ) → m < n → m < suc n
      wider m w = omega (arith, w)

      last : n < suc n
      last = omega arith

      by : (p q : Bool) → (group n == g) ≡ q → most g n ≡ 0 → (if p && q then max (most g n) (suc (led g (bank n) n)) else most g n) ≡ 0
      by true true e k = absurd (h n last (eqb-true (group n) g e))
      by true false e k = k
      by false q e k = k

  -- a path of another group changes nothing
  most_same : (g n : ℕ) → (group n ≡ g → ⊥) → most g (suc n) ≡ most g n
  most_same g n other = ap (λ t. if t then max (most g n) (suc (led g (bank n) n)) else most g n) (off_second (leader n == n) (group n == g) (differs (group n) g other))

  most_step : (g n : ℕ) → most g (suc n) ≤ suc (most g n)
  most_step g n = by ((leader n == n) && (group n == g))
    where
      more : (l : ℕ) → l ≤ suc l
      more l = omega arith

      fewer : (l m : ℕ) → l ≤ m → suc l ≤ suc m
      fewer l m h = omega (arith, h)

      by : (t : Bool) → (if t then max (most g n) (suc (led g (bank n) n)) else most g n) ≤ suc (most g n)
      by true = max-le (more (most g n)) (fewer (led g (bank n) n) (most g n) (leaders_within g (bank n) n))
      by false = more (most g n)

  carried_same : (g n : ℕ) → g ≤ group n → carried g (suc n) ≡ carried g n
  carried_same zero n h = refl
  carried_same (suc g) n h =
      ap (λ m. m + most g (suc n)) (carried_same g n (less (group n) h)) ∙ ap (λ m. carried g n + m) (most_same g n (λ e. apart (group n) e h))
    where
      less : (k : ℕ) → suc g ≤ k → g ≤ k
      less k h = omega (arith, h)

      apart : (k : ℕ) → k ≡ g → suc g ≤ k → ⊥
      apart k e h = omega (arith, e, h)

  carried_step : (g n : ℕ) → carried g (suc n) ≤ suc (carried g n)
  carried_step zero n = omega arith
  carried_step (suc g) n = by (cases_eq (group n) g) (carried_step g n)
    where
      own : (c d m k : ℕ) → c ≡ d → m ≤ suc k → c + m ≤ suc (d + k)
      own c d m k e h = omega (arith, e, h)

      others : (c d m k : ℕ) → c ≤ suc d → m ≡ k → c + m ≤ suc (d + k)
      others c d m k h e = omega (arith, e, h)

      least : group n ≡ g → g ≤ group n
      least e = omega (arith, e)

      by : (group n ≡ g) ⊎ (group n ≡ g → ⊥) → carried g (suc n) ≤ suc (carried g n) → carried g (suc n) + most g (suc n) ≤ suc (carried g n + most g n)
      by (inl same) h = own (carried g (suc n)) (carried g n) (most g (suc n)) (most g n) (carried_same g n (least same)) (most_step g n)
      by (inr other) h = others (carried g (suc n)) (carried g n) (most g (suc n)) (most g n) h (most_same g n other)

  carried_none : (g : ℕ) → carried g 0 ≡ 0
  carried_none zero = refl
  carried_none (suc g) = still (carried g 0) (carried_none g)
    where
      still : (c : ℕ) → c ≡ 0 → c + 0 ≡ 0
      still c e = omega (arith, e)

  -- groups carry no more than there are paths
  pub carried_few : (g n : ℕ) → carried_before leader bank group g n ≤ n
  carried_few g zero = none (carried g 0) (carried_none g)
    where
      none : (c : ℕ) → c ≡ 0 → c ≤ 0
      none c e = omega (arith, e)
  carried_few g (suc n) = step (carried g (suc n)) (carried g n) (carried_step g n) (carried_few g n)
    where
      step : (c d : ℕ) → c ≤ suc d → d ≤ n → c ≤ suc n
      step c d s h = omega (arith, s, h)

  -- groups behind all paths so far carry nothing
  carried_on : (h g n : ℕ) → h ≤ g → ((m : ℕ) → m < n → group m < h) → carried g n ≡ carried h n
  carried_on h zero n le low = ap (λ k. carried k n) (least le)
    where
      least : h ≤ 0 → 0 ≡ h
      least le = omega (arith, le)
  carried_on h (suc g) n le low = by (cases_lt h (suc g)) (λ less. carried_on h g n less low)
    where
      within : h < suc g → h ≤ g
      within w = omega (arith, w)

      apart : (k : ℕ) → k < h → h ≤ g → k ≡ g → ⊥
      apart k w l e = omega (arith, w, l, e)

      same : suc g ≤ h → suc g ≡ h
      same past = omega (arith, past, le)

      alone : (c : ℕ) → c + 0 ≡ c
      alone c = omega arith

      by : (h < suc g) ⊎ (suc g ≤ h) → (h ≤ g → carried g n ≡ carried h n) → carried (suc g) n ≡ carried h n
      by (inl less) before =
          ap (λ m. carried g n + m) (most_none g n (λ m w. apart (group m) (low m w) (within less))) ∙ (alone (carried g n) ∙ before (within less))
      by (inr past) before = ap (λ k. carried k n) (same past)

  -- Tallies.

  pub tally_first : (t : Tally) (numbers : List ℕ) → t ≡ record { group = 0; base = 0; most = 0 } → numbers ≡ [] → IsTally leader bank group 0 t numbers
  tally_first t numbers is none = subst (λ (u : Tally). IsTally leader bank group 0 u numbers) (sym is) (record {
    counts = λ own. ap (λ ns. slice_index ns own) none ∙ empty own;
    most_is = refl;
    base_is = refl;
    behind = λ m w. absurd (never m w);
    ahead = λ m w. omega arith;
  })
    where
      empty : (own : ℕ) → slice_index [] own ≡ 0
      empty own = let past : length {A = ℕ} [] ≤ own = omega arith in get_or-eq_default [] 0 past

      never : (m : ℕ) → m < 0 → ⊥
      never m w = omega (arith, w)

  module _ (n : ℕ) (few : n < 2 ^ 64 - 1) (rises : (m k : ℕ) → m ≤ k → group m ≤ group k) where
    -- what is counted as the paths go on to the group of the next one
    pub record Enters (t : Tally) (numbers : List ℕ) : Type 0 where
      pub group_is : t.group ≡ group n
      pub counts : (own : ℕ) → slice_index numbers own ≡ leaders_in leader bank group (group n) own n
      pub most_is : t.most ≡ most_in leader bank group (group n) n
      pub base_is : t.base ≡ carried_before leader bank group (group n) n

    stays : (t : Tally) (numbers : List ℕ) → IsTally leader bank group n t numbers → t.group ≡ group n → Enters t numbers
    stays t numbers h same = record {
      group_is = same;
      counts = λ own. h.counts own ∙ ap (λ g. led g own n) same;
      most_is = h.most_is ∙ ap (λ g. most g n) same;
      base_is = h.base_is ∙ ap (λ g. carried g n) same;
    }

    goes_on : (t : Tally) (numbers : List ℕ) → IsTally leader bank group n t numbers → (t.group ≡ group n → ⊥)
        → Enters (record { group = group n; base = min (t.base + t.most) (2 ^ 64 - 1); most = 0 }) []
    goes_on t numbers h other = record {
      group_is = refl;
      counts = λ own. empty own ∙ sym (leaders_none (group n) own n new);
      most_is = sym (most_none (group n) n new);
      base_is = cut (t.base + t.most) (carried (suc t.group) n) sum (carried_few (suc t.group) n) ∙ sym (carried_on (suc t.group) (group n) n further below);
    }
      where
        empty : (own : ℕ) → slice_index [] own ≡ 0
        empty own = let past : length {A = ℕ} [] ≤ own = omega arith in get_or-eq_default [] 0 past

        before : t.group ≤ group n
        before = h.ahead n (omega arith)

        further : suc t.group ≤ group n
        further = beyond t.group (group n) before other
          where
            beyond : (a b : ℕ) → a ≤ b → (a ≡ b → ⊥) → suc a ≤ b
            beyond a b le apart = ⊎_elim (λ e. absurd (apart e)) (λ o. more a b le o) (cases_eq a b)
              where
                more : (a b : ℕ) → a ≤ b → (a ≡ b → ⊥) → suc a ≤ b
                more a b le o = omega (arith, le, o)

        below : (m : ℕ) → m < n → group m < suc t.group
        below m w = next (group m) t.group (h.behind m w)
          where
            next : (a b : ℕ) → a ≤ b → a < suc b
            next a b le = omega (arith, le)

        new : (m : ℕ) → m < n → group m ≡ group n → ⊥
        new m w e = clash (group m) (group n) t.group (h.behind m w) further e
          where
            clash : (a b c : ℕ) → a ≤ c → suc c ≤ b → a ≡ b → ⊥
            clash a b c le more e = omega (arith, le, more, e)

        sum : t.base + t.most ≡ carried (suc t.group) n
        sum = ap (λ b. b + t.most) h.base_is ∙ ap (λ m. carried t.group n + m) h.most_is

        cut : (s c : ℕ) → s ≡ c → c ≤ n → min s (2 ^ 64 - 1) ≡ c
        cut s c e le = omega (arith, e, le, few)

    pub enters : (t : Tally) (numbers : List ℕ) → IsTally leader bank group n t numbers → Enters (tally_in t (group n)) (numbers_in_group t (group n) numbers)
    enters t numbers h = by (t.group == group n) refl
      where
        apart : (a b : ℕ) → (a == b) ≡ false → a ≡ b → ⊥
        apart a b e same = grind (arith, nat_tests, e, same)

        by : (q : Bool) → (t.group == group n) ≡ q
            → Enters (if q then t else record { group = group n; base = min (t.base + t.most) (2 ^ 64 - 1); most = 0 }) (if q then numbers else [])
        by true e = stays t numbers h (eqb-true t.group (group n) e)
        by false e = goes_on t numbers h (apart t.group (group n) e)

    -- the next path is counted
    module _ (t : Tally) (numbers after : List ℕ) (h : Enters t numbers) where
      abbrev count : ℕ
      count = slice_index numbers (bank n)

      count_is : count ≡ led (group n) (bank n) n
      count_is = h.counts (bank n)

      few_led : led (group n) (bank n) n ≤ n
      few_led = short (led (group n) (bank n) n) (most (group n) n) (carried (group n) n) (carried (suc (group n)) n) (leaders_within (group n) (bank n) n) refl (carried_few (suc (group n)) n)
        where
          short : (l m c s : ℕ) → l ≤ m → s ≡ c + m → s ≤ n → l ≤ n
          short l m c s a e b = omega (arith, a, e, b)

      one_more : min (count + 1) (2 ^ 64 - 1) ≡ suc (led (group n) (bank n) n)
      one_more = cut count (led (group n) (bank n) n) count_is few_led
        where
          cut : (m l : ℕ) → m ≡ l → l ≤ n → min (m + 1) (2 ^ 64 - 1) ≡ suc l
          cut m l e le = omega (arith, e, le, few)

      same_group : (group n == group n) ≡ true
      same_group = eq-eqb (group n) (group n) refl

      -- its leaders, where the path leads or does not
      leaders_now : (own : ℕ) → led (group n) own (suc n) ≡ (if (leader n == n) && (bank n == own) then suc (led (group n) own n) else led (group n) own n)
      leaders_now own = ap (λ t. if (leader n == n) && (t && (bank n == own)) then suc (led (group n) own n) else led (group n) own n) same_group

      most_now : most (group n) (suc n) ≡ (if leader n == n then max (most (group n) n) (suc (led (group n) (bank n) n)) else most (group n) n)
      most_now =
          ap (λ t. if (leader n == n) && t then max (most (group n) n) (suc (led (group n) (bank n) n)) else most (group n) n) same_group
          ∙ ap (λ t. if t then max (most (group n) n) (suc (led (group n) (bank n) n)) else most (group n) n) (whole (leader n == n))
        where
          whole : (p : Bool) → (p && true) ≡ p
          whole true = refl
          whole false = refl

      pub tally_next : (leads : Bool) → (leader n == n) ≡ leads → table_at after ≡ numbers_with numbers leads (bank n) count → IsTally leader bank group (suc n) (tally_with t leads count) after
      tally_next true leads are = record {
        counts = λ own. ap (λ f. f own) are ∙ (at_bank own (bank n == own) refl ∙ sym (counts_to own));
        most_is = ap (λ m. max m (min (count + 1) (2 ^ 64 - 1))) h.most_is ∙ (ap (λ m. max (most (group n) n) m) one_more ∙ (sym (ap (λ t. if t then max (most (group n) n) (suc (led (group n) (bank n) n)) else most (group n) n) leads) ∙ (sym most_now ∙ ap (λ g. most g (suc n)) (sym h.group_is))));
        base_is = h.base_is ∙ (sym (carried_same (group n) n (omega arith)) ∙ ap (λ g. carried g (suc n)) (sym h.group_is));
        behind = λ m w. subst (λ (g : ℕ). group m ≤ g) (sym h.group_is) (rises m n (before m w));
        ahead = λ m w. subst (λ (g : ℕ). g ≤ group m) (sym h.group_is) (rises n m (later m w));
      }
        where
          before : (m : ℕ) → m < suc n → m ≤ n
          before m w = omega (arith, w)

          later : (m : ℕ) → suc n ≤ m → n ≤ m
          later m w = omega (arith, w)

          counts_to : (own : ℕ) → led t.group own (suc n) ≡ (if bank n == own then suc (led (group n) own n) else led (group n) own n)
          counts_to own = ap (λ g. led g own (suc n)) h.group_is ∙ (leaders_now own ∙ ap (λ p. if p && (bank n == own) then suc (led (group n) own n) else led (group n) own n) leads)

          at_bank : (own : ℕ) (q : Bool) → (bank n == own) ≡ q → (if q then min (count + 1) (2 ^ 64 - 1) else table_at numbers own) ≡ (if q then suc (led (group n) own n) else led (group n) own n)
          at_bank own true e = one_more ∙ ap (λ b. suc (led (group n) b n)) (eqb-true (bank n) own e)
          at_bank own false e = h.counts own
      tally_next false leads are = record {
        counts = λ own. ap (λ f. f own) are ∙ (h.counts own ∙ sym (counts_to own));
        most_is = h.most_is ∙ (sym (ap (λ t. if t then max (most (group n) n) (suc (led (group n) (bank n) n)) else most (group n) n) leads) ∙ (sym most_now ∙ ap (λ g. most g (suc n)) (sym h.group_is)));
        base_is = h.base_is ∙ (sym (carried_same (group n) n (omega arith)) ∙ ap (λ g. carried g (suc n)) (sym h.group_is));
        behind = λ m w. subst (λ (g : ℕ). group m ≤ g) (sym h.group_is) (rises m n (before m w));
        ahead = λ m w. subst (λ (g : ℕ). g ≤ group m) (sym h.group_is) (rises n m (later m w));
      }
        where
          before : (m : ℕ) → m < suc n → m ≤ n
          before m w = omega (arith, w)

          later : (m : ℕ) → suc n ≤ m → n ≤ m
          later m w = omega (arith, w)

          counts_to : (own : ℕ) → led t.group own (suc n) ≡ led (group n) own n
          counts_to own = ap (λ g. led g own (suc n)) h.group_is ∙ (leaders_now own ∙ ap (λ p. if p && (bank n == own) then suc (led (group n) own n) else led (group n) own n) leads)

      place_now : (place : ℕ) → place ≡ narrowed (min (count + t.base) (2 ^ 64 - 1)) → place ≡ places_by leader bank group n
      place_now place is = is ∙ (cut (count + t.base) ∙ ap narrowed (ap (λ m. m + t.base) count_is ∙ ap (λ b. led (group n) (bank n) n + b) h.base_is))
        where
          cut : (s : ℕ) → narrowed (min s (2 ^ 64 - 1)) ≡ narrowed s
          cut s = omega arith

    pub record Counts (t : Tally) (numbers : List ℕ) (place : ℕ) : Type 0 where
      pub place_is : place ≡ places_by leader bank group n
      pub tally : IsTally leader bank group (suc n) t numbers

    pub counted_next : (t next : Tally) (numbers after : List ℕ) (place l b g : ℕ) (leads : Bool) → l ≡ leader n → b ≡ bank n → g ≡ group n → leads ≡ (l == n)
        → IsTally leader bank group n t numbers → PlacesNextCopy t g b leads numbers after next place → Counts next after place
    counted_next t next numbers after place l b g leads led_by reached grouped leading h p = record {
      place_is = place_now (tally_in t (group n)) (numbers_in_group t (group n) numbers) after entered place moved.place_is;
      tally = subst (λ (u : Tally). IsTally leader bank group (suc n) u after) (sym moved.next_is)
          (tally_next (tally_in t (group n)) (numbers_in_group t (group n) numbers) after entered leads (sym (leading ∙ ap (λ m. m == n) led_by)) moved.counts);
    }
      where
        entered : Enters (tally_in t (group n)) (numbers_in_group t (group n) numbers)
        entered = enters t numbers h

        moved : PlacesNextCopy t (group n) (bank n) leads numbers after next place
        moved = subst (λ (m : ℕ). PlacesNextCopy t m (bank n) leads numbers after next place) grouped (subst (λ (m : ℕ). PlacesNextCopy t g m leads numbers after next place) reached p)

-- What a copy is counted by.
pub placed_next : (t now next : Tally) (group bank count sum place : ℕ) (leads same : Bool) (numbers kept seen after : List ℕ)
    → same ≡ (t.group == group) → kept ≡ (if same then numbers else []) → now ≡ tally_in t group → seen ≡ kept → count ≡ slice_index seen bank → sum ≡ min (count + now.base) (2 ^ 64 - 1) → place ≡ narrowed sum
    → next ≡ tally_with now leads count → table_at after ≡ (if leads then with_number (table_at kept) bank (min (count + 1) (2 ^ 64 - 1)) else table_at kept) → PlacesNextCopy t group bank leads numbers after next place
placed_next t now next group bank count sum place leads same numbers kept seen after same_is kept_is now_is seen_is count_is sum_is place_is next_is counts_are = record {
  place_is = place_is ∙ ap narrowed (sum_is ∙ (ap (λ m. min (m + now.base) (2 ^ 64 - 1)) counted ∙ ap (λ (u : Tally). min (slice_index (numbers_in_group t group numbers) bank + u.base) (2 ^ 64 - 1)) now_is));
  next_is = next_is ∙ (ap (λ (u : Tally). tally_with u leads count) now_is ∙ ap (λ m. tally_with (tally_in t group) leads m) counted);
  counts = counts_are ∙ (ap (λ m. numbers_with kept leads bank m) counted ∙ ap (λ ns. numbers_with ns leads bank (slice_index (numbers_in_group t group numbers) bank)) held);
}
  where
    held : kept ≡ numbers_in_group t group numbers
    held = kept_is ∙ ap (λ q. if q then numbers else []) same_is

    counted : count ≡ slice_index (numbers_in_group t group numbers) bank
    counted = count_is ∙ ap (λ ns. slice_index ns bank) (seen_is ∙ held)
