-- The least clock of an operation. At the clock from which all is there a chain may be too long; at any later one
-- nothing that is taken is of the same clock, so a chain ends there with one operator at most. So the walk starts at
-- that clock or the next, and goes over clocks without room alone; and clocks before its start are too early, or
-- have too long a chain.
use Rattle.std.proofs.Common.{◌≡◌, ℕ, zero, suc, ◌+◌, ◌*◌, ◌-◌, ◌<◌, ◌≤◌, ◌⊎◌, inl, inr, Bool, true, false, Some, None, List, length, get_or, map, refl, sym, ap, subst, ◌∙◌, arith}
use Rattle.std.specs.Prelude.{[], ◌∷◌, ◌++◌, ◌==◌, ◌&&◌, if◌then◌else◌, Option, slice_get}
use Rattle.std.proofs.lemmas.Bool.Decides.{nat_tests}
use Rattle.dh_plan.specs.declared.operations.Operation.{Operation}
use Rattle.dh_plan.specs.declared.schedules.Limits.{Limits}
use Rattle.dh_plan.specs.LegalSchedules.{is_read, is_operator, is_product, there_from, value_clock, greatest_number, needed_clock, depth_taken, depth_at, depths_in, products_at, IsWithin, MayStandAt}
use Rattle.dh_plan.specs.Ordered.{operation_takes}
use Rattle.dh_sched.specs.FullClocks.{Fills}
use Rattle.dh_sched.specs.LeastBlocks.{Unchains, IsLeastClock, AreScheduled, AreDepths, AreCounts}

pub less_or_not : (a b : ℕ) → (a < b) ⊎ (b ≤ a)
less_or_not a b = grind arith

pub same_or_not : (a b : ℕ) → (a ≡ b) ⊎ (a ≡ b → ⊥)
same_or_not a b = grind arith

pub equal_itself : (x : ℕ) → (x == x) ≡ true
equal_itself x = grind (arith, nat_tests)

pub not_equal : (x y : ℕ) → (x ≡ y → ⊥) → (x == y) ≡ false
not_equal x y differ = grind (arith, nat_tests)

-- The greatest of numbers.

pub greatest_low : (f : ℕ → ℕ) (bound : ℕ) → ((n : ℕ) → f n ≤ bound) → (ns : List ℕ) → greatest_number (map f ns) ≤ bound
greatest_low f bound low [] = omega arith
greatest_low f bound low (n ∷ ns) =
    let x = low n in
    let y = greatest_low f bound low ns in
    omega (arith, x, y)

pub none_deep : (f g : ℕ → ℕ) (later : ℕ) → ((n : ℕ) → g n < later → f n ≡ 0) → (ns : List ℕ) → greatest_number (map g ns) < later → greatest_number (map f ns) ≡ 0
none_deep f g later none [] h = refl
none_deep f g later none (n ∷ ns) h =
    let x = none n (omega (arith, h)) in
    let y = none_deep f g later none ns (omega (arith, h)) in
    omega (arith, x, y)

-- When values are there.

there_low : (b : Bool) (clock : ℕ) → (if b then suc clock else clock) ≤ clock + 1
there_low true clock = omega arith
there_low false clock = omega arith

there_late : (b : Bool) (clock : ℕ) → clock ≤ (if b then suc clock else clock)
there_late true clock = omega arith
there_late false clock = omega arith

from_low : (o : Option Operation) (clock : ℕ) → there_from o clock ≤ clock + 1
from_low None clock = omega arith
from_low (Some o) clock = there_low (is_read o.form) clock

from_late : (o : Option Operation) (clock : ℕ) → clock ≤ there_from o clock
from_late None clock = omega arith
from_late (Some o) clock = there_late (is_read o.form) clock

pub needed_low : (first bound : ℕ) (os : List Operation) (cs : List ℕ) (o : Operation) → ((k : ℕ) → get_or cs k 0 ≤ bound) → needed_clock first os cs o ≤ bound + 1
needed_low first bound os cs o low =
    greatest_low (value_clock first os cs) (bound + 1)
    (λ n. (let x = from_low (slice_get os (n - first)) (get_or cs (n - first) 0) in let y = low (n - first) in omega (arith, x, y))) (operation_takes o)

-- Chains.

not_deep : (b : Bool) (n : ℕ) → b ≡ false → (if b then n else 0) ≡ 0
not_deep true n e = absurd (cc)
not_deep false n e = refl

pub nothing_taken : (first later : ℕ) (os : List Operation) (cs ds : List ℕ) (n : ℕ) → value_clock first os cs n < later → depth_taken first later cs ds n ≡ 0
nothing_taken first later os cs ds n h =
    let x = from_late (slice_get os (n - first)) (get_or cs (n - first) 0) in
    not_deep (get_or cs (n - first) 0 == later) (get_or ds (n - first) 0) (not_equal (get_or cs (n - first) 0) later (λ e. omega (arith, x, h, e)))

one_deep : (b : Bool) (n : ℕ) → n ≡ 0 → (if b then suc n else n) ≤ 1
one_deep true n e = omega (arith, e)
one_deep false n e = omega (arith, e)

one_is_within : (limit n : ℕ) → n ≤ 1 → IsWithin limit n
one_is_within zero n h = tt
one_is_within (suc limit) n h = let so : n ≤ suc limit = omega (arith, h) in so

-- later than all is there, no chain is too long
pub late_chain : (limit first later : ℕ) (os : List Operation) (cs ds : List ℕ) (o : Operation) → needed_clock first os cs o < later → IsWithin limit (depth_at first later cs ds o)
late_chain limit first later os cs ds o h =
    one_is_within limit (depth_at first later cs ds o)
    (one_deep (is_operator o.form) (greatest_number (map (depth_taken first later cs ds) (operation_takes o)))
    (none_deep (depth_taken first later cs ds) (value_clock first os cs) later (nothing_taken first later os cs ds) (operation_takes o) h))

-- without a limit any depth will do
pub unchains_told : (limit d e needed start : ℕ) → (1 ≤ limit → d ≡ e) → Unchains limit d needed start → Unchains limit e needed start
unchains_told zero d e needed start same h = h
unchains_told (suc limit) d e needed start same h = subst (λ (x : ℕ). Unchains (suc limit) x needed start) (same (omega arith)) h

-- Multiplications.

swapped : (b x : Bool) (n : ℕ) → (if b then suc (if x then suc n else n) else (if x then suc n else n)) ≡ (if x then suc (if b then suc n else n) else (if b then suc n else n))
swapped true true n = refl
swapped true false n = refl
swapped false true n = refl
swapped false false n = refl

-- one more operation is one more multiplication at its clock, or none
pub products_more : (clock : ℕ) (o : Operation) (c : ℕ) (os : List Operation) (cs : List ℕ) → length cs ≡ length os
    → products_at clock (os ++ o ∷ []) (cs ++ c ∷ []) ≡ (if is_product o.form && (c == clock) then suc (products_at clock os cs) else products_at clock os cs)
products_more clock o c [] [] long = refl
products_more clock o c [] (d ∷ cs) long = absurd (omega (arith, long))
products_more clock o c (p ∷ os) [] long = absurd (omega (arith, long))
products_more clock o c (p ∷ os) (d ∷ cs) long =
    ap (λ (n : ℕ). if is_product p.form && (d == clock) then suc n else n) (products_more clock o c os cs (omega (arith, long)))
    ∙ swapped (is_product p.form && (d == clock)) (is_product o.form && (c == clock)) (products_at clock os cs)

-- an operation may stand here, as far as multiplications go, and not at clocks between a start and here
abbrev pub RoomFrom : (limit : ℕ) → List Operation → List ℕ → Operation → (start clock : ℕ) → Type 0
RoomFrom limit os cs o start clock =
    IsWithin limit (products_at clock (os ++ o ∷ []) (cs ++ clock ∷ []))
    × ((earlier : ℕ) → start ≤ earlier → earlier < clock → IsWithin limit (products_at earlier (os ++ o ∷ []) (cs ++ earlier ∷ [])) → ⊥)

at_itself : (b : Bool) (c n : ℕ) → b ≡ true → (if b && (c == c) then suc n else n) ≡ suc n
at_itself true c n e = ap (λ (x : Bool). if x then suc n else n) (equal_itself c)
at_itself false c n e = absurd (cc)

no_product : (b x : Bool) (n : ℕ) → b ≡ false → (if b && x then suc n else n) ≡ n
no_product true x n e = absurd (cc)
no_product false x n e = refl

room_by : (b : Bool) (limit : ℕ) (os : List Operation) (cs : List ℕ) (o : Operation) (start clock : ℕ) (counts after ways : List ℕ) → is_product o.form ≡ b
    → length cs ≡ length os → Fills (suc limit) (is_product o.form) start clock counts after ways
    → ((k : ℕ) → get_or counts k 0 ≡ products_at k os cs) → ((k : ℕ) → products_at k os cs ≤ suc limit) → RoomFrom (suc limit) os cs o start clock
room_by true limit os cs o start clock counts after ways is long fills told few =
    let found = fills.room (omega arith) is in (
      (let a = products_more clock o clock os cs long ∙ at_itself (is_product o.form) clock (products_at clock os cs) is in
          let b = found.room in
          let t = told clock in
          let so : products_at clock (os ++ o ∷ []) (cs ++ clock ∷ []) ≤ suc limit = omega (arith, a, b, t) in
          so),
      λ earlier from below within.
          let a = products_more earlier o earlier os cs long ∙ at_itself (is_product o.form) earlier (products_at earlier os cs) is in
          let b = found.full earlier from below in
          let t = told earlier in
          omega (arith, a, b, t, within),
    )
room_by false limit os cs o start clock counts after ways is long fills told few =
    let stays = fills.still (λ e. (let x : true ≡ false = sym e ∙ is in cc)) in (
      (let a = products_more clock o clock os cs long ∙ no_product (is_product o.form) (clock == clock) (products_at clock os cs) is in
          let b = few clock in
          let so : products_at clock (os ++ o ∷ []) (cs ++ clock ∷ []) ≤ suc limit = omega (arith, a, b) in
          so),
      λ earlier from below within. omega (arith, stays, from, below),
    )

pub room_from : (limit : ℕ) (os : List Operation) (cs : List ℕ) (o : Operation) (start clock : ℕ) (counts after ways : List ℕ)
    → length cs ≡ length os → Fills limit (is_product o.form) start clock counts after ways
    → (1 ≤ limit → (k : ℕ) → get_or counts k 0 ≡ products_at k os cs) → ((k : ℕ) → IsWithin limit (products_at k os cs)) → RoomFrom limit os cs o start clock
room_from zero os cs o start clock counts after ways long fills told few = (tt, λ earlier from below within. (let stays = fills.unlimited refl in omega (arith, stays, from, below)))
room_from (suc limit) os cs o start clock counts after ways long fills told few =
    room_by (is_product o.form) limit os cs o start clock counts after ways refl long fills (told (omega arith)) few

-- The least clock.

chain_here : (limits : Limits) (first : ℕ) (os : List Operation) (cs : List ℕ) (o : Operation) (start clock : ℕ)
    → Unchains limits.chain (depth_at first (needed_clock first os cs o) cs (depths_in first os cs) o) (needed_clock first os cs o) start
    → start ≤ clock → (needed_clock first os cs o < clock) ⊎ (clock ≤ needed_clock first os cs o)
    → IsWithin limits.chain (depth_at first clock cs (depths_in first os cs) o)
chain_here limits first os cs o start clock u later (inl less) = late_chain limits.chain first clock os cs (depths_in first os cs) o less
chain_here limits first os cs o start clock (inl stays) later (inr most) =
    let e = stays.0 in
    let same : needed_clock first os cs o ≡ clock = omega (arith, e, later, most) in
    subst (λ (k : ℕ). IsWithin limits.chain (depth_at first k cs (depths_in first os cs) o)) same stays.1
chain_here limits first os cs o start clock (inr moves) later (inr most) = absurd (let e = moves.0 in omega (arith, e, later, most))

starts_late : (needed start : ℕ) (limit d : ℕ) → Unchains limit d needed start → needed ≤ start
starts_late needed start limit d (inl stays) = let e = stays.0 in omega (arith, e)
starts_late needed start limit d (inr moves) = let e = moves.0 in omega (arith, e)

pub starts_early : (needed start : ℕ) (limit d : ℕ) → Unchains limit d needed start → start ≤ needed + 1
starts_early needed start limit d (inl stays) = let e = stays.0 in omega (arith, e)
starts_early needed start limit d (inr moves) = let e = moves.0 in omega (arith, e)

-- a clock before the start has too long a chain, or all is not there yet
too_early : (limits : Limits) (first : ℕ) (os : List Operation) (cs : List ℕ) (o : Operation) (start earlier : ℕ)
    → Unchains limits.chain (depth_at first (needed_clock first os cs o) cs (depths_in first os cs) o) (needed_clock first os cs o) start
    → earlier < start → MayStandAt limits first os cs o earlier → ⊥
too_early limits first os cs o start earlier (inl stays) before may = let e = stays.0 in let n = may.needs in omega (arith, e, n, before)
too_early limits first os cs o start earlier (inr moves) before may =
    let e = moves.0 in
    let n = may.needs in
    let same : earlier ≡ needed_clock first os cs o = omega (arith, e, n, before) in
    moves.1 (subst (λ (k : ℕ). IsWithin limits.chain (depth_at first k cs (depths_in first os cs) o)) same may.chain)

none_earlier : (limits : Limits) (first : ℕ) (os : List Operation) (cs : List ℕ) (o : Operation) (start clock earlier : ℕ)
    → Unchains limits.chain (depth_at first (needed_clock first os cs o) cs (depths_in first os cs) o) (needed_clock first os cs o) start
    → RoomFrom limits.multipliers os cs o start clock → MayStandAt limits first os cs o earlier
    → (earlier < clock) ⊎ (clock ≤ earlier) → (earlier < start) ⊎ (start ≤ earlier) → clock ≤ earlier
none_earlier limits first os cs o start clock earlier u room may (inr late) place = late
none_earlier limits first os cs o start clock earlier u room may (inl before) (inl small) = absurd (too_early limits first os cs o start earlier u small may)
none_earlier limits first os cs o start clock earlier u room may (inl before) (inr from) = absurd (room.1 earlier from before may.products)

pub stands : (limits : Limits) (first : ℕ) (os : List Operation) (cs : List ℕ) (o : Operation) (start clock : ℕ)
    → Unchains limits.chain (depth_at first (needed_clock first os cs o) cs (depths_in first os cs) o) (needed_clock first os cs o) start
    → start ≤ clock → RoomFrom limits.multipliers os cs o start clock → IsLeastClock limits first os cs o clock
stands limits first os cs o start clock u later room = (
  record {
    needs = let e = starts_late (needed_clock first os cs o) start limits.chain (depth_at first (needed_clock first os cs o) cs (depths_in first os cs) o) u in omega (arith, e, later);
    products = room.0;
    chain = chain_here limits first os cs o start clock u later (less_or_not (needed_clock first os cs o) clock);
  },
  λ earlier may. none_earlier limits first os cs o start clock earlier u room may (less_or_not earlier clock) (less_or_not earlier start),
)

-- What the walk finds.

needed_is : (first : ℕ) (os : List Operation) (cs taken : List ℕ) (o : Operation) (needed : ℕ) → needed ≡ greatest_number (map (value_clock first os cs) taken) → taken ≡ operation_takes o
    → needed ≡ needed_clock first os cs o
needed_is first os cs taken o needed is takes = is ∙ ap (λ (ns : List ℕ). greatest_number (map (value_clock first os cs) ns)) takes

pub needed_below : (limits : Limits) (first : ℕ) (os : List Operation) (cs taken : List ℕ) (o : Operation) (needed : ℕ) → needed ≡ greatest_number (map (value_clock first os cs) taken)
    → taken ≡ operation_takes o → AreScheduled limits first os cs → needed ≤ 2 * length os + 1
needed_below limits first os cs taken o needed is takes scheduled =
    let e = needed_is first os cs taken o needed is takes in
    let low = needed_low first (2 * length os) os cs o scheduled.low in
    omega (arith, e, low)

pub least_found : (limits : Limits) (first : ℕ) (os : List Operation) (cs ds taken : List ℕ) (o : Operation) (needed start clock : ℕ) (counts ways after ways' : List ℕ)
    → needed ≡ greatest_number (map (value_clock first os cs) taken) → taken ≡ operation_takes o → AreScheduled limits first os cs → AreDepths limits.chain first os cs ds
    → AreCounts limits.multipliers os cs counts ways → Unchains limits.chain (depth_at first needed cs ds o) needed start
    → Fills limits.multipliers (is_product o.form) start clock counts after ways' → IsLeastClock limits first os cs o clock
least_found limits first os cs ds taken o needed start clock counts ways after ways' is takes scheduled depths counted u fills =
    let e = needed_is first os cs taken o needed is takes in
    let told = unchains_told limits.chain (depth_at first needed cs ds o) (depth_at first needed cs (depths_in first os cs) o) needed start
    (λ one. ap (λ (xs : List ℕ). depth_at first needed cs xs o) (depths.told one)) u in
    stands limits first os cs o start clock (subst (λ (k : ℕ). Unchains limits.chain (depth_at first k cs (depths_in first os cs) o) k start) e told) fills.later
    (room_from limits.multipliers os cs o start clock counts after ways' scheduled.long fills counted.told scheduled.products)
