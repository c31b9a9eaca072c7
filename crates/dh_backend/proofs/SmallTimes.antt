-- All clocks and lengths of a least schedule without limits are small: those of its blocks, one after the other.
use Rattle.std.proofs.Common.{◌≡◌, ℕ, zero, suc, ◌+◌, ◌<◌, ◌≤◌, ◌^◌, ◌%◌, List, [], ◌∷◌, ◌++◌, length, get_or, take, drop, refl, sym, ap, ◌∙◌, subst, arith}
use Rattle.std.specs.Prelude.{slice_get}
use Rattle.std.proofs.Math.Nat.{mod-eq_of_lt}
use Rattle.std.specs.List.{AllByRecursion}
use Rattle.std.proofs.lemmas.List.{take-append-drop, length-drop, length-map}
use Rattle.dh_plan.specs.declared.operations.PlanBlock.{PlanBlock}
use Rattle.dh_plan.specs.LegalSchedules.{Timing, IsLeastSchedule, clocks_in}
use Rattle.dh_plan.specs.PlainPlans.{PlainPlan, operations_before, block_operations, operations_in, first_in, operation_count}
use Rattle.dh_plan.specs.ScheduleLaws.{without_limits}
use Rattle.dh_plan.proofs.LeastLengths.{same_clocks, blocks_within, clocks_long, has_least_lengths}
use Rattle.dh_backend.specs.NetParts.{AreTimesOf}
use Rattle.dh_backend.specs.SuitedPlans.{AreUpTo, AreWordSized, low_words, TimesAreSmall}
use Rattle.dh_backend.specs.declared.times.BlockTimes.{BlockTimes}
use Rattle.dh_backend.proofs.ShortBlocks.{least_clocks_early, blocks_are_short}

by_places : (most : ℕ) (ns : List ℕ) → ((k : ℕ) → k < length ns → get_or ns k 0 ≤ most) → AreUpTo most ns
by_places most [] h = tt
by_places most (n ∷ ns) h = (h 0 (omega arith), by_places most ns (λ k l. h (suc k) (omega (arith, l))))

both_up : (most : ℕ) (ms ns : List ℕ) → AreUpTo most ms → AreUpTo most ns → AreUpTo most (ms ++ ns)
both_up most [] ns h i = i
both_up most (m ∷ ms) ns h i = (h.0, both_up most ms ns h.1 i)

drop_twice : (m n : ℕ) (xs : List ℕ) → drop (m + n) xs ≡ drop n (drop m xs)
drop_twice zero n xs = let e : 0 + n ≡ n = omega arith in ap (λ k. drop k xs) e
drop_twice (suc m) n [] = no_more (suc m + n) ∙ sym (no_more n)
  where
    no_more : (k : ℕ) → ◌≡◌ {A = List ℕ} (drop k []) []
    no_more zero = refl
    no_more (suc k) = refl
drop_twice (suc m) n (x ∷ xs) = let e : suc m + n ≡ suc (m + n) = omega arith in ap (λ k. drop k (x ∷ xs)) e ∙ drop_twice m n xs

-- numbers that are so block by block
block_by_block : (most : ℕ) (bs : List PlanBlock) (cs : List ℕ) → length cs ≡ operations_before bs (length bs)
    → ((b : ℕ) → b < length bs → AreUpTo most (take (length (block_operations (slice_get bs b))) (drop (operations_before bs b) cs))) → AreUpTo most cs
block_by_block most [] [] long h = tt
block_by_block most [] (c ∷ cs) long h = absurd (omega (arith, long))
block_by_block most (b ∷ bs) cs long h =
    let n = length b.operations in
    let left = length-drop n cs in
    subst (AreUpTo most) (take-append-drop n cs)
    (both_up most (take n cs) (drop n cs) (h 0 (omega arith))
    (block_by_block most bs (drop n cs) (omega (arith, left, long))
    (λ k l. subst (λ (xs : List ℕ). AreUpTo most (take (length (block_operations (slice_get bs k))) xs)) (drop_twice n (operations_before bs k) cs) (h (suc k) (omega (arith, l))))))

block_clocks_up : (plan : PlainPlan) (t : Timing) → IsLeastSchedule plan without_limits t → (block : ℕ) → block < length plan.blocks → AreUpTo (operation_count plan) (clocks_in plan t block)
block_clocks_up plan t h block within =
    let os = operations_in plan block in
    let long = clocks_long plan t block h.legal.all_clocks within in
    let few = blocks_within plan.blocks block within in
    let same = same_clocks (first_in plan block) os (clocks_in plan t block) [] [] long (h.least block within) in
    by_places (operation_count plan) (clocks_in plan t block) (λ k l.
    let early = least_clocks_early (first_in plan block) os k in
    let here = ap (λ (cs : List ℕ). get_or cs k 0) same in
    omega (arith, early, here, l, long, few))

pub times_are_small : (plan : PlainPlan) → TimesAreSmall plan
times_are_small plan t h = (
  block_by_block (operation_count plan) plan.blocks t.clocks h.legal.all_clocks (λ b l. block_clocks_up plan t h b l),
  by_places (suc (operation_count plan)) t.lengths (λ b l.
      let within : b < length plan.blocks = let e = h.legal.all_lengths in omega (arith, e, l) in
      let is = has_least_lengths plan t h b within in
      let short = blocks_are_short plan b in
      let few = blocks_within plan.blocks b within in
      omega (arith, is, short, few)),
)

-- no block takes no clock
at_least_one : (ns : List ℕ) → ((k : ℕ) → k < length ns → 1 ≤ get_or ns k 0) → AllByRecursion (λ (n : ℕ). 1 ≤ n) ns
at_least_one [] h = tt
at_least_one (n ∷ ns) h = (h 0 (omega arith), at_least_one ns (λ k l. h (suc k) (omega (arith, l))))

pub some_lengths : (plan : PlainPlan) (t : Timing) → IsLeastSchedule plan without_limits t → AllByRecursion (λ (n : ℕ). 1 ≤ n) t.lengths
some_lengths plan t h =
    at_least_one t.lengths (λ b l.
    let within : b < length plan.blocks = let e = h.legal.all_lengths in omega (arith, e, l) in
    let ends = (h.legal.blocks b within).ends in
    omega (arith, ends))

-- one number more
low_more : (ns : List ℕ) (i : ℕ) → i < length ns → low_words (take (suc i) ns) ≡ low_words (take i ns) ++ (get_or ns i 0 % 2 ^ 64) ∷ []
low_more [] i h = absurd (omega (arith, h))
low_more (n ∷ ns) zero h = refl
low_more (n ∷ ns) (suc i) h = ap (λ xs. (n % 2 ^ 64) ∷ xs) (low_more ns i (omega (arith, h)))

pub low_turn : (ns : List ℕ) (i : ℕ) (ws vs : List ℕ) → i < length ns → ws ≡ low_words (take i ns) → vs ≡ ws ++ (get_or ns i 0 % 2 ^ 64) ∷ [] → vs ≡ low_words (take (i + 1) ns)
low_turn ns i ws vs h e p =
    let next : suc i ≡ i + 1 = omega arith in
    p ∙ (ap (λ xs. xs ++ (get_or ns i 0 % 2 ^ 64) ∷ []) e ∙ (sym (low_more ns i h) ∙ ap (λ k. low_words (take k ns)) next))

-- words are their lowest bits
low_same : (ns : List ℕ) → AreWordSized ns → low_words ns ≡ ns
low_same [] h = refl
low_same (n ∷ ns) h =
    let x : n % 2 ^ 64 ≡ n = mod-eq_of_lt h.0 in
    let y = low_same ns h.1 in
    cc

-- numbers up to one below 2^64 are words
pub up_to_words : (most : ℕ) (ns : List ℕ) → most < 2 ^ 64 → AreUpTo most ns → AreWordSized ns
up_to_words most [] small h = tt
up_to_words most (n ∷ ns) small h = let l = h.0 in (omega (arith, l, small), up_to_words most ns small h.1)

-- clocks and lengths of a schedule that are few are words
pub times_told : (plan : PlainPlan) (timing : Timing) (t : BlockTimes) → IsLeastSchedule plan without_limits timing → t.clocks ≡ low_words timing.clocks → t.lengths ≡ low_words timing.lengths
    → length t.clocks < 2 ^ 63 → AreTimesOf timing t
times_told plan timing t h clocks lengths few =
    let long = ap length clocks ∙ length-map timing.clocks (λ n. n % 2 ^ 64) in
    let all = h.legal.all_clocks in
    let small = times_are_small plan timing h in
    let c = up_to_words (operation_count plan) timing.clocks (omega (arith, long, all, few)) small.0 in
    let l = up_to_words (suc (operation_count plan)) timing.lengths (omega (arith, long, all, few)) small.1 in
    let is_clocks = clocks ∙ low_same timing.clocks c in
    let is_lengths = lengths ∙ low_same timing.lengths l in
    record {
      same = λ i. record { clocks = is_clocks i; lengths = is_lengths i };
      clocks = subst AreWordSized (sym is_clocks) c;
      lengths = subst AreWordSized (sym is_lengths) l;
    }
