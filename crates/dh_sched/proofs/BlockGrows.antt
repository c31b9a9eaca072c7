-- A block grows by an operation at its least clock. What was known of the operations before depends on them and on
-- their clocks alone, since each takes values of earlier ones; so it stays, and the same is known of one more.
use Rattle.std.proofs.Common.{◌≡◌, ℕ, zero, suc, ◌+◌, ◌*◌, ◌-◌, ◌<◌, ◌≤◌, ◌⊎◌, inl, inr, Bool, true, false, Some, List, length, get_or, refl, sym, ap, subst, ◌∙◌, arith}
use Rattle.std.specs.Prelude.{[], ◌∷◌, ◌++◌, ◌==◌, ◌&&◌, ◌^◌, if◌then◌else◌, take, drop, slice_get}
use Rattle.std.specs.List.{AllByRecursion}
use Rattle.std.proofs.Math.Seq.{get_or-append_seam}
use Rattle.std.proofs.lemmas.List.{get_or_append_left, append_assoc, append-nil, take_more, take-append-drop, length-take-le}
use Rattle.std.proofs.lemmas.Option.{slice_get_within, slice_get-get_or}
use Rattle.dh_plan.specs.declared.operations.Operation.{Operation}
use Rattle.dh_plan.specs.declared.schedules.Limits.{Limits}
use Rattle.dh_plan.specs.LegalSchedules.{is_operator, is_product, greatest_number, needed_clock, depth_taken, depth_at, depths_behind, depths_in, products_at, IsWithin, AreLeast, NeedsAreMet}
use Rattle.dh_plan.specs.Ordered.{operation_takes, IsBetween, TakesEarlier, IsOrdered}
use Rattle.dh_plan.proofs.ValuesAlike.{all_map}
use Rattle.dh_plan.proofs.LeastLegal.{length_one_more, there_in_first, map_same, needed_same}
use Rattle.dh_sched.specs.Sorts.{AreShallow}
use Rattle.dh_sched.specs.FullClocks.{Fills}
use Rattle.dh_sched.specs.LeastBlocks.{IsLeastClock, AreScheduled, AreDepths, AreCounts}
use Rattle.dh_sched.proofs.LeastStands.{same_or_not, not_equal, products_more}

-- each of these operations takes values of earlier ones
abbrev pub TakeEarlier : (first : ℕ) → List Operation → Type 0
TakeEarlier first os = (k : ℕ) (o : Operation) → slice_get os k ≡ Some o → TakesEarlier first (first + k) o

-- Least clocks.

pub least_more : (limits : Limits) (first : ℕ) (rest : List Operation) (rcs : List ℕ) (os : List Operation) (cs : List ℕ) (o : Operation) (c : ℕ) → length rcs ≡ length rest
    → AreLeast limits first os cs rest rcs → IsLeastClock limits first (os ++ rest) (cs ++ rcs) o c → AreLeast limits first os cs (rest ++ o ∷ []) (rcs ++ c ∷ [])
least_more limits first [] [] os cs o c long h least =
    let x = subst (λ (ps : List Operation). IsLeastClock limits first ps (cs ++ []) o c) (append-nil os) least in (
      subst (λ (ds : List ℕ). IsLeastClock limits first os ds o c) (append-nil cs) x,
      tt,
    )
least_more limits first [] (d ∷ rcs) os cs o c long h least = absurd (omega (arith, long))
least_more limits first (p ∷ rest) [] os cs o c long h least = absurd h
least_more limits first (p ∷ rest) (d ∷ rcs) os cs o c long h least =
    let x = subst (λ (ps : List Operation). IsLeastClock limits first ps (cs ++ (d ∷ rcs)) o c) (sym (append_assoc os (p ∷ []) rest)) least in
    let y = subst (λ (ds : List ℕ). IsLeastClock limits first ((os ++ p ∷ []) ++ rest) ds o c) (sym (append_assoc cs (d ∷ []) rcs)) x in (
      h.0,
      least_more limits first rest rcs (os ++ p ∷ []) (cs ++ d ∷ []) o c (omega (arith, long)) h.1 y,
    )

-- Needs.

at_end : (os : List Operation) (o : Operation) → slice_get (os ++ o ∷ []) (length os) ≡ Some o
at_end [] o = refl
at_end (p ∷ os) o = at_end os o

needs_by : (first : ℕ) (os : List Operation) (cs : List ℕ) (o : Operation) (c : ℕ) → length cs ≡ length os → TakeEarlier first os → TakesEarlier first (first + length os) o
    → NeedsAreMet first os cs → needed_clock first os cs o ≤ c → (i : ℕ) (p : Operation) → slice_get (os ++ o ∷ []) i ≡ Some p → (i ≡ length os) ⊎ (i ≡ length os → ⊥)
    → needed_clock first (os ++ o ∷ []) (cs ++ c ∷ []) p ≤ get_or (cs ++ c ∷ []) i 0
needs_by first os cs o c long early own met late i p at (inl here) =
    let end : Some o ≡ Some p = sym (at_end os o) ∙ (ap (λ (k : ℕ). slice_get (os ++ o ∷ []) k) (sym here) ∙ at) in
    let same : o ≡ p = cc in
    let clock : get_or (cs ++ c ∷ []) i 0 ≡ c = ap (λ (k : ℕ). get_or (cs ++ c ∷ []) k 0) (here ∙ sym long) ∙ get_or-append_seam cs c [] 0 in
    let needed = needed_same first (first + length os) (os ++ o ∷ []) os (cs ++ c ∷ []) cs
    (λ k h. (there_in_first os (o ∷ []) k (omega (arith, h)), get_or_append_left cs (c ∷ []) 0 k (omega (arith, h, long)))) o own in
    subst (λ (q : Operation). needed_clock first (os ++ o ∷ []) (cs ++ c ∷ []) q ≤ get_or (cs ++ c ∷ []) i 0) same (omega (arith, clock, needed, late))
needs_by first os cs o c long early own met late i p at (inr other) =
    let more = slice_get_within (os ++ o ∷ []) i p at in
    let l = length_one_more os o in
    let within : i < length os = omega (arith, more, l, other) in
    let there = sym (there_in_first os (o ∷ []) i within) ∙ at in
    let needed = needed_same first (first + i) (os ++ o ∷ []) os (cs ++ c ∷ []) cs
    (λ k h. (there_in_first os (o ∷ []) k (omega (arith, h, within)), get_or_append_left cs (c ∷ []) 0 k (omega (arith, h, long, within)))) p (early i p there) in
    let clock = get_or_append_left cs (c ∷ []) 0 i (omega (arith, long, within)) in
    let so = met i p there in
    omega (arith, needed, clock, so)

-- Depths.

pub depth_same : (first own clock : ℕ) (cs ds depths : List ℕ) (o : Operation) → ((k : ℕ) → first + k < own → get_or cs k 0 ≡ get_or ds k 0) → TakesEarlier first own o
    → depth_at first clock cs depths o ≡ depth_at first clock ds depths o
depth_same first own clock cs ds depths o same early =
    ap (λ (n : ℕ). if is_operator o.form then suc n else n)
    (ap greatest_number (map_same (depth_taken first clock cs depths) (depth_taken first clock ds depths) (operation_takes o)
    (all_map (IsBetween first own) (λ (n : ℕ). depth_taken first clock cs depths n ≡ depth_taken first clock ds depths n) (operation_takes o)
    (λ n b. ap (λ (x : ℕ). if x == clock then get_or depths (n - first) 0 else 0) (same (n - first) (omega (arith, b)))) early)))

-- the depths of a part depend on clocks up to its end
pub depths_same : (first : ℕ) (cs ds : List ℕ) (rest : List Operation) (depths : List ℕ) → ((k : ℕ) → k < length depths + length rest → get_or cs k 0 ≡ get_or ds k 0)
    → ((k : ℕ) (o : Operation) → slice_get rest k ≡ Some o → TakesEarlier first (first + (length depths + k)) o)
    → depths_behind first cs depths rest ≡ depths_behind first ds depths rest
depths_same first cs ds [] depths same early = refl
depths_same first cs ds (o ∷ rest) depths same early =
    let d = depth_at first (get_or cs (length depths) 0) cs depths o in
    let e = depth_at first (get_or ds (length depths) 0) ds depths o in
    let l = length_one_more depths d in
    let clock = ap (λ (k : ℕ). depth_at first k cs depths o) (same (length depths) (omega arith)) in
    let none : length depths + 0 ≡ length depths = omega arith in
    let own = subst (λ (k : ℕ). TakesEarlier first (first + k) o) none (early 0 o refl) in
    let is : d ≡ e = clock ∙ depth_same first (first + length depths) (get_or ds (length depths) 0) cs ds depths o (λ k h. same k (omega (arith, h))) own in
    depths_same first cs ds rest (depths ++ d ∷ []) (λ k h. same k (omega (arith, h, l)))
    (λ k p at. (let moved : length depths + suc k ≡ length (depths ++ d ∷ []) + k = omega (arith, l) in subst (λ (x : ℕ). TakesEarlier first (first + x) p) moved (early (suc k) p at)))
    ∙ ap (λ (x : ℕ). depths_behind first ds (depths ++ x ∷ []) rest) is

behind_more : (first : ℕ) (cs : List ℕ) (rest : List Operation) (o : Operation) (depths : List ℕ)
    → depths_behind first cs depths (rest ++ o ∷ []) ≡ depths_behind first cs (depths_behind first cs depths rest) (o ∷ [])
behind_more first cs [] o depths = refl
behind_more first cs (p ∷ rest) o depths = behind_more first cs rest o (depths ++ depth_at first (get_or cs (length depths) 0) cs depths p ∷ [])

behind_long : (first : ℕ) (cs : List ℕ) (rest : List Operation) (depths : List ℕ) → length (depths_behind first cs depths rest) ≡ length depths + length rest
behind_long first cs [] depths = omega arith
behind_long first cs (o ∷ rest) depths =
    let d = depth_at first (get_or cs (length depths) 0) cs depths o in
    let l = length_one_more depths d in
    let so = behind_long first cs rest (depths ++ d ∷ []) in
    omega (arith, l, so)

-- one more depth
pub depths_more : (first : ℕ) (os : List Operation) (cs : List ℕ) (o : Operation) (c : ℕ) → length cs ≡ length os → TakeEarlier first os → TakesEarlier first (first + length os) o
    → depths_in first (os ++ o ∷ []) (cs ++ c ∷ []) ≡ depths_in first os cs ++ depth_at first c cs (depths_in first os cs) o ∷ []
depths_more first os cs o c long early own =
    let ds = cs ++ c ∷ [] in
    let old = depths_in first os cs in
    let before : depths_in first os ds ≡ old =
    depths_same first ds cs os [] (λ k h. get_or_append_left cs (c ∷ []) 0 k (omega (arith, h, long))) (λ k p at. subst (λ (x : ℕ). TakesEarlier first (first + x) p) (omega arith) (early k p at)) in
    let l = behind_long first cs os [] in
    let clock : get_or ds (length old) 0 ≡ c = ap (λ (k : ℕ). get_or ds k 0) (let x : length old ≡ length cs = omega (arith, l, long) in x) ∙ get_or-append_seam cs c [] 0 in
    let depth : depth_at first (get_or ds (length old) 0) ds old o ≡ depth_at first c cs old o =
    ap (λ (k : ℕ). depth_at first k ds old o) clock
    ∙ depth_same first (first + length os) c ds cs old o (λ k h. get_or_append_left cs (c ∷ []) 0 k (omega (arith, h, long))) own in
    behind_more first ds os o []
    ∙ (ap (λ (xs : List ℕ). depths_behind first ds xs (o ∷ [])) before ∙ ap (λ (x : ℕ). old ++ x ∷ []) depth)

pub all_more : (P : ℕ → Type 0) (xs : List ℕ) (x : ℕ) → AllByRecursion P xs → P x → AllByRecursion P (xs ++ x ∷ [])
all_more P [] x h p = (p, tt)
all_more P (y ∷ xs) x h p = (h.0, all_more P xs x h.1 p)

-- Multiplications.

moved_on : (b : Bool) (x : Bool) (n : ℕ) → x ≡ false → (if b && x then suc n else n) ≡ n
moved_on true true n e = absurd (cc)
moved_on true false n e = refl
moved_on false x n e = refl

few_by : (limit : ℕ) (os : List Operation) (cs : List ℕ) (o : Operation) (c clock : ℕ) → length cs ≡ length os → ((k : ℕ) → IsWithin limit (products_at k os cs))
    → IsWithin limit (products_at c (os ++ o ∷ []) (cs ++ c ∷ [])) → (c ≡ clock) ⊎ (c ≡ clock → ⊥) → IsWithin limit (products_at clock (os ++ o ∷ []) (cs ++ c ∷ []))
few_by limit os cs o c clock long few here (inl same) = subst (λ (k : ℕ). IsWithin limit (products_at k (os ++ o ∷ []) (cs ++ c ∷ []))) same here
few_by limit os cs o c clock long few here (inr other) =
    let e = products_more clock o c os cs long ∙ moved_on (is_product o.form) (c == clock) (products_at clock os cs) (not_equal c clock other) in
    subst (λ (n : ℕ). IsWithin limit n) (sym e) (few clock)

-- Clocks stay low.

low_by : (cs : List ℕ) (c bound : ℕ) → ((k : ℕ) → get_or cs k 0 ≤ bound) → c ≤ bound → (k : ℕ) → get_or (cs ++ c ∷ []) k 0 ≤ bound
low_by [] c bound low small zero = small
low_by [] c bound low small (suc k) = omega arith
low_by (d ∷ cs) c bound low small zero = low 0
low_by (d ∷ cs) c bound low small (suc k) = low_by cs c bound (λ j. low (suc j)) small k

-- One more operation.

pub scheduled_more : (limits : Limits) (first : ℕ) (os : List Operation) (cs : List ℕ) (o : Operation) (c : ℕ) → TakeEarlier first os → TakesEarlier first (first + length os) o
    → AreScheduled limits first os cs → IsLeastClock limits first os cs o c → c ≤ 2 * length os + 2 → AreScheduled limits first (os ++ o ∷ []) (cs ++ c ∷ [])
scheduled_more limits first os cs o c early own done least small =
    let lo = length_one_more os o in
    let lc = length_one_more cs c in
    let long = done.long in
    record {
      long = omega (arith, lo, lc, long);
      least = least_more limits first os cs [] [] o c long done.least least;
      needs = λ i p at. needs_by first os cs o c long early own done.needs least.0.needs i p at (same_or_not i (length os));
      products = λ clock. few_by limits.multipliers os cs o c clock long done.products least.0.products (same_or_not c clock);
      chains = subst (λ (xs : List ℕ). AllByRecursion (IsWithin limits.chain) xs) (sym (depths_more first os cs o c long early own))
          (all_more (IsWithin limits.chain) (depths_in first os cs) (depth_at first c cs (depths_in first os cs) o) done.chains least.0.chain);
      low = low_by cs c (2 * length (os ++ o ∷ [])) (λ k. (let x = done.low k in omega (arith, x, lo))) (omega (arith, small, lo));
    }

-- one more depth that leaves room
pub shallow_more : (ds : List ℕ) (d : ℕ) → AreShallow ds → d < 2 ^ 32 → AreShallow (ds ++ d ∷ [])
shallow_more [] d h small zero = small
shallow_more [] d h small (suc k) = omega arith
shallow_more (e ∷ ds) d h small zero = h 0
shallow_more (e ∷ ds) d h small (suc k) = shallow_more ds d (λ j. h (suc j)) small k

pub depths_turn : (limit first : ℕ) (os : List Operation) (cs : List ℕ) (o : Operation) (c : ℕ) (old new : List ℕ) → length cs ≡ length os → TakeEarlier first os
    → TakesEarlier first (first + length os) o → AreDepths limit first os cs old → (1 ≤ limit → new ≡ old ++ depth_at first c cs old o ∷ []) → AreShallow new
    → AreDepths limit first (os ++ o ∷ []) (cs ++ c ∷ []) new
depths_turn limit first os cs o c old new long early own depths more shallow =
    record {
      told = λ one. more one ∙ (ap (λ (xs : List ℕ). xs ++ depth_at first c cs xs o ∷ []) (depths.told one) ∙ sym (depths_more first os cs o c long early own));
      shallow = shallow;
    }

pub counts_turn : (limit : ℕ) (os : List Operation) (cs : List ℕ) (o : Operation) (start c : ℕ) (counts after ways ways' : List ℕ) → length cs ≡ length os
    → AreCounts limit os cs counts ways → Fills limit (is_product o.form) start c counts after ways' → c ≤ 2 * length os + 2 → AreCounts limit (os ++ o ∷ []) (cs ++ c ∷ []) after ways'
counts_turn limit os cs o start c counts after ways ways' long known fills small =
    let lo = length_one_more os o in
    let short = known.short in
    let more = fills.long in
    record {
      told = λ one clock. fills.counted one clock
          ∙ (ap (λ (n : ℕ). if is_product o.form && (c == clock) then suc n else n) (known.told one clock) ∙ sym (products_more clock o c os cs long));
      ways_kept = fills.ways_kept;
      both = fills.both;
      short = omega (arith, lo, short, more, small);
    }

-- The operation at hand.

early_before : (first : ℕ) (os : List Operation) (i : ℕ) → IsOrdered first os → TakeEarlier first (take i os)
early_before first os i ordered k p at =
    ordered.each k p
    (subst (λ (xs : List Operation). slice_get xs k ≡ Some p) (take-append-drop i os)
    (there_in_first (take i os) (drop i os) k (slice_get_within (take i os) k p at) ∙ at))

own_early : (first : ℕ) (os : List Operation) (i : ℕ) (o : Operation) → IsOrdered first os → i < length os → o ≡ get_or os i o → TakesEarlier first (first + length (take i os)) o
own_early first os i o ordered within at =
    subst (λ (k : ℕ). TakesEarlier first (first + k) o) (sym (length-take-le i os (omega (arith, within))))
    (ordered.each i o (slice_get-get_or os i o within ∙ ap Some (sym at)))

-- the chain that ends with an operation at its least clock is within the limit
pub chain_within : (limit first : ℕ) (os : List Operation) (cs ds : List ℕ) (o : Operation) (c : ℕ) → AreDepths limit first os cs ds → IsWithin limit (depth_at first c cs (depths_in first os cs) o)
    → IsWithin limit (depth_at first c cs ds o)
chain_within zero first os cs ds o c depths h = tt
chain_within (suc limit) first os cs ds o c depths h = subst (λ (xs : List ℕ). IsWithin (suc limit) (depth_at first c cs xs o)) (sym (depths.told (omega arith))) h

pub grown : (limits : Limits) (first : ℕ) (os : List Operation) (i : ℕ) (o : Operation) → IsOrdered first os → i < length os → o ≡ get_or os i o
    → (cs own deep more : List ℕ) (c : ℕ) (ds new counts ways : List ℕ) → own ≡ cs → deep ≡ cs → more ≡ cs ++ c ∷ []
    → AreScheduled limits first (take i os) cs → AreDepths limits.chain first (take i os) cs ds
    → IsLeastClock limits first (take i os) own o c → c ≤ 2 * length (take i os) + 2 → AreCounts limits.multipliers (take i os ++ o ∷ []) (own ++ c ∷ []) counts ways
    → (1 ≤ limits.chain → new ≡ ds ++ depth_at first c deep ds o ∷ []) → AreShallow new
    → AreScheduled limits first (take (i + 1) os) more × (AreDepths limits.chain first (take (i + 1) os) more new × AreCounts limits.multipliers (take (i + 1) os) more counts ways)
grown limits first os i o ordered within at cs own deep more c ds new counts ways eo ed em scheduled depths least low counted noted shallow =
    let before = take i os in
    let next : take (i + 1) os ≡ before ++ o ∷ [] = take_more os i o within ∙ ap (λ (p : Operation). before ++ p ∷ []) (sym at) in
    let early = early_before first os i ordered in
    let last = own_early first os i o ordered within at in
    let stands = subst (λ (xs : List ℕ). IsLeastClock limits first before xs o c) eo least in
    let a = scheduled_more limits first before cs o c early last scheduled stands low in
    let b = depths_turn limits.chain first before cs o c ds new scheduled.long early last depths
    (λ one. noted one ∙ ap (λ (xs : List ℕ). ds ++ depth_at first c xs ds o ∷ []) ed) shallow in
    let d = subst (λ (xs : List ℕ). AreCounts limits.multipliers (before ++ o ∷ []) (xs ++ c ∷ []) counts ways) eo counted in (
      subst (λ (ps : List Operation). AreScheduled limits first ps more) (sym next) (subst (λ (xs : List ℕ). AreScheduled limits first (before ++ o ∷ []) xs) (sym em) a),
      (
        subst (λ (ps : List Operation). AreDepths limits.chain first ps more new) (sym next) (subst (λ (xs : List ℕ). AreDepths limits.chain first (before ++ o ∷ []) xs new) (sym em) b),
        subst (λ (ps : List Operation). AreCounts limits.multipliers ps more counts ways) (sym next) (subst (λ (xs : List ℕ). AreCounts limits.multipliers (before ++ o ∷ []) xs counts ways) (sym em) d),
      ),
    )
