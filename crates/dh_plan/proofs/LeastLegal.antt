-- A schedule that puts each operation at the clock from which on all is there that it takes is legal without limits.
-- Clocks that are given stay as more are given, and an operation takes earlier values; so what is needed of the
-- operations before it is needed of the whole block.
use Rattle.std.proofs.Common.{◌≡◌, ℕ, zero, suc, ◌+◌, ◌-◌, ◌<◌, ◌≤◌, Some, List, length, get_or, map, refl, sym, ap, subst, ◌∙◌, arith}
use Rattle.std.specs.Prelude.{[], ◌∷◌, ◌++◌, slice_get}
use Rattle.std.specs.List.{AllByRecursion}
use Rattle.std.proofs.Math.Seq.{get_or-append_seam}
use Rattle.std.proofs.lemmas.List.{get_or_append_left, append_assoc}
use Rattle.dh_plan.specs.declared.operations.Operation.{Operation}
use Rattle.dh_plan.specs.LegalSchedules.{value_clock, greatest_number, needed_clock, depths_in, IsWithin, least_clocks}
use Rattle.dh_plan.specs.Ordered.{operation_takes, IsBetween, TakesEarlier}
use Rattle.dh_plan.specs.ScheduleLaws.{LeastIsLegal}
use Rattle.dh_plan.proofs.ValuesAlike.{all_map}
use Rattle.dh_plan.proofs.BlocksSolved.{IsOrderedFrom, ordered_behind}

pub length_one_more : {A : Type 0} (xs : List A) (x : A) → length (xs ++ x ∷ []) ≡ suc (length xs)
length_one_more [] x = refl
length_one_more (y ∷ xs) x = ap suc (length_one_more xs x)

pub there_in_first : {A : Type 0} (xs ys : List A) (k : ℕ) → k < length xs → slice_get (xs ++ ys) k ≡ slice_get xs k
there_in_first [] ys k h = absurd (omega (arith, h))
there_in_first (x ∷ xs) ys zero h = refl
there_in_first (x ∷ xs) ys (suc k) h = there_in_first xs ys k (omega (arith, h))

pub map_same : (f g : ℕ → ℕ) (ns : List ℕ) → AllByRecursion (λ (n : ℕ). f n ≡ g n) ns → map f ns ≡ map g ns
map_same f g [] h = refl
map_same f g (n ∷ ns) h =
    let x = h.0 in
    let y = map_same f g ns h.1 in
    cc

-- when a value is there, by its operation and its clock
pub one_clock : (first : ℕ) (os ps : List Operation) (cs ds : List ℕ) (n : ℕ)
    → (slice_get os (n - first) ≡ slice_get ps (n - first)) × (get_or cs (n - first) 0 ≡ get_or ds (n - first) 0) → value_clock first os cs n ≡ value_clock first ps ds n
one_clock first os ps cs ds n same =
    let x = same.0 in
    let y = same.1 in
    cc

-- what is needed depends on the operations and clocks before
pub needed_same : (first own : ℕ) (os ps : List Operation) (cs ds : List ℕ)
    → ((k : ℕ) → first + k < own → (slice_get os k ≡ slice_get ps k) × (get_or cs k 0 ≡ get_or ds k 0))
    → (o : Operation) → TakesEarlier first own o → needed_clock first os cs o ≡ needed_clock first ps ds o
needed_same first own os ps cs ds same o early =
    ap greatest_number (map_same (value_clock first os cs) (value_clock first ps ds) (operation_takes o)
    (all_map (IsBetween first own) (λ (n : ℕ). value_clock first os cs n ≡ value_clock first ps ds n) (operation_takes o)
    (λ n b. one_clock first os ps cs ds n (same (n - first) (omega (arith, b)))) early))

pub clock_stays : (first : ℕ) (rest before : List Operation) (clocks : List ℕ) (k : ℕ) → k < length clocks
    → get_or (least_clocks first before clocks rest) k 0 ≡ get_or clocks k 0
clock_stays first [] before clocks k h = refl
clock_stays first (o ∷ rest) before clocks k h =
    let c = needed_clock first before clocks o in
    let l = length_one_more clocks c in
    clock_stays first rest (before ++ o ∷ []) (clocks ++ c ∷ []) k (omega (arith, h, l)) ∙ get_or_append_left clocks (c ∷ []) 0 k h

-- the clock of the next operation is what it needs of the whole
pub needed_here : (first : ℕ) (p : Operation) (rest before : List Operation) (clocks : List ℕ) → length before ≡ length clocks
    → TakesEarlier first (first + length before) p
    → needed_clock first (before ++ p ∷ rest) (least_clocks first before clocks (p ∷ rest)) p ≡ get_or (least_clocks first before clocks (p ∷ rest)) (length before) 0
needed_here first p rest before clocks long early =
    let c = needed_clock first before clocks p in
    let l = length_one_more clocks c in
    let final = least_clocks first before clocks (p ∷ rest) in
    let given = clock_stays first rest (before ++ p ∷ []) (clocks ++ c ∷ []) (length clocks) (omega (arith, l)) ∙ get_or-append_seam clocks c [] 0 in
    needed_same first (first + length before) (before ++ p ∷ rest) before final clocks
    (λ k h. (there_in_first before (p ∷ rest) k (omega (arith, h)), clock_stays first (p ∷ rest) before clocks k (omega (arith, h, long)))) p early
    ∙ sym (subst (λ (n : ℕ). get_or final n 0 ≡ c) (sym long) given)

pub needed_behind : (first : ℕ) (rest before : List Operation) (clocks : List ℕ) → length before ≡ length clocks → IsOrderedFrom first (length before) rest
    → (i : ℕ) (o : Operation) → slice_get rest i ≡ Some o
    → needed_clock first (before ++ rest) (least_clocks first before clocks rest) o ≡ get_or (least_clocks first before clocks rest) (length before + i) 0
needed_behind first [] before clocks long ordered i o e = absurd (cc)
needed_behind first (p ∷ rest) before clocks long ordered zero o e =
    let same : Some p ≡ Some o = e in
    let here : p ≡ o = cc in
    let final = least_clocks first before clocks (p ∷ rest) in
    let none : length before + 0 ≡ length before = omega arith in
    let early = subst (λ (k : ℕ). TakesEarlier first (first + k) p) none (ordered 0 p refl) in
    subst (λ (q : Operation). needed_clock first (before ++ p ∷ rest) final q ≡ get_or final (length before + 0) 0) here
    (subst (λ (k : ℕ). needed_clock first (before ++ p ∷ rest) final p ≡ get_or final k 0) (sym none) (needed_here first p rest before clocks long early))
needed_behind first (p ∷ rest) before clocks long ordered (suc i) o e =
    let c = needed_clock first before clocks p in
    let lb = length_one_more before p in
    let lc = length_one_more clocks c in
    let final = least_clocks first before clocks (p ∷ rest) in
    let moved : length (before ++ p ∷ []) + i ≡ length before + suc i = omega (arith, lb) in
    let further = subst (λ (n : ℕ). IsOrderedFrom first n rest) (sym lb) (ordered_behind first (length before) p rest ordered) in
    let so = needed_behind first rest (before ++ p ∷ []) (clocks ++ c ∷ []) (lb ∙ (ap suc long ∙ sym lc)) further i o e in
    subst (λ (os : List Operation). needed_clock first os final o ≡ get_or final (length before + suc i) 0) (append_assoc before (p ∷ []) rest)
    (subst (λ (k : ℕ). needed_clock first ((before ++ p ∷ []) ++ rest) final o ≡ get_or final k 0) moved so)

pub all_within : (ns : List ℕ) → AllByRecursion (IsWithin 0) ns
all_within [] = tt
all_within (n ∷ ns) = (tt, all_within ns)

pub least_is_legal : LeastIsLegal
least_is_legal first os ordered =
    let final = least_clocks first [] [] os in
    record {
      needs = λ i o e.
          let none : 0 + i ≡ i = omega arith in
          let from = needed_behind first os [] [] refl (λ k p there. subst (λ (n : ℕ). TakesEarlier first (first + n) p) (omega arith) (ordered.each k p there)) i o e in
          let here = subst (λ (k : ℕ). needed_clock first os final o ≡ get_or final k 0) none from in
          subst (λ (x : ℕ). x ≤ get_or final i 0) (sym here) (omega arith);
      products = λ clock. tt;
      chains = all_within (depths_in first os final);
      ends = refl;
    }
