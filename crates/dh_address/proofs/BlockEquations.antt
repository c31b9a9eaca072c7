-- The values, kinds and clocks of a block, operation by operation: what is given at a place needs of the whole block only
-- that the operation at this place takes earlier values. So order can be shown along the block while all else is known of
-- the operations before.
use Rattle.std.proofs.Common.{◌≡◌, ℕ, zero, suc, ◌+◌, ◌-◌, ◌<◌, Some, List, length, get_or, refl, sym, ap, subst, ◌∙◌, arith}
use Rattle.std.specs.Prelude.{[], ◌∷◌, ◌++◌, slice_get}
use Rattle.std.specs.List.{AllByRecursion}
use Rattle.std.proofs.Math.Nat.{add-sub_cancel_left}
use Rattle.std.proofs.Math.Seq.{get_or-append_seam}
use Rattle.std.proofs.lemmas.List.{get_or_append_left, append_assoc}
use Rattle.dh_value.specs.declared.kinds.Kind.{Kind}
use Rattle.dh_value.specs.declared.kinds.Kind.TheVariants as kind
use Rattle.dh_value.specs.declared.words.Word.{Word}
use Rattle.dh_tree.specs.declared.tables.MemEntry.{MemEntry}
use Rattle.dh_plan.specs.declared.operations.Operation.{Operation}
use Rattle.dh_plan.specs.declared.operations.OperationForm.{OperationForm}
use Rattle.dh_plan.specs.declared.operations.OperationForm.TheVariants.{Constant, Old, Compute, Convert, Select, Check, Probe, Read, Write, Set}
use Rattle.dh_plan.specs.Blocks.{StepStart, Look, no_word, word_at, operation_word, values_behind, values_of_operations}
use Rattle.dh_plan.specs.BlockLaws.{LooksBack}
use Rattle.dh_plan.specs.LegalSchedules.{needed_clock, least_clocks, value_clock, there_at, there_from}
use Rattle.dh_plan.specs.Ordered.{form_takes, IsBetween, TakesEarlier, one_or_none}
use Rattle.dh_plan.specs.PlanKinds.{kind_of_value, form_kind, kinds_behind}
use Rattle.dh_plan.proofs.BlocksSolved.{length_more, solved_here}
use Rattle.dh_plan.proofs.LeastLegal.{length_one_more, needed_here}
use Rattle.dh_plan.proofs.ValuesAlike.{all_map, all_right}

-- Words.

word_behind : (s : StepStart) (look : Look) (first : ℕ) → LooksBack look first → (os : List Operation) (ws : List Word) (i : ℕ) (o : Operation) → slice_get os i ≡ Some o
    → TakesEarlier first (first + (length ws + i)) o
    → get_or (values_behind s look first ws os) (length ws + i) no_word ≡ operation_word s look first (values_behind s look first ws os) (first + (length ws + i)) o
word_behind s look first back [] ws i o e early = absurd (cc)
word_behind s look first back (p ∷ os) ws zero o e early =
    let same : Some p ≡ Some o = e in
    let here : p ≡ o = cc in
    let final = values_behind s look first ws (p ∷ os) in
    let none : length ws + 0 ≡ length ws = omega arith in
    let own = subst (λ (k : ℕ). TakesEarlier first (first + k) p) none (subst (λ (q : Operation). TakesEarlier first (first + (length ws + 0)) q) (sym here) early) in
    subst (λ (q : Operation). get_or final (length ws + 0) no_word ≡ operation_word s look first final (first + (length ws + 0)) q) here
    (subst (λ (k : ℕ). get_or final k no_word ≡ operation_word s look first final (first + k) p) (sym none) (solved_here s look first back p os ws own))
word_behind s look first back (p ∷ os) ws (suc i) o e early =
    let w = operation_word s look first ws (first + length ws) p in
    let l = length_more ws w in
    let final = values_behind s look first ws (p ∷ os) in
    let moved : length (ws ++ w ∷ []) + i ≡ length ws + suc i = omega (arith, l) in
    subst (λ (k : ℕ). get_or final k no_word ≡ operation_word s look first final (first + k) o) moved
    (word_behind s look first back os (ws ++ w ∷ []) i o e (subst (λ (k : ℕ). TakesEarlier first (first + k) o) (sym moved) early))

-- the value of an operation that takes earlier ones
pub word_solved : (s : StepStart) (look : Look) (first : ℕ) → LooksBack look first → (os : List Operation) (i : ℕ) (o : Operation) → slice_get os i ≡ Some o
    → TakesEarlier first (first + i) o
    → word_at first (values_of_operations s look first os) (first + i) ≡ operation_word s look first (values_of_operations s look first os) (first + i) o
word_solved s look first back os i o e early =
    let none : 0 + i ≡ i = omega arith in
    let final = values_of_operations s look first os in
    let from = word_behind s look first back os [] i o e (subst (λ (k : ℕ). TakesEarlier first (first + k) o) (sym none) early) in
    let here = subst (λ (k : ℕ). get_or final k no_word ≡ operation_word s look first final (first + k) o) none from in
    subst (λ (k : ℕ). get_or final k no_word ≡ operation_word s look first final (first + i) o) (sym (add-sub_cancel_left first i)) here

-- Kinds.

pub kinds_longer : (ks : List Kind) (k : Kind) → length (ks ++ k ∷ []) ≡ suc (length ks)
kinds_longer [] k = refl
kinds_longer (l ∷ ks) k = ap suc (kinds_longer ks k)

-- a kind that is given stays
pub kind_kept : (table : List MemEntry) (registers : List Kind) (first : ℕ) (os : List Operation) (before : List Kind) (i : ℕ) → i < length before
    → get_or (kinds_behind table registers first before os) i kind.Bool ≡ get_or before i kind.Bool
kind_kept table registers first [] before i h = refl
kind_kept table registers first (o ∷ os) before i h =
    let k = form_kind table registers first before o.form in
    let l = kinds_longer before k in
    kind_kept table registers first os (before ++ k ∷ []) i (omega (arith, h, l)) ∙ get_or_append_left before (k ∷ []) kind.Bool i h

-- the kind of a form depends on the kinds of what it takes
pub form_kind_same : (table : List MemEntry) (registers : List Kind) (first : ℕ) (ks ls : List Kind) (f : OperationForm)
    → AllByRecursion (λ (v : ℕ). kind_of_value first ks v ≡ kind_of_value first ls v) (form_takes f) → form_kind table registers first ks f ≡ form_kind table registers first ls f
form_kind_same table registers first ks ls (Constant word) h = refl
form_kind_same table registers first ks ls (Old register) h = refl
form_kind_same table registers first ks ls (Compute op left right) h = let x = h.0 in cc
form_kind_same table registers first ks ls (Convert inner to) h = refl
form_kind_same table registers first ks ls (Select test a b) h = h.1.0
form_kind_same table registers first ks ls (Check ok fault) h = refl
form_kind_same table registers first ks ls (Probe r fault) h = refl
form_kind_same table registers first ks ls (Read r) h = refl
form_kind_same table registers first ks ls (Write r value) h = refl
form_kind_same table registers first ks ls (Set register value) h = refl

kind_here : (table : List MemEntry) (registers : List Kind) (first : ℕ) (p : Operation) (os : List Operation) (before : List Kind) → TakesEarlier first (first + length before) p
    → get_or (kinds_behind table registers first before (p ∷ os)) (length before) kind.Bool ≡ form_kind table registers first (kinds_behind table registers first before (p ∷ os)) p.form
kind_here table registers first p os before early =
    let k = form_kind table registers first before p.form in
    let l = kinds_longer before k in
    let final = kinds_behind table registers first before (p ∷ os) in
    let same = all_map (IsBetween first (first + length before)) (λ (v : ℕ). kind_of_value first before v ≡ kind_of_value first final v) (form_takes p.form)
    (λ v b. sym (kind_kept table registers first (p ∷ os) before (v - first) (omega (arith, b)))) (all_right (IsBetween first (first + length before)) (one_or_none p.guard) (form_takes p.form) early) in
    kind_kept table registers first os (before ++ k ∷ []) (length before) (omega (arith, l))
    ∙ (get_or-append_seam before k [] kind.Bool ∙ form_kind_same table registers first before final p.form same)

kind_behind : (table : List MemEntry) (registers : List Kind) (first : ℕ) (os : List Operation) (before : List Kind) (i : ℕ) (o : Operation) → slice_get os i ≡ Some o
    → TakesEarlier first (first + (length before + i)) o
    → get_or (kinds_behind table registers first before os) (length before + i) kind.Bool ≡ form_kind table registers first (kinds_behind table registers first before os) o.form
kind_behind table registers first [] before i o e early = absurd (cc)
kind_behind table registers first (p ∷ os) before zero o e early =
    let same : Some p ≡ Some o = e in
    let here : p ≡ o = cc in
    let final = kinds_behind table registers first before (p ∷ os) in
    let none : length before + 0 ≡ length before = omega arith in
    let own = subst (λ (k : ℕ). TakesEarlier first (first + k) p) none (subst (λ (q : Operation). TakesEarlier first (first + (length before + 0)) q) (sym here) early) in
    subst (λ (q : Operation). get_or final (length before + 0) kind.Bool ≡ form_kind table registers first final q.form) here
    (subst (λ (k : ℕ). get_or final k kind.Bool ≡ form_kind table registers first final p.form) (sym none) (kind_here table registers first p os before own))
kind_behind table registers first (p ∷ os) before (suc i) o e early =
    let k = form_kind table registers first before p.form in
    let l = kinds_longer before k in
    let final = kinds_behind table registers first before (p ∷ os) in
    let moved : length (before ++ k ∷ []) + i ≡ length before + suc i = omega (arith, l) in
    subst (λ (n : ℕ). get_or final n kind.Bool ≡ form_kind table registers first final o.form) moved
    (kind_behind table registers first os (before ++ k ∷ []) i o e (subst (λ (n : ℕ). TakesEarlier first (first + n) o) (sym moved) early))

-- the kind of what an operation gives that takes earlier values
pub kind_solved : (table : List MemEntry) (registers : List Kind) (first : ℕ) (os : List Operation) (i : ℕ) (o : Operation) → slice_get os i ≡ Some o → TakesEarlier first (first + i) o
    → kind_of_value first (kinds_behind table registers first [] os) (first + i) ≡ form_kind table registers first (kinds_behind table registers first [] os) o.form
kind_solved table registers first os i o e early =
    let none : 0 + i ≡ i = omega arith in
    let final = kinds_behind table registers first [] os in
    let from = kind_behind table registers first os [] i o e (subst (λ (k : ℕ). TakesEarlier first (first + k) o) (sym none) early) in
    let here = subst (λ (k : ℕ). get_or final k kind.Bool ≡ form_kind table registers first final o.form) none from in
    subst (λ (k : ℕ). get_or final k kind.Bool ≡ form_kind table registers first final o.form) (sym (add-sub_cancel_left first i)) here

-- Clocks.

clock_behind : (first : ℕ) (rest before : List Operation) (clocks : List ℕ) → length before ≡ length clocks → (i : ℕ) (o : Operation) → slice_get rest i ≡ Some o
    → TakesEarlier first (first + (length before + i)) o
    → needed_clock first (before ++ rest) (least_clocks first before clocks rest) o ≡ get_or (least_clocks first before clocks rest) (length before + i) 0
clock_behind first [] before clocks long i o e early = absurd (cc)
clock_behind first (p ∷ rest) before clocks long zero o e early =
    let same : Some p ≡ Some o = e in
    let here : p ≡ o = cc in
    let final = least_clocks first before clocks (p ∷ rest) in
    let none : length before + 0 ≡ length before = omega arith in
    let own = subst (λ (k : ℕ). TakesEarlier first (first + k) p) none (subst (λ (q : Operation). TakesEarlier first (first + (length before + 0)) q) (sym here) early) in
    subst (λ (q : Operation). needed_clock first (before ++ p ∷ rest) final q ≡ get_or final (length before + 0) 0) here
    (subst (λ (k : ℕ). needed_clock first (before ++ p ∷ rest) final p ≡ get_or final k 0) (sym none) (needed_here first p rest before clocks long own))
clock_behind first (p ∷ rest) before clocks long (suc i) o e early =
    let c = needed_clock first before clocks p in
    let lb = length_one_more before p in
    let lc = length_one_more clocks c in
    let final = least_clocks first before clocks (p ∷ rest) in
    let moved : length (before ++ p ∷ []) + i ≡ length before + suc i = omega (arith, lb) in
    let so = clock_behind first rest (before ++ p ∷ []) (clocks ++ c ∷ []) (lb ∙ (ap suc long ∙ sym lc)) i o e (subst (λ (n : ℕ). TakesEarlier first (first + n) o) (sym moved) early) in
    subst (λ (os : List Operation). needed_clock first os final o ≡ get_or final (length before + suc i) 0) (append_assoc before (p ∷ []) rest)
    (subst (λ (k : ℕ). needed_clock first ((before ++ p ∷ []) ++ rest) final o ≡ get_or final k 0) moved so)

-- when the value of an operation is there that takes earlier ones
pub clock_solved : (first : ℕ) (os : List Operation) (i : ℕ) (o : Operation) → slice_get os i ≡ Some o → TakesEarlier first (first + i) o
    → value_clock first os (least_clocks first [] [] os) (first + i) ≡ there_at o.form (needed_clock first os (least_clocks first [] [] os) o)
clock_solved first os i o e early =
    let none : 0 + i ≡ i = omega arith in
    let final = least_clocks first [] [] os in
    let from = clock_behind first os [] [] refl i o e (subst (λ (k : ℕ). TakesEarlier first (first + k) o) (sym none) early) in
    let needed = subst (λ (k : ℕ). needed_clock first os final o ≡ get_or final k 0) none from in
    let place = add-sub_cancel_left first i in
    subst (λ (k : ℕ). there_from (slice_get os k) (get_or final k 0) ≡ there_at o.form (needed_clock first os final o)) (sym place)
    (ap (λ (p : _). there_from p (get_or final i 0)) e ∙ ap (λ (n : ℕ). there_at o.form n) (sym needed))
