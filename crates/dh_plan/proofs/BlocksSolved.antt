-- The values of a block, made one after the other, solve its equations, where each operation takes earlier values;
-- and no other list does.
-- A value that is made stays as more are appended (`stays`). So the value of operation i is made of values that
-- stay, and the equation at i holds of the whole list. That there is one solution is an induction on the number of
-- values that two solutions agree on.
use Rattle.std.proofs.Common.{◌≡◌, ℕ, zero, suc, ◌+◌, ◌-◌, ◌<◌, ◌⊎◌, inl, inr, Some, List, length, get_or, refl, sym, ap, subst, ◌∙◌, arith}
use Rattle.std.specs.Prelude.{[], ◌∷◌, ◌++◌, slice_get}
use Rattle.std.proofs.Math.Nat.{add-sub_cancel_left}
use Rattle.std.proofs.Math.Seq.{get_or-append_seam}
use Rattle.std.proofs.lemmas.List.{get_or_append_left, get_or_past, ext_get_or}
use Rattle.std.proofs.lemmas.Option.{slice_get_cases}
use Rattle.dh_value.specs.declared.words.Word.{Word}
use Rattle.dh_plan.specs.declared.operations.Operation.{Operation}
use Rattle.dh_plan.specs.Blocks.{StepStart, Look, no_word, operation_word, values_behind, values_of_operations, AreValues}
use Rattle.dh_plan.specs.Ordered.{operation_takes, IsBetween, TakesEarlier, IsOrdered}
use Rattle.dh_plan.specs.BlockLaws.{SameAt, SameAtAll, LooksBack, HasOneSolution}
use Rattle.dh_plan.proofs.ValuesAlike.{all_map, word_same}

-- each operation of a part of a block, whose first one has the place n, takes earlier values
abbrev pub IsOrderedFrom : (first n : ℕ) → List Operation → Type 0
IsOrderedFrom first n os = (i : ℕ) (o : Operation) → slice_get os i ≡ Some o → TakesEarlier first (first + (n + i)) o

pub ordered_behind : (first n : ℕ) (o : Operation) (os : List Operation) → IsOrderedFrom first n (o ∷ os) → IsOrderedFrom first (suc n) os
ordered_behind first n o os h i p e = subst (λ (k : ℕ). TakesEarlier first (first + k) p) (omega arith) (h (suc i) p e)

pub length_more : (ws : List Word) (w : Word) → length (ws ++ w ∷ []) ≡ suc (length ws)
length_more [] w = refl
length_more (v ∷ ws) w = ap suc (length_more ws w)

-- a value that is made stays
pub stays : (s : StepStart) (look : Look) (first : ℕ) (os : List Operation) (ws : List Word) (k : ℕ) → k < length ws
    → get_or (values_behind s look first ws os) k no_word ≡ get_or ws k no_word
stays s look first [] ws k h = refl
stays s look first (o ∷ os) ws k h =
    let w = operation_word s look first ws (first + length ws) o in
    let l = length_more ws w in
    stays s look first os (ws ++ w ∷ []) k (omega (arith, h, l)) ∙ get_or_append_left ws (w ∷ []) no_word k h

pub values_long : (s : StepStart) (look : Look) (first : ℕ) (os : List Operation) (ws : List Word) → length (values_behind s look first ws os) ≡ length ws + length os
values_long s look first [] ws = omega arith
values_long s look first (o ∷ os) ws =
    let w = operation_word s look first ws (first + length ws) o in
    let l = length_more ws w in
    let r = values_long s look first os (ws ++ w ∷ []) in
    omega (arith, l, r)

-- values that agree below a place agree at what an operation there takes
pub below_same : (first own : ℕ) (ws vs : List Word) → ((k : ℕ) → first + k < own → get_or ws k no_word ≡ get_or vs k no_word)
    → (o : Operation) → TakesEarlier first own o → SameAtAll first ws vs (operation_takes o)
below_same first own ws vs same o h =
    all_map (IsBetween first own) (SameAt first ws vs) (operation_takes o) (λ n b. same (n - first) (omega (arith, b))) h

-- the value of the next operation, once the rest is made
pub solved_here : (s : StepStart) (look : Look) (first : ℕ) → LooksBack look first → (p : Operation) (os : List Operation) (ws : List Word)
    → TakesEarlier first (first + length ws) p
    → get_or (values_behind s look first ws (p ∷ os)) (length ws) no_word
    ≡ operation_word s look first (values_behind s look first ws (p ∷ os)) (first + length ws) p
solved_here s look first back p os ws early =
    let w = operation_word s look first ws (first + length ws) p in
    let l = length_more ws w in
    let final = values_behind s look first (ws ++ w ∷ []) os in
    stays s look first os (ws ++ w ∷ []) (length ws) (omega (arith, l))
    ∙ (get_or-append_seam ws w [] no_word
    ∙ word_same s look first back ws final (first + length ws) p
    (below_same first (first + length ws) ws final (λ k h. sym (stays s look first (p ∷ os) ws k (omega (arith, h)))) p early))

pub solved_behind : (s : StepStart) (look : Look) (first : ℕ) → LooksBack look first → (os : List Operation) (ws : List Word)
    → IsOrderedFrom first (length ws) os → (i : ℕ) (o : Operation) → slice_get os i ≡ Some o
    → get_or (values_behind s look first ws os) (length ws + i) no_word
    ≡ operation_word s look first (values_behind s look first ws os) (first + (length ws + i)) o
solved_behind s look first back [] ws h i o e = absurd (cc)
solved_behind s look first back (p ∷ os) ws h zero o e =
    let same : Some p ≡ Some o = e in
    let here : p ≡ o = cc in
    let final = values_behind s look first ws (p ∷ os) in
    let none : length ws + 0 ≡ length ws = omega arith in
    let early = subst (λ (k : ℕ). TakesEarlier first (first + k) p) none (h 0 p refl) in
    subst (λ (q : Operation). get_or final (length ws + 0) no_word ≡ operation_word s look first final (first + (length ws + 0)) q) here
    (subst (λ (k : ℕ). get_or final k no_word ≡ operation_word s look first final (first + k) p) (sym none) (solved_here s look first back p os ws early))
solved_behind s look first back (p ∷ os) ws h (suc i) o e =
    let w = operation_word s look first ws (first + length ws) p in
    let l = length_more ws w in
    let final = values_behind s look first ws (p ∷ os) in
    let ordered = subst (λ (n : ℕ). IsOrderedFrom first n os) (sym l) (ordered_behind first (length ws) p os h) in
    let moved : length (ws ++ w ∷ []) + i ≡ length ws + suc i = omega (arith, l) in
    subst (λ (k : ℕ). get_or final k no_word ≡ operation_word s look first final (first + k) o) moved
    (solved_behind s look first back os (ws ++ w ∷ []) ordered i o e)

pub block_solves : (s : StepStart) (look : Look) (first : ℕ) → LooksBack look first → (os : List Operation) → IsOrdered first os
    → AreValues s look first os (values_of_operations s look first os)
block_solves s look first back os ordered =
    let final = values_of_operations s look first os in
    record {
      long = values_long s look first os [] ∙ omega arith;
      solve = record {
        each = λ i o e.
            let none : 0 + i ≡ i = omega arith in
            let from = solved_behind s look first back os [] (λ k p there. subst (λ (n : ℕ). TakesEarlier first (first + n) p) (omega arith) (ordered.each k p there)) i o e in
            let here = subst (λ (k : ℕ). get_or final k no_word ≡ operation_word s look first final (first + k) o) none from in
            subst (λ (k : ℕ). get_or final k no_word ≡ operation_word s look first final (first + i) o) (sym (add-sub_cancel_left first i)) here;
      };
    }

-- One solution.

pub below_suc : (i n : ℕ) → i < suc n → (i < n) ⊎ (i ≡ n)
below_suc i n h = grind arith

abbrev pub AgreeBelow : ℕ → (ws vs : List Word) → Type 0
AgreeBelow n ws vs = (k : ℕ) → k < n → get_or ws k no_word ≡ get_or vs k no_word

-- the equation of an operation at its place
pub equation_at : (s : StepStart) (look : Look) (first : ℕ) (os : List Operation) (ws : List Word) → AreValues s look first os ws
    → (i : ℕ) (o : Operation) → slice_get os i ≡ Some o → get_or ws i no_word ≡ operation_word s look first ws (first + i) o
equation_at s look first os ws w i o e =
    subst (λ (k : ℕ). get_or ws k no_word ≡ operation_word s look first ws (first + i) o) (add-sub_cancel_left first i) (w.solve.each i o e)

pub agree_at : (s : StepStart) (look : Look) (first : ℕ) → LooksBack look first → (os : List Operation) → IsOrdered first os → (ws vs : List Word)
    → AreValues s look first os ws → AreValues s look first os vs → (n : ℕ) → AgreeBelow n ws vs → get_or ws n no_word ≡ get_or vs n no_word
agree_at s look first back os ordered ws vs w v n below =
    elim (slice_get_cases os n).1 [
      | inl found ↦
          equation_at s look first os ws w n found.0 found.2
          ∙ (word_same s look first back ws vs (first + n) found.0
          (below_same first (first + n) ws vs (λ k h. below k (omega (arith, h))) found.0 (ordered.each n found.0 found.2))
          ∙ sym (equation_at s look first os vs v n found.0 found.2))
      | inr past ↦ get_or_past ws n no_word (omega (arith, w.long, past.0)) ∙ sym (get_or_past vs n no_word (omega (arith, v.long, past.0)))
    ]

pub agree_below : (s : StepStart) (look : Look) (first : ℕ) → LooksBack look first → (os : List Operation) → IsOrdered first os → (ws vs : List Word)
    → AreValues s look first os ws → AreValues s look first os vs → (n : ℕ) → AgreeBelow n ws vs
agree_below s look first back os ordered ws vs w v zero k h = absurd (omega arith)
agree_below s look first back os ordered ws vs w v (suc n) k h =
    elim (below_suc k n h) [
      | inl small ↦ agree_below s look first back os ordered ws vs w v n k small
      | inr here ↦
          subst (λ (x : ℕ). get_or ws x no_word ≡ get_or vs x no_word) (sym here)
          (agree_at s look first back os ordered ws vs w v n (agree_below s look first back os ordered ws vs w v n))
    ]

pub one_solution : (s : StepStart) (look : Look) (first : ℕ) → LooksBack look first → (os : List Operation) → IsOrdered first os → (ws vs : List Word)
    → AreValues s look first os ws → AreValues s look first os vs → ws ≡ vs
one_solution s look first back os ordered ws vs w v =
    ext_get_or no_word ws vs (w.long ∙ sym v.long) (λ i h. agree_below s look first back os ordered ws vs w v (length ws) i h)

pub has_one_solution : (s : StepStart) (look : Look) (first : ℕ) → LooksBack look first → (os : List Operation) → IsOrdered first os → HasOneSolution s look first os
has_one_solution s look first back os ordered =
    record {
      solves = block_solves s look first back os ordered;
      alone = λ ws w. one_solution s look first back os ordered ws (values_of_operations s look first os) w (block_solves s look first back os ordered);
    }
