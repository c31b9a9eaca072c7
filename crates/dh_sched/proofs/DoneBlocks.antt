-- Blocks scheduled one by one. Clocks are appended, so those of blocks before stay; the clocks of a block are those
-- behind the clocks of the blocks before it.
use Rattle.std.proofs.Common.{◌≡◌, ℕ, zero, suc, ◌+◌, ◌<◌, ◌≤◌, inl, inr, List, length, take, drop, get_or, refl, sym, ap, subst, ◌∙◌, add-one, arith}
use Rattle.std.specs.Prelude.{[], ◌∷◌, ◌++◌, slice_get}
use Rattle.std.proofs.Math.Seq.{get_or-append_seam}
use Rattle.std.proofs.lemmas.List.{get_or_append_left, length-append, length-drop, take_all, take-append-le, drop-append-le}
use Rattle.dh_plan.specs.declared.operations.Operation.{Operation}
use Rattle.dh_plan.specs.declared.operations.PlanBlock.{PlanBlock}
use Rattle.dh_plan.specs.declared.schedules.Limits.{Limits}
use Rattle.dh_plan.specs.LegalSchedules.{last_clock, AreLeast, IsLegalBlock}
use Rattle.dh_plan.specs.Ordered.{IsOrdered}
use Rattle.dh_plan.specs.PlainPlans.{operations_before, block_operations}
use Rattle.dh_plan.proofs.BlocksSolved.{below_suc}
use Rattle.dh_plan.proofs.LeastLegal.{length_one_more}
use Rattle.dh_sched.specs.LeastBlocks.{AreScheduled, own_clocks, IsDone, AreDone}
use Rattle.dh_sched.proofs.JudgedBlocks.{none_before, first_behind}

pub start_done : (limits : Limits) (bs : List PlanBlock) → AreDone limits bs [] [] 0
start_done limits bs = record { all_clocks = sym (none_before bs); all_lengths = refl; each = λ b h. absurd (omega (arith, h)) }

-- the operations of a block stand before those of any later one
before_grows : (bs : List PlanBlock) (b n : ℕ) → b < n → n ≤ length bs → operations_before bs b + length (block_operations (slice_get bs b)) ≤ operations_before bs n
before_grows [] b n h within = absurd (omega (arith, h, within))
before_grows (x ∷ bs) b zero h within = absurd (omega (arith, h))
before_grows (x ∷ bs) zero (suc n) h within = omega arith
before_grows (x ∷ bs) (suc b) (suc n) h within =
    let so = before_grows bs b n (omega (arith, h)) (omega (arith, within)) in
    omega (arith, so)

-- the clocks of a block stay as more are appended
own_stays : (bs : List PlanBlock) (cs more : List ℕ) (b n : ℕ) → b < n → n ≤ length bs → length cs ≡ operations_before bs n → own_clocks bs (cs ++ more) b ≡ own_clocks bs cs b
own_stays bs cs more b n h within long =
    let few = before_grows bs b n h within in
    let f = operations_before bs b in
    let l = length (block_operations (slice_get bs b)) in
    let left = length-drop f cs in
    ap (λ (xs : List ℕ). take l xs) (drop-append-le f cs more (omega (arith, few, long))) ∙ take-append-le l (drop f cs) more (omega (arith, few, left, long))

drop_first : (cs more : List ℕ) → drop (length cs) (cs ++ more) ≡ more
drop_first [] more = refl
drop_first (c ∷ cs) more = drop_first cs more

-- the clocks of the block that is done last
own_last : (bs : List PlanBlock) (cs own : List ℕ) (os : List Operation) (n : ℕ) → block_operations (slice_get bs n) ≡ os → length own ≡ length os → length cs ≡ operations_before bs n
    → own_clocks bs (cs ++ own) n ≡ own
own_last bs cs own os n is long at =
    ap (λ (xs : List Operation). take (length xs) (drop (operations_before bs n) (cs ++ own))) is
    ∙ (ap (λ (k : ℕ). take (length os) (drop k (cs ++ own))) (sym at)
    ∙ (ap (λ (xs : List ℕ). take (length os) xs) (drop_first cs own) ∙ take_all (length os) own (omega (arith, long))))

-- a block with these operations, clocks and this length, wherever they were found
moved_block : (limits : Limits) (first : ℕ) (os ps : List Operation) (cs ds : List ℕ) (l m : ℕ) → ps ≡ os → ds ≡ cs → m ≡ l → IsLegalBlock limits first os cs l → IsLegalBlock limits first ps ds m
moved_block limits first os ps cs ds l m eo ec el h =
    subst (λ (x : List Operation). IsLegalBlock limits first x ds m) (sym eo)
    (subst (λ (x : List ℕ). IsLegalBlock limits first os x m) (sym ec) (subst (λ (x : ℕ). IsLegalBlock limits first os cs x) (sym el) h))

moved_least : (limits : Limits) (first : ℕ) (os ps : List Operation) (cs ds : List ℕ) → ps ≡ os → ds ≡ cs → AreLeast limits first [] [] os cs → AreLeast limits first [] [] ps ds
moved_least limits first os ps cs ds eo ec h =
    subst (λ (x : List Operation). AreLeast limits first [] [] x ds) (sym eo) (subst (λ (x : List ℕ). AreLeast limits first [] [] os x) (sym ec) h)

done_stays : (limits : Limits) (bs : List PlanBlock) (cs ls own : List ℕ) (l b n : ℕ) → b < n → n ≤ length bs → length cs ≡ operations_before bs n → length ls ≡ n
    → IsDone limits bs cs ls b → IsDone limits bs (cs ++ own) (ls ++ l ∷ []) b
done_stays limits bs cs ls own l b n h within long many done =
    let os = block_operations (slice_get bs b) in
    let same = own_stays bs cs own b n h within long in
    record {
      legal = moved_block limits (operations_before bs b) os os (own_clocks bs cs b) (own_clocks bs (cs ++ own) b) (get_or ls b 0) (get_or (ls ++ l ∷ []) b 0) refl same
          (get_or_append_left ls (l ∷ []) 0 b (omega (arith, h, many))) done.legal;
      least = moved_least limits (operations_before bs b) os os (own_clocks bs cs b) (own_clocks bs (cs ++ own) b) refl same done.least;
    }

done_here : (limits : Limits) (bs : List PlanBlock) (cs ls own : List ℕ) (os : List Operation) (l n : ℕ) → block_operations (slice_get bs n) ≡ os → length cs ≡ operations_before bs n
    → length ls ≡ n → AreScheduled limits (length cs) os own → l ≡ suc (last_clock os own) → IsDone limits bs (cs ++ own) (ls ++ l ∷ []) n
done_here limits bs cs ls own os l n is long many scheduled length_is =
    let same = own_last bs cs own os n is scheduled.long long in
    let at : get_or (ls ++ l ∷ []) n 0 ≡ l = ap (λ (k : ℕ). get_or (ls ++ l ∷ []) k 0) (sym many) ∙ get_or-append_seam ls l [] 0 in
    let P : ℕ → Type 0 = λ f. IsLegalBlock limits f (block_operations (slice_get bs n)) (own_clocks bs (cs ++ own) n) (get_or (ls ++ l ∷ []) n 0) in
    let Q : ℕ → Type 0 = λ f. AreLeast limits f [] [] (block_operations (slice_get bs n)) (own_clocks bs (cs ++ own) n) in
    record {
      legal = subst P long (moved_block limits (length cs) os (block_operations (slice_get bs n)) own (own_clocks bs (cs ++ own) n) l (get_or (ls ++ l ∷ []) n 0) is same at
          (record { needs = scheduled.needs; products = scheduled.products; chains = scheduled.chains; ends = length_is }));
      least = subst Q long (moved_least limits (length cs) os (block_operations (slice_get bs n)) own (own_clocks bs (cs ++ own) n) is same scheduled.least);
    }

pub done_turn : (limits : Limits) (bs : List PlanBlock) (cs ls own : List ℕ) (os : List Operation) (l n : ℕ) → n < length bs → block_operations (slice_get bs n) ≡ os
    → AreDone limits bs cs ls n → AreScheduled limits (length cs) os own → l ≡ suc (last_clock os own) → AreDone limits bs (cs ++ own) (ls ++ l ∷ []) (n + 1)
done_turn limits bs cs ls own os l n within is done scheduled length_is =
    let long = done.all_clocks in
    let many = done.all_lengths in
    let next = first_behind bs n within in
    let one : operations_before bs (n + 1) ≡ operations_before bs (suc n) = ap (λ (k : ℕ). operations_before bs k) (add-one n) in
    let both = length-append cs own in
    let more = length_one_more ls l in
    let own_long = scheduled.long in
    let os_long = ap length is in
    record {
      all_clocks = omega (arith, long, next, one, both, own_long, os_long);
      all_lengths = omega (arith, many, more);
      each = λ b h. elim (below_suc b n (omega (arith, h))) [
        | inl small ↦ done_stays limits bs cs ls own l b n small (omega (arith, within)) long many (done.each b small)
        | inr same ↦ subst (λ (k : ℕ). IsDone limits bs (cs ++ own) (ls ++ l ∷ []) k) (sym same) (done_here limits bs cs ls own os l n is long many scheduled length_is)
      ];
    }

-- the operations of the block at hand take earlier values
pub ordered_here : (bs ps : List PlanBlock) (n first : ℕ) (os : List Operation) → bs ≡ ps → block_operations (slice_get bs n) ≡ os → first ≡ operations_before bs n
    → IsOrdered (operations_before ps n) (block_operations (slice_get ps n)) → IsOrdered first os
ordered_here bs ps n first os same is at h =
    let a = subst (λ (xs : List PlanBlock). IsOrdered (operations_before xs n) (block_operations (slice_get xs n))) (sym same) h in
    subst (λ (xs : List Operation). IsOrdered first xs) is (subst (λ (k : ℕ). IsOrdered k (block_operations (slice_get bs n))) (sym at) a)
