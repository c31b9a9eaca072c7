-- Cutting the list of operations from its end: what is left of it, and the blocks cut off so far. And what the blocks
-- are then: each begins at its start, and has the operations up to the next one.
use Rattle.std.proofs.Common.{◌≡◌, ℕ, zero, suc, ◌+◌, ◌-◌, ◌<◌, ◌≤◌, min, List, [], ◌∷◌, ◌++◌, length, map, take, drop, reverse, get_or, zero-add, refl, ap, sym, ◌∙◌, subst, arith}
use Rattle.std.specs.Prelude.{slice_get, slice_index, slice_index_or}
use Rattle.std.proofs.lemmas.List.{length-drop, reverse-append}
use Rattle.std.proofs.Math.Nat.{min-eq_left}
use Rattle.dh_plan.specs.declared.operations.Operation.{Operation}
use Rattle.dh_plan.specs.declared.operations.PlanBlock.{PlanBlock}
use Rattle.dh_gathering.specs.Growing.{place_among}
use Rattle.dh_plan.specs.PlainPlans.{block_operations, operations_before}
use Rattle.dh_gathering.specs.Cutting.{AreBlocksOf, AreRisingStarts, IsCutAtStarts, operations_between}

-- where the first of these blocks begins: behind all where there is none
abbrev pub next_place : List Operation → (starts : List ℕ) → ℕ
next_place operations [] = length operations
next_place operations (start ∷ starts) = start

abbrev pub all_between : List Operation → (starts : List ℕ) → List (List Operation)
all_between operations [] = []
all_between operations (start ∷ starts) = operations_between operations start (next_place operations starts) ∷ all_between operations starts

abbrev pub operations_of : List PlanBlock → List (List Operation)
operations_of blocks = map (λ b. b.operations) blocks

place_is : (ops : List Operation) (starts : List ℕ) (i : ℕ) → next_place ops (drop i starts) ≡ place_among ops starts i
place_is ops [] zero = refl
place_is ops [] (suc i) = refl
place_is ops (s ∷ starts) zero = refl
place_is ops (s ∷ starts) (suc i) = place_is ops starts i

between_at : (ops : List Operation) (starts : List ℕ) (i : ℕ) → i < length starts → all_between ops (drop i starts) ≡ operations_between ops (place_among ops starts i) (place_among ops starts (suc i)) ∷ all_between ops (drop (suc i) starts)
between_at ops [] i within = absurd (none i within)
  where
    none : (n : ℕ) → n < 0 → ⊥
    none n h = omega (arith, h)
between_at ops (s ∷ starts) zero within = ap (λ (n : ℕ). operations_between ops s n ∷ all_between ops starts) (place_is ops starts zero)
between_at ops (s ∷ starts) (suc i) within = between_at ops starts i (less i (length starts) within)
  where
    less : (n m : ℕ) → suc n < suc m → n < m
    less n m h = omega (arith, h)

take_long : (ops : List Operation) (n : ℕ) → n ≤ length ops → length (take n ops) ≡ n
take_long [] zero within = refl
take_long [] (suc n) within = absurd (none n within)
  where
    none : (n : ℕ) → suc n ≤ 0 → ⊥
    none n h = omega (arith, h)
take_long (o ∷ ops) zero within = refl
take_long (o ∷ ops) (suc n) within = ap suc (take_long ops n (less n (length ops) within))
  where
    less : (n m : ℕ) → suc n ≤ suc m → n ≤ m
    less n m h = omega (arith, h)

take_twice : (ops : List Operation) (n m : ℕ) → n ≤ m → take n (take m ops) ≡ take n ops
take_twice ops zero m within = refl
take_twice ops (suc n) zero within = absurd (none n within)
  where
    none : (n : ℕ) → suc n ≤ 0 → ⊥
    none n h = omega (arith, h)
take_twice [] (suc n) (suc m) within = refl
take_twice (o ∷ ops) (suc n) (suc m) within = ap (λ (l : List Operation). o ∷ l) (take_twice ops n m (less n m within))
  where
    less : (n m : ℕ) → suc n ≤ suc m → n ≤ m
    less n m h = omega (arith, h)

take_all : (ops : List Operation) → take (length ops) ops ≡ ops
take_all [] = refl
take_all (o ∷ ops) = ap (λ (l : List Operation). o ∷ l) (take_all ops)

-- from this start on the blocks are cut off
pub record CutFrom (ops : List Operation) (starts : List ℕ) (i : ℕ) (left : List Operation) (blocks : List PlanBlock) : Type 0 where
  pub within : place_among ops starts i ≤ length ops
  pub left_is : left ≡ take (place_among ops starts i) ops
  pub blocks_are : operations_of (reverse blocks) ≡ all_between ops (drop i starts)

abbrev pub CutAt : (ops : List Operation) → (starts : List ℕ) → (i : ℕ) → (left : List Operation) → (blocks : List PlanBlock) → Type 0
CutAt ops starts i left blocks = AreRisingStarts ops starts → CutFrom ops starts i left blocks

pub cut_begin : (ops : List Operation) (starts : List ℕ) (i : ℕ) (blocks : List PlanBlock) → i ≡ length starts → blocks ≡ [] → CutAt ops starts i ops blocks
cut_begin ops starts i blocks last none rising = record {
  within = subst (λ (n : ℕ). n ≤ length ops) (sym past) (same (length ops));
  left_is = sym (ap (λ (n : ℕ). take n ops) past ∙ take_all ops);
  blocks_are = ap (λ (bs : List PlanBlock). operations_of (reverse bs)) none ∙ sym (ap (λ (n : ℕ). all_between ops (drop n starts)) last ∙ ap (λ (l : List ℕ). all_between ops l) (drop_all starts));
}
  where
    same : (n : ℕ) → n ≤ n
    same n = omega arith

    drop_all : (l : List ℕ) → drop (length l) l ≡ []
    drop_all [] = refl
    drop_all (x ∷ l) = drop_all l

    behind : (l : List ℕ) (d : ℕ) → slice_index_or l (length l) d ≡ d
    behind [] d = refl
    behind (x ∷ l) d = behind l d

    past : place_among ops starts i ≡ length ops
    past = ap (λ (n : ℕ). place_among ops starts n) last ∙ behind starts (length ops)

-- the block in front: `k` is the number of the one behind it
pub cut_turn : (ops : List Operation) (starts : List ℕ) (i k start : ℕ) (left left' own : List Operation) (blocks blocks' : List PlanBlock) (block : PlanBlock) → k ≡ suc i → i < length starts → start ≡ min (place_among ops starts i) (length left)
    → left' ≡ take start left → own ≡ drop start left → block.operations ≡ own → blocks' ≡ blocks ++ block ∷ [] → CutAt ops starts k left blocks → CutAt ops starts i left' blocks'
cut_turn ops starts i k start left left' own blocks blocks' block next there start_is left_is own_is block_is blocks_are h rising = record {
  within = least (place_among ops starts i) (place_among ops starts (suc i)) (length ops) (rising.rising i) c.within;
  left_is = left_is ∙ (ap (λ (n : ℕ). take n left) is ∙ (ap (λ (l : List Operation). take (place_among ops starts i) l) c.left_is ∙ take_twice ops (place_among ops starts i) (place_among ops starts (suc i)) (rising.rising i)));
  blocks_are =
      ap (λ (bs : List PlanBlock). operations_of (reverse bs)) blocks_are
      ∙ (ap (λ (bs : List PlanBlock). operations_of bs) (reverse-append blocks (block ∷ []))
      ∙ (ap (λ (os : List Operation). os ∷ operations_of (reverse blocks)) (block_is ∙ (own_is ∙ (ap (λ (n : ℕ). drop n left) is ∙ ap (λ (l : List Operation). drop (place_among ops starts i) l) c.left_is)))
      ∙ (ap (λ (l : List (List Operation)). operations_between ops (place_among ops starts i) (place_among ops starts (suc i)) ∷ l) c.blocks_are
      ∙ sym (between_at ops starts i there))));
}
  where
    c : CutFrom ops starts (suc i) left blocks
    c = subst (λ (n : ℕ). CutFrom ops starts n left blocks) next (h rising)

    least : (a b m : ℕ) → a ≤ b → b ≤ m → a ≤ m
    least a b m x y = omega (arith, x, y)

    long : length left ≡ place_among ops starts (suc i)
    long = ap (λ (l : List Operation). length l) c.left_is ∙ take_long ops (place_among ops starts (suc i)) c.within

    is : start ≡ place_among ops starts i
    is = start_is ∙ min-eq_left (subst (λ (n : ℕ). place_among ops starts i ≤ n) (sym long) (rising.rising i))

-- What the blocks are that were cut off.

between_long : (ops : List Operation) (a b : ℕ) → a ≤ b → b ≤ length ops → a + length (operations_between ops a b) ≡ b
between_long ops a b below within = sum (length (operations_between ops a b)) (ap (λ (n : ℕ). n) (length-drop a (take b ops)) ∙ ap (λ (n : ℕ). n - a) (take_long ops b within))
  where
    sum : (n : ℕ) → n ≡ b - a → a + n ≡ b
    sum n e = omega (arith, e, below)

rises : (ops : List Operation) (starts : List ℕ) → ((block : ℕ) → place_among ops starts block ≤ place_among ops starts (suc block)) → (block : ℕ) → place_among ops starts block ≤ length ops
rises ops [] h block = same (length ops)
  where
    same : (n : ℕ) → n ≤ n
    same n = omega arith
rises ops (s ∷ starts) h zero = least s (place_among ops starts zero) (length ops) (h zero) (rises ops starts (λ block. h (suc block)) zero)
  where
    least : (a b m : ℕ) → a ≤ b → b ≤ m → a ≤ m
    least a b m x y = omega (arith, x, y)
rises ops (s ∷ starts) h (suc block) = rises ops starts (λ k. h (suc k)) block

before_none : (blocks : List PlanBlock) → operations_before blocks zero ≡ 0
before_none [] = refl
before_none (b ∷ blocks) = refl

abbrev Rises : List Operation → List ℕ → Type 0
Rises ops starts = (block : ℕ) → place_among ops starts block ≤ place_among ops starts (suc block)

begins_from : (ops : List Operation) (starts : List ℕ) (blocks : List PlanBlock) → Rises ops starts → operations_of blocks ≡ all_between ops starts → (block : ℕ) → block ≤ length starts
    → place_among ops starts 0 + operations_before blocks block ≡ place_among ops starts block
begins_from ops starts blocks h is zero within = ap (λ (n : ℕ). place_among ops starts 0 + n) (before_none blocks) ∙ none (place_among ops starts 0)
  where
    none : (n : ℕ) → n + 0 ≡ n
    none n = omega arith
begins_from ops [] blocks h is (suc block) within = absurd (none block within)
  where
    none : (n : ℕ) → suc n ≤ 0 → ⊥
    none n l = omega (arith, l)
begins_from ops (s ∷ starts) [] h is (suc block) within = absurd cc
begins_from ops (s ∷ starts) (b ∷ blocks) h is (suc block) within =
    assoc s (length b.operations) (operations_before blocks block)
    ∙ (ap (λ (n : ℕ). n + operations_before blocks block) next_is ∙ begins_from ops starts blocks (λ k. h (suc k)) (ap (λ (l : List (List Operation)). drop 1 l) is) block (less block (length starts) within))
  where
    less : (n m : ℕ) → suc n ≤ suc m → n ≤ m
    less n m e = omega (arith, e)

    assoc : (x y z : ℕ) → x + (y + z) ≡ x + y + z
    assoc x y z = omega arith

    own : b.operations ≡ operations_between ops s (place_among ops starts zero)
    own = ap (λ (l : List (List Operation)). get_or l 0 []) is ∙ ap (λ (n : ℕ). operations_between ops s n) (place_is ops starts zero)

    next_is : s + length b.operations ≡ place_among ops starts zero
    next_is = ap (λ (l : List Operation). s + length l) own ∙ between_long ops s (place_among ops starts zero) (h zero) (rises ops starts (λ k. h (suc k)) zero)

own_from : (ops : List Operation) (starts : List ℕ) (blocks : List PlanBlock) → operations_of blocks ≡ all_between ops starts → (block : ℕ) → block < length starts
    → block_operations (slice_get blocks block) ≡ operations_between ops (place_among ops starts block) (place_among ops starts (suc block))
own_from ops [] blocks is block within = absurd (none block within)
  where
    none : (n : ℕ) → n < 0 → ⊥
    none n l = omega (arith, l)
own_from ops (s ∷ starts) [] is block within = absurd cc
own_from ops (s ∷ starts) (b ∷ blocks) is zero within = ap (λ (l : List (List Operation)). get_or l 0 []) is ∙ ap (λ (n : ℕ). operations_between ops s n) (place_is ops starts zero)
own_from ops (s ∷ starts) (b ∷ blocks) is (suc block) within = own_from ops starts blocks (ap (λ (l : List (List Operation)). drop 1 l) is) block (less block (length starts) within)
  where
    less : (n m : ℕ) → suc n < suc m → n < m
    less n m e = omega (arith, e)

count_from : (ops : List Operation) (starts : List ℕ) (blocks : List PlanBlock) → operations_of blocks ≡ all_between ops starts → length blocks ≡ length starts
count_from ops [] [] is = refl
count_from ops [] (b ∷ blocks) is = absurd cc
count_from ops (s ∷ starts) [] is = absurd cc
count_from ops (s ∷ starts) (b ∷ blocks) is = ap suc (count_from ops starts blocks (ap (λ (l : List (List Operation)). drop 1 l) is))

pub blocks_are_of : (ops : List Operation) (starts : List ℕ) (blocks : List PlanBlock) → AreRisingStarts ops starts → operations_of blocks ≡ all_between ops starts → AreBlocksOf ops starts blocks
blocks_are_of ops starts blocks rising is = record {
  count = count_from ops starts blocks is;
  begins = λ block within. sym (zero-add (operations_before blocks block)) ∙ (ap (λ (n : ℕ). n + operations_before blocks block) (sym rising.first) ∙ begins_from ops starts blocks rising.rising is block within);
  own = own_from ops starts blocks is;
}

pub cut_end : (ops : List Operation) (starts : List ℕ) (i : ℕ) (left : List Operation) (blocks reversed : List PlanBlock) → i ≡ 0 → reversed ≡ reverse blocks → CutAt ops starts i left blocks → IsCutAtStarts ops starts reversed
cut_end ops starts i left blocks reversed none is h rising =
    blocks_are_of ops starts reversed rising (ap operations_of is ∙ ((h rising).blocks_are ∙ ap (λ (n : ℕ). all_between ops (drop n starts)) none))

-- As the code comes to it: the block in front of a number.
pub cut_step : (ops : List Operation) (starts : List ℕ) (i start n : ℕ) (left left' own : List Operation) (blocks blocks' : List PlanBlock) (block : PlanBlock) → 0 < i → i ≤ length starts → start ≡ min (slice_index starts (i - 1)) n → n ≡ length left
    → left' ≡ take start left → own ≡ drop start left → block.operations ≡ own → blocks' ≡ blocks ++ block ∷ [] → CutAt ops starts i left blocks → CutAt ops starts (i - 1) left' blocks'
cut_step ops starts i start n left left' own blocks blocks' block some within start_is long left_is own_is block_is blocks_are h =
    cut_turn ops starts (i - 1) i start left left' own blocks blocks' block (back i some) there (start_is ∙ (ap (λ (m : ℕ). min (slice_index starts (i - 1)) m) long ∙ ap (λ (m : ℕ). min m (length left)) (other starts (i - 1) (length ops) there))) left_is own_is block_is blocks_are h
  where
    back : (m : ℕ) → 0 < m → m ≡ suc (m - 1)
    back m l = omega (arith, l)

    before : (m l : ℕ) → 0 < m → m ≤ l → m - 1 < l
    before m l a b = omega (arith, a, b)

    there : i - 1 < length starts
    there = before i (length starts) some within

    other : (xs : List ℕ) (k d : ℕ) → k < length xs → slice_index xs k ≡ slice_index_or xs k d
    other [] k d l = absurd (none k l)
      where
        none : (m : ℕ) → m < 0 → ⊥
        none m e = omega (arith, e)
    other (x ∷ xs) zero d l = refl
    other (x ∷ xs) (suc k) d l = other xs k d (less k (length xs) l)
      where
        less : (a b : ℕ) → suc a < suc b → a < b
        less a b e = omega (arith, e)

pub cut_last : (ops : List Operation) (starts : List ℕ) (i : ℕ) (left : List Operation) (blocks reversed all : List PlanBlock) → i ≤ 0 → reversed ≡ reverse blocks → all ≡ reversed → CutAt ops starts i left blocks → IsCutAtStarts ops starts all
cut_last ops starts i left blocks reversed all none is same h = cut_end ops starts i left blocks all (zeroth i none) (same ∙ is) h
  where
    zeroth : (m : ℕ) → m ≤ 0 → m ≡ 0
    zeroth m e = omega (arith, e)
