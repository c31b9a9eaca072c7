-- The loops round a block: the paths inside them, and that their iterators are in turns, by their counters.
use Rattle.std.proofs.Common.{◌≡◌, ◌⊎◌, inl, inr, ℕ, zero, suc, ◌+◌, ◌-◌, ◌*◌, ◌<◌, ◌≤◌, ◌==◌, Bool, true, false, if◌then◌else◌, List, [], ◌∷◌, ◌++◌, length, map, take, drop, get_or, Some, refl, ap, sym, ◌∙◌, subst, arith, append_assoc, append-nil}
use Rattle.std.specs.Prelude.{nat_le, nat_lt, pos, slice_get, slice_index, slice_index_or}
use Rattle.std.proofs.lemmas.Bool.{cases_lt}
use Rattle.std.proofs.lemmas.Bool.Decides.{nat_tests}
use Rattle.std.proofs.lemmas.List.{length-append}
use Rattle.dh_value.specs.declared.kinds.Kind.{Kind}
use Rattle.dh_tree.specs.declared.trees.expressions.Ref.{Ref}
use Rattle.dh_meaning.specs.Core.{Turning}
use Rattle.dh_meaning.specs.CoreOf.{entity_number}
use Rattle.dh_meaning.specs.Effects.{Variables}
use Rattle.dh_meaning.specs.Paths.{Path, all_copies, copies_in, outer_paths, paths_in}
use Rattle.dh_meaning.specs.Runs.{inner_paths, iterator_value, last_copy}
use Rattle.dh_plan.specs.Blocks.{is_on, kind_at}
use Rattle.dh_plan.specs.Correspondence.{AreCounted, IsCounted, Round, paths_of_rounds, paths_within, loops_round}
use Rattle.dh_code.specs.Ranks.{IsPath, rank_of}
use Rattle.dh_code.specs.Slots.{held_at}
use Rattle.dh_code.proofs.PathsInOrder.{AreFrom, length_paths, paths_are, paths_snoc}
use Rattle.dh_code.proofs.Ranked.{path_begins, ranks_differ}
use Rattle.dh_sound.specs.Blocks.{factors}
use Rattle.dh_sound.specs.IteratorsAt.{IteratorAt}
use Rattle.dh_sound.proofs.PathParts.{last_of_outer}
use Rattle.dh_expressions.specs.declared.scenes.Around.{Around}
use Rattle.dh_expressions.specs.declared.scenes.Scene.{Scene}
use Rattle.dh_expressions.specs.Drafted.{BlockStep}
use Rattle.dh_expressions.specs.Levels.{copy_to, last_number, path_at}
use Rattle.dh_expressions.proofs.ListPlaces.{some_same, there}
use Rattle.dh_commands.specs.LanesRun.{is_on_at, path_if, path_in, paths_counted, paths_on, paths_to}
use Rattle.dh_commands.specs.ShownVariables.{level_factors}
use Rattle.dh_blocks.specs.NamedVariables.{IsNamedVariable, IsNamedHere, IsOfRound, IsIteratorInTurn, turn_shown}
use Rattle.dh_blocks.specs.BlockMade.{IsTop}
use Rattle.dh_blocks.proofs.PathNumbers.{copy_in_path, numbered, rank_small}

-- Paths.

inner_is : (gs : List ℕ) (loop : Turning) → inner_paths (paths_in gs) loop ≡ paths_in (gs ++ factors (loop ∷ []))
inner_is gs loop = by (nat_lt 1 loop.factor)
  where
    by : (b : Bool) → (if b then all_copies (paths_in gs) loop.factor else paths_in gs) ≡ paths_in (gs ++ (if b then loop.factor ∷ [] else []))
    by true = sym (paths_snoc outer_paths gs loop.factor)
    by false = ap paths_in (sym (append-nil gs))

factors_first : (loop : Turning) (ls : List Turning) → factors (loop ∷ ls) ≡ factors (loop ∷ []) ++ factors ls
factors_first loop ls = by (nat_lt 1 loop.factor)
  where
    by : (b : Bool) → (if b then loop.factor ∷ factors ls else factors ls) ≡ (if b then loop.factor ∷ [] else []) ++ factors ls
    by true = refl
    by false = refl

within_is : (gs : List ℕ) (rounds : List Round) → paths_within (paths_in gs) rounds ≡ paths_in (gs ++ factors (loops_round rounds))
within_is gs [] = ap paths_in (sym (append-nil gs))
within_is gs (r ∷ rs) =
    ap (λ (ps : List Path). paths_within ps rs) (inner_is gs r.loop)
    ∙ (within_is (gs ++ factors (r.loop ∷ [])) rs
    ∙ ap paths_in (append_assoc gs (factors (r.loop ∷ [])) (factors (loops_round rs)) ∙ ap (λ (l : List ℕ). gs ++ l) (sym (factors_first r.loop (loops_round rs)))))

pub rounds_paths : (rounds : List Round) → paths_of_rounds rounds ≡ paths_in (factors (loops_round rounds))
rounds_paths rounds = within_is [] rounds

-- the paths of a block are all of them, in order
module _ (x : BlockStep) (rounds : List Round) (around : Around) (top : IsTop rounds around) where
  pub always_on : (number : ℕ) → is_on_at x around number ≡ true
  always_on number = ap (λ g. is_on x.first x.words g) (top.free number)

  to_long : (n : ℕ) → length (paths_to x around n) ≡ n
  to_long zero = refl
  to_long (suc n) =
      ap (λ b. length (paths_to x around n ++ path_if b (path_in around n))) (always_on n)
      ∙ (length-append (paths_to x around n) (path_in around n ∷ []) ∙ one (length (paths_to x around n)) n (to_long n))
    where
      one : (a b : ℕ) → a ≡ b → a + 1 ≡ suc b
      one a b e = omega (arith, e)

  to_at : (n i : ℕ) → i < n → get_or (paths_to x around n) i [] ≡ path_in around i
  to_at zero i h = absurd (none i h)
    where
      none : (m : ℕ) → m < 0 → ⊥
      none m h = omega (arith, h)
  to_at (suc n) i h =
      ap (λ b. get_or (paths_to x around n ++ path_if b (path_in around n)) i []) (always_on n)
      ∙ by (λ l. to_at n i l) (cases_lt i n)
    where
      front : (xs : List Path) (y : Path) (i : ℕ) → i < length xs → get_or (xs ++ y ∷ []) i [] ≡ get_or xs i []
      front [] y i h = absurd (none i h)
        where
          none : (m : ℕ) → m < 0 → ⊥
          none m h = omega (arith, h)
      front (z ∷ xs) y zero h = refl
      front (z ∷ xs) y (suc i) h = front xs y i (less i (length xs) h)
        where
          less : (m l : ℕ) → suc m < suc l → m < l
          less m l e = omega (arith, e)

      last : (xs : List Path) (y : Path) (i : ℕ) → i ≡ length xs → get_or (xs ++ y ∷ []) i [] ≡ y
      last [] y i e = ap (λ j. get_or (y ∷ []) j []) e
      last (z ∷ xs) y i e = ap (λ j. get_or (z ∷ (xs ++ y ∷ [])) j []) e ∙ last xs y (length xs) refl

      by : (i < n → get_or (paths_to x around n) i [] ≡ path_in around i) → (i < n) ⊎ (n ≤ i) → get_or (paths_to x around n ++ path_in around n ∷ []) i [] ≡ path_in around i
      by before (inl l) = front (paths_to x around n) (path_in around n) i (subst (λ (m : ℕ). i < m) (sym (to_long n)) l) ∙ before l
      by before (inr l) = let same : i ≡ n = omega (arith, l, h) in last (paths_to x around n) (path_in around n) i (same ∙ sym (to_long n)) ∙ ap (λ m. path_in around m) (sym same)

  pub paths_are_rounds : paths_on x around ≡ paths_of_rounds rounds
  paths_are_rounds =
      all_same (paths_on x around) (paths_in (level_factors around.levels.now))
      (to_long (paths_counted around) ∙ (top.counted ∙ sym (length_paths (level_factors around.levels.now))))
      (λ i h. let within = subst (λ (m : ℕ). i < m) (to_long (paths_counted around)) h in
      to_at (paths_counted around) i within ∙ sym (numbered around.levels.now top.spread i (subst (λ (m : ℕ). i < m) top.counted within)).listed)
      ∙ (ap paths_in top.factors_are ∙ sym (rounds_paths rounds))
    where
      all_same : (xs ys : List Path) → length xs ≡ length ys → ((i : ℕ) → i < length xs → get_or xs i [] ≡ get_or ys i []) → xs ≡ ys
      all_same [] [] e h = refl
      all_same [] (y ∷ ys) e h = absurd (cc)
      all_same (z ∷ xs) [] e h = absurd (cc)
      all_same (z ∷ xs) (y ∷ ys) e h =
          ap (λ (w : Path). w ∷ xs) (h 0 (some (length xs))) ∙ ap (λ (l : List Path). y ∷ l) (all_same xs ys (less _ _ e) (λ i l. h (suc i) (more i (length xs) l)))
        where
          some : (n : ℕ) → 0 < suc n
          some n = omega arith

          less : (a b : ℕ) → suc a ≡ suc b → a ≡ b
          less a b e = omega (arith, e)

          more : (a b : ℕ) → a < b → suc a < suc b
          more a b e = omega (arith, e)

-- Turns.

counted_at : (gs : List ℕ) (rounds : List Round) (registers : List ℕ) (v : Variables) (j : ℕ) (r : Round) → AreCounted (paths_in gs) rounds registers v → slice_get rounds j ≡ Some r
    → IsCounted (paths_in (gs ++ factors (loops_round (take (suc j) rounds)))) r registers v
counted_at gs [] registers v j r c at = absurd (cc)
counted_at gs (q ∷ rs) registers v zero r c at =
    subst (λ (ps : List Path). IsCounted ps r registers v) (inner_is gs r.loop ∙ ap (λ (l : Turning). paths_in (gs ++ factors (l ∷ []))) (ap (λ (p : Round). p.loop) (sym (some_same q r at))))
    (subst (λ (p : Round). IsCounted (inner_paths (paths_in gs) p.loop) p registers v) (some_same q r at) c.0)
counted_at gs (q ∷ rs) registers v (suc j) r c at =
    subst (λ (l : List ℕ). IsCounted (paths_in l) r registers v)
    (append_assoc gs (factors (q.loop ∷ [])) (factors (loops_round (take (suc j) rs))) ∙ ap (λ (l : List ℕ). gs ++ l) (sym (factors_first q.loop (loops_round (take (suc j) rs)))))
    (counted_at (gs ++ factors (q.loop ∷ [])) rs registers v j r (subst (λ (ps : List Path). AreCounted ps rs registers v) (inner_is gs q.loop) c.1) at)

-- a path stands among all of them at its rank
from_rank : (fs : List ℕ) (k : ℕ) (ps : List Path) (i : ℕ) (q : Path) → AreFrom fs k ps → slice_get ps i ≡ Some q → IsPath fs q × (rank_of fs q ≡ k + i)
from_rank fs k [] i q h e = absurd (cc)
from_rank fs k (p ∷ ps) zero q h e = subst (λ (z : Path). IsPath fs z × (rank_of fs z ≡ k + 0)) (some_same p q e) (h.0.0, h.0.1 ∙ none k)
  where
    none : (k : ℕ) → k ≡ k + 0
    none k = omega arith
from_rank fs k (p ∷ ps) (suc i) q h e = let g = from_rank fs (suc k) ps i q h.1 e in (g.0, g.1 ∙ moved k i)
  where
    moved : (k i : ℕ) → suc k + i ≡ k + suc i
    moved k i = omega arith

listed_at : (fs : List ℕ) (p : Path) → IsPath fs p → slice_get (paths_in fs) (rank_of fs p) ≡ Some p
listed_at fs p h =
    let (q, is) = there (paths_in fs) (rank_of fs p) (subst (λ (n : ℕ). rank_of fs p < n) (sym (length_paths fs)) (rank_small fs p h)) in
    let g = from_rank fs 0 (paths_in fs) (rank_of fs p) q (paths_are fs) is in
    is ∙ ap Some (ranks_differ 0 0 fs q p g.0 h (g.1 ∙ none (rank_of fs p))).1
  where
    none : (n : ℕ) → 0 + n ≡ n
    none n = omega arith

-- the factors of the first loops are the first factors
factors_append : (ks ls : List Turning) → factors (ks ++ ls) ≡ factors ks ++ factors ls
factors_append [] ls = refl
factors_append (k ∷ ks) ls =
    factors_first k (ks ++ ls) ∙ (ap (λ (l : List ℕ). factors (k ∷ []) ++ l) (factors_append ks ls)
    ∙ (sym (append_assoc (factors (k ∷ [])) (factors ks) (factors ls)) ∙ ap (λ (l : List ℕ). l ++ factors ls) (sym (factors_first k ks))))

take_front : (xs ys : List ℕ) → take (length xs) (xs ++ ys) ≡ xs
take_front [] ys = refl
take_front (x ∷ xs) ys = ap (λ (l : List ℕ). x ∷ l) (take_front xs ys)

first_loops : (rounds : List Round) (n : ℕ) → loops_round rounds ≡ loops_round (take n rounds) ++ loops_round (drop n rounds)
first_loops [] zero = refl
first_loops [] (suc n) = refl
first_loops (r ∷ rs) zero = refl
first_loops (r ∷ rs) (suc n) = ap (λ (l : List Turning). r.loop ∷ l) (first_loops rs n)

first_factors : (rounds : List Round) (n : ℕ) → take (length (factors (loops_round (take n rounds)))) (factors (loops_round rounds)) ≡ factors (loops_round (take n rounds))
first_factors rounds n =
    ap (λ (l : List Turning). take (length (factors (loops_round (take n rounds)))) (factors l)) (first_loops rounds n)
    ∙ (ap (λ (l : List ℕ). take (length (factors (loops_round (take n rounds)))) l) (factors_append (loops_round (take n rounds)) (loops_round (drop n rounds)))
    ∙ take_front (factors (loops_round (take n rounds))) (factors (loops_round (drop n rounds))))

-- an unrolled loop has the last of the first factors
last_factor : (rounds : List Round) (j : ℕ) (r : Round) → slice_get rounds j ≡ Some r → nat_lt 1 r.loop.factor ≡ true
    → (n : ℕ) × ((length (factors (loops_round (take (suc j) rounds))) ≡ suc n) × (slice_get (factors (loops_round (take (suc j) rounds))) n ≡ Some r.loop.factor))
last_factor [] j r at many = absurd (cc)
last_factor (q ∷ rs) zero r at many =
    subst (λ (p : Round). (n : ℕ) × ((length (factors (p.loop ∷ [])) ≡ suc n) × (slice_get (factors (p.loop ∷ [])) n ≡ Some r.loop.factor))) (sym (some_same q r at)) (0, (by (nat_lt 1 r.loop.factor) many, to (nat_lt 1 r.loop.factor) many))
  where
    by : (b : Bool) → b ≡ true → length (if b then r.loop.factor ∷ [] else []) ≡ 1
    by true e = refl
    by false e = cc

    to : (b : Bool) → b ≡ true → slice_get (if b then r.loop.factor ∷ [] else []) 0 ≡ Some r.loop.factor
    to true e = refl
    to false e = cc
last_factor (q ∷ rs) (suc j) r at many =
    let (n, (long, is)) = last_factor rs j r at many in (
      length (factors (q.loop ∷ [])) + n,
      (
        ap length (factors_first q.loop (loops_round (take (suc j) rs))) ∙ (length-append (factors (q.loop ∷ [])) (factors (loops_round (take (suc j) rs))) ∙ sums (length (factors (q.loop ∷ []))) _ n long),
        ap (λ (l : List ℕ). slice_get l (length (factors (q.loop ∷ [])) + n)) (factors_first q.loop (loops_round (take (suc j) rs))) ∙ (behind (factors (q.loop ∷ [])) (factors (loops_round (take (suc j) rs))) n ∙ is),
      ),
    )
  where
    sums : (a b n : ℕ) → b ≡ suc n → a + b ≡ suc (a + n)
    sums a b n e = omega (arith, e)

    behind : (xs ys : List ℕ) (i : ℕ) → slice_get (xs ++ ys) (length xs + i) ≡ slice_get ys i
    behind [] ys i = ap (λ j. slice_get ys j) (none i)
      where
        none : (i : ℕ) → 0 + i ≡ i
        none i = omega arith
    behind (x ∷ xs) ys i = ap (λ j. slice_get (x ∷ (xs ++ ys)) j) (one (length xs) i) ∙ behind xs ys i
      where
        one : (l i : ℕ) → suc l + i ≡ suc (l + i)
        one l i = omega arith

index_below : (fs : List ℕ) (p : Path) (n f : ℕ) → IsPath fs p → slice_get fs n ≡ Some f → slice_index_or p n 0 < f
index_below [] [] n f h e = absurd (cc)
index_below [] (c ∷ p) n f h e = absurd h
index_below (g ∷ fs) [] n f h e = absurd h
index_below (g ∷ fs) (c ∷ p) zero f h e = subst (λ (m : ℕ). c < m) (some_same g f e) h.0
index_below (g ∷ fs) (c ∷ p) (suc n) f h e = index_below fs p n f h.1 e

module _ (scene : Scene) (x : BlockStep) (rounds : List Round) (around : Around) (top : IsTop rounds around) (v0 : Variables) (touched : ℕ → Bool)
    (counted : AreCounted outer_paths rounds x.start.registers v0) where
  module _ (r : Ref) (k : Kind) (h : IsOfRound scene x.start.kinds rounds touched r k) where
    abbrev loop : Turning
    loop = h.round.loop

    abbrev turn : ℕ
    turn = slice_index x.start.registers h.round.counter

    abbrev first : List ℕ
    first = factors (loops_round (take (suc h.index) rounds))

    is_counted : IsCounted (paths_in first) h.round x.start.registers v0
    is_counted = counted_at [] rounds x.start.registers v0 h.index h.round counted h.there

    begins : (number : ℕ) → number < copies_in (level_factors around.levels.now) → IsPath first (take loop.depth (path_in around number))
    begins number within =
        subst (λ (fs : List ℕ). IsPath fs (take loop.depth (path_in around number)))
        (ap (λ d. take d (level_factors around.levels.now)) h.depth ∙ (ap (λ (fs : List ℕ). take (length first) fs) top.factors_are ∙ first_factors rounds (suc h.index)))
        (path_begins (level_factors around.levels.now) (path_in around number) loop.depth (numbered around.levels.now top.spread number within).path)

    -- the copy in its loop is that of the part of the path
    copy_same : (p : Path) → last_copy loop (take loop.depth p) ≡ last_copy loop p
    copy_same p = by (nat_lt 1 loop.factor) refl
      where
        deep : nat_lt 1 loop.factor ≡ true → 1 ≤ loop.depth
        deep e = h.is.deep (many loop.factor e)
          where
            many : (f : ℕ) → nat_lt 1 f ≡ true → 1 < f
            many f e = grind (arith, nat_tests)

        at : (d : ℕ) → 1 ≤ d → slice_index_or (take d p) (d - 1) 0 ≡ slice_index_or p (d - 1) 0
        at zero l = absurd (none l)
          where
            none : 1 ≤ 0 → ⊥
            none l = omega (arith, l)
        at (suc n) l = ap (λ m. slice_index_or (take (suc n) p) m 0) (one n) ∙ (last_of_outer n p ∙ ap (λ m. slice_index_or p m 0) (sym (one n)))
          where
            one : (n : ℕ) → suc n - 1 ≡ n
            one n = omega arith

        by : (b : Bool) → nat_lt 1 loop.factor ≡ b → (if b then slice_index_or (take loop.depth p) (loop.depth - 1) 0 else 0) ≡ (if b then slice_index_or p (loop.depth - 1) 0 else 0)
        by true e = at loop.depth (deep e)
        by false e = refl

    iterator_at : (number : ℕ) → number < copies_in (level_factors around.levels.now) → IteratorAt loop turn v0 (path_at around.levels.now number)
    iterator_at number within = record {
      value =
          is_counted.holds (rank_of first (take loop.depth (path_in around number))) (take loop.depth (path_in around number)) (listed_at first (take loop.depth (path_in around number)) (begins number within))
          ∙ ap (λ c. pos (loop.low + turn * loop.factor + c)) (copy_same (path_in around number));
      copy = λ some. by (nat_lt 1 loop.factor) refl some;
    }
      where
        by : (b : Bool) → nat_lt 1 loop.factor ≡ b → 1 ≤ loop.factor → (if b then slice_index_or (path_in around number) (loop.depth - 1) 0 else 0) < loop.factor
        by false e some = omega (arith, some)
        by true e some =
            let (n, (long, is)) = last_factor rounds h.index h.round h.there e in
            let here : loop.depth - 1 ≡ n = let d = h.depth in omega (arith, d, long) in
            let same : slice_index_or (take loop.depth (path_in around number)) (loop.depth - 1) 0 ≡ slice_index_or (path_in around number) (loop.depth - 1) 0 =
            sym (copy_if e (take loop.depth (path_in around number))) ∙ (copy_same (path_in around number) ∙ copy_if e (path_in around number)) in
            subst (λ (m : ℕ). m < loop.factor) (ap (λ m. slice_index_or (take loop.depth (path_in around number)) m 0) (sym here) ∙ same)
            (index_below first (take loop.depth (path_in around number)) n loop.factor (begins number within) is)
          where
            copy_if : nat_lt 1 loop.factor ≡ true → (p : Path) → last_copy loop p ≡ slice_index_or p (loop.depth - 1) 0
            copy_if e p = ap (λ b. if b then slice_index_or p (loop.depth - 1) 0 else 0) e

    -- what is shown of it
    copy_shown : (number f d : ℕ) → (1 < f → 1 ≤ d) → (if nat_le f 1 then 0 else last_number around.levels.now d number) ≡ (if nat_lt 1 f then slice_index_or (path_in around number) (d - 1) 0 else 0)
    copy_shown number f d deep = by (cases_lt 1 f)
      where
        above : (f : ℕ) → 1 < f → (nat_le f 1 ≡ false) × (nat_lt 1 f ≡ true)
        above f l = (low f l, high f l)
          where
            low : (f : ℕ) → 1 < f → nat_le f 1 ≡ false
            low f l = grind (arith, nat_tests)

            high : (f : ℕ) → 1 < f → nat_lt 1 f ≡ true
            high f l = grind (arith, nat_tests)

        below : (f : ℕ) → f ≤ 1 → (nat_le f 1 ≡ true) × (nat_lt 1 f ≡ false)
        below f l = (low f l, high f l)
          where
            low : (f : ℕ) → f ≤ 1 → nat_le f 1 ≡ true
            low f l = grind (arith, nat_tests)

            high : (f : ℕ) → f ≤ 1 → nat_lt 1 f ≡ false
            high f l = grind (arith, nat_tests)

        last : (d : ℕ) → 1 ≤ d → last_number around.levels.now d number ≡ slice_index_or (path_in around number) (d - 1) 0
        last d l = ap (λ (b : Bool). if b then 0 else copy_to (slice_get around.levels.now (d - 1)) number) (none d l) ∙ copy_in_path around.levels.now (d - 1) number
          where
            none : (d : ℕ) → 1 ≤ d → (d == 0) ≡ false
            none d l = grind (arith, nat_tests)

        by : (1 < f) ⊎ (f ≤ 1) → (if nat_le f 1 then 0 else last_number around.levels.now d number) ≡ (if nat_lt 1 f then slice_index_or (path_in around number) (d - 1) 0 else 0)
        by (inl l) =
            ap (λ b. if b then 0 else last_number around.levels.now d number) (above f l).0
            ∙ (last d (deep l) ∙ ap (λ b. if b then slice_index_or (path_in around number) (d - 1) 0 else 0) (sym (above f l).1))
        by (inr l) =
            ap (λ b. if b then 0 else last_number around.levels.now d number) (below f l).0
            ∙ ap (λ b. if b then slice_index_or (path_in around number) (d - 1) 0 else 0) (sym (below f l).1)

    shown_is : (number : ℕ) → turn_shown scene around.levels.now x h.counter (entity_number r.entity) number ≡ iterator_value loop turn (path_at around.levels.now number)
    shown_is number =
        sums h.counter.low loop.low (slice_index x.start.registers (held_at scene.held.now (entity_number r.entity)).first) turn h.counter.factor loop.factor
        (if nat_le h.counter.factor 1 then 0 else last_number around.levels.now (held_at scene.held.now (entity_number r.entity)).depth number) (last_copy loop (path_in around number))
        (sym h.low) (ap (λ n. slice_index x.start.registers n) h.register_is) (sym h.factor)
        (ap (λ f. if nat_le f 1 then 0 else last_number around.levels.now (held_at scene.held.now (entity_number r.entity)).depth number) (sym h.factor)
        ∙ (ap (λ d. if nat_le loop.factor 1 then 0 else last_number around.levels.now d number) h.held_depth ∙ copy_shown number loop.factor loop.depth h.is.deep))
      where
        sums : (a b s t f g c d : ℕ) → a ≡ b → s ≡ t → f ≡ g → c ≡ d → a + s * f + c ≡ b + t * g + d
        sums a b s t f g c d e i j k = ap (λ n. n + s * f + c) e ∙ (ap (λ n. b + n * f + c) i ∙ (ap (λ n. b + t * n + c) j ∙ ap (λ n. b + t * g + n) k))

    pub is_turned : IsIteratorInTurn scene around.levels.now x v0 touched r k
    is_turned = record {
      loop = loop;
      turn = turn;
      counter = h.counter;
      is = h.is;
      counted = h.counted;
      left = h.left;
      turning = record {
        integer = h.integer;
        width = h.width;
        counter = ap (λ n. kind_at x.start.kinds n) h.register_is ∙ h.kind_is;
        below = subst (λ (n : ℕ). slice_index x.start.registers (held_at scene.held.now (entity_number r.entity)).first < n) h.count
            (subst (λ (n : ℕ). slice_index x.start.registers n < loop.count) (sym h.register_is) is_counted.below);
      };
      at = iterator_at;
      shown = λ number within. shown_is number;
    }

  pub named_here : (r : Ref) (k : Kind) → IsNamedHere scene around.levels.now x.start.kinds rounds touched r k → IsNamedVariable scene around.levels.now x v0 touched r k
  named_here r k (inl p) = inl p
  named_here r k (inr h) = inr (is_turned r k h)
