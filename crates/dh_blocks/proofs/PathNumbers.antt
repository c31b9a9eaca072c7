-- A path and its number: the copies of the path of a number are those of the path with that rank, and the rank of its
-- first copies is what the number tells. The first path with some of the copies of another.
use Rattle.std.proofs.Common.{◌≡◌, ℕ, zero, suc, ◌+◌, ◌-◌, ◌*◌, ◌/◌, ◌%◌, ◌<◌, ◌≤◌, Bool, true, false, List, [], ◌∷◌, length, take, get_or, refl, ap, sym, ◌∙◌, subst, arith, Some, None}
use Rattle.std.specs.Prelude.{◌==◌, ◌||◌, if◌then◌else◌, slice_get, slice_index_or, min, Option}
use Rattle.std.proofs.lemmas.Bool.Decides.{nat_tests}
use Rattle.std.proofs.Math.Nat.{add-mul-div_right, div-eq_of_lt, mod-eq_of_lt, mul-add-mod_self_right, mul-le-mul_right}
use Rattle.dh_meaning.specs.Paths.{Path, paths_in}
use Rattle.dh_code.specs.Ranks.{IsPath, copies_in, rank_behind, rank_of}
use Rattle.dh_code.proofs.PathsInOrder as ordered
use Rattle.dh_code.proofs.PathsInOrder.{length_path, length_paths, paths_are}
use Rattle.dh_sound.specs.SameKeys.{CopiesAgree}
use Rattle.dh_expressions.specs.declared.paths.Level.{Level}
use Rattle.dh_expressions.specs.Levels.{copy_number, copy_to, leader_number, part_number, parts_from, path_at, rank_number, rank_to}
use Rattle.dh_commands.specs.ShownVariables.{level_factors}
use Rattle.dh_blocks.specs.PathsOfLevels.{AreSpread}

pub some_copies : (levels : List Level) → AreSpread levels → 0 < copies_in (level_factors levels)
some_copies [] s = omega arith
some_copies (l ∷ ls) s = more l.factor (copies_in (level_factors ls)) s.0 (some_copies ls s.1.1)
  where
    more : (f k : ℕ) → 1 < f → 0 < k → 0 < f * k
    more f k h i = let m : 1 * k ≤ f * k = mul-le-mul_right k (omega (arith, h)) in omega (arith, m, i)

-- a rank behind another
pub rank_parts : (r : ℕ) (fs : List ℕ) (p : Path) → IsPath fs p → rank_behind r fs p ≡ r * copies_in fs + rank_of fs p
rank_parts r [] [] h = omega arith
rank_parts r [] (c ∷ p) h = absurd h
rank_parts r (f ∷ fs) [] h = absurd h
rank_parts r (f ∷ fs) (c ∷ p) h = by (copies_in fs) (rank_behind (r * f + c) fs p) (rank_behind (0 * f + c) fs p) (rank_of fs p) (rank_parts (r * f + c) fs p h.1) (rank_parts (0 * f + c) fs p h.1)
  where
    by : (k a b m : ℕ) → a ≡ (r * f + c) * k + m → b ≡ (0 * f + c) * k + m → a ≡ r * (f * k) + b
    by k a b m e g = omega (arith, e, g)

pub rank_first : (f c : ℕ) (fs : List ℕ) (p : Path) → IsPath fs p → rank_of (f ∷ fs) (c ∷ p) ≡ c * copies_in fs + rank_of fs p
rank_first f c fs p h = by (copies_in fs) _ _ (rank_parts (0 * f + c) fs p h)
  where
    by : (k a m : ℕ) → a ≡ (0 * f + c) * k + m → a ≡ c * k + m
    by k a m e = omega (arith, e)

copy_is : (l : Level) (n : ℕ) → 0 < l.stride → 0 < l.factor → copy_number l n ≡ (n / l.stride) % l.factor
copy_is l n s f = by (l.stride == 0) (l.factor == 0) (none l.stride s) (none l.factor f)
  where
    none : (n : ℕ) → 0 < n → (n == 0) ≡ false
    none n h = grind (arith, nat_tests)

    by : (a b : Bool) → a ≡ false → b ≡ false → (if a || b then 0 else (n / l.stride) % l.factor) ≡ (n / l.stride) % l.factor
    by false false e g = refl
    by true b e g = cc
    by false true e g = cc

-- copies do not see whole turns of the loops outside
shifted : (c f k m : ℕ) → 0 < k → ((c * (f * k) + m) / k) % f ≡ (m / k) % f
shifted c f k m h =
    ap (λ n. (n / k) % f) (grouped c f k m)
    ∙ (ap (λ n. n % f) (add-mul-div_right m (c * f) h) ∙ (ap (λ n. n % f) (turned (m / k) (c * f)) ∙ mul-add-mod_self_right c f (m / k)))
  where
    grouped : (c f k m : ℕ) → c * (f * k) + m ≡ m + (c * f) * k
    grouped c f k m = omega arith

    turned : (a b : ℕ) → a + b ≡ b + a
    turned a b = omega arith

pub path_shifted : (levels : List Level) → AreSpread levels → (c m : ℕ) → path_at levels (c * copies_in (level_factors levels) + m) ≡ path_at levels m
path_shifted [] s c m = refl
path_shifted (l ∷ ls) s c m =
    ap (λ (x : ℕ). x ∷ path_at ls (c * (l.factor * copies_in (level_factors ls)) + m)) first
    ∙ ap (λ (xs : List ℕ). copy_number l m ∷ xs) (ap (λ n. path_at ls n) (grouped c l.factor (copies_in (level_factors ls)) m) ∙ path_shifted ls s.1.1 (c * l.factor) m)
  where
    grouped : (c f k m : ℕ) → c * (f * k) + m ≡ (c * f) * k + m
    grouped c f k m = omega arith

    some : 0 < l.stride
    some = subst (λ (n : ℕ). 0 < n) (sym s.1.0) (some_copies ls s.1.1)

    many : 0 < l.factor
    many = let h = s.0 in omega (arith, h)

    first : copy_number l (c * (l.factor * copies_in (level_factors ls)) + m) ≡ copy_number l m
    first =
        copy_is l (c * (l.factor * copies_in (level_factors ls)) + m) some many
        ∙ (ap (λ k. ((c * (l.factor * k) + m) / l.stride) % l.factor) (sym s.1.0)
        ∙ (shifted c l.factor l.stride m some ∙ sym (copy_is l m some many)))

pub rank_small : (fs : List ℕ) (p : Path) → IsPath fs p → rank_of fs p < copies_in fs
rank_small [] [] h = omega arith
rank_small [] (c ∷ p) h = absurd h
rank_small (f ∷ fs) [] h = absurd h
rank_small (f ∷ fs) (c ∷ p) h = by (copies_in fs) _ _ (rank_first f c fs p h.1) (rank_small fs p h.1)
  where
    by : (k a m : ℕ) → a ≡ c * k + m → m < k → a < f * k
    by k a m e l =
        let n : (c + 1) * k ≤ f * k = mul-le-mul_right k (let b = h.0 in omega (arith, b)) in
        omega (arith, e, l, n)

-- the path of a rank
pub path_of_rank : (levels : List Level) → AreSpread levels → (p : Path) → IsPath (level_factors levels) p → path_at levels (rank_of (level_factors levels) p) ≡ p
path_of_rank [] s [] h = refl
path_of_rank [] s (c ∷ p) h = absurd h
path_of_rank (l ∷ ls) s [] h = absurd h
path_of_rank (l ∷ ls) s (c ∷ p) h =
    ap (λ n. path_at (l ∷ ls) n) (rank_first l.factor c (level_factors ls) p h.1)
    ∙ (ap (λ (x : ℕ). x ∷ path_at ls (c * copies_in (level_factors ls) + rank_of (level_factors ls) p)) first
    ∙ ap (λ (xs : List ℕ). c ∷ xs) (path_shifted ls s.1.1 c (rank_of (level_factors ls) p) ∙ path_of_rank ls s.1.1 p h.1))
  where
    some : 0 < l.stride
    some = subst (λ (n : ℕ). 0 < n) (sym s.1.0) (some_copies ls s.1.1)

    many : 0 < l.factor
    many = let h = s.0 in omega (arith, h)

    quotient : (k m : ℕ) → m < k → 0 < k → (c * k + m) / k ≡ c
    quotient k m below pos = ap (λ n. n / k) (turned (c * k) m) ∙ (add-mul-div_right m c pos ∙ none)
      where
        turned : (a b : ℕ) → a + b ≡ b + a
        turned a b = omega arith

        none : m / k + c ≡ c
        none = let z : m / k ≡ 0 = div-eq_of_lt below in omega (arith, z)

    first : copy_number l (c * copies_in (level_factors ls) + rank_of (level_factors ls) p) ≡ c
    first =
        copy_is l (c * copies_in (level_factors ls) + rank_of (level_factors ls) p) some many
        ∙ (ap (λ k. ((c * copies_in (level_factors ls) + rank_of (level_factors ls) p) / k) % l.factor) s.1.0
        ∙ (ap (λ n. n % l.factor) (quotient (copies_in (level_factors ls)) (rank_of (level_factors ls) p) (rank_small (level_factors ls) p h.1) (some_copies ls s.1.1)) ∙ mod-eq_of_lt h.0))

-- Each number below that of all copies is that of a path.
pub record Numbered (levels : List Level) (n : ℕ) : Type 0 where
  pub path : IsPath (level_factors levels) (path_at levels n)
  pub rank : rank_of (level_factors levels) (path_at levels n) ≡ n
  pub listed : get_or (paths_in (level_factors levels)) n [] ≡ path_at levels n

pub numbered : (levels : List Level) → AreSpread levels → (n : ℕ) → n < copies_in (level_factors levels) → Numbered levels n
numbered levels s n below =
    by (get_or (paths_in (level_factors levels)) n [])
    (ordered.path_at (level_factors levels) 0 (paths_in (level_factors levels)) n (paths_are (level_factors levels)) (subst (λ (m : ℕ). n < m) (sym (length_paths (level_factors levels))) below)) refl
  where
    by : (p : Path) → IsPath (level_factors levels) p × (rank_of (level_factors levels) p ≡ 0 + n) → get_or (paths_in (level_factors levels)) n [] ≡ p → Numbered levels n
    by p h is =
        let rank : rank_of (level_factors levels) p ≡ n = h.1 ∙ none n in
        let same : path_at levels n ≡ p = ap (λ m. path_at levels m) (sym rank) ∙ path_of_rank levels s p h.0 in
        record {
          path = subst (λ (q : Path). IsPath (level_factors levels) q) (sym same) h.0;
          rank = ap (λ (q : Path). rank_of (level_factors levels) q) same ∙ rank;
          listed = is ∙ sym same;
        }
      where
        none : (n : ℕ) → 0 + n ≡ n
        none n = omega arith

-- paths of two numbers that are one are of one number
pub number_is : (levels : List Level) → AreSpread levels → (n m : ℕ) → n < copies_in (level_factors levels) → m < copies_in (level_factors levels) → path_at levels n ≡ path_at levels m → n ≡ m
number_is levels s n m a b e = sym (numbered levels s n a).rank ∙ (ap (λ (q : Path). rank_of (level_factors levels) q) e ∙ (numbered levels s m b).rank)

-- The rank of the first copies.

rank_divided : (levels : List Level) → AreSpread levels → (k : ℕ) (l : Level) → slice_get levels k ≡ Some l → (r : ℕ) (p : Path) → IsPath (level_factors levels) p
    → (0 < l.stride) × (rank_behind r (level_factors levels) p / l.stride ≡ rank_behind r (take (suc k) (level_factors levels)) (take (suc k) p))
rank_divided [] s k l at r p h = absurd (cc)
rank_divided (x ∷ ls) s k l at r [] h = absurd h
rank_divided (x ∷ ls) s zero l at r (c ∷ p) h =
    let some : 0 < x.stride = subst (λ (n : ℕ). 0 < n) (sym s.1.0) (some_copies ls s.1.1) in
    let is : x ≡ l = the x l at in (
      subst (λ (y : Level). 0 < y.stride) is some,
      ap (λ (y : Level). rank_behind (r * x.factor + c) (level_factors ls) p / y.stride) (sym is)
          ∙ (ap (λ k. rank_behind (r * x.factor + c) (level_factors ls) p / k) s.1.0
          ∙ (ap (λ n. n / copies_in (level_factors ls)) (rank_parts (r * x.factor + c) (level_factors ls) p h.1)
          ∙ quotient (r * x.factor + c) (copies_in (level_factors ls)) (rank_of (level_factors ls) p) (rank_small (level_factors ls) p h.1) (some_copies ls s.1.1))),
    )
  where
    the : (y z : Level) → Some y ≡ Some z → y ≡ z
    the y z e = cc

    quotient : (c k m : ℕ) → m < k → 0 < k → (c * k + m) / k ≡ c
    quotient c k m below pos = ap (λ n. n / k) (turned (c * k) m) ∙ (add-mul-div_right m c pos ∙ none)
      where
        turned : (a b : ℕ) → a + b ≡ b + a
        turned a b = omega arith

        none : m / k + c ≡ c
        none = let z : m / k ≡ 0 = div-eq_of_lt below in omega (arith, z)
rank_divided (x ∷ ls) s (suc k) l at r (c ∷ p) h = rank_divided ls s.1.1 k l at (r * x.factor + c) p h.1

nothing_at : (levels : List Level) (k : ℕ) → slice_get levels k ≡ None → length levels ≤ k
nothing_at [] k e = omega arith
nothing_at (l ∷ ls) zero e = absurd (cc)
nothing_at (l ∷ ls) (suc k) e = let h = nothing_at ls k e in omega (arith, h)

pub rank_first_copies : (levels : List Level) → AreSpread levels → (d n : ℕ) → n < copies_in (level_factors levels) → d ≤ length levels
    → rank_number levels d n ≡ rank_of (take d (level_factors levels)) (take d (path_at levels n))
rank_first_copies levels s zero n below deep = refl
rank_first_copies levels s (suc k) n below deep = by (slice_get levels k) refl
  where
    step : suc k - 1 ≡ k
    step = omega arith

    num : Numbered levels n
    num = numbered levels s n below

    clash : length levels ≤ k → ⊥
    clash h = omega (arith, h, deep)

    by : (o : Option Level) → slice_get levels k ≡ o → rank_number levels (suc k) n ≡ rank_of (take (suc k) (level_factors levels)) (take (suc k) (path_at levels n))
    by None e = absurd (clash (nothing_at levels k e))
    by (Some l) e =
        let h = rank_divided levels s k l e 0 (path_at levels n) num.path in
        ap (λ (b : Bool). if b then 0 else rank_to (slice_get levels (suc k - 1)) n) (other k)
        ∙ (ap (λ o. rank_to o n) (ap (λ j. slice_get levels j) step ∙ e)
        ∙ (positive l.stride h.0 ∙ (ap (λ m. m / l.stride) (sym num.rank) ∙ h.1)))
      where
        other : (m : ℕ) → (suc m == 0) ≡ false
        other m = grind (arith, nat_tests)

        positive : (st : ℕ) → 0 < st → (if st == 0 then 0 else n / st) ≡ n / st
        positive st p = ap (λ b. if b then 0 else n / st) (none st p)
          where
            none : (m : ℕ) → 0 < m → (m == 0) ≡ false
            none m h = grind (arith, nat_tests)

-- the copy of a loop is that of its path
pub copy_in_path : (levels : List Level) (k n : ℕ) → copy_to (slice_get levels k) n ≡ slice_index_or (path_at levels n) k 0
copy_in_path [] k n = refl
copy_in_path (l ∷ ls) zero n = refl
copy_in_path (l ∷ ls) (suc k) n = copy_in_path ls k n

-- Leaders.

-- a path whose copies are 0 in the loops that do not count
abbrev pub kept : (counts : ℕ → Bool) → (level : ℕ) → Path → Path
kept counts level [] = []
kept counts level (c ∷ p) = (if counts level then c else 0) ∷ kept counts (level + 1) p

pub kept_path : (counts : ℕ → Bool) (level : ℕ) (fs : List ℕ) (p : Path) → IsPath fs p → IsPath fs (kept counts level p)
kept_path counts level [] [] h = tt
kept_path counts level [] (c ∷ p) h = absurd h
kept_path counts level (f ∷ fs) [] h = absurd h
kept_path counts level (f ∷ fs) (c ∷ p) h = (by (counts level), kept_path counts (level + 1) fs p h.1)
  where
    by : (b : Bool) → (if b then c else 0) < f
    by true = h.0
    by false = let l = h.0 in omega (arith, l)

kept_low : (counts : ℕ → Bool) (level : ℕ) (fs : List ℕ) (p : Path) → IsPath fs p → rank_of fs (kept counts level p) ≤ rank_of fs p
kept_low counts level [] [] h = omega arith
kept_low counts level [] (c ∷ p) h = absurd h
kept_low counts level (f ∷ fs) [] h = absurd h
kept_low counts level (f ∷ fs) (c ∷ p) h =
    by (counts level) _ _ _ _ (rank_first f (if counts level then c else 0) fs (kept counts (level + 1) p) (kept_path counts (level + 1) fs p h.1)) (rank_first f c fs p h.1) (kept_low counts (level + 1) fs p h.1)
  where
    by : (b : Bool) (x y u v : ℕ) → x ≡ (if b then c else 0) * copies_in fs + u → y ≡ c * copies_in fs + v → u ≤ v → x ≤ y
    by true x y u v e g l = omega (arith, e, g, l)
    by false x y u v e g l = omega (arith, e, g, l)

parts_kept : (levels : List Level) → AreSpread levels → (counts : ℕ → Bool) (level n : ℕ) → IsPath (level_factors levels) (path_at levels n)
    → parts_from levels counts level n ≡ rank_of (level_factors levels) (kept counts level (path_at levels n))
parts_kept [] s counts level n h = refl
parts_kept (l ∷ ls) s counts level n h =
    by (counts level) (parts_from ls counts (level + 1) n) _ (parts_kept ls s.1.1 counts (level + 1) n h.1)
    ∙ sym (rank_first l.factor (if counts level then copy_number l n else 0) (level_factors ls) (kept counts (level + 1) (path_at ls n)) (kept_path counts (level + 1) (level_factors ls) (path_at ls n) h.1))
  where
    by : (b : Bool) (x y : ℕ) → x ≡ y → part_number l b n + x ≡ (if b then copy_number l n else 0) * copies_in (level_factors ls) + y
    by true x y e = ap (λ k. copy_number l n * k + x) s.1.0 ∙ ap (λ m. copy_number l n * copies_in (level_factors ls) + m) e
    by false x y e = omega (arith, e)

-- what a leader is
pub record Leads (levels : List Level) (counts : ℕ → Bool) (n : ℕ) : Type 0 where
  pub path_is : path_at levels (leader_number levels counts n) ≡ kept counts 0 (path_at levels n)
  pub low : leader_number levels counts n ≤ n

pub leads : (levels : List Level) → AreSpread levels → (counts : ℕ → Bool) (n : ℕ) → n < copies_in (level_factors levels) → Leads levels counts n
leads levels s counts n below =
    let num = numbered levels s n below in
    let is : leader_number levels counts n ≡ rank_of (level_factors levels) (kept counts 0 (path_at levels n)) =
    lower _ _ n (parts_kept levels s counts 0 n num.path) (subst (λ (m : ℕ). rank_of (level_factors levels) (kept counts 0 (path_at levels n)) ≤ m) num.rank (kept_low counts 0 (level_factors levels) (path_at levels n) num.path)) in
    record {
      path_is = ap (λ m. path_at levels m) is ∙ path_of_rank levels s (kept counts 0 (path_at levels n)) (kept_path counts 0 (level_factors levels) (path_at levels n) num.path);
      low = least (parts_from levels counts 0 n) n;
    }
  where
    lower : (x y m : ℕ) → x ≡ y → y ≤ m → min x m ≡ y
    lower x y m e l = grind (arith, e, l)

    least : (x m : ℕ) → min x m ≤ m
    least x m = grind arith

kept_twice : (counts : ℕ → Bool) (level : ℕ) (p : Path) → kept counts level (kept counts level p) ≡ kept counts level p
kept_twice counts level [] = refl
kept_twice counts level (c ∷ p) = ap (λ (x : ℕ). x ∷ kept counts (level + 1) (kept counts (level + 1) p)) (by (counts level)) ∙ ap (λ (q : Path). (if counts level then c else 0) ∷ q) (kept_twice counts (level + 1) p)
  where
    by : (b : Bool) → (if b then (if b then c else 0) else 0) ≡ (if b then c else 0)
    by true = refl
    by false = refl

-- the copies that count are kept
kept_at : (counts : ℕ → Bool) (level : ℕ) (p : Path) (l : ℕ) → counts (level + l) ≡ true → slice_index_or (kept counts level p) l 0 ≡ slice_index_or p l 0
kept_at counts level [] l on = refl
kept_at counts level (c ∷ p) zero on = by (counts level) (ap counts (none level) ∙ on)
  where
    none : (n : ℕ) → n ≡ n + 0
    none n = omega arith

    by : (b : Bool) → b ≡ true → (if b then c else 0) ≡ c
    by true e = refl
    by false e = cc
kept_at counts level (c ∷ p) (suc l) on = kept_at counts (level + 1) p l (ap counts (moved level l) ∙ on)
  where
    moved : (n m : ℕ) → n + 1 + m ≡ n + suc m
    moved n m = omega arith

-- paths that agree where a loop counts are kept alike
kept_alike : (counts : ℕ → Bool) (level : ℕ) (p q : Path) → length p ≡ length q → ((l : ℕ) → l < length p → counts (level + l) ≡ true → slice_index_or p l 0 ≡ slice_index_or q l 0)
    → kept counts level p ≡ kept counts level q
kept_alike counts level [] [] long h = refl
kept_alike counts level [] (d ∷ q) long h = absurd (cc)
kept_alike counts level (c ∷ p) [] long h = absurd (cc)
kept_alike counts level (c ∷ p) (d ∷ q) long h =
    ap (λ (x : ℕ). x ∷ kept counts (level + 1) p) (by (counts level) refl)
    ∙ ap (λ (r : Path). (if counts level then d else 0) ∷ r)
    (kept_alike counts (level + 1) p q (less _ _ long) (λ l small on. h (suc l) (more l (length p) small) (ap counts (moved level l) ∙ on)))
  where
    less : (a b : ℕ) → suc a ≡ suc b → a ≡ b
    less a b e = omega (arith, e)

    more : (a b : ℕ) → a < b → suc a < suc b
    more a b e = omega (arith, e)

    moved : (n m : ℕ) → n + suc m ≡ n + 1 + m
    moved n m = omega arith

    none : (n : ℕ) → n + 0 ≡ n
    none n = omega arith

    some : (n : ℕ) → 0 < suc n
    some n = omega arith

    by : (b : Bool) → counts level ≡ b → (if b then c else 0) ≡ (if b then d else 0)
    by true e = h 0 (some (length p)) (ap counts (none level) ∙ e)
    by false e = refl

module _ (levels : List Level) (s : AreSpread levels) (counts : ℕ → Bool) where
  abbrev leader : ℕ → ℕ
  leader n = leader_number levels counts n

  pub leader_within : (n : ℕ) → n < copies_in (level_factors levels) → leader n < copies_in (level_factors levels)
  leader_within n below = let l = (leads levels s counts n below).low in omega (arith, l, below)

  -- a leader leads itself
  pub leader_leads : (n : ℕ) → n < copies_in (level_factors levels) → leader (leader n) ≡ leader n
  leader_leads n below =
      let a = leads levels s counts n below in
      let b = leads levels s counts (leader n) (leader_within n below) in
      number_is levels s (leader (leader n)) (leader n) (leader_within (leader n) (leader_within n below)) (leader_within n below)
      (b.path_is ∙ (ap (λ (p : Path). kept counts 0 p) a.path_is ∙ (kept_twice counts 0 (path_at levels n) ∙ sym a.path_is)))

  -- paths with one leader agree where a loop counts
  pub leaders_agree : (n m : ℕ) → n < copies_in (level_factors levels) → m < copies_in (level_factors levels) → leader n ≡ leader m → CopiesAgree counts (path_at levels n) (path_at levels m)
  leaders_agree n m a b e l small on =
      let one = leads levels s counts n a in
      let two = leads levels s counts m b in
      let same : kept counts 0 (path_at levels n) ≡ kept counts 0 (path_at levels m) = sym one.path_is ∙ (ap (λ k. path_at levels k) e ∙ two.path_is) in
      sym (kept_at counts 0 (path_at levels n) l (ap counts (none l) ∙ on)) ∙ (ap (λ (p : Path). slice_index_or p l 0) same ∙ kept_at counts 0 (path_at levels m) l (ap counts (none l) ∙ on))
    where
      none : (n : ℕ) → 0 + n ≡ n
      none n = omega arith

  -- and paths that agree so have one leader
  pub agree_leaders : (n m : ℕ) → n < copies_in (level_factors levels) → m < copies_in (level_factors levels) → CopiesAgree counts (path_at levels n) (path_at levels m) → leader n ≡ leader m
  agree_leaders n m a b agree =
      let one = leads levels s counts n a in
      let two = leads levels s counts m b in
      number_is levels s (leader n) (leader m) (leader_within n a) (leader_within m b)
      (one.path_is
      ∙ (kept_alike counts 0 (path_at levels n) (path_at levels m)
      (length_path (level_factors levels) (path_at levels n) (numbered levels s n a).path ∙ sym (length_path (level_factors levels) (path_at levels m) (numbered levels s m b).path))
      (λ l small on. agree l small (ap counts (none l) ∙ on))
      ∙ sym two.path_is))
    where
      none : (n : ℕ) → n ≡ 0 + n
      none n = omega arith
