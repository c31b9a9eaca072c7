-- Groups of paths: paths are of one group exactly where their first copies are the same.
use Rattle.std.proofs.Common.{◌≡◌, ◌⊎◌, inl, inr, ℕ, zero, suc, ◌-◌, ◌<◌, ◌≤◌, ◌==◌, Bool, true, false, if◌then◌else◌, List, [], ◌∷◌, length, take, None, refl, ap, sym, ◌∙◌, arith}
use Rattle.std.specs.Prelude.{slice_get}
use Rattle.std.proofs.lemmas.Bool.{cases_lt, eq-eqb, eqb-true}
use Rattle.std.proofs.lemmas.Bool.Decides.{nat_tests}
use Rattle.std.proofs.lemmas.List.{length-map}
use Rattle.dh_meaning.specs.Paths.{Path, same_path}
use Rattle.dh_code.specs.Ranks.{copies_in, rank_of}
use Rattle.dh_code.proofs.PathsInOrder.{length_path}
use Rattle.dh_code.proofs.Ranked.{path_begins, ranks_differ}
use Rattle.dh_expressions.specs.declared.paths.Level.{Level}
use Rattle.dh_expressions.specs.Copying.{groups_by}
use Rattle.dh_expressions.specs.Levels.{path_at, rank_to}
use Rattle.dh_commands.specs.ShownVariables.{level_factors}
use Rattle.dh_blocks.specs.PathsOfLevels.{AreSpread}
use Rattle.dh_blocks.proofs.PathNumbers.{numbered, rank_first_copies}
use Rattle.dh_charged.proofs.KeysLed.{own_path, same_paths}

-- Beyond the last loop.

all_taken : {A : Type 0} (n : ℕ) (xs : List A) → length xs ≤ n → take n xs ≡ xs
all_taken zero [] l = refl
all_taken zero (x ∷ xs) l = absurd (none (length xs) l)
  where
    none : (m : ℕ) → suc m ≤ 0 → ⊥
    none m l = omega (arith, l)
all_taken (suc n) [] l = refl
all_taken (suc n) (x ∷ xs) l = ap (λ ys. x ∷ ys) (all_taken n xs (less (length xs) n l))
  where
    less : (m n : ℕ) → suc m ≤ suc n → m ≤ n
    less m n l = omega (arith, l)

nothing_there : (ls : List Level) (k : ℕ) → length ls ≤ k → slice_get ls k ≡ None
nothing_there [] k l = refl
nothing_there (x ∷ ls) zero l = absurd (none (length ls) l)
  where
    none : (m : ℕ) → suc m ≤ 0 → ⊥
    none m l = omega (arith, l)
nothing_there (x ∷ ls) (suc k) l = nothing_there ls k (less (length ls) k l)
  where
    less : (m n : ℕ) → suc m ≤ suc n → m ≤ n
    less m n l = omega (arith, l)

last_group : (levels : List Level) (d n : ℕ) → length levels < d → groups_by levels d n ≡ n
last_group levels zero n l = absurd (none (length levels) l)
  where
    none : (m : ℕ) → m < 0 → ⊥
    none m l = omega (arith, l)
last_group levels (suc k) n l =
    ap (λ (b : Bool). if b then 0 else rank_to (slice_get levels (suc k - 1)) n) (other k)
    ∙ ap (λ o. rank_to o n) (ap (λ j. slice_get levels j) (step k) ∙ nothing_there levels k (less (length levels) k l))
  where
    other : (m : ℕ) → (suc m == 0) ≡ false
    other m = grind (arith, nat_tests)

    step : (m : ℕ) → suc m - 1 ≡ m
    step m = omega arith

    less : (m n : ℕ) → m < suc n → m ≤ n
    less m n l = omega (arith, l)

-- A group is the rank of its first copies.

module _ (levels : List Level) (s : AreSpread levels) (d : ℕ) where
  abbrev begin : ℕ → Path
  begin n = take d (path_at levels n)

  abbrev group : ℕ → ℕ
  group n = groups_by levels d n

  pub group_rank : (n : ℕ) → n < copies_in (level_factors levels) → group n ≡ rank_of (take d (level_factors levels)) (begin n)
  group_rank n below = by (cases_lt (length levels) d)
    where
      long : length (level_factors levels) ≡ length levels
      long = length-map levels (λ (l : Level). l.factor)

      below_it : (a b c : ℕ) → a ≡ b → b < c → a ≤ c
      below_it a b c e l = omega (arith, e, l)

      by : (length levels < d) ⊎ (d ≤ length levels) → group n ≡ rank_of (take d (level_factors levels)) (begin n)
      by (inl past) =
          last_group levels d n past
          ∙ (sym (numbered levels s n below).rank
          ∙ (ap (λ (fs : List ℕ). rank_of fs (path_at levels n)) (sym (all_taken d (level_factors levels) (below_it _ _ _ long past)))
          ∙ ap (λ (q : Path). rank_of (take d (level_factors levels)) q)
          (sym (all_taken d (path_at levels n) (below_it _ _ _ (length_path (level_factors levels) (path_at levels n) (numbered levels s n below).path ∙ long) past)))))
      by (inr within) = rank_first_copies levels s d n below within

  pub one_group : (n m : ℕ) → n < copies_in (level_factors levels) → m < copies_in (level_factors levels) → group n ≡ group m → begin n ≡ begin m
  one_group n m a b e =
      (ranks_differ 0 0 (take d (level_factors levels)) (begin n) (begin m) (path_begins (level_factors levels) (path_at levels n) d (numbered levels s n a).path)
      (path_begins (level_factors levels) (path_at levels m) d (numbered levels s m b).path) (sym (group_rank n a) ∙ (e ∙ group_rank m b))).1

  pub group_tested : (n m : ℕ) → n < copies_in (level_factors levels) → m < copies_in (level_factors levels) → (group n == group m) ≡ same_path (begin n) (begin m)
  group_tested n m a b = by (group n == group m) (same_path (begin n) (begin m)) refl refl
    where
      clash : (t : Bool) → t ≡ true → t ≡ false → ⊥
      clash true e f = cc
      clash false e f = cc

      by : (t u : Bool) → (group n == group m) ≡ t → same_path (begin n) (begin m) ≡ u → t ≡ u
      by true true e f = refl
      by false false e f = refl
      by true false e f = absurd (clash (same_path (begin n) (begin m)) (ap (λ q. same_path q (begin m)) (one_group n m a b (eqb-true (group n) (group m) e)) ∙ own_path (begin m)) f)
      by false true e f =
          absurd (clash (group n == group m) (eq-eqb (group n) (group m) (group_rank n a ∙ (ap (λ (q : Path). rank_of (take d (level_factors levels)) q) (same_paths (begin n) (begin m) f) ∙ sym (group_rank m b)))) e)
