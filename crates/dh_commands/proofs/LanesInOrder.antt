-- What is done path by path is what is done along the list of paths; and the paths of an arm are those at which
-- the test of its `if` comes out so. Both by induction on the number of paths.
use Rattle.std.proofs.Common.{◌≡◌, ℕ, zero, suc, ◌≤◌, Bool, true, false, if◌then◌else◌, List, [], ◌∷◌, ◌++◌, refl, ap, sym, ◌∙◌, arith}
use Rattle.std.specs.Prelude.{◌&&◌, not}
use Rattle.dh_meaning.specs.Paths.{Path}
use Rattle.dh_meaning.specs.Effects.{Effect, at_each, paths_where}
use Rattle.dh_expressions.specs.declared.paths.Level.{Level}
use Rattle.dh_expressions.specs.declared.scenes.Around.{Around}
use Rattle.dh_expressions.specs.Drafted.{BlockStep}
use Rattle.dh_expressions.specs.Levels.{path_at}
use Rattle.dh_commands.specs.LanesRun.{IsArm, comes_out, is_on_at, lanes_run, path_if, path_in, paths_counted, paths_on, paths_to, run_if}

pub each_append : (run : Path → Effect → Effect) (xs ys : List Path) (e : Effect) → at_each run (xs ++ ys) e ≡ at_each run ys (at_each run xs e)
each_append run [] ys e = refl
each_append run (p ∷ xs) ys e = each_append run xs ys (run p e)

one_run : (run : Path → Effect → Effect) (b : Bool) (p : Path) (e : Effect) → run_if b run p e ≡ at_each run (path_if b p) e
one_run run true p e = refl
one_run run false p e = refl

pub lanes_are : (x : BlockStep) (around : Around) (run : Path → Effect → Effect) (n : ℕ) (e : Effect) → lanes_run x around run n e ≡ at_each run (paths_to x around n) e
lanes_are x around run zero e = refl
lanes_are x around run (suc n) e =
    one_run run (is_on_at x around n) (path_in around n) (lanes_run x around run n e)
    ∙ (ap (λ f. at_each run (path_if (is_on_at x around n) (path_in around n)) f) (lanes_are x around run n e)
    ∙ sym (each_append run (paths_to x around n) (path_if (is_on_at x around n) (path_in around n)) e))

where_append : (holds : Bool) (test : Path → Bool) (xs ys : List Path) → paths_where holds test (xs ++ ys) ≡ paths_where holds test xs ++ paths_where holds test ys
where_append holds test [] ys = refl
where_append true test (p ∷ xs) ys = by (test p) (where_append true test xs ys)
  where
    by : (b : Bool) → paths_where true test (xs ++ ys) ≡ paths_where true test xs ++ paths_where true test ys
        → (if b then p ∷ paths_where true test (xs ++ ys) else paths_where true test (xs ++ ys)) ≡ (if b then p ∷ paths_where true test xs else paths_where true test xs) ++ paths_where true test ys
    by true rest = ap (λ (l : List Path). p ∷ l) rest
    by false rest = rest
where_append false test (p ∷ xs) ys = by (test p) (where_append false test xs ys)
  where
    by : (b : Bool) → paths_where false test (xs ++ ys) ≡ paths_where false test xs ++ paths_where false test ys
        → (if b then paths_where false test (xs ++ ys) else p ∷ paths_where false test (xs ++ ys)) ≡ (if b then paths_where false test xs else p ∷ paths_where false test xs) ++ paths_where false test ys
    by true rest = rest
    by false rest = ap (λ (l : List Path). p ∷ l) rest

where_one : (holds : Bool) (test : Path → Bool) (b : Bool) (p : Path) → path_if (b && comes_out holds (test p)) p ≡ paths_where holds test (path_if b p)
where_one holds test false p = refl
where_one true test true p = by (test p)
  where
    by : (t : Bool) → path_if t p ≡ (if t then p ∷ [] else [])
    by true = refl
    by false = refl
where_one false test true p = by (test p)
  where
    by : (t : Bool) → path_if (not t) p ≡ (if t then [] else p ∷ [])
    by true = refl
    by false = refl

module _ (x : BlockStep) (around arm : Around) (holds : Bool) (test : Path → Bool) (h : IsArm x around arm holds test) where
  path_same : (n : ℕ) → path_in arm n ≡ path_in around n
  path_same n = ap (λ (ls : List Level). path_at ls n) h.levels

  arm_to : (n : ℕ) → n ≤ paths_counted around → paths_to x arm n ≡ paths_where holds test (paths_to x around n)
  arm_to zero few = refl
  arm_to (suc n) few =
      ap (λ (ps : List Path). ps ++ path_if (is_on_at x arm n) (path_in arm n)) (arm_to n (omega (arith, few)))
      ∙ (ap (λ (ps : List Path). paths_where holds test (paths_to x around n) ++ ps) one
      ∙ sym (where_append holds test (paths_to x around n) (path_if (is_on_at x around n) (path_in around n))))
    where
      one : path_if (is_on_at x arm n) (path_in arm n) ≡ paths_where holds test (path_if (is_on_at x around n) (path_in around n))
      one =
          ap (λ b. path_if b (path_in arm n)) (h.on n (omega (arith, few)))
          ∙ (ap (λ p. path_if (is_on_at x around n && comes_out holds (test (path_in around n))) p) (path_same n)
          ∙ where_one holds test (is_on_at x around n) (path_in around n))

  pub arm_paths : paths_on x arm ≡ paths_where holds test (paths_on x around)
  arm_paths = ap (λ n. paths_to x arm n) h.long ∙ arm_to (paths_counted around) (omega arith)
