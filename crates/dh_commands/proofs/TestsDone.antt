-- A test at one path more. It sets no variable, so the values of the program's test are those of its begin.
use Rattle.std.proofs.Common.{◌≡◌, ◌⊎◌, inl, inr, ℕ, zero, suc, ◌+◌, ◌<◌, ◌^◌, Bool, true, false, Some, List, [], ◌∷◌, ◌++◌, length, refl, ap, sym, ◌∙◌, arith}
use Rattle.std.specs.Prelude.{slice_get}
use Rattle.std.proofs.lemmas.List.{length-append}
use Rattle.dh_tree.specs.PlainTrees as plain
use Rattle.dh_meaning.specs.AccessNumbers.{term_accesses}
use Rattle.dh_meaning.specs.Effects.{Effect, Variables}
use Rattle.dh_meaning.specs.Paths.{Path}
use Rattle.dh_expressions.specs.declared.scenes.Around.{Around}
use Rattle.dh_expressions.specs.declared.scenes.Scene.{Scene}
use Rattle.dh_expressions.specs.declared.terms.Valued.{Valued}
use Rattle.dh_expressions.specs.Drafted.{BlockBegun, FitsStep, BlockStep, word_shown}
use Rattle.dh_expressions.specs.Evaluated.{StepReads}
use Rattle.dh_expressions.proofs.ListPlaces.{place_of_more, place_within}
use Rattle.dh_expressions.proofs.Pushing.{begun_later, fits_before}
use Rattle.dh_commands.specs.declared.buildings.Building.{Building}
use Rattle.dh_commands.specs.LanesRun.{is_on_at, lane_of, lanes_run, path_in, paths_counted, run_if}
use Rattle.dh_commands.specs.Followed.{Along, IsFollowedBy, test_run, value_at}
use Rattle.dh_commands.specs.Done.{StandsBeside}
use Rattle.dh_commands.specs.Setting.{NoVariable, TestsFirst, TestsOne}
use Rattle.dh_commands.proofs.PathsDone.{all_more, all_none}

module _ (scene : Scene) (around : Around) (first : ℕ) (t : plain.Term) where
  one_same : (x : BlockStep) (b : Bool) (p : Path) (f : Effect) → (run_if b (test_run scene x first t) p f).variables ≡ f.variables
  one_same x true p f = refl
  one_same x false p f = refl

  -- tests set no variable
  pub tests_same : (x : BlockStep) (n : ℕ) (e : Effect) → (lanes_run x around (test_run scene x first t) n e).variables ≡ e.variables
  tests_same x zero e = refl
  tests_same x (suc n) e = one_same x (is_on_at x around n) (path_in around n) (lanes_run x around (test_run scene x first t) n e) ∙ tests_same x n e

  pub tests_none : (b : Building) → TestsFirst scene around b b first first t [] 0
  tests_none b = record {
    does = all_none scene around NoVariable (IsFollowedBy scene around first t) (λ x. test_run scene x first t) first (term_accesses t) b;
    long = refl;
    are = λ few x reads e fits begun along stands number test less on at. absurd (never number less);
  }
    where
      never : (n : ℕ) → n < 0 → ⊥
      never n h = omega (arith, h)

  pub tests_more : (now n : ℕ) (a b c : Building) (tests : List ℕ) (own : Valued) → n < paths_counted around → TestsFirst scene around a b first now t tests n
      → TestsOne scene (lane_of around n) b c first t own → TestsFirst scene around a c first own.next t (tests ++ own.value ∷ []) (suc n)
  tests_more now n a b c tests own within h one = record {
    does = all_more scene around NoVariable (IsFollowedBy scene around first t) (λ x. test_run scene x first t) first (term_accesses t) now own.next n a b c within h.does one.does;
    long = length-append tests (own.value ∷ []) ∙ (ap (λ k. k + 1) h.long ∙ omega arith);
    are = λ few x reads e fits begun along stands number test less on at. by few x reads e fits begun along stands number test on at (place_of_more tests own.value test number at);
  }
    where
      by : first + term_accesses t < 2 ^ 32 → (x : BlockStep) (reads : StepReads) (e : Effect) → FitsStep x c.draft → BlockBegun x a.draft
          → Along around x reads (IsFollowedBy scene around first t) (test_run scene x first t) e (suc n) → StandsBeside scene around x reads a e
          → (number test : ℕ) → is_on_at x around number ≡ true → slice_get (tests ++ own.value ∷ []) number ≡ Some test
          → (slice_get tests number ≡ Some test) ⊎ ((number ≡ length tests) × (test ≡ own.value))
          → word_shown x test ≡ value_at scene around x e.variables number first t
      by few x reads e fits begun along stands number test on at (inl found) =
          let inside = place_within tests number test found in
          let l = h.long in
          h.are few x reads e (fits_before b.draft c.draft x (one.does.so few within).extends fits) begun (λ i m. along i (omega (arith, m))) stands number test (omega (arith, inside, l)) on found
      by few x reads e fits begun along stands number test on at (inr last) =
          let is : number ≡ n = last.0 ∙ h.long in
          let before : StandsBeside scene around x reads b (lanes_run x around (test_run scene x first t) n e) =
          (h.does.so few).so x reads e (fits_before b.draft c.draft x (one.does.so few within).extends fits) begun (λ i m. along i (omega (arith, m))) stands in
          ap (λ k. word_shown x k) last.1
          ∙ (one.is few x reads (lanes_run x around (test_run scene x first t) n e) fits (begun_later a.draft b.draft x (h.does.so few).extends begun) (along n (omega arith)) before
          (ap (λ k. is_on_at x around k) (sym is) ∙ on)
          ∙ (ap (λ (vs : Variables). value_at scene around x vs n first t) (tests_same x n e)
          ∙ ap (λ k. value_at scene around x e.variables k first t) (sym is)))
