-- The guards of an arm: at each path both of the guard round it and of the test's truth, or its opposite.
use Rattle.std.proofs.Common.{◌≡◌, ◌⊎◌, inl, inr, ℕ, suc, ◌+◌, ◌<◌, ◌≤◌, Bool, true, false, if◌then◌else◌, Some, None, List, [], ◌∷◌, ◌++◌, refl, ap, sym, ◌∙◌, subst, arith}
use Rattle.std.specs.Prelude.{Option, ◌&&◌, not, slice_get}
use Rattle.std.proofs.lemmas.Bool.{cases_lt}
use Rattle.std.proofs.lemmas.List.{length-append}
use Rattle.dh_value.specs.declared.operators.Op.TheVariants.{Both}
use Rattle.dh_value.specs.declared.words.Word.{Word}
use Rattle.dh_value.specs.Operations.{binary_of, is_true, truth}
use Rattle.dh_plan.specs.Blocks.{is_on}
use Rattle.dh_expressions.specs.declared.drafts.Draft.{Draft}
use Rattle.dh_expressions.specs.Drafted.{BlockBegun, Computes, FitsStep, Gives, BlockStep, word_shown}
use Rattle.dh_expressions.specs.Shown.{guard_of, guard_or_none}
use Rattle.dh_expressions.proofs.ListPlaces.{some_same, there}
use Rattle.dh_expressions.proofs.Pushing.{at_seam, begun_later, extends_again, extends_self, fits_before, in_front}
use Rattle.dh_commands.specs.LanesRun.{comes_out}
use Rattle.dh_commands.specs.Choosing.{TellsNothing, MakesGuard, MakesGuards}

pub quiet_self : (d : Draft) → TellsNothing d d
quiet_self d = record { extends = extends_self d; quiet = λ x f b. refl }

pub quiet_again : (a b c : Draft) → TellsNothing a b → TellsNothing b c → TellsNothing a c
quiet_again a b c h k = record {
  extends = extends_again a b c h.extends k.extends;
  quiet = λ x f s. k.quiet x f (begun_later a b x h.extends s) ∙ h.quiet x (fits_before b c x k.extends f) s;
}

truth_back : (b : Bool) → is_true (truth b) ≡ b
truth_back true = refl
truth_back false = refl

pub both_made : (d e : Draft) (g t n : ℕ) → Computes d e n (λ x. binary_of Both (word_shown x g) (word_shown x t)) → MakesGuard d e (Some g) (λ x. is_true (word_shown x t)) n
both_made d e g t n c = record {
  adds = record { extends = c.extends; quiet = c.quiet };
  on = λ x f b. ap is_true (c.is x f b) ∙ truth_back (is_true (word_shown x g) && is_true (word_shown x t));
}

pub both_alone : (d : Draft) (t : ℕ) → MakesGuard d d None (λ x. is_true (word_shown x t)) t
both_alone d t = record { adds = quiet_self d; on = λ x f b. refl }

pub not_made : (a b c d : Draft) (off on test n : ℕ) (u w : Word) → u ≡ truth false → w ≡ truth true → Computes a b off (λ x. u) → Computes b c on (λ x. w)
    → Computes c d n (λ x. if is_true (word_shown x test) then word_shown x off else word_shown x on) → Gives a d n (λ x. truth (not (is_true (word_shown x test))))
not_made a b c d off on test n u w none all h k l = record {
  extends = extends_again a b d h.extends (extends_again b c d k.extends l.extends);
  is = λ x f s.
      let fc = fits_before c d x l.extends f in
      let fb = fits_before b c x k.extends fc in
      l.is x f (begun_later b c x k.extends (begun_later a b x h.extends s))
      ∙ (ap (λ v. if is_true (word_shown x test) then v else word_shown x on) (h.is x fb s ∙ none)
      ∙ (ap (λ v. if is_true (word_shown x test) then truth false else v) (k.is x fc (begun_later a b x h.extends s) ∙ all)
      ∙ turned (is_true (word_shown x test))));
  quiet = λ x f s.
      let fc = fits_before c d x l.extends f in
      l.quiet x f (begun_later b c x k.extends (begun_later a b x h.extends s))
      ∙ (k.quiet x fc (begun_later a b x h.extends s) ∙ h.quiet x (fits_before b c x k.extends fc) s);
}
  where
    turned : (t : Bool) → (if t then truth false else truth true) ≡ truth (not t)
    turned true = refl
    turned false = refl

-- a guard by the opposite of a test
pub guard_not : (a b c : Draft) (guard : Option ℕ) (test fails made : ℕ) → Gives a b fails (λ x. truth (not (is_true (word_shown x test)))) → MakesGuard b c guard (λ x. is_true (word_shown x fails)) made
    → MakesGuard a c guard (λ x. comes_out false (is_true (word_shown x test))) made
guard_not a b c guard test fails made g m = record {
  adds = quiet_again a b c (record { extends = g.extends; quiet = g.quiet }) m.adds;
  on = λ x f s.
      m.on x f (begun_later a b x g.extends s)
      ∙ ap (λ t. is_on x.first x.words guard && t) (ap is_true (g.is x (fits_before b c x m.adds.extends f) s) ∙ truth_back (not (is_true (word_shown x test))));
}

module _ (guards : List (Option ℕ)) (tests : List ℕ) (holds : Bool) where
  pub guards_none : (d : Draft) → MakesGuards d d guards tests holds 0 []
  guards_none d = record { adds = quiet_self d; long = refl; on = λ x f b number test few at. absurd (never number few) }
    where
      never : (n : ℕ) → n < 0 → ⊥
      never n h = omega (arith, h)

  pub guards_more : (d e f : Draft) (n test made : ℕ) (arm : List (Option ℕ)) → slice_get tests n ≡ Some test → MakesGuards d e guards tests holds n arm
      → MakesGuard e f (guard_of guards n) (λ x. comes_out holds (is_true (word_shown x test))) made → MakesGuards d f guards tests holds (suc n) (arm ++ Some made ∷ [])
  guards_more d e f n test made arm there_is h m = record {
    adds = quiet_again d e f h.adds m.adds;
    long = length-append arm (Some made ∷ []) ∙ (ap (λ k. k + 1) h.long ∙ omega arith);
    on = λ x fits begun number other few at. by x fits begun number other few at (cases_lt number n);
  }
    where
      front : (number : ℕ) → number < n → guard_of (arm ++ Some made ∷ []) number ≡ guard_of arm number
      front number less =
          let found = there arm number (subst (λ (k : ℕ). number < k) (sym h.long) less) in
          ap guard_or_none (in_front arm (Some made ∷ []) number found.0 found.1 ∙ sym found.1)

      last : guard_of (arm ++ Some made ∷ []) n ≡ Some made
      last = ap guard_or_none (ap (λ k. slice_get (arm ++ Some made ∷ []) k) (sym h.long) ∙ at_seam arm (Some made))

      by : (x : BlockStep) → FitsStep x f → BlockBegun x d → (number other : ℕ) → number < suc n → slice_get tests number ≡ Some other → (number < n) ⊎ (n ≤ number)
          → is_on x.first x.words (guard_of (arm ++ Some made ∷ []) number) ≡ (is_on x.first x.words (guard_of guards number) && comes_out holds (is_true (word_shown x other)))
      by x fits begun number other few at (inl less) =
          ap (λ g. is_on x.first x.words g) (front number less) ∙ h.on x (fits_before e f x m.adds.extends fits) begun number other less at
      by x fits begun number other few at (inr more) =
          let is : number ≡ n = omega (arith, few, more) in
          let same : test ≡ other = some_same test other (sym there_is ∙ (ap (λ k. slice_get tests k) (sym is) ∙ at)) in
          ap (λ k. is_on x.first x.words (guard_of (arm ++ Some made ∷ []) k)) is
          ∙ (ap (λ g. is_on x.first x.words g) last
          ∙ (m.on x fits (begun_later d e x h.adds.extends begun)
          ∙ (ap (λ k. is_on x.first x.words (guard_of guards k) && comes_out holds (is_true (word_shown x test))) (sym is)
          ∙ ap (λ t. is_on x.first x.words (guard_of guards number) && comes_out holds (is_true (word_shown x t))) same)))
