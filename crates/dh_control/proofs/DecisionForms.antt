-- The way of a decision, and what it leads to, form by form, where its parts stand in the code's boxes.
use Rattle.std.proofs.Common.{◌≡◌, ℕ, ◌<◌, refl, ap, sym, subst, ◌∙◌, arith}
use Rattle.std.specs.Prelude.{Vec}
use Rattle.std.specs.Global.{Global}
use Rattle.dh_plan.specs.declared.graphs.Decision.{Decision}
use Rattle.dh_plan.specs.declared.graphs.Decision.TheVariants.{Go, Test, Count, Fork, Rest}
use Rattle.dh_plan.specs.Ways.{to_state, by_flag, by_count, to_end}
use Rattle.dh_plan.specs.SeenGraphs.{FitsThread}
use Rattle.dh_control.specs.WayMoves.{way_of_decision, way_weight}

pub go_is : (state : ℕ) → way_of_decision (Go state) ≡ to_state state
unfolding way_of_decision
go_is state = refl

pub test_is : (flag : ℕ) (chosen other : _) → way_of_decision (Test flag chosen other) ≡ by_flag flag (way_of_decision chosen.value) (way_of_decision other.value)
unfolding way_of_decision
test_is flag chosen other = refl

pub count_is : (counter last : ℕ) (again past : _) → way_of_decision (Count counter last again past) ≡ by_count counter last (way_of_decision again.value) (way_of_decision past.value)
unfolding way_of_decision
count_is counter last again past = refl

pub fork_is : (groups : Vec ℕ Global) → way_of_decision (Fork groups) ≡ to_end
unfolding way_of_decision
fork_is groups = refl

pub rest_is : way_of_decision Rest ≡ to_end
unfolding way_of_decision
rest_is = refl

pub ruleset decisions_are = (go_is, test_is, count_is, fork_is, rest_is)

pub fits_go : (states registers state : ℕ) → FitsThread states registers (Go state) → state < states
unfolding FitsThread
fits_go states registers state h = h

pub fits_test : (states registers flag : ℕ) (chosen other : _) → FitsThread states registers (Test flag chosen other)
    → (flag < registers) × (FitsThread states registers chosen.value × FitsThread states registers other.value)
unfolding FitsThread
fits_test states registers flag chosen other h = h

pub fits_count : (states registers counter last : ℕ) (again past : _) → FitsThread states registers (Count counter last again past)
    → (counter < registers) × (FitsThread states registers again.value × FitsThread states registers past.value)
unfolding FitsThread
fits_count states registers counter last again past h = h

pub fits_fork : (states registers : ℕ) (groups : Vec ℕ Global) → FitsThread states registers (Fork groups) → ⊥
unfolding FitsThread
fits_fork states registers groups h = h

-- What is known of the parts of a decision. The parts go by what their boxes hold.

pub go_fits : (states registers state : ℕ) (way : Decision) → way ≡ Go state → FitsThread states registers way → state < states
go_fits states registers state way is h = fits_go states registers state (subst (λ (w : Decision). FitsThread states registers w) is h)

pub never_forks : (states registers : ℕ) (groups : Vec ℕ Global) (way : Decision) → way ≡ Fork groups → FitsThread states registers way → ⊥
never_forks states registers groups way is h = fits_fork states registers groups (subst (λ (w : Decision). FitsThread states registers w) is h)

module _ (states registers flag : ℕ) (chosen other : _) (way : Decision) (is : way ≡ Test flag chosen other) where
  pub test_fits : FitsThread states registers way → (flag < registers) × (FitsThread states registers chosen.value × FitsThread states registers other.value)
  test_fits h = fits_test states registers flag chosen other (subst (λ (w : Decision). FitsThread states registers w) is h)

  pub chosen_fits : (part : Decision) → part ≡ chosen.value → FitsThread states registers way → FitsThread states registers part
  chosen_fits part same h = subst (λ (w : Decision). FitsThread states registers w) (sym same) (test_fits h).1.0

  pub other_fits : (part : Decision) → part ≡ other.value → FitsThread states registers way → FitsThread states registers part
  other_fits part same h = subst (λ (w : Decision). FitsThread states registers w) (sym same) (test_fits h).1.1

  pub test_whole : (p q : Decision) → p ≡ chosen.value → q ≡ other.value → way_of_decision way ≡ by_flag flag (way_of_decision p) (way_of_decision q)
  test_whole p q a b = ap way_of_decision is ∙ (test_is flag chosen other ∙ (λ i. by_flag flag (way_of_decision (sym a i)) (way_of_decision (sym b i))))

  pub chosen_lighter : (part : Decision) → part ≡ chosen.value → way_weight (way_of_decision part) < way_weight (way_of_decision way)
  chosen_lighter part same =
      let whole = ap way_weight (test_whole part other.value same refl) in
      omega (arith, whole)

  pub other_lighter : (part : Decision) → part ≡ other.value → way_weight (way_of_decision part) < way_weight (way_of_decision way)
  other_lighter part same =
      let whole = ap way_weight (test_whole chosen.value part refl same) in
      omega (arith, whole)

module _ (states registers counter last : ℕ) (again past : _) (way : Decision) (is : way ≡ Count counter last again past) where
  pub count_fits : FitsThread states registers way → (counter < registers) × (FitsThread states registers again.value × FitsThread states registers past.value)
  count_fits h = fits_count states registers counter last again past (subst (λ (w : Decision). FitsThread states registers w) is h)

  pub again_fits : (part : Decision) → part ≡ again.value → FitsThread states registers way → FitsThread states registers part
  again_fits part same h = subst (λ (w : Decision). FitsThread states registers w) (sym same) (count_fits h).1.0

  pub past_fits : (part : Decision) → part ≡ past.value → FitsThread states registers way → FitsThread states registers part
  past_fits part same h = subst (λ (w : Decision). FitsThread states registers w) (sym same) (count_fits h).1.1

  pub count_whole : (p q : Decision) → p ≡ again.value → q ≡ past.value → way_of_decision way ≡ by_count counter last (way_of_decision p) (way_of_decision q)
  count_whole p q a b = ap way_of_decision is ∙ (count_is counter last again past ∙ (λ i. by_count counter last (way_of_decision (sym a i)) (way_of_decision (sym b i))))

  pub again_lighter : (part : Decision) → part ≡ again.value → way_weight (way_of_decision part) < way_weight (way_of_decision way)
  again_lighter part same =
      let whole = ap way_weight (count_whole part past.value same refl) in
      omega (arith, whole)

  pub past_lighter : (part : Decision) → part ≡ past.value → way_weight (way_of_decision part) < way_weight (way_of_decision way)
  past_lighter part same =
      let whole = ap way_weight (count_whole again.value part refl same) in
      omega (arith, whole)
