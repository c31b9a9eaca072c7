-- What is told of a decision, form by form, where its parts stand in the code's boxes.
use Rattle.std.proofs.Common.{◌≡◌, ℕ, refl}
use Rattle.std.specs.Prelude.{Vec}
use Rattle.std.specs.Global.{Global}
use Rattle.dh_plan.specs.declared.graphs.Decision.TheVariants.{Go, Test, Count, Fork, Rest}
use Rattle.dh_flow.specs.ToldWays.{told_go, told_test, told_count, told_fork, told_rest, decision_told}

pub go_is : (state : ℕ) → decision_told (Go state) ≡ told_go state
unfolding decision_told
go_is state = refl

pub test_is : (flag : ℕ) (chosen other : _) → decision_told (Test flag chosen other) ≡ told_test flag (decision_told chosen.value) (decision_told other.value)
unfolding decision_told
test_is flag chosen other = refl

pub count_is : (counter last : ℕ) (again past : _) → decision_told (Count counter last again past) ≡ told_count counter last (decision_told again.value) (decision_told past.value)
unfolding decision_told
count_is counter last again past = refl

pub fork_is : (groups : Vec ℕ Global) → decision_told (Fork groups) ≡ told_fork groups.items
unfolding decision_told
fork_is groups = refl

pub rest_is : decision_told Rest ≡ told_rest
unfolding decision_told
rest_is = refl

pub ruleset decisions_are = (go_is, test_is, count_is, fork_is, rest_is)
