-- What the pass promises of the plan of a program that is to be compiled.
use Rattle.std.specs.Prelude.{◌≡◌, map}
use Rattle.std.specs.List.{AllByRecursion}
use Rattle.dh_value.specs.Words.{IsKind}
use Rattle.dh_tree.specs.PlainTrees.{Program}
use Rattle.dh_tree.specs.Views.{viewed_in}
use Rattle.dh_plan.specs.DoneProgram.{IsPlanOf}
use Rattle.dh_plan.specs.PlainPlans.{PlainPlan}

-- it is a plan of the program, with the program's views in text order, and registers have from 1 to 64 bits
pub record IsUnrolled (p : Program) (plan : PlainPlan) : Type 0 where
  pub is_plan : IsPlanOf p plan
  pub views : plan.views ≡ map (λ v. v.is) (viewed_in p)
  pub registers : AllByRecursion IsKind plan.registers
