-- What substituting the calls of a program keeps.
use Rattle.std.specs.Prelude.{◌≡◌, []}
use Rattle.dh_tree.specs.PlainTrees.{Program}
use Rattle.dh_tree.specs.Ready.{IsReady}
use Rattle.dh_meets.specs.Ports.{KeepsPortRules}
use Rattle.dh_plan.specs.Passes.{KeepsMeaning}
use Rattle.dh_plan.specs.PlanSizes.{plan_size_of}

-- it has no functions, so no call stands in it, and means the same; what it breaks no rule of and how large its
-- plan is stays; and a program without functions stays as it is
pub record IsFlatOf (before after : Program) : Type 0 where
  pub flat : after.functions ≡ []
  pub meaning : KeepsMeaning before after
  pub ready : IsReady after
  pub ports : KeepsPortRules before → KeepsPortRules after
  pub size : plan_size_of after ≡ plan_size_of before
  pub whole : before.functions ≡ [] → after ≡ before
