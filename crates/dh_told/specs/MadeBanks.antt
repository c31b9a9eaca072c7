-- Each step of a plan that was made of a ready program keeps the banks.
use Rattle.std.specs.Prelude.{ℕ}
use Rattle.dh_plan.specs.PlainPlans.{PlainPlan}
use Rattle.dh_plan.specs.SoundPlans.{StepsKeepBanks}
use Rattle.dh_expressions.specs.declared.scenes.Scene.{Scene}
use Rattle.dh_gathering.specs.declared.blocks.Made.{Made}
use Rattle.dh_told.specs.FormedPlans.{IsWholePlan}

abbrev pub MadePlansKeepBanks : Type 0
MadePlansKeepBanks = (scene : Scene) (count : ℕ) (plan : PlainPlan) (final : Made) → IsWholePlan scene count plan final → StepsKeepBanks plan
