-- How often plans multiply whose nodes were made of the phases of a program.
use Rattle.dh_tree.specs.Seen.{program_seen}
use Rattle.dh_plan.specs.DoneProgram.{HasProducts}
use Rattle.dh_plan.specs.PlainPlans.{PlainPlan}
use Rattle.dh_expressions.specs.declared.scenes.Scene.{Scene}
use Rattle.dh_gathering.specs.declared.blocks.Made.{Made}
use Rattle.dh_used.specs.MadePlans.{IsMadeOf}

-- a block multiplies no more often than its phase does, at each path
abbrev pub MadePlansMultiply : Type 0
MadePlansMultiply = (scene : Scene) (final : Made) (plan : PlainPlan) → IsMadeOf scene final plan → HasProducts (program_seen scene.program.now) plan
