-- What plans charge whose nodes were made of the phases of a program: on no bank more than the program.
use Rattle.std.specs.Prelude.{[]}
use Rattle.dh_tree.specs.Seen.{program_seen}
use Rattle.dh_meaning.specs.CoreOf.{core_of}
use Rattle.dh_plan.specs.DoneProgram.{ChargesWithin}
use Rattle.dh_plan.specs.PlainPlans.{PlainPlan}
use Rattle.dh_plan.specs.PlanPhases.{AreNodesOf}
use Rattle.dh_expressions.specs.declared.scenes.Scene.{Scene}
use Rattle.dh_gathering.specs.declared.blocks.Made.{Made}
use Rattle.dh_charged.specs.ChargedBlocks.{charges_blocks}
use Rattle.dh_charged.specs.AccessMemories.{HaveMemories}
use Rattle.dh_used.specs.MadePlans.{IsMadeOf}
use Rattle.dh_used.specs.UsedPlans.{OneNodeEach}

-- each block
abbrev pub MadeNodesCharge : Type 0
MadeNodesCharge =
    (scene : Scene) (final : Made) (plan : PlainPlan) → IsMadeOf scene final plan → HaveMemories (program_seen scene.program.now)
    → AreNodesOf (charges_blocks (program_seen scene.program.now) plan) [] (core_of (program_seen scene.program.now)).phases plan.body

-- and so the plan, where each block is that of one node
abbrev pub MadePlansCharge : Type 0
MadePlansCharge =
    (scene : Scene) (final : Made) (plan : PlainPlan) → IsMadeOf scene final plan → HaveMemories (program_seen scene.program.now) → OneNodeEach plan
    → ChargesWithin (program_seen scene.program.now) plan
