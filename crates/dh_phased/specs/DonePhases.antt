-- The nodes that were made of a program do its phases, and touch no more registers than these, where the commands and tests of their blocks are sound.
use Rattle.std.specs.Prelude.{◌≡◌, ℕ, ◌≤◌, ◌^◌, List, [], ◌++◌, length}
use Rattle.dh_tree.specs.PlainTrees.{Term}
use Rattle.dh_meaning.specs.Core.{CoreCommands, CorePhases, CoreTerm}
use Rattle.dh_meaning.specs.Phases.{Located}
use Rattle.dh_plan.specs.Correspondence.{Round}
use Rattle.dh_plan.specs.Ordered.{IsOrdered}
use Rattle.dh_plan.specs.PlainPlans.{Nodes, PlainPlan, first_in, operations_in}
use Rattle.dh_plan.specs.PlanPhases.{AreNodesOf, does_phases}
use Rattle.dh_expressions.specs.declared.scenes.Around.{Around}
use Rattle.dh_expressions.specs.declared.scenes.Scene.{Scene}
use Rattle.dh_blocks.specs.BlockMade.{AreSoundHere}
use Rattle.dh_blocks.specs.BlockTraced.{IsTraced}
use Rattle.dh_blocks.specs.SlotsOfScene.{HoldsVariables, placing_in, slots_in}
use Rattle.dh_blocks.specs.TestMade.{IsSoundTest, IsTestTraced}
use Rattle.dh_gathering.specs.declared.blocks.Made.{Made}
use Rattle.dh_gathering.specs.Cutting.{AreBlocksOf}
use Rattle.dh_gathering.specs.Growing.{registers_given}
use Rattle.dh_gathering.specs.LoopCounters.{AreCounting, LoopsCount}
use Rattle.dh_gathering.specs.MadeBlocks.{IsStraightBlock, IsTestBlock, made_tie}

-- a plan is of what was made, with so many registers of variables
pub record HasMade (plan : PlainPlan) (count : ℕ) (final : Made) : Type 0 where
  pub blocks : AreBlocksOf final.building.draft.operations.items final.starts.items plan.blocks
  pub registers : plan.registers ≡ final.registers
  pub faults : plan.faults ≡ final.building.draft.faults
  pub given : registers_given final ≡ count
  pub few : length plan.faults ≤ 2 ^ 32

-- The commands of a block are sound, of which the last may be reducers, and stand along the program's trace; operands of
-- its operations come before them.
pub record IsSoundStraight (scene : Scene) (around : Around) (plan : PlainPlan) (rounds : List Round) (block : ℕ) (located : List Located) : Type 0 where
  pub done : List Located
  pub folds : List Located
  pub are : located ≡ done ++ folds
  pub ordered : IsOrdered (first_in plan block) (operations_in plan block)
  pub sound : AreSoundHere scene around plan rounds done folds
  pub traced : IsTraced scene done folds

-- and so does the test of a block
pub record IsSoundTested (scene : Scene) (around : Around) (plan : PlainPlan) (rounds : List Round) (block : ℕ) (tested : Located) (t : Term) : Type 0 where
  pub ordered : IsOrdered (first_in plan block) (operations_in plan block)
  pub sound : IsSoundTest scene around plan rounds t
  pub traced : IsTestTraced scene tested.first t

-- each block that was made is so, in loops that count, with the counters of their iterators
pub record HasSoundBlocks (scene : Scene) (plan : PlainPlan) (final : Made) : Type 0 where
  pub straights : (rounds : List Round) (cs : CoreCommands) (block : ℕ) (s : IsStraightBlock scene final rounds cs block) → AreCounting scene (placing_in scene) rounds
      → IsSoundStraight scene s.made.around plan rounds block s.located
  pub tests : (rounds : List Round) (test : CoreTerm) (flag block : ℕ) (s : IsTestBlock scene final rounds test flag block) → AreCounting scene (placing_in scene) rounds
      → IsSoundTested scene s.made.around plan rounds block s.tested s.term

abbrev pub PhasesAreDone : Type 0
PhasesAreDone =
    (scene : Scene) (plan : PlainPlan) (count : ℕ) (final : Made) (qs : CorePhases) (ns : Nodes) → HasMade plan count final → HoldsVariables scene plan count → HasSoundBlocks scene plan final → LoopsCount scene (placing_in scene) [] qs
    → AreNodesOf (made_tie scene final) [] qs ns → AreNodesOf (does_phases plan (slots_in scene)) [] qs ns
