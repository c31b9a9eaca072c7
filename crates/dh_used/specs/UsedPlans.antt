-- How often a plan reads, writes and probes each access of its program, from what its blocks do, each of which is that of
-- one node.
use Rattle.std.specs.Prelude.{◌≡◌, ℕ, ◌<◌, List, [], length}
use Rattle.std.specs.List.{AllByRecursion}
use Rattle.dh_tree.specs.PlainTrees.{Program}
use Rattle.dh_meaning.specs.Core.{CoreCommands, CoreTerm}
use Rattle.dh_meaning.specs.CoreOf.{Known, core_commands, core_of, core_test, known_of}
use Rattle.dh_meaning.specs.OnePhase.{any_makes, test_makes}
use Rattle.dh_meaning.specs.Phases.{Located}
use Rattle.dh_plan.specs.DoneProgram.{ProbesByPaths, UsesByKeys}
use Rattle.dh_plan.specs.PlainPlans.{PlainPlan}
use Rattle.dh_plan.specs.PlanPhases.{AreNodesOf, Tie}
use Rattle.dh_plan.specs.SoundPlans.{blocks_of}
use Rattle.dh_sound.specs.Straight.{IsKeptAction}
pub use Rattle.dh_gathering.specs.NamedOnce.{listed}
use Rattle.dh_used.specs.UsedBlocks.{UsesAsMade}

-- A block of straight commands, or of a test, that uses what they make, which are told by their core: by whatever is known
-- of names.
pub record UsesStraight (p : Program) (plan : PlainPlan) (cs : CoreCommands) (block : ℕ) : Type 0 where
  pub known : Known
  pub located : List Located
  pub are : cs ≡ core_commands known located
  pub named : AllByRecursion (λ (c : Located). IsKeptAction known c.command) located
  pub uses : UsesAsMade p plan block (λ number. any_makes number located)

pub record UsesTest (p : Program) (plan : PlainPlan) (test : CoreTerm) (block : ℕ) : Type 0 where
  pub known : Known
  pub tested : Located
  pub is : test ≡ core_test known tested
  pub uses : UsesAsMade p plan block (λ number. test_makes number tested)

abbrev pub used_tie : Program → PlainPlan → Tie
used_tie p plan = record {
  of_block = λ rounds cs block. UsesStraight p plan cs block;
  of_test = λ rounds test flag block. UsesTest p plan test block;
  of_loop = λ rounds loop counter. Unit {0};
}

-- each block is that of one node
abbrev pub OneNodeEach : PlainPlan → Type 0
OneNodeEach plan = (block : ℕ) → block < length plan.blocks → listed block (blocks_of plan.body) ≡ 1

abbrev pub PlansUse : Type 0
PlansUse =
    (p : Program) (plan : PlainPlan) → IsKeptAction (known_of p) p.body → AreNodesOf (used_tie p plan) [] (core_of p).phases plan.body → OneNodeEach plan
    → UsesByKeys p plan × ProbesByPaths p plan
