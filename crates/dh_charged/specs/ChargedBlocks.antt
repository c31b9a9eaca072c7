-- What a block of a plan charges, and so what a plan charges: on no bank more than the program.
use Rattle.std.specs.Prelude.{◌≡◌, ℕ, ◌+◌, ◌<◌, ◌^◌, List, [], ◌++◌, drop, length, None}
use Rattle.std.specs.List.{AllByRecursion}
use Rattle.dh_tree.specs.PlainTrees.{Program, Term}
use Rattle.dh_tree.specs.Seen.{program_seen}
use Rattle.dh_meaning.specs.AccessNumbers.{term_accesses}
use Rattle.dh_meaning.specs.Core.{CorePhases}
use Rattle.dh_meaning.specs.Paths.{copies_in}
use Rattle.dh_meaning.specs.Phases.{Located}
use Rattle.dh_plan.specs.declared.operations.Operation.{Operation}
use Rattle.dh_plan.specs.DoneProgram.{ChargesWithin}
use Rattle.dh_plan.specs.PlainPlans.{PlainPlan, operations_in}
use Rattle.dh_plan.specs.PlanPhases.{Tie, AreNodesOf}
use Rattle.dh_plan.specs.SoundPlans.{IsOneOf, blocks_of, use_in}
use Rattle.dh_expressions.specs.declared.drafts.Draft.{Draft}
use Rattle.dh_expressions.specs.declared.scenes.Around.{Around}
use Rattle.dh_expressions.specs.declared.scenes.Scene.{Scene}
use Rattle.dh_commands.specs.declared.buildings.Building.{Building}
use Rattle.dh_commands.specs.LanesRun.{paths_counted}
use Rattle.dh_commands.specs.MadeCommands.{MadeTests}
use Rattle.dh_commands.specs.ShownVariables.{level_factors}
use Rattle.dh_laid.specs.BlockSites.{MadeEach, block_sites, test_sites}
use Rattle.dh_laid.specs.LaidQuiet.{BlockStandsIn}
use Rattle.dh_laid.specs.LaidUses.{AreAlong, HaveNoOperations, SharesInside, WritesAlone}
use Rattle.dh_blocks.specs.PathsOfLevels.{AreSpread}
use Rattle.dh_charged.specs.ChargedUses.{AreSitesAt, HasShares, OperationsCharge}

-- the paths round a block are those of its loops, of which there is at least one
pub record StandsAtPaths (scene : Scene) (around : Around) : Type 0 where
  pub stands : BlockStandsIn scene around
  pub spread : AreSpread around.levels.now
  pub counted : paths_counted around ≡ copies_in (level_factors around.levels.now)

-- the operations of a block are those behind a draft
abbrev pub IsCutFrom : PlainPlan → (block : ℕ) → (old end : Draft) → Type 0
IsCutFrom plan block old end = operations_in plan block ≡ drop (length old.operations.items) end.operations.items

-- behind what was put down for its commands, a block reads and writes nothing
pub record EndsUnused (d e : Draft) : Type 0 where
  pub more : List Operation
  pub adds : e.operations.items ≡ d.operations.items ++ more
  pub unused : AllByRecursion (λ (o : Operation). use_in o.form ≡ None) more

-- a block of straight commands
abbrev pub BlocksCharge : Type 0
BlocksCharge =
    (scene : Scene) (plan : PlainPlan) (block : ℕ) (around : Around) (cs : List Located) (old new : Building) (end : Draft) (m : MadeEach scene around cs old new)
    → StandsAtPaths scene around → AreAlong 0 cs → WritesAlone scene cs → SharesInside scene (block_sites scene around cs old new m) → HaveNoOperations (block_sites scene around cs old new m) old.accesses
    → HasShares scene → AreSitesAt scene around.levels.now (block_sites scene around cs old new m) → IsCutFrom plan block old.draft end → EndsUnused new.draft end
    → OperationsCharge (program_seen scene.program.now) (operations_in plan block)

-- a block of a test
abbrev pub TestsCharge : Type 0
TestsCharge =
    (scene : Scene) (plan : PlainPlan) (block : ℕ) (around : Around) (first : ℕ) (t : Term) (old new : Building) (end : Draft) (next : ℕ) (tests : List ℕ)
    → MadeTests scene around first t (paths_counted around) old new next tests → StandsAtPaths scene around → first + term_accesses t < 2 ^ 32
    → SharesInside scene (test_sites scene around first t) → HaveNoOperations (test_sites scene around first t) old.accesses
    → HasShares scene → AreSitesAt scene around.levels.now (test_sites scene around first t) → IsCutFrom plan block old.draft end → EndsUnused new.draft end
    → OperationsCharge (program_seen scene.program.now) (operations_in plan block)

-- Plans.

-- each block of nodes charges so
abbrev pub charges_blocks : Program → PlainPlan → Tie
charges_blocks p plan = record {
  of_block = λ rounds cs block. OperationsCharge p (operations_in plan block);
  of_test = λ rounds test flag block. OperationsCharge p (operations_in plan block);
  of_loop = λ rounds loop counter. Unit {0};
}

-- so does a plan of which each block is one of its nodes
abbrev pub PlansCharge : Type 0
PlansCharge =
    (p : Program) (plan : PlainPlan) (phases : CorePhases) → AreNodesOf (charges_blocks p plan) [] phases plan.body
    → ((block : ℕ) → block < length plan.blocks → IsOneOf block (blocks_of plan.body)) → ChargesWithin p plan
