-- How often a block of a plan reads, writes and probes each access of the program: with each of its keys once and at
-- each of its paths, where the block makes it; not at all, where it does not.
use Rattle.std.specs.Prelude.{◌≡◌, ℕ, ◌+◌, ◌<◌, ◌^◌, Bool, true, if◌then◌else◌, List, ◌++◌, length, Some, None}
use Rattle.std.specs.List.{AllByRecursion}
use Rattle.dh_tree.specs.PlainTrees.{Program, Term}
use Rattle.dh_tree.specs.Seen.{program_seen}
use Rattle.dh_meaning.specs.AccessNumbers.{term_accesses}
use Rattle.dh_meaning.specs.CoreOf.{action_form_of, test_of}
use Rattle.dh_meaning.specs.OnePhase.{any_makes, test_makes}
use Rattle.dh_meaning.specs.Paths.{copies_in}
use Rattle.dh_meaning.specs.Phases.{Located, phases_of}
use Rattle.dh_meets.specs.Charges as charges
use Rattle.dh_meets.specs.Charges.{paths_of}
use Rattle.dh_meets.specs.SourceEvents.{SourceAccess}
use Rattle.dh_plan.specs.declared.operations.Operation.{Operation}
use Rattle.dh_plan.specs.DoneProgram.{operations_using, probes_among, uses_wanted}
use Rattle.dh_plan.specs.PlainPlans.{PlainPlan, operations_in}
use Rattle.dh_plan.specs.SoundPlans.{access_in}
use Rattle.dh_sound.specs.PhaseFacts.{HasStraight, HasTest}
use Rattle.dh_sound.specs.Straight.{IsKeptAction}
use Rattle.dh_sound.specs.ToldEvents.{access_at}
use Rattle.dh_charged.specs.ChargedBlocks.{IsCutFrom}
use Rattle.dh_lengths.specs.SharedReads.{TellsShares}
use Rattle.dh_expressions.specs.declared.drafts.Draft.{Draft}
use Rattle.dh_expressions.specs.declared.scenes.Around.{Around}
use Rattle.dh_expressions.specs.declared.scenes.Scene.{Scene}
use Rattle.dh_expressions.specs.Evaluated.{known_in}
use Rattle.dh_commands.specs.declared.buildings.Building.{Building}
use Rattle.dh_commands.specs.LanesRun.{paths_counted}
use Rattle.dh_commands.specs.MadeCommands.{MadeTests}
use Rattle.dh_commands.specs.ShownVariables.{level_factors}
use Rattle.dh_blocks.specs.PathsOfLevels.{AreSpread}
use Rattle.dh_laid.specs.BlockSites.{MadeEach, block_sites, test_sites}
use Rattle.dh_laid.specs.LaidQuiet.{BlockStandsIn}
use Rattle.dh_laid.specs.LaidUses.{AreAlong, HaveNoOperations}

-- a block makes the accesses of these numbers, each as often as is wanted
pub record UsesAsMade (p : Program) (plan : PlainPlan) (block : ℕ) (makes : ℕ → Bool) : Type 0 where
  pub uses : (number : ℕ) (a : SourceAccess) → access_at p number ≡ Some a → operations_using number (operations_in plan block) ≡ (if makes number then uses_wanted p number a else 0)
  pub probes : (number : ℕ) (a : SourceAccess) → access_at p number ≡ Some a → probes_among number (operations_in plan block) ≡ (if makes number then length (paths_of a) else 0)

-- What stands round a block: the paths are those inside its loops, and these are the loops round each access that it makes.
pub record IsInLoops (scene : Scene) (around : Around) (makes : ℕ → Bool) : Type 0 where
  pub stands : BlockStandsIn scene around
  pub spread : AreSpread around.levels.now
  pub counted : paths_counted around ≡ copies_in (level_factors around.levels.now)
  pub loops : (number : ℕ) (a : SourceAccess) → makes number ≡ true → access_at (program_seen scene.program.now) number ≡ Some a → charges.loop_factors a.site.loops ≡ level_factors around.levels.now

-- operations behind, which access nothing: registers that are set, and a flag
pub record EndsQuietly (d e : Draft) : Type 0 where
  pub more : List Operation
  pub adds : e.operations.items ≡ d.operations.items ++ more
  pub no_use : (number : ℕ) → operations_using number more ≡ 0
  pub no_probe : (number : ℕ) → probes_among number more ≡ 0
  pub reach_none : AllByRecursion (λ (o : Operation). access_in o.form ≡ None) more

-- the block of straight commands of a phase, whose operations end so
abbrev pub StraightsUseAsMade : Type 0
StraightsUseAsMade =
    (scene : Scene) (plan : PlainPlan) (block : ℕ) (around : Around) (cs : List Located) (old new : Building) (end : Draft) (m : MadeEach scene around cs old new)
    → IsInLoops scene around (λ number. any_makes number cs) → AreAlong 0 cs → AllByRecursion (λ (c : Located). IsKeptAction (known_in scene) c.command) cs → HasStraight (phases_of (program_seen scene.program.now)) cs → TellsShares (program_seen scene.program.now) scene.shares.now
    → HaveNoOperations (block_sites scene around cs old new m) old.accesses → IsCutFrom plan block old.draft end → EndsQuietly new.draft end
    → UsesAsMade (program_seen scene.program.now) plan block (λ number. any_makes number cs)

-- the block of the test of a command
abbrev pub TestsUseAsMade : Type 0
TestsUseAsMade =
    (scene : Scene) (plan : PlainPlan) (block : ℕ) (around : Around) (tested : Located) (t : Term) (old new : Building) (end : Draft) (next : ℕ) (tests : List ℕ)
    → MadeTests scene around tested.first t (paths_counted around) old new next tests → test_of (action_form_of tested.command) ≡ Some t
    → IsInLoops scene around (λ number. test_makes number tested) → tested.first + term_accesses t < 2 ^ 32 → HasTest (phases_of (program_seen scene.program.now)) tested → TellsShares (program_seen scene.program.now) scene.shares.now
    → HaveNoOperations (test_sites scene around tested.first t) old.accesses → IsCutFrom plan block old.draft end → EndsQuietly new.draft end
    → UsesAsMade (program_seen scene.program.now) plan block (λ number. test_makes number tested)
