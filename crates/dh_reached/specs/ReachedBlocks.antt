-- A block of straight commands, or of a test, as it is reached in a step: what its premises are, and what it uses.
use Rattle.std.specs.Prelude.{◌≡◌, ℕ, ◌+◌, ◌<◌, ◌^◌, Bool, true, List, length, None}
use Rattle.std.specs.List.{AllByRecursion}
use Rattle.dh_tree.specs.Memories.{table_of}
use Rattle.dh_tree.specs.PlainTrees.{Term}
use Rattle.dh_tree.specs.Seen.{program_seen}
use Rattle.dh_meaning.specs.AccessNumbers.{term_accesses}
use Rattle.dh_meaning.specs.Paths.{copies_in}
use Rattle.dh_meaning.specs.Phases.{Located}
use Rattle.dh_plan.specs.declared.operations.Operation.{Operation}
use Rattle.dh_plan.specs.PlainPlans.{PlainPlan}
use Rattle.dh_plan.specs.SoundPlans.{use_in}
use Rattle.dh_expressions.specs.declared.scenes.Around.{Around}
use Rattle.dh_expressions.specs.declared.scenes.Scene.{Scene}
use Rattle.dh_expressions.specs.Noted.{touched_in}
use Rattle.dh_commands.specs.declared.buildings.Building.{Building}
use Rattle.dh_commands.specs.LanesRun.{paths_counted}
use Rattle.dh_commands.specs.MadeCommands.{MadeTests}
use Rattle.dh_commands.specs.ShownVariables.{ArePlaced, level_factors}
use Rattle.dh_blocks.specs.BlockMade.{AreRising, IsBare, IsPut, step_of_block}
use Rattle.dh_blocks.specs.PathsOfLevels.{AreSpread}
use Rattle.dh_laid.specs.BlockSites.{MadeEach, block_sites, test_sites}
use Rattle.dh_laid.specs.LaidNumbers.{StoresReach}
use Rattle.dh_laid.specs.LaidQuiet.{BlockStandsIn}
use Rattle.dh_reached.specs.IndicesKept.{BlockKeeps, TermKeeps}
use Rattle.dh_reached.specs.ReadsTold.{BlockReads, BlockShares}
use Rattle.dh_reached.specs.StepBanks.{BlockUses}

-- What stands round a command: loops that are told apart, and as many paths as they have, which are few.
pub record StandsSpread (scene : Scene) (around : Around) : Type 0 where
  pub stands : BlockStandsIn scene around
  pub spread : AreSpread around.levels.now
  pub counted : paths_counted around ≡ copies_in (level_factors around.levels.now)
  pub some : 0 < paths_counted around
  pub few : paths_counted around < 2 ^ 32
  pub placed : ArePlaced scene around

-- operations that read and write nothing
abbrev pub AreUnused : List Operation → Type 0
AreUnused os = AllByRecursion (λ (o : Operation). use_in o.form ≡ None) os

-- a number is that of a read, by a test
abbrev pub ReadBy : (reads : ℕ → Bool) → ℕ → Type 0
ReadBy reads number = reads number ≡ true

-- A block of straight commands, put down one after the other and with nothing behind it that reads or writes.
pub record StraightStands (scene : Scene) (around : Around) (plan : PlainPlan) (count block : ℕ) (cs : List Located) (old new : Building) (made : MadeEach scene around cs old new) (more : List Operation) (reads : ℕ → Bool) : Type 0 where
  pub put : IsPut plan count block old new more
  pub unused : AreUnused more
  pub stands : StandsSpread scene around
  pub rising : AreRising 0 cs
  pub bare : AllByRecursion (IsBare old.accesses) cs
  pub stores : AllByRecursion (λ (c : Located). StoresReach c.command) cs
  pub reads_told : BlockReads (ReadBy reads) 0 cs
  pub shares : BlockShares (ReadBy reads) scene (block_sites scene around cs old new made)

-- in a step in which its indices keep the rules and its loops are in turns, it uses what stands in it
abbrev pub StraightReaches : Type 0
StraightReaches =
    (scene : Scene) (around : Around) (plan : PlainPlan) (count block : ℕ) (cs : List Located) (old new : Building) (made : MadeEach scene around cs old new) (more : List Operation) (reads : ℕ → Bool)
    → StraightStands scene around plan count block cs old new made more reads
    → (registers : List ℕ) (memories : List (List ℕ)) → BlockKeeps (step_of_block plan block registers memories) scene around.levels.now cs
    → BlockUses plan block (step_of_block plan block registers memories) (block_sites scene around cs old new made)

-- A block of a test, whose accesses are numbered from a first one on, at all its paths.
pub record TestStands (scene : Scene) (around : Around) (plan : PlainPlan) (count block first : ℕ) (t : Term) (old new : Building) (next : ℕ) (tests : List ℕ) (more : List Operation) (reads : ℕ → Bool) : Type 0 where
  pub put : IsPut plan count block old new more
  pub unused : AreUnused more
  pub stands : StandsSpread scene around
  pub made : MadeTests scene around first t (paths_counted around) old new next tests
  pub few : first + term_accesses t < 2 ^ 32
  pub bare : (i : ℕ) → i < term_accesses t → (first + i < length old.accesses.touched.items) × (touched_in old.accesses (first + i) ≡ None)
  pub none_before : (e : ℕ) → e < first → ReadBy reads e → ⊥
  pub shares : BlockShares (ReadBy reads) scene (test_sites scene around first t)

abbrev pub TestReaches : Type 0
TestReaches =
    (scene : Scene) (around : Around) (plan : PlainPlan) (count block first : ℕ) (t : Term) (old new : Building) (next : ℕ) (tests : List ℕ) (more : List Operation) (reads : ℕ → Bool)
    → TestStands scene around plan count block first t old new next tests more reads
    → (registers : List ℕ) (memories : List (List ℕ)) → (step_of_block plan block registers memories).start.table ≡ table_of (program_seen scene.program.now) → TermKeeps (step_of_block plan block registers memories) scene around.levels.now (λ e. ⊥) t
    → BlockUses plan block (step_of_block plan block registers memories) (test_sites scene around first t)
