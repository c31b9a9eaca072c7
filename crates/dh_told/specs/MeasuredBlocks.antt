-- Blocks as they were made of straight commands and of tests of a program are as long as their phases, and what is asked
-- of them so.
use Rattle.std.specs.Prelude.{◌≡◌, ◌⊎◌, ℕ, Bool, true, List, Option}
use Rattle.std.specs.List.{AllByRecursion}
use Rattle.dh_value.specs.declared.kinds.Kind.TheVariants as kind
use Rattle.dh_tree.specs.Memories.{table_of}
use Rattle.dh_tree.specs.PlainTrees.{Term}
use Rattle.dh_tree.specs.Seen.{program_seen}
use Rattle.dh_meaning.specs.AccessNumbers.{term_accesses}
use Rattle.dh_meaning.specs.CoreOf.{core_commands, core_term}
use Rattle.dh_meaning.specs.Effects.{commands, tests}
use Rattle.dh_meaning.specs.Levels.{block_length}
use Rattle.dh_meaning.specs.OnePhase.{any_makes}
use Rattle.dh_meaning.specs.Phases.{Located}
use Rattle.dh_plan.specs.Correspondence.{Round}
use Rattle.dh_plan.specs.LegalSchedules.{block_clocks}
use Rattle.dh_plan.specs.PlainPlans.{PlainPlan}
use Rattle.dh_expressions.specs.declared.scenes.Around.{Around}
use Rattle.dh_expressions.specs.declared.scenes.Scene.{Scene}
use Rattle.dh_expressions.specs.Evaluated.{known_in}
use Rattle.dh_expressions.specs.Shown.{kind_written}
use Rattle.dh_formed.specs.Formed.{FormedBlock}
use Rattle.dh_formed.specs.WholeBlocks.{IsCut, block_of}
use Rattle.dh_sound.specs.SimpleForms.{FoldsInJoins}
use Rattle.dh_blocks.specs.SoundTerms.{IsSound}
use Rattle.dh_laid.specs.BlockSites.{block_sites, test_sites}
use Rattle.dh_paced.specs.BlockLengths.{ShareWithin}
use Rattle.dh_paced.specs.Paced.{IsIn, IsReadOfEach}
use Rattle.dh_typed_blocks.specs.TypedTerms.{IsTyped}
use Rattle.dh_typed_laid.specs.SuitingBlocks.{FitsBlock, NamedHere, StandsSo}
use Rattle.dh_gathering.specs.declared.blocks.Made.{Made}
use Rattle.dh_gathering.specs.Growing.{registers_given}
use Rattle.dh_gathering.specs.MadeBlocks.{MadeStraight, MadeTest}
use Rattle.dh_told.specs.MadeFormed.{HasMadeRegisters}

-- A command that fits its block; if there is a reducer in it, then all names in it are other variables at each path, but
-- what it assigns to.
pub record FitsAlone (x : FormedBlock) (scene : Scene) (around : Around) (rounds : List Round) (c : Located) : Type 0 where
  pub fits : FitsBlock x scene around rounds c
  pub alone : FoldsInJoins c.command ⊎ ((entity : ℕ) → fits.touched entity ≡ true)

-- where the block of straight commands stands
pub record StandsStraight (scene : Scene) (plan : PlainPlan) (count : ℕ) (final : Made) (rounds : List Round) (ls : List Located) (block : ℕ) (shared : ℕ → Option ℕ) (m : MadeStraight scene final rounds ls block) : Type 0 where
  pub cut : IsCut plan block m.before.draft m.after.draft
  pub registers : HasMadeRegisters plan final
  -- so many are of variables
  pub counted : count ≡ registers_given final
  pub stands : StandsSo (block_of plan block (block_sites scene m.around ls m.before m.between m.made)) scene count m.around
  pub fits : AllByRecursion (FitsAlone (block_of plan block (block_sites scene m.around ls m.before m.between m.made)) scene m.around rounds) ls
  -- (a loop without turns in an arm makes none of its accesses)
  pub shares : ShareWithin scene shared (λ number. any_makes number ls ≡ true) (IsReadOfEach (known_in scene) ls)

abbrev pub MadeStraightsAreLong : Type 0
MadeStraightsAreLong =
    (scene : Scene) (plan : PlainPlan) (count : ℕ) (final : Made) (rounds : List Round) (ls : List Located) (block : ℕ) (shared : ℕ → Option ℕ) (m : MadeStraight scene final rounds ls block)
    → StandsStraight scene plan count final rounds ls block shared m → block_clocks plan block ≡ block_length shared (commands (core_commands (known_in scene) ls))

-- where the block of a test stands
pub record StandsTest (scene : Scene) (plan : PlainPlan) (count : ℕ) (final : Made) (rounds : List Round) (n : ℕ) (t : Term) (flag block : ℕ) (shared : ℕ → Option ℕ) (m : MadeTest scene final rounds n t flag block) : Type 0 where
  pub cut : IsCut plan block m.before.draft m.after.draft
  pub registers : HasMadeRegisters plan final
  pub counted : count ≡ registers_given final
  pub stands : StandsSo (block_of plan block (test_sites scene m.around n t)) scene count m.around
  pub touched : ℕ → Bool
  pub sound : IsSound (known_in scene) (table_of (program_seen scene.program.now)) (NamedHere (block_of plan block (test_sites scene m.around n t)) scene m.around rounds touched) t
  pub typed : IsTyped (known_in scene) (table_of (program_seen scene.program.now)) t
  pub truth : kind_written t ≡ kind.Bool
  pub shares : ShareWithin scene shared (IsIn n (term_accesses t)) (IsIn n (term_accesses t))

abbrev pub MadeTestsAreLong : Type 0
MadeTestsAreLong =
    (scene : Scene) (plan : PlainPlan) (count : ℕ) (final : Made) (rounds : List Round) (n : ℕ) (t : Term) (flag block : ℕ) (shared : ℕ → Option ℕ) (m : MadeTest scene final rounds n t flag block)
    → StandsTest scene plan count final rounds n t flag block shared m → block_clocks plan block ≡ block_length shared (tests (core_term (known_in scene) n t))
