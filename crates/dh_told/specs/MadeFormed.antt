-- Blocks of a plan, as they were made of the commands and tests of a program, are formed: each operation takes earlier
-- values of its block, of the kinds that it needs.
use Rattle.std.specs.Prelude.{◌≡◌, ℕ, ◌≤◌, Bool, List, length}
use Rattle.std.specs.List.{AllByRecursion}
use Rattle.dh_value.specs.declared.kinds.Kind.TheVariants as kind
use Rattle.dh_tree.specs.Memories.{table_of}
use Rattle.dh_tree.specs.PlainTrees.{Term}
use Rattle.dh_tree.specs.Seen.{program_seen}
use Rattle.dh_meaning.specs.Phases.{Located}
use Rattle.dh_plan.specs.Correspondence.{Round}
use Rattle.dh_plan.specs.PlainPlans.{PlainPlan}
use Rattle.dh_plan.specs.PlanKinds.{IsFormedBlock}
use Rattle.dh_expressions.specs.declared.scenes.Scene.{Scene}
use Rattle.dh_expressions.specs.Evaluated.{known_in}
use Rattle.dh_expressions.specs.Shown.{kind_written}
use Rattle.dh_formed.specs.WholeBlocks.{IsCut, block_of}
use Rattle.dh_blocks.specs.SoundTerms.{IsSound}
use Rattle.dh_laid.specs.BlockSites.{block_sites, test_sites}
use Rattle.dh_typed_blocks.specs.TypedTerms.{IsTyped}
use Rattle.dh_typed_laid.specs.SuitingBlocks.{FitsBlock, NamedHere, StandsSo}
use Rattle.dh_gathering.specs.declared.blocks.Made.{Made}
use Rattle.dh_gathering.specs.Growing.{registers_given}
use Rattle.dh_gathering.specs.MadeBlocks.{MadeStraight, MadeTest}

-- a plan has the registers of what was made: those of variables, and behind them flags
pub record HasMadeRegisters (plan : PlainPlan) (final : Made) : Type 0 where
  pub registers : plan.registers ≡ final.registers
  pub given : registers_given final ≤ length final.registers

-- the block of straight commands
abbrev pub MadeStraightsAreFormed : Type 0
MadeStraightsAreFormed =
    (scene : Scene) (plan : PlainPlan) (count : ℕ) (final : Made) (rounds : List Round) (ls : List Located) (block : ℕ) (m : MadeStraight scene final rounds ls block)
    → IsCut plan block m.before.draft m.after.draft → HasMadeRegisters plan final
    → StandsSo (block_of plan block (block_sites scene m.around ls m.before m.between m.made)) scene count m.around
    → AllByRecursion (FitsBlock (block_of plan block (block_sites scene m.around ls m.before m.between m.made)) scene m.around rounds) ls
    → IsFormedBlock plan block

-- the block of a test
abbrev pub MadeTestsAreFormed : Type 0
MadeTestsAreFormed =
    (scene : Scene) (plan : PlainPlan) (count : ℕ) (final : Made) (rounds : List Round) (touched : ℕ → Bool) (n : ℕ) (t : Term) (flag block : ℕ) (m : MadeTest scene final rounds n t flag block)
    → IsCut plan block m.before.draft m.after.draft → HasMadeRegisters plan final
    → StandsSo (block_of plan block (test_sites scene m.around n t)) scene count m.around
    → IsSound (known_in scene) (table_of (program_seen scene.program.now)) (NamedHere (block_of plan block (test_sites scene m.around n t)) scene m.around rounds touched) t
    → IsTyped (known_in scene) (table_of (program_seen scene.program.now)) t → kind_written t ≡ kind.Bool
    → IsFormedBlock plan block
