-- A plan that was made of a ready program: of each block, in whatever loops that count, its commands are sound and its
-- operations are formed.
use Rattle.std.specs.Prelude.{◌≡◌, ℕ, map}
use Rattle.dh_tree.specs.Memories.{table_of}
use Rattle.dh_tree.specs.Ready.{IsReady}
use Rattle.dh_tree.specs.Seen.{program_seen}
use Rattle.dh_meaning.specs.Ways.{ways_of}
use Rattle.dh_ways.specs.Seen.{led_seen}
use Rattle.dh_lengths.specs.SharedReads.{TellsShares}
use Rattle.dh_plan.specs.PlainPlans.{PlainPlan}
use Rattle.dh_expressions.specs.declared.scenes.Scene.{Scene}
use Rattle.dh_expressions.specs.Copying.{HasScopes}
use Rattle.dh_expressions.specs.ViewsTold.{TellsViews}
use Rattle.dh_gathering.specs.declared.blocks.Made.{Made}
use Rattle.dh_phased.specs.DonePhases.{HasMade, HasSoundBlocks}
use Rattle.dh_told.specs.ScenesKnown.{AreHeldInOrder, HaveTheirKinds}

-- It was made in a scene that tells of the program's variables, of where they are declared, of the reads that share, and
-- of the views of the plan.
pub record IsOfReady (scene : Scene) (count : ℕ) (plan : PlainPlan) (final : Made) : Type 0 where
  pub ready : IsReady (program_seen scene.program.now)
  pub order : AreHeldInOrder scene count
  pub ways : map led_seen scene.ways.now ≡ ways_of (program_seen scene.program.now)
  pub views : TellsViews scene plan.views
  pub scopes : HasScopes scene
  pub shares : TellsShares (program_seen scene.program.now) scene.shares.now
  pub table : plan.table ≡ table_of (program_seen scene.program.now)
  pub made : HasMade plan count final
  pub kinds : HaveTheirKinds scene count plan.registers

abbrev pub ReadyPlansAreSound : Type 0
ReadyPlansAreSound = (scene : Scene) (count : ℕ) (plan : PlainPlan) (final : Made) → IsOfReady scene count plan final → HasSoundBlocks scene plan final
