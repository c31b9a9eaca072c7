-- The scene of a ready program's plan, whose variables have their registers in the order of their entities, those that keep
-- offsets of views behind the program's own: it tells of each variable what the program declares, and the plan has
-- registers of their kinds.
use Rattle.std.specs.Prelude.{◌≡◌, ℕ, suc, ◌<◌, ◌≤◌, List, length, map}
use Rattle.dh_value.specs.declared.kinds.Kind.{Kind}
use Rattle.dh_tree.specs.Memories.{table_of}
use Rattle.dh_tree.specs.Ready.{IsReady}
use Rattle.dh_tree.specs.Seen.{program_seen}
use Rattle.dh_meaning.specs.Ways.{ways_of}
use Rattle.dh_ways.specs.Seen.{led_seen}
use Rattle.dh_code.specs.Declarations.{placing_of, slots_of}
use Rattle.dh_plan.specs.PlainPlans.{PlainPlan}
use Rattle.dh_expressions.specs.declared.scenes.Scene.{Scene}
use Rattle.dh_expressions.specs.Copying.{HasScopes}
use Rattle.dh_expressions.specs.ViewsTold.{TellsViews}
use Rattle.dh_blocks.specs.SlotsOfScene.{HoldsVariables}
use Rattle.dh_typed_blocks.specs.ScenesTold.{TellsScene}
use Rattle.dh_gathering.specs.Registers.{HasRegisterKind, first_among}

-- the registers of variables stand one behind the other, so many
pub record AreHeldInOrder (scene : Scene) (count : ℕ) : Type 0 where
  pub held : scene.held.now ≡ (placing_of (program_seen scene.program.now)).held
  pub count_is : count ≡ slots_of (program_seen scene.program.now)

-- and each is of the kind of its variable, or of a counter's
abbrev pub HaveTheirKinds : Scene → (count : ℕ) → List Kind → Type 0
HaveTheirKinds scene count registers =
    (entity register : ℕ) → entity < length scene.held.now → first_among scene.held.now count entity ≤ register → register < first_among scene.held.now count (suc entity)
    → HasRegisterKind (program_seen scene.program.now) scene.held.now registers entity register

abbrev pub ReadyScenesTell : Type 0
ReadyScenesTell =
    (scene : Scene) (count : ℕ) → IsReady (program_seen scene.program.now) → AreHeldInOrder scene count → map led_seen scene.ways.now ≡ ways_of (program_seen scene.program.now) → TellsScene scene

abbrev pub ReadyScenesHold : Type 0
ReadyScenesHold =
    (scene : Scene) (plan : PlainPlan) (count : ℕ) → IsReady (program_seen scene.program.now) → AreHeldInOrder scene count → TellsViews scene plan.views → HasScopes scene → plan.table ≡ table_of (program_seen scene.program.now)
    → HaveTheirKinds scene count plan.registers → HoldsVariables scene plan count
