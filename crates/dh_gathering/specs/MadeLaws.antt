-- Laws of what was made: of blocks that are cut out, and of the counters of loops.
use Rattle.std.specs.Prelude.{◌≡◌, ℕ, ◌≤◌, ◌^◌, List, [], length, drop, slice_get}
use Rattle.std.specs.List.{AllByRecursion}
use Rattle.dh_value.specs.declared.kinds.Kind.{Kind}
use Rattle.dh_tree.specs.Seen.{program_seen}
use Rattle.dh_meaning.specs.Core.{CorePhases, Turning}
use Rattle.dh_code.specs.declared.places.VariableSlots.{VariableSlots}
use Rattle.dh_code.specs.Declarations.{Declaration, all_held, declaration_in, declared_factors, slots_counted}
use Rattle.dh_code.specs.Slots.{IsPlacing, Placing}
use Rattle.dh_plan.specs.declared.operations.PlanBlock.{PlanBlock}
use Rattle.dh_plan.specs.Correspondence.{Slots}
use Rattle.dh_plan.specs.PlainPlans.{Nodes, PlainPlan, block_operations, operations_before}
use Rattle.dh_plan.specs.PlanPhases.{AreNodesOf}
use Rattle.dh_plan.specs.SoundPlans.{AreCounters, countings}
use Rattle.dh_expressions.specs.declared.scenes.Scene.{Scene}
use Rattle.dh_commands.specs.declared.buildings.Building.{Building}
use Rattle.dh_commands.specs.Undone.{NoneGiven}
use Rattle.dh_gathering.specs.declared.blocks.Made.{Made}
use Rattle.dh_gathering.specs.Cutting.{AreBlocksOf}
use Rattle.dh_gathering.specs.Growing.{registers_given}
use Rattle.dh_gathering.specs.LoopCounters.{AreOwnLoops, AreSlotsBy, HasCounter, IsCounting, LoopsCount, apart_counters, loops_of_phases}
use Rattle.dh_gathering.specs.MadeBlocks.{BlockStandsAt, made_tie}
use Rattle.dh_gathering.specs.Registers.{AreSuccessive, HaveKinds}

-- a block that was cut out is all that was put down for it, from a begin at which no variable was given a value
pub record IsWholeBlock (final : Made) (blocks : List PlanBlock) (block : ℕ) (before after : Building) : Type 0 where
  pub first : operations_before blocks block ≡ length before.draft.operations.items
  pub own : block_operations (slice_get blocks block) ≡ drop (length before.draft.operations.items) after.draft.operations.items
  pub none : NoneGiven before.values (registers_given final)

abbrev pub BlocksAreWhole : Type 0
BlocksAreWhole =
    (final : Made) (blocks : List PlanBlock) (block : ℕ) (before after : Building) → AreBlocksOf final.building.draft.operations.items final.starts.items blocks → BlockStandsAt final block before after
    → IsWholeBlock final blocks block before after

-- the counter of each loop of nodes is no variable's register, and no counter of a loop round it
abbrev pub CountersAreApart : Type 0
CountersAreApart =
    (scene : Scene) (p : Placing) (slots : Slots) (count : ℕ) (final : Made) (qs : CorePhases) (ns : Nodes) → AreSlotsBy scene p slots → IsPlacing p count → LoopsCount scene p [] qs
    → AreNodesOf (made_tie scene final) [] qs ns → AreNodesOf (apart_counters slots) [] qs ns

-- and it is wide enough, and of no other loop
abbrev pub CountersAreOwn : Type 0
CountersAreOwn =
    (scene : Scene) (p : Placing) (slots : Slots) (count : ℕ) (final : Made) (plan : PlainPlan) (qs : CorePhases) (ns : Nodes) → AreSlotsBy scene p slots → IsPlacing p count → AreOwnLoops scene p (loops_of_phases qs)
    → AllByRecursion (HasCounter scene plan.registers) (loops_of_phases qs) → AreNodesOf (made_tie scene final) [] qs ns → AreCounters plan (countings ns)

-- the registers of a program's variables stand one behind the other
abbrev pub RegistersFollow : Type 0
RegistersFollow =
    (ds : List Declaration) (entities : ℕ) (held : List VariableSlots) (count : ℕ) → entities ≤ 2 ^ 32 → held ≡ all_held ds 0 0 entities → count ≡ slots_counted ds 0 0 entities → AreSuccessive held count

-- and the counter of a loop is one of them
abbrev pub LoopsHaveCounters : Type 0
LoopsHaveCounters =
    (scene : Scene) (p : Placing) (ds : List Declaration) (entities count : ℕ) (registers : List Kind) (loop : Turning) → scene.held.now ≡ all_held ds 0 0 entities → count ≡ slots_counted ds 0 0 entities → p.held ≡ scene.held.now
    → p.factors loop.iterator ≡ declared_factors (declaration_in ds loop.iterator) → HaveKinds (program_seen scene.program.now) scene.held.now count (length scene.held.now) registers → IsCounting scene p loop → HasCounter scene registers loop
