-- The nodes, blocks and registers of a program whole.
use Rattle.std.specs.Prelude.{◌≡◌, ℕ, suc, ◌<◌, ◌≤◌, ◌^◌, List, [], length, slice_get, Some}
use Rattle.dh_value.specs.declared.kinds.Kind.{Kind}
use Rattle.dh_value.specs.declared.kinds.Kind.TheVariants as kind
use Rattle.dh_tree.specs.PlainTrees.{Action}
use Rattle.dh_tree.specs.Seen.{program_seen}
use Rattle.dh_meaning.specs.AccessNumbers.{accesses_of}
use Rattle.dh_meaning.specs.CoreOf.{core_phases}
use Rattle.dh_meaning.specs.Phases.{of_list, phases}
use Rattle.dh_meaning.specs.Sites.{nothing_around}
use Rattle.dh_plan.specs.PlanPhases.{AreNodesOf}
use Rattle.dh_plan.specs.SeenPlans.{nodes_seen}
use Rattle.dh_plan.specs.SoundPlans.{blocks_of}
use Rattle.dh_expressions.specs.declared.scenes.Scene.{Scene}
use Rattle.dh_expressions.specs.Evaluated.{known_in}
use Rattle.dh_gathering.specs.declared.blocks.Made.{Made}
use Rattle.dh_gathering.specs.declared.making.Phased.{Phased}
use Rattle.dh_gathering.specs.Cutting.{AreBlocksOf}
use Rattle.dh_gathering.specs.Gathered.{HasNodes}
use Rattle.dh_gathering.specs.Growing.{AreOwned, IsAtRest, registers_given}
use Rattle.dh_gathering.specs.MadeBlocks.{IsTold, made_tie}
use Rattle.dh_gathering.specs.NamedOnce.{listed}
use Rattle.dh_gathering.specs.OpenAccesses.{AreUntouched}
use Rattle.dh_gathering.specs.Registers.{AreSuccessive, HasRegisterKind, first_among}

-- nothing is made yet, but for the registers of variables; so many accesses have no operations
pub record MakingBegins (registers : List Kind) (count : ℕ) (m : Made) : Type 0 where
  pub rest : IsAtRest m
  pub untouched : AreUntouched m.building.accesses 0 count
  pub registers_are : m.registers ≡ registers
  pub given : registers_given m ≡ length registers
  pub starts : m.starts.items ≡ []
  pub faults : m.building.draft.faults ≡ []
  pub accesses : length m.building.accesses.touched.items ≡ count

-- What was made in the end has a node for each phase of the core, and the blocks are cut out of it.
pub record IsPhased (scene : Scene) (count : ℕ) (body : Action) (p : Phased) : Type 0 where
  pub final : Made
  pub nodes : AreNodesOf (made_tie scene final) [] (core_phases (known_in scene) (of_list (phases nothing_around 0 body))) (nodes_seen p.nodes.items)
  pub named : HasNodes final (nodes_seen p.nodes.items)
  -- and each block is that of one node
  pub once : (block : ℕ) → block < length p.blocks → listed block (blocks_of (nodes_seen p.nodes.items)) ≡ 1
  pub blocks : AreBlocksOf final.building.draft.operations.items final.starts.items p.blocks
  pub registers : p.registers ≡ final.registers
  pub faults : p.faults ≡ final.building.draft.faults
  -- no more than there are accesses
  pub few_faults : length p.faults ≤ length scene.shares.now
  -- each access with operations has a fault of its own, where faults are few
  pub accesses : length final.building.accesses.touched.items ≡ length scene.shares.now
  pub owned : AreOwned final.building
  -- the first registers are those of variables, so many, each of its kind, and behind them stand flags
  pub flags : (register : ℕ) (k : Kind) → count ≤ register → slice_get p.registers register ≡ Some k → k ≡ kind.Bool
  pub given : registers_given final ≡ count
  pub kinds : (entity register : ℕ) → entity < length scene.held.now → first_among scene.held.now count entity ≤ register → register < first_among scene.held.now count (suc entity)
      → HasRegisterKind (program_seen scene.program.now) scene.held.now p.registers entity register

-- of the program's body, with few accesses, each known with what it shares, where the registers of entities stand one behind
-- the other
abbrev pub MakesPhased : Scene → (count : ℕ) → Action → Phased → Type 0
MakesPhased scene count body p = IsTold scene → accesses_of body ≤ length scene.shares.now → accesses_of body < 2 ^ 32 → body ≡ (program_seen scene.program.now).body → AreSuccessive scene.held.now count → IsPhased scene count body p
