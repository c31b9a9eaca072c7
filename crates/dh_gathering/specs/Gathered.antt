-- What the calls that make nodes of gathered phases promise: nodes of the definition's phases, with a block for each
-- straight phase and for each test.
use Rattle.std.specs.Prelude.{◌≡◌, ℕ, ◌+◌, ◌<◌, ◌^◌, List, [], ◌∷◌, ◌++◌, length}
use Rattle.std.specs.List.{AllByRecursion}
use Rattle.dh_tree.specs.PlainTrees as tree
use Rattle.dh_tree.specs.PlainTrees.{Action}
use Rattle.dh_tree.specs.Seen.{program_seen}
use Rattle.dh_meaning.specs.AccessNumbers.{accesses_of, term_accesses}
use Rattle.dh_meaning.specs.CoreOf.{core_phase, core_phases}
use Rattle.dh_meaning.specs.Phases as source
use Rattle.dh_meaning.specs.Phases.{of_list, phases}
use Rattle.dh_meaning.specs.Sites.{nothing_around}
use Rattle.dh_plan.specs.Correspondence.{Round, loops_round}
use Rattle.dh_plan.specs.PlainPlans.{Node, Nodes}
use Rattle.dh_plan.specs.PlanPhases.{AreNodesOf, IsNodeOf}
use Rattle.dh_plan.specs.SoundPlans.{blocks_of, flags_of}
use Rattle.dh_phases.specs.GatheredPhases.{AllGathered, Gathered, Numbered}
use Rattle.dh_phases.specs.MatchedPhases.{AllMatch, Matches}
use Rattle.dh_expressions.specs.declared.drafts.Draft.{Draft}
use Rattle.dh_expressions.specs.declared.paths.Paths.{Paths}
use Rattle.dh_expressions.specs.declared.scenes.Around as scenes
use Rattle.dh_expressions.specs.declared.scenes.Scene.{Scene}
use Rattle.dh_expressions.specs.Evaluated.{known_in}
use Rattle.dh_commands.specs.declared.buildings.Building.{Building}
use Rattle.dh_commands.specs.Done.{DoesCommand}
use Rattle.dh_commands.specs.MadeCommands.{MadeCommand}
use Rattle.dh_laid.specs.LaidNumbers.{StoresReach}
use Rattle.dh_gathering.specs.declared.blocks.Made.{Made}
use Rattle.dh_gathering.specs.Growing.{MadeBlocksGrow, IsAtRest}
use Rattle.dh_gathering.specs.OpenAccesses.{AreOpen, AreUntouched, TouchesWithin}
use Rattle.dh_gathering.specs.PlacedPhases.{ArePlacedPhases, IsPlacedPhase}
use Rattle.dh_gathering.specs.RisingPhases.{PhaseRises, PhasesRise}
use Rattle.dh_gathering.specs.MadeBlocks.{ArePathsInside, IsFlagOf, IsTold, MadeStraight, MadeTest, PutsFlag, made_tie}

-- Commands.

-- it is a command of the definition, and its accesses have small numbers
pub record IsLocated (c : Numbered) (l : source.Located) : Type 0 where
  pub command : c.command ≡ l.command
  pub first : c.first ≡ l.first
  pub few : l.first + accesses_of l.command < 2 ^ 32

-- they are these, one for one
abbrev pub AreLocated : List Numbered → List source.Located → Type 0
AreLocated [] [] = Unit {0}
AreLocated [] (l ∷ ls) = ⊥
AreLocated (c ∷ cs) [] = ⊥
AreLocated (c ∷ cs) (l ∷ ls) = IsLocated c l × AreLocated cs ls

-- commands with their numbers, at all paths
abbrev pub DoesNumbered : Scene → scenes.Around → List Numbered → (old new : Building) → Type 0
DoesNumbered scene around [] old new = new ≡ old
DoesNumbered scene around (c ∷ cs) old new =
    (mid : Building) × ((next : ℕ) × ((DoesCommand scene around c.command c.first next old mid × MadeCommand scene c.command around old mid c.first next) × DoesNumbered scene around cs mid new))

-- Blocks.

-- a block that began there ends
pub record EndsBlock (old new : Made) (start block : ℕ) : Type 0 where
  pub building : new.building ≡ old.building
  pub starts : new.starts.items ≡ old.starts.items ++ start ∷ []
  pub registers : new.registers ≡ old.registers
  pub number_is : block ≡ length old.starts.items

-- commands beside each other have a block
pub record MakesStraight (scene : Scene) (rounds : List Round) (old new : Made) (first last : ℕ) (items : List Numbered) (block : ℕ) : Type 0 where
  pub grows : MadeBlocksGrow old new
  pub rest : IsAtRest new
  pub touches : TouchesWithin old.building.accesses new.building.accesses first last
  pub made : (ls : List source.Located) → AreLocated items ls → (final : Made) → MadeBlocksGrow new final → MadeStraight scene final rounds ls block

abbrev pub MakesStraightIn : Scene → Paths → (old new : Made) → List Numbered → (block : ℕ) → Type 0
MakesStraightIn scene paths old new items block =
    (rounds : List Round) (first last : ℕ) → ArePathsInside scene rounds paths → IsAtRest old → AllByRecursion (λ c. c.first + accesses_of c.command < 2 ^ 32) items → AllByRecursion (λ c. StoresReach c.command) items
    → AreOpen old.building.accesses first last items → MakesStraight scene rounds old new first last items block

-- a flag is set to the first of these values, where there is one
abbrev pub SetsFirst : (old new : Draft) → tree.Term → (tests : List ℕ) → (flag : ℕ) → Type 0
SetsFirst old new t [] flag = new ≡ old
SetsFirst old new t (value ∷ tests) flag = PutsFlag old new t value flag

-- so has a test, with its flag
pub record MakesFlaggedTest (scene : Scene) (rounds : List Round) (old new : Made) (n : ℕ) (t : tree.Term) (flag block : ℕ) : Type 0 where
  pub grows : MadeBlocksGrow old new
  pub rest : IsAtRest new
  pub touches : TouchesWithin old.building.accesses new.building.accesses n (n + term_accesses t)
  pub made : (final : Made) → MadeBlocksGrow new final → MadeTest scene final rounds n t flag block

abbrev pub MakesTestIn : Scene → Paths → (old new : Made) → (n : ℕ) → tree.Term → (flag block : ℕ) → Type 0
MakesTestIn scene paths old new n t flag block =
    (rounds : List Round) → ArePathsInside scene rounds paths → IsAtRest old → n + term_accesses t < 2 ^ 32 → AreUntouched old.building.accesses n (n + term_accesses t) → MakesFlaggedTest scene rounds old new n t flag block

-- Nodes.

-- a node does a phase inside these loops, whatever is made further
abbrev pub IsMadeAs : Scene → Made → List Round → Node → source.Phase → Type 0
IsMadeAs scene m rounds node q = (final : Made) → MadeBlocksGrow m final → IsNodeOf (made_tie scene final) rounds (core_phase (known_in scene) q) node

abbrev pub AreMadeAs : Scene → Made → List Round → Nodes → source.Phases → Type 0
AreMadeAs scene m rounds nodes qs = (final : Made) → MadeBlocksGrow m final → AreNodesOf (made_tie scene final) rounds (core_phases (known_in scene) qs) nodes

-- between two blocks, inside loops that have these paths, accesses of these numbers, which are few, have no operations
pub record CanMake (scene : Scene) (rounds : List Round) (paths : Paths) (m : Made) (first last : ℕ) : Type 0 where
  pub inside : ArePathsInside scene rounds paths
  pub rest : IsAtRest m
  pub few : last < 2 ^ 32
  pub bare : AreUntouched m.building.accesses first last

-- a phase is made as a node, from accesses of these numbers
pub record MakesNode (scene : Scene) (rounds : List Round) (old new : Made) (first last : ℕ) (node : Node) (q : source.Phase) : Type 0 where
  pub grows : MadeBlocksGrow old new
  pub rest : IsAtRest new
  pub touches : TouchesWithin old.building.accesses new.building.accesses first last
  pub made : IsMadeAs scene new rounds node q

-- so is a gathered phase, whichever of the program it is
abbrev pub MakesNodeIn : Scene → Paths → (old new : Made) → Gathered → (node : Node) → Type 0
MakesNodeIn scene paths old new p node =
    (rounds : List Round) (q : source.Phase) (first last : ℕ) → CanMake scene rounds paths old first last → IsPlacedPhase (known_in scene) (program_seen scene.program.now) (loops_round rounds) q
    → Matches p q → PhaseRises first last q → MakesNode scene rounds old new first last node q

-- and so are all, in order
pub record MakesNodes (scene : Scene) (rounds : List Round) (old new : Made) (first last : ℕ) (nodes : Nodes) (qs : source.Phases) : Type 0 where
  pub grows : MadeBlocksGrow old new
  pub rest : IsAtRest new
  pub touches : TouchesWithin old.building.accesses new.building.accesses first last
  pub made : AreMadeAs scene new rounds nodes qs

abbrev pub MakesNodesIn : Scene → Paths → (old new : Made) → AllGathered → (nodes : Nodes) → Type 0
MakesNodesIn scene paths old new ps nodes =
    (rounds : List Round) (qs : source.Phases) (first last : ℕ) → CanMake scene rounds paths old first last → ArePlacedPhases (known_in scene) (program_seen scene.program.now) (loops_round rounds) qs
    → AllMatch ps qs → PhasesRise first last qs → MakesNodes scene rounds old new first last nodes qs

-- what nodes name is there: blocks, and flags that are truths and no variable's registers
pub record HasNodes (m : Made) (nodes : Nodes) : Type 0 where
  pub blocks : AllByRecursion (λ block. block < length m.starts.items) (blocks_of nodes)
  pub flags : AllByRecursion (IsFlagOf m) (flags_of nodes)

-- The nodes of the program's body, outside all loops: one for each of its phases. Its accesses have no operations before.
abbrev pub MakesBody : Scene → Paths → (old new : Made) → Action → (nodes : Nodes) → Type 0
MakesBody scene paths old new body nodes =
    IsTold scene → paths.levels.items ≡ [] → paths.count ≡ 1 → accesses_of body < 2 ^ 32 → body ≡ (program_seen scene.program.now).body → IsAtRest old → AreUntouched old.building.accesses 0 (accesses_of body)
    → MakesNodes scene [] old new 0 (accesses_of body) nodes (of_list (phases nothing_around 0 body)) × HasNodes new nodes
