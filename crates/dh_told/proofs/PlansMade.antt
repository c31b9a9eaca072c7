-- The plan that is made of a program's phases is a plan of the program: the facts of its blocks and nodes, each from the
-- law of a crate below, put together.
use Rattle.std.proofs.Common.{◌≡◌, ℕ, ◌<◌, ◌≤◌, List, [], length, sym, ◌∙◌, subst, arith, ◌^◌}
use Rattle.std.specs.List.{AllByRecursion}
use Rattle.dh_tree.specs.PlainTrees.{Program}
use Rattle.dh_tree.specs.Seen.{program_seen}
use Rattle.dh_value.specs.declared.kinds.Kind.{Kind}
use Rattle.dh_value.specs.Words.{IsKind}
use Rattle.dh_base.specs.declared.outcomes.FaultKind.{FaultKind}
use Rattle.dh_base.specs.declared.places.Place.{Place}
use Rattle.dh_meaning.specs.AccessNumbers.{accesses_of}
use Rattle.dh_meaning.specs.Core.{CorePhases}
use Rattle.dh_meaning.specs.CoreOf.{core_of}
use Rattle.dh_meaning.specs.Ways.{all_entities_of}
use Rattle.dh_sound.proofs.KeptPrograms.{ready_kept}
use Rattle.dh_plan.specs.declared.operations.PlanBlock.{PlanBlock}
use Rattle.dh_plan.specs.DoneProgram.{IsPlanOf, ChargesWithin, HasSourceLiterals, UsesByKeys, ProbesByPaths, RunsAs}
use Rattle.dh_plan.specs.Passes.{IsToCompile}
use Rattle.dh_plan.specs.PlainPlans.{Nodes, PlainPlan}
use Rattle.dh_plan.specs.PlanPhases.{AreNodesOf, DoesPhases}
use Rattle.dh_plan.specs.SeenPlans.{nodes_seen}
use Rattle.dh_plan.specs.SoundPlans.{IsFormed, blocks_of}
use Rattle.dh_plan.proofs.JointSteps.{phases_make_runs}
use Rattle.dh_backend.proofs.FaultsFew.{accesses_within}
use Rattle.dh_backend.proofs.Unstuck.{accepted_never_stuck}
use Rattle.dh_runnable.proofs.ProgramsRun.{ready_runs}
pub use Rattle.dh_phased.proofs.ReachingPhases.{ready_scenes_are_told}
pub use Rattle.dh_used.proofs.SharedReads.{shared_before}
use Rattle.dh_expressions.specs.declared.scenes.Scene.{Scene}
use Rattle.dh_blocks.specs.SlotsOfScene.{HoldsVariables, slots_in}
use Rattle.dh_gathering.specs.declared.making.Phased.{Phased}
use Rattle.dh_gathering.specs.Cutting.{AreBlocksOf}
use Rattle.dh_gathering.specs.Gathered.{HasNodes}
use Rattle.dh_gathering.specs.MadeBlocks.{made_tie}
use Rattle.dh_gathering.specs.NamedOnce.{listed}
use Rattle.dh_gathering.specs.ProgramMade.{IsPhased}
use Rattle.dh_gathering.specs.Registers.{HasRegisterKind}
use Rattle.dh_typed_blocks.proofs.KnownHere.{known_here}
use Rattle.dh_typed_blocks.proofs.MemoriesFew.{ready_few}
use Rattle.dh_charged.specs.MetAccesses.{PlanMeets}
use Rattle.dh_charged.proofs.MeetsInRange.{plans_meet}
use Rattle.dh_charged.proofs.MemoriesHad.{ready_have_memories}
use Rattle.dh_code.specs.Declarations.{all_declarations_of}
use Rattle.dh_phased.specs.DonePhases.{HasMade}
use Rattle.dh_phased.specs.ProgramLoops.{HasOwnLoops}
use Rattle.dh_phased.proofs.LoopsCounted.{loops_are_own}
use Rattle.dh_phased.proofs.PhasesDone.{phases_are_done}
use Rattle.dh_used.specs.MadePlans.{IsMadeOf}
use Rattle.dh_used.specs.UsedPlans.{OneNodeEach}
use Rattle.dh_used.proofs.NodesMade.{made_plans_use}
use Rattle.dh_told.proofs.NodesCharge.{made_plans_charge}
use Rattle.dh_told.proofs.NodesMultiply.{made_plans_multiply}
use Rattle.dh_told.proofs.RegistersSized.{registers_are_sized}
use Rattle.dh_gathering.proofs.KindsOfRegisters.{places_successive}
use Rattle.dh_told.specs.FormedPlans.{IsWholePlan}
use Rattle.dh_told.specs.PlansTold.{IsOfReady}
use Rattle.dh_told.specs.ScenesKnown.{AreHeldInOrder, HaveTheirKinds}
use Rattle.dh_told.proofs.BlocksTold.{plans_told}
use Rattle.dh_told.proofs.CoreHere.{core_here}
use Rattle.dh_told.proofs.LiteralsStand.{made_plans_have_literals}
use Rattle.dh_told.proofs.NamedDirectly.{ready_rows}
use Rattle.dh_told.proofs.PlansFormed.{plans_formed}
use Rattle.dh_told.proofs.PlansLast.{plans_last}
use Rattle.dh_told.proofs.MadeBanks.{made_keep_banks}
use Rattle.dh_told.proofs.VariablesKept.{holds_own, scenes_hold}
use Rattle.dh_told.specs.MadePlans.{IsMadePlan, IsSceneMade}

-- Accesses and entities are few.

module _ (scene : Scene) where
  abbrev own : Program
  own = program_seen scene.program.now

  pub few_accesses : IsToCompile own → accesses_of own.body < 2 ^ 32
  few_accesses asked = let small = asked.small in let within = accesses_within own in omega (arith, small, within)

  pub few_entities : IsToCompile own → all_entities_of own ≤ 2 ^ 32
  few_entities asked = let few = (ready_runs own asked.ready).entities in omega (arith, few)

module _ (scene : Scene) (count : ℕ) (phased : Phased) (plan : PlainPlan) (asked : IsToCompile (program_seen scene.program.now)) (made : IsSceneMade scene count)
    (of : IsPhased scene count (program_seen scene.program.now).body phased) (put : IsMadePlan scene phased plan) where
  abbrev p : Program
  p = program_seen scene.program.now

  in_order : AreHeldInOrder scene count
  in_order = record { held = made.held; count_is = made.count_is }

  pub held : HoldsVariables scene plan count
  held = scenes_hold scene plan count asked.ready in_order put.views made.scopes put.table
      (λ entity register there from below. subst (λ (ks : List Kind). HasRegisterKind p scene.held.now ks entity register) (sym put.registers) (of.kinds entity register there from below))

  pub nodes : AreNodesOf (made_tie scene of.final) [] (core_of p).phases plan.body
  nodes = subst (λ (ns : Nodes). AreNodesOf (made_tie scene of.final) [] (core_of p).phases ns) (sym put.body)
      (subst (λ (qs : CorePhases). AreNodesOf (made_tie scene of.final) [] qs (nodes_seen phased.nodes.items)) (core_here scene made.ways) of.nodes)

  pub blocks : AreBlocksOf of.final.building.draft.operations.items of.final.starts.items plan.blocks
  blocks = subst (λ (bs : List PlanBlock). AreBlocksOf of.final.building.draft.operations.items of.final.starts.items bs) (sym put.blocks) of.blocks

  pub once : OneNodeEach plan
  once = subst (λ (ns : Nodes). (block : ℕ) → block < length plan.blocks → listed block (blocks_of ns) ≡ 1) (sym put.body)
      (λ block there. of.once block (subst (λ (bs : List PlanBlock). block < length bs) put.blocks there))

  pub own_loops : HasOwnLoops scene
  own_loops = loops_are_own scene asked.ready.entities (holds_own scene count in_order)

  pub is_made : IsMadeOf scene of.final plan
  is_made = record {
    named = ready_kept p asked.ready;
    tells = made.shares;
    ways = sym (known_here scene made.ways);
    views = put.views;
    rows = ready_rows p asked.ready;
    blocks = blocks;
    nodes = nodes;
  }

  pub met : PlanMeets p plan
  met = plans_meet p put.tree plan (few_accesses scene asked) put.met put.meets

  pub used : UsesByKeys p plan × ProbesByPaths p plan
  used = made_plans_use scene of.final plan is_made once

  pub charged : ChargesWithin p plan
  charged = let few = ready_few p asked.ready in made_plans_charge scene of.final plan is_made (ready_have_memories p asked.ready few.memories few.banks) once

  few : length plan.faults ≤ accesses_of p.body
  few = subst (λ (fs : List (FaultKind × Place)). length fs ≤ accesses_of p.body) (sym put.faults) (subst (λ n. length phased.faults ≤ n) made.shares.long of.few_faults)

  pub has_made : HasMade plan count of.final
  has_made = record {
    blocks = blocks;
    registers = put.registers ∙ of.registers;
    faults = put.faults ∙ of.faults;
    given = of.given;
    few = let own = few in let accesses = few_accesses scene asked in omega (arith, own, accesses);
  }

  kinds : HaveTheirKinds scene count plan.registers
  kinds = λ entity register there from below. subst (λ (ks : List Kind). HasRegisterKind p scene.held.now ks entity register) (sym put.registers) (of.kinds entity register there from below)

  -- the blocks, as what is told of the program makes them
  of_ready : IsOfReady scene count plan of.final
  of_ready = record { ready = asked.ready; order = in_order; ways = made.ways; views = put.views; scopes = made.scopes; shares = made.shares; table = put.table; made = has_made; kinds = kinds }

  whole : IsWholePlan scene count plan of.final
  whole = record {
    of = of_ready;
    maps = put.maps;
    nodes = nodes;
    named = subst (λ (ns : Nodes). HasNodes of.final ns) (sym put.body) of.named;
    once = once;
    meets = met;
  }

  pub done : DoesPhases plan (slots_in scene) (core_of p).phases
  done = phases_are_done scene plan count of.final (core_of p).phases plan.body has_made held (plans_told scene count plan of.final of_ready) own_loops.inside nodes

  pub formed : IsFormed plan
  formed = plans_formed scene count plan of.final whole

  pub runs : RunsAs (core_of p) plan
  runs = phases_make_runs (core_of p) plan (slots_in scene) put.table formed.counters.wide formed.counters_kept done (accepted_never_stuck p asked.ready asked.ports)

  few_named : length of.final.building.draft.faults ≤ 2 ^ 32
  few_named = subst (λ (fs : List (FaultKind × Place)). length fs ≤ 2 ^ 32) (put.faults ∙ of.faults) (let own = few in let accesses = few_accesses scene asked in omega (arith, own, accesses))

  pub literals : HasSourceLiterals p plan
  literals = made_plans_have_literals scene of.final plan is_made once asked.ready put.table formed (of.owned few_named) (of.accesses ∙ made.shares.long)

  pub plan_of : IsPlanOf p plan
  plan_of = record {
    table = put.table;
    slots = slots_in scene;
    phases = done;
    runs = runs;
    sound = record { formed = formed; steps = made_keep_banks scene count plan of.final whole };
    lengths = plans_last scene count plan of.final whole;
    products = made_plans_multiply scene of.final plan is_made;
    meets = met.as_program;
    charges = charged;
    uses = used.0;
    probes = used.1;
    few_faults = few;
    literals = literals;
  }

  pub sized : AllByRecursion IsKind plan.registers
  sized = subst (λ (ks : List Kind). AllByRecursion IsKind ks) (sym put.registers) (registers_are_sized scene count p.body phased asked.ready in_order made.ways
      (places_successive (all_declarations_of p) (all_entities_of p) scene.held.now count (few_entities scene asked) made.held made.count_is) of)
