-- Plans reach memories of accesses of the source: each of their blocks is that of a node.
use Rattle.std.proofs.Common.{◌≡◌, ◌<◌, ◌+◌, ◌==◌, ℕ, List, [], ◌∷◌, Option, Some, None, length, refl, sym, subst, arith}
use Rattle.std.specs.Prelude.{Bool as Truth, true, false, if◌then◌else◌, slice_get}
use Rattle.std.specs.List.{AllByRecursion}
use Rattle.std.proofs.lemmas.Bool.{eqb-true}
use Rattle.dh_tree.specs.Seen.{program_seen}
use Rattle.dh_meaning.specs.Core.{CoreCommands, CoreTerm, CorePhase, straightly, turning, looping, choosing, CorePhases, no_core_phases, phase_and}
use Rattle.dh_meaning.specs.CoreOf.{core_of}
use Rattle.dh_plan.specs.declared.operations.Operation.{Operation}
use Rattle.dh_plan.specs.declared.operations.PlanBlock.{PlanBlock}
use Rattle.dh_plan.specs.declared.operations.Reach.{Reach}
use Rattle.dh_plan.specs.Correspondence.{Round}
use Rattle.dh_plan.specs.PlainPlans.{Node, block_node, turns_node, loop_node, choice_node, threads_node, Nodes, no_nodes, node_then, PlainPlan, block_operations, operations_in}
use Rattle.dh_plan.specs.PlanPhases.{AreNodesOf, IsNodeOf, Tie}
use Rattle.dh_plan.specs.SoundPlans.{access_in, blocks_of, node_blocks}
use Rattle.dh_expressions.specs.declared.scenes.Scene.{Scene}
use Rattle.dh_expressions.specs.Evaluated.{known_in}
use Rattle.dh_expressions.proofs.ListPlaces.{place_within}
use Rattle.dh_formed.proofs.ElementsFormed.{all_append}
use Rattle.dh_gathering.specs.MadeBlocks.{IsStraightBlock, IsTestBlock, made_tie}
use Rattle.dh_charged.proofs.BlocksTouch.{place_holds}
use Rattle.dh_used.specs.SourceReaches.{IsOfSource, MadePlansReach, ReachSource}
use Rattle.dh_used.specs.UsedPlans.{listed}
use Rattle.dh_used.proofs.BlocksReach.{straights_reach, tests_reach}
use Rattle.dh_used.proofs.PlansUsed.{all_named}
use Rattle.dh_used.proofs.NodesMade.{straight_along, straight_bare, straight_has, straight_held, straight_own, straight_quiet, straight_stands, test_bare, test_has, test_own, test_quiet, test_stands_in}

-- What holds of the block of each straight phase and of each test holds of all blocks that nodes name.
module _ (tie : Tie) (P : ℕ → Type 0) (of_block : (rounds : List Round) (cs : CoreCommands) (block : ℕ) → tie.of_block rounds cs block → P block) (of_test : (rounds : List Round) (test : CoreTerm) (flag block : ℕ) → tie.of_test rounds test flag block → P block) where
  mutual
    pub nodes_each : (rounds : List Round) (ps : CorePhases) (ns : Nodes) → AreNodesOf tie rounds ps ns → AllByRecursion P (blocks_of ns)
    nodes_each rounds no_core_phases no_nodes h = tt
    nodes_each rounds no_core_phases (node_then n ns) h = absurd h
    nodes_each rounds (phase_and q qs) no_nodes h = absurd h
    nodes_each rounds (phase_and q qs) (node_then n ns) h = all_append P (node_blocks n) (blocks_of ns) (node_each rounds q n h.0) (nodes_each rounds qs ns h.1)

    node_each : (rounds : List Round) (q : CorePhase) (n : Node) → IsNodeOf tie rounds q n → AllByRecursion P (node_blocks n)
    node_each rounds (straightly cs) (block_node block) h = (of_block rounds cs block h, tt)
    node_each rounds (straightly cs) (turns_node counter count ns) h = absurd h
    node_each rounds (straightly cs) (loop_node block flag ns) h = absurd h
    node_each rounds (straightly cs) (choice_node block flag ns ms) h = absurd h
    node_each rounds (straightly cs) (threads_node lists) h = absurd h
    node_each rounds (turning loop body) (block_node block) h = absurd h
    node_each rounds (turning loop body) (turns_node counter count ns) h = nodes_each _ body ns h.1.1
    node_each rounds (turning loop body) (loop_node block flag ns) h = absurd h
    node_each rounds (turning loop body) (choice_node block flag ns ms) h = absurd h
    node_each rounds (turning loop body) (threads_node lists) h = absurd h
    node_each rounds (looping test body) (block_node block) h = absurd h
    node_each rounds (looping test body) (turns_node counter count ns) h = absurd h
    node_each rounds (looping test body) (loop_node block flag ns) h = (of_test rounds test flag block h.0, nodes_each rounds body ns h.1)
    node_each rounds (looping test body) (choice_node block flag ns ms) h = absurd h
    node_each rounds (looping test body) (threads_node lists) h = absurd h
    node_each rounds (choosing test chosen other) (block_node block) h = absurd h
    node_each rounds (choosing test chosen other) (turns_node counter count ns) h = absurd h
    node_each rounds (choosing test chosen other) (loop_node block flag ns) h = absurd h
    node_each rounds (choosing test chosen other) (choice_node block flag ns ms) h =
        (of_test rounds test flag block h.0, all_append P (blocks_of ns) (blocks_of ms) (nodes_each rounds chosen ns h.1.0) (nodes_each rounds other ms h.1.1))
    node_each rounds (choosing test chosen other) (threads_node lists) h = absurd h

-- of a number that is listed
pub listed_holds : (P : ℕ → Type 0) (number : ℕ) (ns : List ℕ) → listed number ns ≡ 1 → AllByRecursion P ns → P number
listed_holds P number [] e h = absurd (never e)
  where
    never : ◌≡◌ {A = ℕ} 0 1 → ⊥
    never z = omega (arith, z)
listed_holds P number (n ∷ ns) e h = by (number == n) refl e (λ f. listed_holds P number ns f h.1)
  where
    by : (t : Truth) → (number == n) ≡ t → (if t then 1 else 0) + listed number ns ≡ 1 → (listed number ns ≡ 1 → P number) → P number
    by true same e more = subst P (sym (eqb-true number n same)) h.0
    by false other e more = more (rest (listed number ns) e)
      where
        rest : (l : ℕ) → 0 + l ≡ 1 → l ≡ 1
        rest l z = omega (arith, z)

abbrev ReachesSource : Scene → PlainPlan → (block : ℕ) → Type 0
ReachesSource scene plan block = ReachSource (program_seen scene.program.now) (operations_in plan block)

pub made_plans_reach : MadePlansReach
made_plans_reach scene final plan is once block i r h =
    place_holds (λ (o : Operation). (q : Reach) → access_in o.form ≡ Some q → IsOfSource (program_seen scene.program.now) q) (operations_in plan block) i h.operation own h.there r h.accesses
  where
    straight : (rounds : List Round) (cs : CoreCommands) (number : ℕ) → IsStraightBlock scene final rounds cs number → ReachesSource scene plan number
    straight rounds cs number b =
        straights_reach scene plan number b.made.around b.located b.made.before b.made.between b.made.after.draft b.made.made (straight_stands scene final plan is rounds cs number b)
        (straight_along scene final plan is rounds cs number b) (all_named (known_in scene) b.located (straight_held scene final plan is rounds cs number b)) (straight_has scene final plan is rounds cs number b) is.tells is.ways (straight_bare scene final plan is rounds cs number b) (straight_own scene final plan is rounds cs number b) (straight_quiet scene final plan is rounds cs number b)

    test : (rounds : List Round) (t : CoreTerm) (flag number : ℕ) → IsTestBlock scene final rounds t flag number → ReachesSource scene plan number
    test rounds t flag number b =
        tests_reach scene plan number b.made.around b.tested b.term b.made.before b.made.between b.made.after.draft b.made.next b.made.tests b.made.made b.term_is (test_stands_in scene final plan is rounds t flag number b)
        b.made.few (test_has scene final plan is rounds t flag number b) is.tells is.ways (test_bare scene final plan is rounds t flag number b) (test_own scene final plan is rounds t flag number b) (test_quiet scene final plan is rounds t flag number b)

    within : block < length plan.blocks
    within = by (slice_get plan.blocks block) refl h.there
      where
        by : (o : Option PlanBlock) → slice_get plan.blocks block ≡ o → slice_get (block_operations o) i ≡ Some h.operation → block < length plan.blocks
        by None e k = absurd (never i k)
          where
            never : (i : ℕ) → slice_get (block_operations None) i ≡ Some h.operation → ⊥
            never i z = cc
        by (Some b) e k = place_within plan.blocks block b e

    own : ReachesSource scene plan block
    own =
        listed_holds (ReachesSource scene plan) block (blocks_of plan.body) (once block within)
        (nodes_each (made_tie scene final) (ReachesSource scene plan) straight test [] (core_of (program_seen scene.program.now)).phases plan.body is.nodes)
