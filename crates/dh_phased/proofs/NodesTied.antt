-- What holds of each block that was made, in loops that count, holds all through the nodes.
use Rattle.std.proofs.Common.{ℕ, List, [], ◌∷◌, ◌++◌, sym, subst}
use Rattle.std.specs.Prelude.{◌≡◌}
use Rattle.dh_meaning.specs.Core.{CoreCommands, CorePhase, CoreTerm, straightly, turning, looping, choosing, CorePhases, no_core_phases, phase_and, Turning}
use Rattle.dh_plan.specs.Correspondence.{Round}
use Rattle.dh_plan.specs.PlainPlans.{Node, block_node, turns_node, loop_node, choice_node, threads_node, Nodes, no_nodes, node_then}
use Rattle.dh_plan.specs.PlanPhases.{AreNodesOf, IsIteratorOf, IsNodeOf, Tie}
use Rattle.dh_expressions.specs.declared.scenes.Scene.{Scene}
use Rattle.dh_blocks.specs.SlotsOfScene.{placing_in}
use Rattle.dh_gathering.specs.declared.blocks.Made.{Made}
use Rattle.dh_gathering.specs.LoopCounters.{AreCounting, IsCounting, LoopsCount, LoopsCountIn}
use Rattle.dh_gathering.specs.MadeBlocks.{IsStraightBlock, IsTestBlock, counter_register, made_tie}

pub counting_more : (scene : Scene) (rounds : List Round) (r : Round) → AreCounting scene (placing_in scene) rounds → IsCounting scene (placing_in scene) r.loop → r.counter ≡ counter_register scene r.loop → AreCounting scene (placing_in scene) (rounds ++ r ∷ [])
counting_more scene [] r all h is = ((h, is), tt)
counting_more scene (x ∷ rounds) r all h is = (all.0, counting_more scene rounds r all.1 h is)

module _ (scene : Scene) (final : Made) (tie : Tie)
    (of_block : (rounds : List Round) (cs : CoreCommands) (block : ℕ) → AreCounting scene (placing_in scene) rounds → IsStraightBlock scene final rounds cs block → tie.of_block rounds cs block)
    (of_test : (rounds : List Round) (test : CoreTerm) (flag block : ℕ) → AreCounting scene (placing_in scene) rounds → IsTestBlock scene final rounds test flag block → tie.of_test rounds test flag block)
    (of_loop : (rounds : List Round) (loop : Turning) (counter : ℕ) → AreCounting scene (placing_in scene) rounds → IsCounting scene (placing_in scene) loop → (IsIteratorOf rounds loop.iterator → ⊥) → counter ≡ counter_register scene loop
    → tie.of_loop rounds loop counter) where
  mutual
    pub nodes_tied : (rounds : List Round) (qs : CorePhases) (ns : Nodes) → AreCounting scene (placing_in scene) rounds → LoopsCount scene (placing_in scene) rounds qs → AreNodesOf (made_tie scene final) rounds qs ns → AreNodesOf tie rounds qs ns
    nodes_tied rounds no_core_phases no_nodes all loops h = tt
    nodes_tied rounds no_core_phases (node_then n ns) all loops h = absurd h
    nodes_tied rounds (phase_and q qs) no_nodes all loops h = absurd h
    nodes_tied rounds (phase_and q qs) (node_then n ns) all loops h = (node_tied rounds q n all loops.0 h.0, nodes_tied rounds qs ns all loops.1 h.1)

    node_tied : (rounds : List Round) (q : CorePhase) (n : Node) → AreCounting scene (placing_in scene) rounds → LoopsCountIn scene (placing_in scene) rounds q → IsNodeOf (made_tie scene final) rounds q n → IsNodeOf tie rounds q n
    node_tied rounds (straightly cs) (block_node block) all loops h = of_block rounds cs block all h
    node_tied rounds (straightly cs) (turns_node counter turns ms) all loops h = absurd h
    node_tied rounds (straightly cs) (loop_node block flag ms) all loops h = absurd h
    node_tied rounds (straightly cs) (choice_node block flag ms os) all loops h = absurd h
    node_tied rounds (straightly cs) (threads_node lists) all loops h = absurd h
    node_tied rounds (turning loop body) (block_node block) all loops h = absurd h
    node_tied rounds (turning loop body) (turns_node counter turns ms) all loops h = (
      h.0,
      (
        of_loop rounds loop counter all loops.0 loops.1.0 h.1.0,
        nodes_tied (rounds ++ record { loop = loop; counter = counter } ∷ []) body ms
            (counting_more scene rounds (record { loop = loop; counter = counter }) all loops.0 h.1.0)
            (subst (λ (n : ℕ). LoopsCount scene (placing_in scene) (rounds ++ record { loop = loop; counter = n } ∷ []) body) (sym h.1.0) loops.1.1) h.1.1,
      ),
    )
    node_tied rounds (turning loop body) (loop_node block flag ms) all loops h = absurd h
    node_tied rounds (turning loop body) (choice_node block flag ms os) all loops h = absurd h
    node_tied rounds (turning loop body) (threads_node lists) all loops h = absurd h
    node_tied rounds (looping test body) (block_node block) all loops h = absurd h
    node_tied rounds (looping test body) (turns_node counter turns ms) all loops h = absurd h
    node_tied rounds (looping test body) (loop_node block flag ms) all loops h = (of_test rounds test flag block all h.0, nodes_tied rounds body ms all loops h.1)
    node_tied rounds (looping test body) (choice_node block flag ms os) all loops h = absurd h
    node_tied rounds (looping test body) (threads_node lists) all loops h = absurd h
    node_tied rounds (choosing test chosen other) (block_node block) all loops h = absurd h
    node_tied rounds (choosing test chosen other) (turns_node counter turns ms) all loops h = absurd h
    node_tied rounds (choosing test chosen other) (loop_node block flag ms) all loops h = absurd h
    node_tied rounds (choosing test chosen other) (choice_node block flag ms os) all loops h =
        (of_test rounds test flag block all h.0, (nodes_tied rounds chosen ms all loops.0 h.1.0, nodes_tied rounds other os all loops.1 h.1.1))
    node_tied rounds (choosing test chosen other) (threads_node lists) all loops h = absurd h
