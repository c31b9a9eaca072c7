-- The plan of a program has one thread: its nodes are the phases of the program, which have no threads.
use Rattle.dh_tree.specs.PlainTrees.{Program}
use Rattle.std.specs.Prelude.{List, [], ◌∷◌, ◌++◌}
use Rattle.dh_meaning.specs.Core.{CorePhase, straightly, turning, looping, choosing, CorePhases, no_core_phases, phase_and}
use Rattle.dh_meaning.specs.CoreOf.{core_of}
use Rattle.dh_plan.specs.Correspondence.{Round}
use Rattle.dh_plan.specs.DoneProgram.{has_lengths}
use Rattle.dh_plan.specs.PlainPlans.{Node, block_node, turns_node, loop_node, choice_node, threads_node, Nodes, no_nodes, node_then}
use Rattle.dh_plan.specs.PlanPhases.{Tie, AreNodesOf, IsNodeOf}
use Rattle.dh_flow.specs.StraightGraphs.{IsOneThread, NodeIsOneThread}
use Rattle.dh_backend.specs.OneThread.{PlansAreOneThread}

module _ (tie : Tie) where
  mutual
    nodes_one : (rounds : List Round) (ps : CorePhases) (ns : Nodes) → AreNodesOf tie rounds ps ns → IsOneThread ns
    nodes_one rounds no_core_phases no_nodes h = tt
    nodes_one rounds no_core_phases (node_then n ns) h = absurd h
    nodes_one rounds (phase_and c ps) no_nodes h = tt
    nodes_one rounds (phase_and c ps) (node_then n ns) h = (node_one rounds c n h.0, nodes_one rounds ps ns h.1)

    node_one : (rounds : List Round) (c : CorePhase) (n : Node) → IsNodeOf tie rounds c n → NodeIsOneThread n
    node_one rounds (straightly cs) (block_node block) h = tt
    node_one rounds (straightly cs) (turns_node counter turns ms) h = absurd h
    node_one rounds (straightly cs) (loop_node block flag ms) h = absurd h
    node_one rounds (straightly cs) (choice_node block flag ms os) h = absurd h
    node_one rounds (straightly cs) (threads_node lists) h = h
    node_one rounds (turning loop body) (block_node block) h = tt
    node_one rounds (turning loop body) (turns_node counter turns ms) h = nodes_one (rounds ++ record { loop = loop; counter = counter } ∷ []) body ms h.1.1
    node_one rounds (turning loop body) (loop_node block flag ms) h = absurd h
    node_one rounds (turning loop body) (choice_node block flag ms os) h = absurd h
    node_one rounds (turning loop body) (threads_node lists) h = h
    node_one rounds (looping test body) (block_node block) h = tt
    node_one rounds (looping test body) (turns_node counter turns ms) h = absurd h
    node_one rounds (looping test body) (loop_node block flag ms) h = nodes_one rounds body ms h.1
    node_one rounds (looping test body) (choice_node block flag ms os) h = absurd h
    node_one rounds (looping test body) (threads_node lists) h = h
    node_one rounds (choosing test chosen other) (block_node block) h = tt
    node_one rounds (choosing test chosen other) (turns_node counter turns ms) h = absurd h
    node_one rounds (choosing test chosen other) (loop_node block flag ms) h = absurd h
    node_one rounds (choosing test chosen other) (choice_node block flag ms os) h = (nodes_one rounds chosen ms h.1.0, nodes_one rounds other os h.1.1)
    node_one rounds (choosing test chosen other) (threads_node lists) h = h

pub plans_are_one_thread : (p : Program) → PlansAreOneThread p
plans_are_one_thread p plan of = nodes_one (has_lengths p plan) [] (core_of p).phases plan.body of.lengths
