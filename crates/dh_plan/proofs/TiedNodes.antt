-- Nodes that are tied to phases in two ways are tied in both together; and in no way at all.
use Rattle.std.proofs.Common.{List}
use Rattle.std.specs.Prelude.{[], ◌∷◌, ◌++◌}
use Rattle.dh_meaning.specs.Core.{CorePhase, straightly, turning, looping, choosing, CorePhases, no_core_phases, phase_and}
use Rattle.dh_plan.specs.Correspondence.{Round}
use Rattle.dh_plan.specs.PlainPlans.{Node, block_node, turns_node, loop_node, choice_node, threads_node, Nodes, no_nodes, node_then}
use Rattle.dh_plan.specs.PlanPhases.{Tie, both_ties, no_tie, AreNodesOf, IsNodeOf}

mutual
  pub nodes_zip : (a b : Tie) (rounds : List Round) (ps : CorePhases) (ns : Nodes) → AreNodesOf a rounds ps ns → AreNodesOf b rounds ps ns → AreNodesOf (both_ties a b) rounds ps ns
  nodes_zip a b rounds no_core_phases no_nodes h g = tt
  nodes_zip a b rounds no_core_phases (node_then n ns) h g = h
  nodes_zip a b rounds (phase_and p ps) no_nodes h g = h
  nodes_zip a b rounds (phase_and p ps) (node_then n ns) h g = (node_zip a b rounds p n h.0 g.0, nodes_zip a b rounds ps ns h.1 g.1)

  pub node_zip : (a b : Tie) (rounds : List Round) (p : CorePhase) (n : Node) → IsNodeOf a rounds p n → IsNodeOf b rounds p n → IsNodeOf (both_ties a b) rounds p n
  node_zip a b rounds (straightly cs) (block_node block) h g = (h, g)
  node_zip a b rounds (straightly cs) (turns_node counter turns ms) h g = h
  node_zip a b rounds (straightly cs) (loop_node block flag ms) h g = h
  node_zip a b rounds (straightly cs) (choice_node block flag ms os) h g = h
  node_zip a b rounds (straightly cs) (threads_node lists) h g = h
  node_zip a b rounds (turning loop body) (block_node block) h g = h
  node_zip a b rounds (turning loop body) (turns_node counter turns ms) h g = (h.0, ((h.1.0, g.1.0), nodes_zip a b (rounds ++ record { loop = loop; counter = counter } ∷ []) body ms h.1.1 g.1.1))
  node_zip a b rounds (turning loop body) (loop_node block flag ms) h g = h
  node_zip a b rounds (turning loop body) (choice_node block flag ms os) h g = h
  node_zip a b rounds (turning loop body) (threads_node lists) h g = h
  node_zip a b rounds (looping test body) (block_node block) h g = h
  node_zip a b rounds (looping test body) (turns_node counter turns ms) h g = h
  node_zip a b rounds (looping test body) (loop_node block flag ms) h g = ((h.0, g.0), nodes_zip a b rounds body ms h.1 g.1)
  node_zip a b rounds (looping test body) (choice_node block flag ms os) h g = h
  node_zip a b rounds (looping test body) (threads_node lists) h g = h
  node_zip a b rounds (choosing test chosen other) (block_node block) h g = h
  node_zip a b rounds (choosing test chosen other) (turns_node counter turns ms) h g = h
  node_zip a b rounds (choosing test chosen other) (loop_node block flag ms) h g = h
  node_zip a b rounds (choosing test chosen other) (choice_node block flag ms os) h g = ((h.0, g.0), (nodes_zip a b rounds chosen ms h.1.0 g.1.0, nodes_zip a b rounds other os h.1.1 g.1.1))
  node_zip a b rounds (choosing test chosen other) (threads_node lists) h g = h

mutual
  pub nodes_free : (a : Tie) (rounds : List Round) (ps : CorePhases) (ns : Nodes) → AreNodesOf a rounds ps ns → AreNodesOf no_tie rounds ps ns
  nodes_free a rounds no_core_phases no_nodes h = tt
  nodes_free a rounds no_core_phases (node_then n ns) h = h
  nodes_free a rounds (phase_and p ps) no_nodes h = h
  nodes_free a rounds (phase_and p ps) (node_then n ns) h = (node_free a rounds p n h.0, nodes_free a rounds ps ns h.1)

  pub node_free : (a : Tie) (rounds : List Round) (p : CorePhase) (n : Node) → IsNodeOf a rounds p n → IsNodeOf no_tie rounds p n
  node_free a rounds (straightly cs) (block_node block) h = tt
  node_free a rounds (straightly cs) (turns_node counter turns ms) h = h
  node_free a rounds (straightly cs) (loop_node block flag ms) h = h
  node_free a rounds (straightly cs) (choice_node block flag ms os) h = h
  node_free a rounds (straightly cs) (threads_node lists) h = h
  node_free a rounds (turning loop body) (block_node block) h = h
  node_free a rounds (turning loop body) (turns_node counter turns ms) h = (h.0, (tt, nodes_free a (rounds ++ record { loop = loop; counter = counter } ∷ []) body ms h.1.1))
  node_free a rounds (turning loop body) (loop_node block flag ms) h = h
  node_free a rounds (turning loop body) (choice_node block flag ms os) h = h
  node_free a rounds (turning loop body) (threads_node lists) h = h
  node_free a rounds (looping test body) (block_node block) h = h
  node_free a rounds (looping test body) (turns_node counter turns ms) h = h
  node_free a rounds (looping test body) (loop_node block flag ms) h = (tt, nodes_free a rounds body ms h.1)
  node_free a rounds (looping test body) (choice_node block flag ms os) h = h
  node_free a rounds (looping test body) (threads_node lists) h = h
  node_free a rounds (choosing test chosen other) (block_node block) h = h
  node_free a rounds (choosing test chosen other) (turns_node counter turns ms) h = h
  node_free a rounds (choosing test chosen other) (loop_node block flag ms) h = h
  node_free a rounds (choosing test chosen other) (choice_node block flag ms os) h = (tt, (nodes_free a rounds chosen ms h.1.0, nodes_free a rounds other os h.1.1))
  node_free a rounds (choosing test chosen other) (threads_node lists) h = h
