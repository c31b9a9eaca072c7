-- Nodes that are tied to phases name blocks and flags that are there. By induction on phases and nodes.
use Rattle.std.proofs.Common.{ℕ, suc, ◌<◌, ◌≤◌, List, [], ◌∷◌, ◌++◌, length, arith}
use Rattle.std.specs.List.{AllByRecursion}
use Rattle.dh_meaning.specs.Core.{CorePhase, straightly, turning, looping, choosing, CorePhases, no_core_phases, phase_and}
use Rattle.dh_plan.specs.Correspondence.{Round}
use Rattle.dh_plan.specs.PlainPlans.{Node, block_node, turns_node, loop_node, choice_node, threads_node, Nodes, no_nodes, node_then}
use Rattle.dh_plan.specs.PlanPhases.{AreNodesOf, IsNodeOf}
use Rattle.dh_plan.specs.SoundPlans.{blocks_of, flags_of, node_blocks, node_flags}
use Rattle.dh_expressions.specs.declared.scenes.Scene.{Scene}
use Rattle.dh_gathering.specs.declared.blocks.Made.{Made}
use Rattle.dh_gathering.specs.MadeBlocks.{IsFlagOf, made_tie}
use Rattle.dh_gathering.specs.Gathered.{HasNodes}

all_append : (P : ℕ → Type 0) (xs ys : List ℕ) → AllByRecursion P xs → AllByRecursion P ys → AllByRecursion P (xs ++ ys)
all_append P [] ys a b = b
all_append P (x ∷ xs) ys a b = (a.0, all_append P xs ys a.1 b)

module _ (scene : Scene) (final : Made) where
  abbrev IsThere : ℕ → Type 0
  IsThere block = block < length final.starts.items

  below : (n m : ℕ) → suc n ≤ m → n < m
  below n m l = omega (arith, l)

  mutual
    blocks_there : (rounds : List Round) (ps : CorePhases) (ns : Nodes) → AreNodesOf (made_tie scene final) rounds ps ns → AllByRecursion IsThere (blocks_of ns)
    blocks_there rounds no_core_phases no_nodes h = tt
    blocks_there rounds no_core_phases (node_then n ns) h = absurd h
    blocks_there rounds (phase_and p ps) no_nodes h = absurd h
    blocks_there rounds (phase_and p ps) (node_then n ns) h = all_append IsThere (node_blocks n) (blocks_of ns) (block_there rounds p n h.0) (blocks_there rounds ps ns h.1)

    block_there : (rounds : List Round) (p : CorePhase) (n : Node) → IsNodeOf (made_tie scene final) rounds p n → AllByRecursion IsThere (node_blocks n)
    block_there rounds (straightly cs) (block_node block) h = (below block (length final.starts.items) h.made.stands.there, tt)
    block_there rounds (straightly cs) (turns_node counter turns ms) h = absurd h
    block_there rounds (straightly cs) (loop_node block flag ms) h = absurd h
    block_there rounds (straightly cs) (choice_node block flag ms os) h = absurd h
    block_there rounds (straightly cs) (threads_node lists) h = absurd h
    block_there rounds (turning loop body) (block_node block) h = absurd h
    block_there rounds (turning loop body) (turns_node counter turns ms) h = blocks_there (rounds ++ record { loop = loop; counter = counter } ∷ []) body ms h.1.1
    block_there rounds (turning loop body) (loop_node block flag ms) h = absurd h
    block_there rounds (turning loop body) (choice_node block flag ms os) h = absurd h
    block_there rounds (turning loop body) (threads_node lists) h = absurd h
    block_there rounds (looping test body) (block_node block) h = absurd h
    block_there rounds (looping test body) (turns_node counter turns ms) h = absurd h
    block_there rounds (looping test body) (loop_node block flag ms) h = (below block (length final.starts.items) h.0.made.stands.there, blocks_there rounds body ms h.1)
    block_there rounds (looping test body) (choice_node block flag ms os) h = absurd h
    block_there rounds (looping test body) (threads_node lists) h = absurd h
    block_there rounds (choosing test chosen other) (block_node block) h = absurd h
    block_there rounds (choosing test chosen other) (turns_node counter turns ms) h = absurd h
    block_there rounds (choosing test chosen other) (loop_node block flag ms) h = absurd h
    block_there rounds (choosing test chosen other) (choice_node block flag ms os) h =
        (below block (length final.starts.items) h.0.made.stands.there, all_append IsThere (blocks_of ms) (blocks_of os) (blocks_there rounds chosen ms h.1.0) (blocks_there rounds other os h.1.1))
    block_there rounds (choosing test chosen other) (threads_node lists) h = absurd h

  mutual
    flags_there : (rounds : List Round) (ps : CorePhases) (ns : Nodes) → AreNodesOf (made_tie scene final) rounds ps ns → AllByRecursion (IsFlagOf final) (flags_of ns)
    flags_there rounds no_core_phases no_nodes h = tt
    flags_there rounds no_core_phases (node_then n ns) h = absurd h
    flags_there rounds (phase_and p ps) no_nodes h = absurd h
    flags_there rounds (phase_and p ps) (node_then n ns) h = all_append (IsFlagOf final) (node_flags n) (flags_of ns) (flag_there rounds p n h.0) (flags_there rounds ps ns h.1)

    flag_there : (rounds : List Round) (p : CorePhase) (n : Node) → IsNodeOf (made_tie scene final) rounds p n → AllByRecursion (IsFlagOf final) (node_flags n)
    flag_there rounds (straightly cs) (block_node block) h = tt
    flag_there rounds (straightly cs) (turns_node counter turns ms) h = absurd h
    flag_there rounds (straightly cs) (loop_node block flag ms) h = absurd h
    flag_there rounds (straightly cs) (choice_node block flag ms os) h = absurd h
    flag_there rounds (straightly cs) (threads_node lists) h = absurd h
    flag_there rounds (turning loop body) (block_node block) h = absurd h
    flag_there rounds (turning loop body) (turns_node counter turns ms) h = flags_there (rounds ++ record { loop = loop; counter = counter } ∷ []) body ms h.1.1
    flag_there rounds (turning loop body) (loop_node block flag ms) h = absurd h
    flag_there rounds (turning loop body) (choice_node block flag ms os) h = absurd h
    flag_there rounds (turning loop body) (threads_node lists) h = absurd h
    flag_there rounds (looping test body) (block_node block) h = absurd h
    flag_there rounds (looping test body) (turns_node counter turns ms) h = absurd h
    flag_there rounds (looping test body) (loop_node block flag ms) h = (h.0.made.is_flag, flags_there rounds body ms h.1)
    flag_there rounds (looping test body) (choice_node block flag ms os) h = absurd h
    flag_there rounds (looping test body) (threads_node lists) h = absurd h
    flag_there rounds (choosing test chosen other) (block_node block) h = absurd h
    flag_there rounds (choosing test chosen other) (turns_node counter turns ms) h = absurd h
    flag_there rounds (choosing test chosen other) (loop_node block flag ms) h = absurd h
    flag_there rounds (choosing test chosen other) (choice_node block flag ms os) h = (h.0.made.is_flag, all_append (IsFlagOf final) (flags_of ms) (flags_of os) (flags_there rounds chosen ms h.1.0) (flags_there rounds other os h.1.1))
    flag_there rounds (choosing test chosen other) (threads_node lists) h = absurd h

  pub has_nodes : (rounds : List Round) (ps : CorePhases) (ns : Nodes) → AreNodesOf (made_tie scene final) rounds ps ns → HasNodes final ns
  has_nodes rounds ps ns h = record { blocks = blocks_there rounds ps ns h; flags = flags_there rounds ps ns h }
