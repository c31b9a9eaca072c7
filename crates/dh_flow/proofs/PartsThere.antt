-- The parts that the nodes of a plan name are there, if it is formed; node by node, so that each recursion on nodes
-- finds those of its own.
use Rattle.std.proofs.Common.{ℕ, List, [], ◌∷◌, ◌++◌}
use Rattle.std.specs.List.{AllByRecursion}
use Rattle.dh_plan.specs.PlainPlans.{Node, block_node, turns_node, loop_node, choice_node, threads_node, Nodes, no_nodes, node_then, NodeLists, no_lists, list_then, PlainPlan}
use Rattle.dh_plan.specs.PlanKinds.{Names}
use Rattle.dh_plan.specs.SoundPlans.{blocks_of, node_blocks, list_blocks, countings, node_countings, list_countings, flags_of, node_flags, list_flags, Counting, CountsTurns, IsFlag, IsFormed}
use Rattle.dh_flow.proofs.PlacedLists.{all_front, all_back}

module _ (plan : PlainPlan) where
  abbrev mutual
    pub PartsAre : Nodes → Type 0
    PartsAre no_nodes = Unit {0}
    PartsAre (node_then n ns) = NodeParts n × PartsAre ns

    pub NodeParts : Node → Type 0
    NodeParts (block_node block) = Names plan.blocks block
    NodeParts (turns_node counter turns body) = Names plan.registers counter × PartsAre body
    NodeParts (loop_node test flag body) = Names plan.blocks test × (Names plan.registers flag × PartsAre body)
    NodeParts (choice_node test flag chosen other) = Names plan.blocks test × (Names plan.registers flag × (PartsAre chosen × PartsAre other))
    NodeParts (threads_node lists) = ListParts lists

    pub ListParts : NodeLists → Type 0
    ListParts no_lists = Unit {0}
    ListParts (list_then ns lists) = PartsAre ns × ListParts lists

  abbrev Blocks : List ℕ → Type 0
  Blocks bs = AllByRecursion (λ b. Names plan.blocks b) bs

  abbrev Counters : List Counting → Type 0
  Counters cs = AllByRecursion (λ c. Names plan.registers c.counter) cs

  abbrev Flags : List ℕ → Type 0
  Flags fs = AllByRecursion (λ f. Names plan.registers f) fs

  block_front : (xs ys : List ℕ) → Blocks (xs ++ ys) → Blocks xs
  block_front xs ys h = all_front (λ b. Names plan.blocks b) xs ys h

  block_back : (xs ys : List ℕ) → Blocks (xs ++ ys) → Blocks ys
  block_back xs ys h = all_back (λ b. Names plan.blocks b) xs ys h

  counter_front : (xs ys : List Counting) → Counters (xs ++ ys) → Counters xs
  counter_front xs ys h = all_front (λ c. Names plan.registers c.counter) xs ys h

  counter_back : (xs ys : List Counting) → Counters (xs ++ ys) → Counters ys
  counter_back xs ys h = all_back (λ c. Names plan.registers c.counter) xs ys h

  flag_front : (xs ys : List ℕ) → Flags (xs ++ ys) → Flags xs
  flag_front xs ys h = all_front (λ f. Names plan.registers f) xs ys h

  flag_back : (xs ys : List ℕ) → Flags (xs ++ ys) → Flags ys
  flag_back xs ys h = all_back (λ f. Names plan.registers f) xs ys h

  mutual
    parts_in : (ns : Nodes) → Blocks (blocks_of ns) → Counters (countings ns) → Flags (flags_of ns) → PartsAre ns
    parts_in no_nodes b c f = tt
    parts_in (node_then n ns) b c f = (
      node_parts n (block_front (node_blocks n) (blocks_of ns) b) (counter_front (node_countings n) (countings ns) c) (flag_front (node_flags n) (flags_of ns) f),
      parts_in ns (block_back (node_blocks n) (blocks_of ns) b) (counter_back (node_countings n) (countings ns) c) (flag_back (node_flags n) (flags_of ns) f),
    )

    node_parts : (n : Node) → Blocks (node_blocks n) → Counters (node_countings n) → Flags (node_flags n) → NodeParts n
    node_parts (block_node block) b c f = b.0
    node_parts (turns_node counter turns body) b c f = (c.0, parts_in body b c.1 f)
    node_parts (loop_node test flag body) b c f = (b.0, (f.0, parts_in body b.1 c f.1))
    node_parts (choice_node test flag chosen other) b c f = (
      b.0,
      (
        f.0,
        (
          parts_in chosen (block_front (blocks_of chosen) (blocks_of other) b.1) (counter_front (countings chosen) (countings other) c) (flag_front (flags_of chosen) (flags_of other) f.1),
          parts_in other (block_back (blocks_of chosen) (blocks_of other) b.1) (counter_back (countings chosen) (countings other) c) (flag_back (flags_of chosen) (flags_of other) f.1),
        ),
      ),
    )
    node_parts (threads_node lists) b c f = list_parts lists b c f

    list_parts : (lists : NodeLists) → Blocks (list_blocks lists) → Counters (list_countings lists) → Flags (list_flags lists) → ListParts lists
    list_parts no_lists b c f = tt
    list_parts (list_then ns lists) b c f = (
      parts_in ns (block_front (blocks_of ns) (list_blocks lists) b) (counter_front (countings ns) (list_countings lists) c) (flag_front (flags_of ns) (list_flags lists) f),
      list_parts lists (block_back (blocks_of ns) (list_blocks lists) b) (counter_back (countings ns) (list_countings lists) c) (flag_back (flags_of ns) (list_flags lists) f),
    )

  counters_there : (cs : List Counting) → AllByRecursion (CountsTurns plan) cs → Counters cs
  counters_there [] h = tt
  counters_there (c ∷ cs) h = (h.0.0, counters_there cs h.1)

  flags_there : (fs : List ℕ) → AllByRecursion (IsFlag plan) fs → Flags fs
  flags_there [] h = tt
  flags_there (f ∷ fs) h = (h.0.0, flags_there fs h.1)

  pub parts_are : IsFormed plan → PartsAre plan.body
  parts_are formed = parts_in plan.body formed.nodes (counters_there (countings plan.body) formed.counters.wide) (flags_there (flags_of plan.body) formed.flags)
