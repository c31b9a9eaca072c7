use Rattle.std.proofs.Common.{◌∷◌, ◌++◌, [], map, Some, ap, ◌∙◌, subst}
use Rattle.std.proofs.lemmas.List.{drop_all}
use Rattle.dh_plan.specs.SeenPlans.{nodes_seen}
use Rattle.dh_plan.specs.SoundPlans.{blocks_of}
use Rattle.dh_tree.specs.Seen.{term_seen}
use Rattle.dh_phases.specs.GatheredPhases.{all_gathered, header_seen, numbered_seen, phase_seen, phases_seen}
use Rattle.dh_phases.proofs.SeenPhases as gathered
use Rattle.dh_expressions.specs.Levels.{levels_inside}
use Rattle.dh_gathering.specs.Gathered.{MakesNodesIn, MakesStraightIn}
use Rattle.dh_gathering.proofs.EachNamedOnce.{once_begin, once_seen, once_then, once_turn}
use Rattle.dh_gathering.proofs.NodesMade.{choice_made, loop_made, node_as, nodes_begin, nodes_end, nodes_turn, straight_node, turns_made}
use Rattle.dh_gathering.proofs.SeenNodes.{choice_is, loop_is, step_is, turns_is}
use Rattle.dh_gathering.proofs.nodes.+nodes.Goals as goal

pub node_of-returns-in_ok-block-in-Straight-clause-made : goal.node_of-returns-in_ok-block-in-Straight-clause-made
node_of-returns-in_ok-block-in-Straight-clause-made t c =
    node_as c.args.scene.now c.args.paths.now c.args.made.now c.straight_block.new.made (phase_seen c.args.phase.now) _ _ _ (ap phase_seen c.in-Straight.is ∙ gathered.straight_is c.in-Straight.commands) (step_is c.in_ok-block-in-Straight.block)
    (straight_node c.args.scene.now c.args.paths.now c.args.made.now c.straight_block.new.made (map numbered_seen c.in-Straight.commands.items) c.in_ok-block-in-Straight.block
    (subst (λ cs. MakesStraightIn c.args.scene.now c.args.paths.now c.args.made.now c.straight_block.new.made (map numbered_seen cs) c.in_ok-block-in-Straight.block) c.as_slice.ensures.value c.in_ok-block-in-Straight.ensures.made))

pub node_of-returns-in_ok-block-in-Straight-clause-once : goal.node_of-returns-in_ok-block-in-Straight-clause-once
node_of-returns-in_ok-block-in-Straight-clause-once t c = once_seen c.args.made.now c.straight_block.new.made _ _ (step_is c.in_ok-block-in-Straight.block) c.in_ok-block-in-Straight.ensures.once

pub node_of-returns-in_ok-body-in-Turns-clause-made : goal.node_of-returns-in_ok-body-in-Turns-clause-made
node_of-returns-in_ok-body-in-Turns-clause-made t c =
    node_as c.args.scene.now c.args.paths.now c.args.made.now c.nodes_of.new.made (phase_seen c.args.phase.now) _ _ _ (ap phase_seen c.in-Turns.is ∙ gathered.turns_is c.in-Turns.command c.in-Turns.header c.in-Turns.count c.in-Turns.body)
    (turns_is c.from-counter.result c.in-Turns.count c.in_ok-body-in-Turns.body)
    (turns_made c.args.scene.now c.args.paths.now c.in_ok-within-in-Turns.within c.args.made.now c.nodes_of.new.made (numbered_seen c.in-Turns.command) (header_seen c.in-Turns.header.now) c.in-Turns.count c.from-counter.result
    (all_gathered (phases_seen c.in-Turns.body.items)) (nodes_seen c.in_ok-body-in-Turns.body.items)
    (c.in_ok-within-in-Turns.ensures.levels ∙ ap (λ e. levels_inside c.args.paths.now.levels.items (Some e) c.in-Turns.header.now.factor) c.entity_of-entity.ensures) c.in_ok-within-in-Turns.ensures.count
    (c.from-counter.ensures ∙ ap (λ h. h.first) c.place_of.ensures)
    (subst (λ ps. MakesNodesIn c.args.scene.now c.in_ok-within-in-Turns.within c.args.made.now c.nodes_of.new.made (all_gathered (phases_seen ps)) (nodes_seen c.in_ok-body-in-Turns.body.items)) c.as_slice-in-Turns.ensures.value c.in_ok-body-in-Turns.ensures.made))

pub node_of-returns-in_ok-body-in-Turns-clause-once : goal.node_of-returns-in_ok-body-in-Turns-clause-once
node_of-returns-in_ok-body-in-Turns-clause-once t c = once_seen c.args.made.now c.nodes_of.new.made _ _ (turns_is c.from-counter.result c.in-Turns.count c.in_ok-body-in-Turns.body) c.in_ok-body-in-Turns.ensures.once

pub node_of-returns-in_ok-body-in-Loop-clause-made : goal.node_of-returns-in_ok-body-in-Loop-clause-made
node_of-returns-in_ok-body-in-Loop-clause-made t c =
    let tested = c.in_ok-tested-in-Loop.tested in
    node_as c.args.scene.now c.args.paths.now c.args.made.now c.nodes_of-in-Loop.new.made (phase_seen c.args.phase.now) _ _ _ (ap phase_seen c.in-Loop.is ∙ gathered.loop_is c.in-Loop.command c.in-Loop.test c.in-Loop.body)
    (loop_is tested.block tested.flag c.in_ok-body-in-Loop.body)
    (loop_made c.args.scene.now c.args.paths.now c.args.made.now c.test_block.new.made c.nodes_of-in-Loop.new.made (numbered_seen c.in-Loop.command) (term_seen c.in-Loop.test.now) tested.flag tested.block
    (all_gathered (phases_seen c.in-Loop.body.items)) (nodes_seen c.in_ok-body-in-Loop.body.items) c.in_ok-tested-in-Loop.ensures.made
    (subst (λ ps. MakesNodesIn c.args.scene.now c.args.paths.now c.test_block.new.made c.nodes_of-in-Loop.new.made (all_gathered (phases_seen ps)) (nodes_seen c.in_ok-body-in-Loop.body.items)) c.as_slice-in-Loop.ensures.value c.in_ok-body-in-Loop.ensures.made))

pub node_of-returns-in_ok-body-in-Loop-clause-once : goal.node_of-returns-in_ok-body-in-Loop-clause-once
node_of-returns-in_ok-body-in-Loop-clause-once t c =
    let tested = c.in_ok-tested-in-Loop.tested in
    once_seen c.args.made.now c.nodes_of-in-Loop.new.made _ _ (loop_is tested.block tested.flag c.in_ok-body-in-Loop.body)
    (once_then c.args.made.now c.test_block.new.made c.nodes_of-in-Loop.new.made (tested.block ∷ []) (blocks_of (nodes_seen c.in_ok-body-in-Loop.body.items)) c.in_ok-tested-in-Loop.ensures.once c.in_ok-body-in-Loop.ensures.once)

pub node_of-returns-in_ok-other-in-Choice-clause-made : goal.node_of-returns-in_ok-other-in-Choice-clause-made
node_of-returns-in_ok-other-in-Choice-clause-made t c =
    let tested = c.in_ok-tested-in-Choice.tested in
    let one = c.in_ok-then-in-Choice.then in
    let two = c.in_ok-other-in-Choice.other in
    node_as c.args.scene.now c.args.paths.now c.args.made.now c.nodes_of-in-Choice-2.new.made (phase_seen c.args.phase.now) _ _ _ (ap phase_seen c.in-Choice.is ∙ gathered.choice_is c.in-Choice.command c.in-Choice.test c.in-Choice.then c.in-Choice.other)
    (choice_is tested.block tested.flag one two)
    (choice_made c.args.scene.now c.args.paths.now c.args.made.now c.test_block-in-Choice.new.made c.nodes_of-in-Choice.new.made c.nodes_of-in-Choice-2.new.made (numbered_seen c.in-Choice.command) (term_seen c.in-Choice.test.now) tested.flag tested.block
    (all_gathered (phases_seen c.in-Choice.then.items)) (all_gathered (phases_seen c.in-Choice.other.items)) (nodes_seen one.items) (nodes_seen two.items) c.in_ok-tested-in-Choice.ensures.made
    (subst (λ ps. MakesNodesIn c.args.scene.now c.args.paths.now c.test_block-in-Choice.new.made c.nodes_of-in-Choice.new.made (all_gathered (phases_seen ps)) (nodes_seen one.items)) c.as_slice-in-Choice.ensures.value c.in_ok-then-in-Choice.ensures.made)
    (subst (λ ps. MakesNodesIn c.args.scene.now c.args.paths.now c.nodes_of-in-Choice.new.made c.nodes_of-in-Choice-2.new.made (all_gathered (phases_seen ps)) (nodes_seen two.items)) c.as_slice-in-Choice-2.ensures.value c.in_ok-other-in-Choice.ensures.made))

pub node_of-returns-in_ok-other-in-Choice-clause-once : goal.node_of-returns-in_ok-other-in-Choice-clause-once
node_of-returns-in_ok-other-in-Choice-clause-once t c =
    let tested = c.in_ok-tested-in-Choice.tested in
    let one = c.in_ok-then-in-Choice.then in
    let two = c.in_ok-other-in-Choice.other in
    once_seen c.args.made.now c.nodes_of-in-Choice-2.new.made _ _ (choice_is tested.block tested.flag one two)
    (once_then c.args.made.now c.test_block-in-Choice.new.made c.nodes_of-in-Choice-2.new.made (tested.block ∷ []) (blocks_of (nodes_seen one.items) ++ blocks_of (nodes_seen two.items)) c.in_ok-tested-in-Choice.ensures.once
    (once_then c.test_block-in-Choice.new.made c.nodes_of-in-Choice.new.made c.nodes_of-in-Choice-2.new.made (blocks_of (nodes_seen one.items)) (blocks_of (nodes_seen two.items)) c.in_ok-then-in-Choice.ensures.once c.in_ok-other-in-Choice.ensures.once))

pub nodes_of-loop-phase-init : goal.nodes_of-loop-phase-init
nodes_of-loop-phase-init t c = (
  nodes_begin c.args.scene.now c.args.paths.now c.args.made.now c.args.phases.now c.new-nodes.result.items c.new-nodes.ensures.items,
  once_begin c.args.made.now c.new-nodes.result.items c.new-nodes.ensures.items,
)

pub nodes_of-loop-phase-preserved : goal.nodes_of-loop-phase-preserved
nodes_of-loop-phase-preserved t c = (
  nodes_turn c.args.scene.now c.args.paths.now c.args.made.now c.loop-phase.made c.node_of.new.made c.args.phases.now c.loop-phase.phase-index c.phase-item.result c.loop-phase.nodes.items c.push.new.self.items c.in_ok-node_of.field-0
      c.loop-phase-test.true c.phase-item.is c.in_ok-push.ensures.items c.in_ok-node_of.ensures.made c.loop-phase.invariant.0,
  once_turn c.args.made.now c.loop-phase.made c.node_of.new.made c.loop-phase.nodes.items c.push.new.self.items c.in_ok-node_of.field-0 c.in_ok-push.ensures.items c.in_ok-node_of.ensures.once c.loop-phase.invariant.1,
)

pub nodes_of-returns-clause-made : goal.nodes_of-returns-clause-made
nodes_of-returns-clause-made t c =
    nodes_end c.args.scene.now c.args.paths.now c.args.made.now c.loop-phase.made c.args.phases.now _ c.loop-phase.nodes.items (drop_all c.loop-phase.phase-index c.args.phases.now c.loop-phase-test.false) c.loop-phase.invariant.0
