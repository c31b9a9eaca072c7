use Rattle.std.proofs.Common.{◌-◌, refl, ap, ◌∙◌}
use Rattle.std.proofs.lemmas.Result.{on_ok_weaker}
use Rattle.dh_plan.specs.SeenPlans.{node_seen}
use Rattle.dh_flow.specs.ToldWays.{decision_told, told_go, told_rest}
use Rattle.dh_flow.specs.GraphWalks.{cut_sum}
use Rattle.dh_flow.proofs.ToldForms.{rest_is, go_is}
use Rattle.dh_flow.proofs.WalksMade.{walks_next}
use Rattle.dh_flow.proofs.WalksTurned.{nodes_begin, nodes_turn, nodes_end, lists_turn, lists_end, turned_at_rest, told_at_rest, told_there}
use Rattle.dh_flow.proofs.WalksSeen.{step_seen, no_turn_seen, turns_seen, loop_seen, choice_seen, threads_seen}
use Rattle.dh_flow.proofs.walking.+walk.Goals as goal

pub walk-loop-node-preserved : goal.walk-loop-node-preserved
walk-loop-node-preserved t c =
    nodes_turn c.args.nodes.now c.loop-node.node-index c.args.own c.node-item.result (decision_told c.args.way.now) c.args.marks.now.items c.loop-node.marks.items c.walk_next.new.marks.items c.args.graph.now c.loop-node.graph c.walk_next.new.graph
    c.loop-node-test.true c.node-item.is c.in_ok-walk_next.ensures c.loop-node.invariant

pub walk-returns : goal.walk-returns
walk-returns t c = nodes_end c.args.nodes.now c.loop-node.node-index c.args.own (decision_told c.args.way.now) c.args.marks.now.items c.loop-node.marks.items c.args.graph.now c.loop-node.graph c.loop-node-test.false c.loop-node.invariant

pub walk_lists-loop-node-init : goal.walk_lists-loop-node-init
walk_lists-loop-node-init t c = (nodes_begin c.deref-node-items.result.now c.loop-list.group told_rest c.take_up-mark.new.marks.items c.loop-list.graph, refl)

pub walk_lists-loop-node-preserved : goal.walk_lists-loop-node-preserved
walk_lists-loop-node-preserved t c = (
  turned_at_rest c.deref-node-items.result.now c.loop-node.node-index c.loop-list.group c.node-item.result _ c.take_up-mark.new.marks.items c.loop-node.marks.items c.walk_next.new.marks.items _ c.loop-node.graph c.walk_next.new.graph
      rest_is c.loop-node-test.true c.node-item.is c.in_ok-walk_next.ensures c.loop-node.invariant.0,
  c.loop-node.invariant.1,
)

pub walk_lists-loop-list-preserved : goal.walk_lists-loop-list-preserved
walk_lists-loop-list-preserved t c =
    lists_turn c.args.lists.now c.loop-list.list-index c.loop-node.node-index c.args.parent c.args.own c.loop-list.group c.saturating_add-group.result c.list-item.result c.deref-node-items.result.now c.args.way c.in_ok-begins.begins c.loop-list.after c.take.result _ c.take_up-mark.result _
    c.args.marks.now.items c.loop-list.marks.items c.take_up-mark.new.marks.items c.loop-node.marks.items c.args.graph.now c.loop-list.graph c.loop-node.graph c.loop-list.groups.items c.push.new.self.items
    c.loop-list-test.true c.list-item.is c.deref-node-items.ensures.value c.take_up-mark.ensures
    (told_at_rest _ _ _ _ _ _ _ rest_is c.state_count.ensures c.group_count.ensures c.in_ok-begins.ensures)
    c.take.ensures.value (c.loop-node.invariant.1 ∙ c.take.ensures.after) refl c.in_ok-push.ensures.items c.saturating_add-group.ensures c.loop-node-test.false c.loop-node.invariant.0 c.loop-list.invariant

pub walk_lists-returns : goal.walk_lists-returns
walk_lists-returns t c =
    lists_end c.args.lists.now c.loop-list.list-index c.args.parent c.args.own c.loop-list.group c.args.way c.loop-list.after c.args.marks.now.items c.loop-list.marks.items c.args.graph.now c.loop-list.graph c.loop-list.groups.items c.loop-list-test.false c.loop-list.invariant

pub walk_next-returns : goal.walk_next-returns
walk_next-returns t c =
    on_ok_weaker c.walk_node.result (λ node. walks_next (node_seen c.args.node.now) c.args.own c.take_up-mark.result (decision_told c.args.way.now) (decision_told c.in_ok-next.next) c.args.marks.now.items c.take_up-mark.new.marks.items c.walk_node.new.marks.items c.args.graph.now c.walk_node.new.graph
    c.take_up-mark.ensures
    (told_there c.take_up-mark.result.behind _ _ _ _ _ _ (c.saturating_add-state.ensures ∙ ap (λ x. cut_sum x c.take_up-mark.result.own.states) c.state_count.ensures) (c.saturating_add-first.ensures ∙ ap (λ x. cut_sum x c.take_up-mark.result.own.groups) c.group_count.ensures) c.in_ok-next.ensures)
    node) c.walk_node.ensures

pub walk_node-returns-in-Step : goal.walk_node-returns-in-Step
walk_node-returns-in-Step t c =
    on_ok_weaker c.push_state.result (λ pushes. step_seen c.args.node.now c.args.own c.args.mark (decision_told c.args.way) c.args.marks.now.items c.args.graph.now c.push_state.new.graph c.in-Step.block c.in-Step.is pushes) c.push_state.ensures

pub walk_node-returns-then-count-eq0 : goal.walk_node-returns-then-count-eq0
walk_node-returns-then-count-eq0 t c = no_turn_seen c.args.node.now c.args.own c.args.mark (decision_told c.args.way) c.args.marks.now.items c.args.graph.now c.in-Turns.counter c.in-Turns.count c.in-Turns.body c.in-Turns.is c.if-count-eq0.true

pub walk_node-returns-in_ok-next-in-Turns : goal.walk_node-returns-in_ok-next-in-Turns
walk_node-returns-in_ok-next-in-Turns t c =
    on_ok_weaker c.walk.result (λ walks. turns_seen c.args.node.now c.args.own c.args.mark (decision_told c.args.way) c.args.marks.now.items c.walk.new.marks.items c.args.graph.now c.walk.new.graph c.in-Turns.counter c.in-Turns.count (c.in-Turns.count - 1) c.in-Turns.body
    c.as_slice.result.now (decision_told c.in_ok-next-in-Turns.next) c.in-Turns.is c.as_slice.ensures.value c.if-count-eq0.false refl c.in_ok-next-in-Turns.ensures walks) c.walk.ensures

pub walk_node-returns-in_ok-push_state-in-Loop : goal.walk_node-returns-in_ok-push_state-in-Loop
walk_node-returns-in_ok-push_state-in-Loop t c =
    on_ok_weaker c.walk-in-Loop.result (λ walks. loop_seen c.args.node.now c.args.own c.args.mark (decision_told c.args.way) c.args.marks.now.items c.walk-in-Loop.new.marks.items c.args.graph.now c.walk-in-Loop.new.graph c.in-Loop.test c.in-Loop.flag c.in-Loop.body
    c.as_slice-in-Loop.result.now (decision_told c.in_ok-next-in-Loop.next) _ c.push_state-in-Loop.new.graph c.in-Loop.is c.as_slice-in-Loop.ensures.value c.in_ok-next-in-Loop.ensures c.in_ok-push_state-in-Loop.ensures (go_is c.state_count.result ∙ ap told_go c.state_count.ensures) walks) c.walk-in-Loop.ensures

pub walk_node-returns-in_ok-walk-in-Choice : goal.walk_node-returns-in_ok-walk-in-Choice
walk_node-returns-in_ok-walk-in-Choice t c =
    on_ok_weaker c.walk-in-Choice-2.result (λ walks. choice_seen c.args.node.now c.args.own c.args.mark (decision_told c.args.way) c.args.marks.now.items c.walk-in-Choice-2.new.marks.items c.args.graph.now c.walk-in-Choice-2.new.graph c.in-Choice.test c.in-Choice.flag c.in-Choice.«then» c.in-Choice.other
    c.as_slice-in-Choice.result.now c.as_slice-in-Choice-2.result.now (decision_told c.in_ok-next-in-Choice.next) c.walk-in-Choice.new.marks.items c.push_state-in-Choice.new.graph c.walk-in-Choice.new.graph c.in-Choice.is c.as_slice-in-Choice.ensures.value c.as_slice-in-Choice-2.ensures.value
    c.in_ok-next-in-Choice.ensures c.in_ok-push_state-in-Choice.ensures c.in_ok-walk-in-Choice.ensures walks) c.walk-in-Choice-2.ensures

pub walk_node-returns-in_ok-groups-in-Threads : goal.walk_node-returns-in_ok-groups-in-Threads
walk_node-returns-in_ok-groups-in-Threads t c =
    on_ok_weaker c.add_groups.result (λ adds. threads_seen c.args.node.now c.args.own c.args.mark (decision_told c.args.way) c.args.marks.now.items c.walk_lists.new.marks.items c.args.graph.now c.add_groups.new.graph c.in-Threads.lists c.as_slice-lists.result.now c.first_group-first.result c.in_ok-groups-in-Threads.groups.items c.walk_lists.new.graph
    c.in-Threads.is c.as_slice-lists.ensures.value c.first_group-first.ensures c.in_ok-groups-in-Threads.ensures adds) c.add_groups.ensures
