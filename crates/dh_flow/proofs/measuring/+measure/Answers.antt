use Rattle.dh_flow.proofs.MarksLeft.{step_inside, none_inside, choice_inside, threads_inside, lists_turn}
use Rattle.dh_flow.proofs.measuring.+measure.Goals as goal

pub measure_inside-returns-then-count-eq0 : goal.measure_inside-returns-then-count-eq0
measure_inside-returns-then-count-eq0 t c =
    none_inside c.args.node.now c.in-Turns.counter c.in-Turns.count c.in-Turns.body c.blank-then-count-eq0.result c.plain_mark-then-count-eq0.result c.args.marks.now.items c.in-Turns.is c.if-count-eq0.true c.blank-then-count-eq0.ensures c.plain_mark-then-count-eq0.ensures

pub measure_inside-returns-in-Step : goal.measure_inside-returns-in-Step
measure_inside-returns-in-Step t c =
    step_inside c.args.node.now c.in-Step.block c.blank.result c.tested.result c.plain_mark.result c.args.marks.now.items c.in-Step.is c.blank.ensures c.tested.ensures c.plain_mark.ensures

pub measure_inside-returns-in_ok-then-in-Choice : goal.measure_inside-returns-in_ok-then-in-Choice
measure_inside-returns-in_ok-then-in-Choice t c =
    choice_inside c.args.node.now c.in-Choice.test c.in-Choice.flag c.in-Choice.«then» c.in-Choice.other c.as_slice-in-Choice-2.result.now c.as_slice-in-Choice.result.now c.in_ok-then-in-Choice.«then» c.in_ok-other-in-Choice.other c.choice_mark.result
    c.args.marks.now.items c.measure-in-Choice.new.marks.items c.measure-in-Choice-2.new.marks.items c.in-Choice.is c.as_slice-in-Choice-2.ensures.value c.as_slice-in-Choice.ensures.value c.in_ok-other-in-Choice.ensures c.in_ok-then-in-Choice.ensures c.choice_mark.ensures

pub measure_inside-returns-in_ok-all-in-Threads : goal.measure_inside-returns-in_ok-all-in-Threads
measure_inside-returns-in_ok-all-in-Threads t c =
    threads_inside c.args.node.now c.in-Threads.lists c.as_slice-lists.result.now c.in_ok-all-in-Threads.all c.forked.result _ c.plain_mark-in-Threads.result c.args.marks.now.items c.measure_lists.new.marks.items
    c.in-Threads.is c.as_slice-lists.ensures.value c.in_ok-all-in-Threads.ensures c.list_number.ensures c.forked.ensures c.plain_mark-in-Threads.ensures

pub measure_lists-loop-i-preserved : goal.measure_lists-loop-i-preserved
measure_lists-loop-i-preserved t c =
    lists_turn c.args.lists.now c.loop-i.i c.loop-j.j c.index-lists-i.result c.as_slice-list.result.now c.args.marks.now.items c.loop-i.marks.items c.loop-j.marks.items c.leave-in-loop-i.new.marks.items c.loop-i.whole c.loop-j.footprint c.in_ok-whole.whole c.plain_mark.result
    c.loop-i-test.true c.loop-i.auto.i c.index-lists-i.is c.as_slice-list.ensures.value c.loop-j-test.false c.loop-j.invariant c.plain_mark.ensures c.in_ok-whole.ensures.mark c.in_ok-whole.ensures.whole c.loop-i.invariant
