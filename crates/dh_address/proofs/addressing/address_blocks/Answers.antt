use Rattle.std.proofs.Common.{rules}
use Rattle.std.proofs.lemmas.Result.{IfOk-weaker}
use Rattle.dh_plan.specs.SeenPlans.{plan_seen}
use Rattle.dh_address.proofs.PlanBlocks.{laid_first, laid_turn, laid_end}
use Rattle.dh_address.proofs.addressing.address_blocks.Goals as goal

pub loop-block-init : goal.loop-block-init
loop-block-init c = laid_first (plan_seen c.args.plan.now) c.in_ok-list.list c.new-starts.result.items c.in_ok-list.ensures c.new-starts.ensures.items

pub loop-block-preserved : goal.loop-block-preserved
loop-block-preserved c =
    laid_turn (plan_seen c.args.plan.now) c.as_slice-block-items.result.now c.loop-block.block-index c.block-item.result c.loop-block.list c.push_block.new.list c.loop-block.starts.items c.push.new.self.items
    c.len.result c.loop-block.first c.any_takes_probe.result c.as_slice.result.now c.as_slice-in-loop-block.result.now c.as_slice-operations.result.now c.as_slice-in-loop-block-2.result.now c.as_slice-block-items.ensures c.loop-block-test.true
    c.block-item.is c.loop-block.invariant c.as_slice.ensures c.as_slice-in-loop-block.ensures c.as_slice-operations.ensures c.as_slice-in-loop-block-2.ensures c.any_takes_probe.ensures c.len.ensures c.in_ok-push.ensures.items (search rules)
    c.in_ok-push_block.ensures

pub returns : goal.returns
returns c =
    IfOk-weaker c.cut_blocks.result _ _
    (λ found cut. laid_end (plan_seen c.args.plan.now) c.as_slice-block-items.result.now c.loop-block.block-index c.loop-block.list c.into_vec.result.items c.loop-block.starts.items c.as_slice-2.result.now
    c.loop-block.first found c.as_slice-block-items.ensures c.loop-block-test.false c.loop-block.auto.block-index-end c.loop-block.invariant c.into_vec.ensures c.as_slice-2.ensures.value cut)
    c.cut_blocks.ensures
