use Rattle.std.proofs.Common.{◌<◌, refl, arith, get_or}
use Rattle.std.specs.List.{AllByRecursion}
use Rattle.dh_base.proofs.ListItems.{at_item}
use Rattle.dh_plan.specs.LegalSchedules.{IsWithin, depths_in}
use Rattle.dh_sched.proofs.Rests.{refused}
use Rattle.dh_sched.proofs.KeptChains.{too_deep, all_kept}
use Rattle.dh_sched.proofs.chains.chains_are_kept.Goals as goal

pub returns-then-depth-from : goal.returns-then-depth-from
returns-then-depth-from c =
    let os = c.args.operations.now in
    let cs = c.args.clocks.now in
    let i = c.loop-i.i in
    let deep : c.args.limit < c.depth_at-depth.result = omega (arith, c.if-depth-from.true, c.from.ensures) in
    refused (AllByRecursion (IsWithin c.args.limit) (depths_in c.args.first os cs))
    (too_deep c.args.limit c.args.first i c.depth_at-depth.result (get_or cs i 0) cs c.loop-i.depths.items c.as_slice.result.now os c.index-operations-i.result
    c.if-limit-eq0.false deep (at_item os i c.index-operations-i.result c.loop-i-test.true c.index-operations-i.is) c.loop-i.invariant.long c.as_slice.ensures.value refl
    c.depth_at-depth.ensures c.loop-i.invariant.so_far)

pub returns : goal.returns
returns c = (
  λ h. all_kept c.args.limit c.args.first c.loop-i.i c.args.clocks.now c.loop-i.depths.items c.args.operations.now c.loop-i-test.false c.loop-i.invariant.so_far
      c.loop-i.invariant.within,
  λ h. refl,
)
