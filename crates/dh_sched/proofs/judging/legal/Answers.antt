use Rattle.std.proofs.Common.{arith, ◌≡◌, IsTrue, length, take, drop, get_or, sym, false}
use Rattle.std.specs.Prelude.{◌↔◌}
use Rattle.std.proofs.Common.{◌+◌, ◌-◌}
use Rattle.dh_plan.specs.LegalSchedules.{IsLegalBlock, IsLegal}
use Rattle.dh_plan.specs.Passes.{timing_seen}
use Rattle.dh_plan.specs.SeenPlans.{plan_seen}
use Rattle.dh_sched.proofs.Rests.{refused}
use Rattle.dh_sched.proofs.JudgedBlocks.{none_before, here_is, legal_below, legal_there, enough_clocks, next_first, judged_is}
use Rattle.dh_sched.proofs.judging.legal.Goals as goal

pub loop-number-init : goal.loop-number-init
loop-number-init c = let e = none_before c.as_slice-blocks.result.now in record { first_is = sym e; within = omega arith; legal = λ b h. absurd (omega (arith, h)) }

pub returns-then-clocks-first : goal.returns-then-clocks-first
returns-then-clocks-first c =
    let bs = c.as_slice-blocks.result.now in
    let os = c.as_slice-operations.result.now in
    let n = c.loop-number.number in
    let is = here_is bs n c.index-blocks-number.result os c.loop-number-test.true c.index-blocks-number.is c.as_slice-operations.ensures in
    refused (IsLegal (plan_seen c.args.plan.now) c.args.limits (timing_seen c.args.schedule.now))
    (λ legal.
    let enough = enough_clocks c.args.limits (plan_seen c.args.plan.now) (timing_seen c.args.schedule.now) bs c.as_slice-clocks.result.now n c.loop-number.first os
    c.as_slice-blocks.ensures c.as_slice-clocks.ensures c.loop-number-test.true is c.loop-number.invariant.first_is legal in
    omega (arith, enough, c.if-clocks-first.true))

pub returns-then-not-branch : goal.returns-then-not-branch
returns-then-not-branch c =
    let bs = c.as_slice-blocks.result.now in
    let cs = c.as_slice-clocks.result.now in
    let ls = c.as_slice-lengths.result.now in
    let os = c.as_slice-operations.result.now in
    let n = c.loop-number.number in
    let first = c.loop-number.first in
    let is = here_is bs n c.index-blocks-number.result os c.loop-number-test.true c.index-blocks-number.is c.as_slice-operations.ensures in
    let judged : IsTrue c.in_ok-is_legal_block.field-0 ↔ IsLegalBlock c.args.limits first os (take ((first + length os) - first) (drop first cs)) (get_or ls n 0) = c.in_ok-is_legal_block.ensures in
    let g : c.in_ok-is_legal_block.field-0 ≡ false = c.if-not-branch.true in
    refused (IsLegal (plan_seen c.args.plan.now) c.args.limits (timing_seen c.args.schedule.now))
    (λ legal.
    let there = legal_there c.args.limits (plan_seen c.args.plan.now) (timing_seen c.args.schedule.now) bs cs ls n c.as_slice-blocks.ensures c.as_slice-clocks.ensures
    c.as_slice-lengths.ensures c.loop-number-test.true legal in
    let h = (judged_is c.args.limits bs cs ls n first os is c.loop-number.invariant.first_is).1 there in
    let t = judged.1 h in
    cc)

pub loop-number-preserved : goal.loop-number-preserved
loop-number-preserved c =
    let bs = c.as_slice-blocks.result.now in
    let cs = c.as_slice-clocks.result.now in
    let ls = c.as_slice-lengths.result.now in
    let os = c.as_slice-operations.result.now in
    let n = c.loop-number.number in
    let first = c.loop-number.first in
    let is = here_is bs n c.index-blocks-number.result os c.loop-number-test.true c.index-blocks-number.is c.as_slice-operations.ensures in
    let judged : IsTrue c.in_ok-is_legal_block.field-0 ↔ IsLegalBlock c.args.limits first os (take ((first + length os) - first) (drop first cs)) (get_or ls n 0) = c.in_ok-is_legal_block.ensures in
    let here = (judged_is c.args.limits bs cs ls n first os is c.loop-number.invariant.first_is).0 (judged.0 c.if-not-branch.false) in
    record {
      first_is = next_first bs n first os c.loop-number-test.true is c.loop-number.invariant.first_is;
      within = omega (arith, c.if-clocks-first.false, c.loop-number.invariant.within);
      legal = legal_below c.args.limits bs cs ls n c.loop-number.invariant.legal here;
    }
