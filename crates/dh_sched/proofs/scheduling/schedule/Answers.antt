use Rattle.std.proofs.Common.{◌≡◌, ℕ, suc, ◌+◌, List, length, subst, sym, ap, ◌∙◌}
use Rattle.std.specs.Prelude.{[], ◌∷◌, ◌++◌}
use Rattle.dh_plan.specs.LegalSchedules.{last_clock}
use Rattle.dh_sched.specs.LeastBlocks.{AreScheduled, AreDone}
use Rattle.dh_sched.proofs.JudgedBlocks.{here_is}
use Rattle.dh_sched.proofs.DoneBlocks.{start_done, done_turn, ordered_here}
use Rattle.dh_sched.proofs.scheduling.schedule.Goals as goal

pub loop-block-init : goal.loop-block-init
loop-block-init c =
    let bs = c.as_slice-blocks.result.now in
    subst (λ (xs : List ℕ). AreDone c.args.limits bs xs c.in_ok-lengths.lengths.items 0) (sym c.in_ok-clocks.ensures.items)
    (subst (λ (ys : List ℕ). AreDone c.args.limits bs [] ys 0) (sym c.in_ok-lengths.ensures.items) (start_done c.args.limits bs))

pub block_clocks-requires : goal.block_clocks-requires
block_clocks-requires c =
    let bs = c.as_slice-blocks.result.now in
    let os = c.as_slice-operations.result.now in
    let n = c.loop-block.block-index in
    let is = here_is bs n c.block-item.result os c.loop-block-test.true c.block-item.is c.as_slice-operations.ensures in
    let long : c.len.result ≡ length c.loop-block.clocks.items = c.len.ensures ∙ c.loop-block.clocks.ok.0 in
    ordered_here bs c.args.plan.now.blocks n c.len.result os c.as_slice-blocks.ensures is (long ∙ c.loop-block.invariant.all_clocks) (c.requires n)

pub loop-block-preserved : goal.loop-block-preserved
loop-block-preserved c =
    let bs = c.as_slice-blocks.result.now in
    let os = c.as_slice-operations.result.now in
    let n = c.loop-block.block-index in
    let cs = c.loop-block.clocks.items in
    let ls = c.loop-block.lengths.items in
    let own = c.in_ok-own.own.items in
    let l = c.block_length.result in
    let is = here_is bs n c.block-item.result os c.loop-block-test.true c.block-item.is c.as_slice-operations.ensures in
    let long : c.len.result ≡ length cs = c.len.ensures ∙ c.loop-block.clocks.ok.0 in
    let scheduled = subst (λ (k : ℕ). AreScheduled c.args.limits k os own) long c.in_ok-own.ensures.scheduled in
    let length_is : l ≡ suc (last_clock os own) = c.block_length.ensures ∙ ap (λ (xs : List ℕ). suc (last_clock os xs)) c.as_slice.ensures.value in
    let extended : c.extend_from_slice.new.self.items ≡ cs ++ own = c.in_ok-extend_from_slice.ensures.items ∙ ap (λ (xs : List ℕ). cs ++ xs) c.as_slice-in-loop-block.ensures.value in
    let pushed : c.push.new.self.items ≡ ls ++ l ∷ [] = c.in_ok-push.ensures.items in
    subst (λ (xs : List ℕ). AreDone c.args.limits bs xs c.push.new.self.items (n + 1)) (sym extended)
    (subst (λ (ys : List ℕ). AreDone c.args.limits bs (cs ++ own) ys (n + 1)) (sym pushed)
    (done_turn c.args.limits bs cs ls own os l n c.loop-block-test.true is c.loop-block.invariant scheduled length_is))
