use Rattle.std.proofs.Common.{◌≡◌, ℕ, ◌+◌, ◌*◌, ◌≤◌, List, length, take, subst, sym}
use Rattle.std.specs.Prelude.{[], ◌∷◌, ◌++◌}
use Rattle.dh_plan.specs.LegalSchedules.{IsWithin, depth_at}
use Rattle.dh_sched.specs.LeastBlocks.{IsLeastClock, AreCounts}
use Rattle.dh_sched.specs.Sorts.{AreShallow}
use Rattle.dh_sched.proofs.BlockGrows.{grown, chain_within}
use Rattle.dh_sched.proofs.scheduling.block_clocks.Goals as goal

pub note_depth-requires-clause-within : goal.note_depth-requires-clause-within
note_depth-requires-clause-within c =
    let before = take c.loop-i.i c.args.operations.now in
    let least : IsLeastClock c.args.limits c.args.first before c.as_slice.result.now c.index-operations-i.result c.in_ok-clock.clock = c.in_ok-clock.ensures.least in
    let stands = subst (λ (xs : List ℕ). IsLeastClock c.args.limits c.args.first before xs c.index-operations-i.result c.in_ok-clock.clock) c.as_slice.ensures.value least in
    subst (λ (xs : List ℕ). IsWithin c.args.limits.chain (depth_at c.args.first c.in_ok-clock.clock xs c.loop-i.depths.items c.index-operations-i.result))
    (sym c.as_slice-in-loop-i-3.ensures.value)
    (chain_within c.args.limits.chain c.args.first before c.loop-i.clocks.items c.loop-i.depths.items c.index-operations-i.result c.in_ok-clock.clock c.loop-i.invariant.depths
    stands.0.chain)

pub loop-i-preserved : goal.loop-i-preserved
loop-i-preserved c =
    let before = take c.loop-i.i c.args.operations.now in
    let o = c.index-operations-i.result in
    let clock = c.in_ok-clock.clock in
    let least : IsLeastClock c.args.limits c.args.first before c.as_slice.result.now o clock = c.in_ok-clock.ensures.least in
    let low : clock ≤ 2 * length before + 2 = c.in_ok-clock.ensures.low in
    let counts : AreCounts c.args.limits.multipliers (before ++ o ∷ []) (c.as_slice.result.now ++ clock ∷ []) c.least_clock.new.counts.items c.least_clock.new.ways.items =
    c.in_ok-clock.ensures.counts in
    let noted : 1 ≤ c.args.limits.chain → c.note_depth.new.depths.items
    ≡ c.loop-i.depths.items ++ depth_at c.args.first clock c.as_slice-in-loop-i-3.result.now c.loop-i.depths.items o ∷ [] = c.in_ok-note_depth.ensures.limited in
    let shallow : AreShallow c.note_depth.new.depths.items = c.in_ok-note_depth.ensures.shallow in
    let pushed : c.push.new.self.items ≡ c.loop-i.clocks.items ++ clock ∷ [] = c.in_ok-push.ensures.items in
    let all = grown c.args.limits c.args.first c.args.operations.now c.loop-i.i o c.requires c.loop-i-test.true c.index-operations-i.is c.loop-i.clocks.items c.as_slice.result.now
    c.as_slice-in-loop-i-3.result.now c.push.new.self.items clock c.loop-i.depths.items c.note_depth.new.depths.items c.least_clock.new.counts.items c.least_clock.new.ways.items
    c.as_slice.ensures.value c.as_slice-in-loop-i-3.ensures.value pushed c.loop-i.invariant.scheduled c.loop-i.invariant.depths least low counts noted shallow in
    record { scheduled = all.0; depths = all.1.0; counts = all.1.1 }
