use Rattle.std.proofs.Common.{◌≡◌, ℕ, ◌≤◌, length, arith}
use Rattle.dh_expressions.specs.Copying.{banks_by, groups_by, leaders_by}
use Rattle.dh_expressions.proofs.CopiesCounted.{ranks_rise}
use Rattle.dh_expressions.proofs.CopiesMade.{copies_made, counted_first, counted_more}
use Rattle.dh_expressions.proofs.copies.copies_by.Goals as goal

pub loop-number-init : goal.loop-number-init
loop-number-init c =
    counted_first (leaders_by c.args.around.levels.now c.args.counts.now) (banks_by c.args.spans.now c.args.around.levels.now c.args.named) (groups_by c.args.around.levels.now c.args.shifts) c.args.around.guards.now c.args.draft.now c.no_tally-tally.result
    c.count_none.new.numbers.items c.no_copies-copies.result.items c.no_tally-tally.ensures c.count_none.ensures c.no_copies-copies.ensures

pub loop-number-preserved : goal.loop-number-preserved
loop-number-preserved c =
    counted_more (leaders_by c.args.around.levels.now c.args.counts.now) (banks_by c.args.spans.now c.args.around.levels.now c.args.named) (groups_by c.args.around.levels.now c.args.shifts) c.args.around.guards.now (λ p. low p) (λ m k le. ranks_rise c.args.around.levels.now c.args.shifts m k le)
    c.args.draft.now c.loop-number.draft c.add_copy.new.draft c.loop-number.tally c.in_ok-next.next c.loop-number.numbers.items c.place_next.new.numbers.items c.loop-number.number c.leader_of-leader.result c.bank_at-bank.result c.rank_at-group.result c.in_ok-next.place c.is_leader-leads.result
    c.guard_at-guard.result c.loop-number.copies.items c.add_copy.new.copies.items (let w = c.loop-number-test.true in let l = c.path_count-count.type_inv in omega (arith, w, l)) c.leader_of-leader.ensures c.bank_at-bank.ensures c.rank_at-group.ensures c.is_leader-leads.ensures c.guard_at-guard.ensures
    c.in_ok-next.ensures c.in_ok-add_copy.ensures c.loop-number.invariant
  where
    low : (p : ℕ) → leaders_by c.args.around.levels.now c.args.counts.now p ≤ p
    low p = omega arith

pub returns : goal.returns
returns c =
    let end : c.loop-number.number ≡ length c.args.around.guards.now = let l = c.loop-number-test.false in let e = c.loop-number.auto.number-end in let n = c.path_count-count.ensures in omega (arith, l, e, n) in
    copies_made (leaders_by c.args.around.levels.now c.args.counts.now) (banks_by c.args.spans.now c.args.around.levels.now c.args.named) (groups_by c.args.around.levels.now c.args.shifts) c.args.around.guards.now c.args.draft.now c.loop-number.draft c.count_none-2.new.numbers.items c.loop-number.number
    c.loop-number.copies.items end c.loop-number.invariant.copied c.count_none-2.ensures
