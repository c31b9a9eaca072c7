use Rattle.std.proofs.Common.{ℕ, ◌<◌, ◌≤◌, ◌+◌, get_or, slice_index, refl, ap, sym, subst, ◌∙◌, arith}
use Rattle.dh_viewing.specs.Carried.{largest}
use Rattle.dh_ports.proofs.GroupTurns.{added_all, added_fits, added_none, added_turn}
use Rattle.dh_ports.proofs.grouping.add_carried.Goals as goal

pub loop-bank-init : goal.loop-bank-init
loop-bank-init c = added_none c.args.carrier.now (slice_index c.args.counts.now) c.args.sums.now

pub carried_at-more-requires-clause-there : goal.carried_at-more-requires-clause-there
carried_at-more-requires-clause-there c = subst (λ (n : ℕ). c.loop-bank.bank < n) c.requires.long c.loop-bank-test.true

pub carried_at-more-requires-clause-within : goal.carried_at-more-requires-clause-within
carried_at-more-requires-clause-within c =
    subst (λ (n : ℕ). slice_index c.args.carrier.now.sources.items c.loop-bank.bank < n) (sym c.requires.banks) (c.requires.within c.loop-bank.bank (subst (λ (n : ℕ). c.loop-bank.bank < n) c.requires.long c.loop-bank-test.true))

pub carried_at-more-requires-clause-most : goal.carried_at-more-requires-clause-most
carried_at-more-requires-clause-most c = c.largest_of-most.ensures ∙ ap (largest (slice_index c.args.counts.now)) c.requires.banks

pub overflow_add-sum : goal.overflow_add-sum
overflow_add-sum c =
    let few : get_or c.loop-bank.sums c.loop-bank.bank 0 + c.carried_at-more.result ≤ 256 =
    added_fits c.args.carrier.now (slice_index c.args.counts.now) c.args.sums.now c.loop-bank.sums c.loop-bank.bank c.carried_at-more.result c.loop-bank-test.true c.loop-bank.invariant c.carried_at-more.ensures (c.requires.few c.loop-bank.bank c.loop-bank-test.true) in
    omega (arith, few)

pub loop-bank-preserved : goal.loop-bank-preserved
loop-bank-preserved c =
    added_turn c.args.carrier.now (slice_index c.args.counts.now) c.args.sums.now c.loop-bank.sums c.loop-bank.bank c.carried_at-more.result (get_or c.loop-bank.sums c.loop-bank.bank 0 + c.carried_at-more.result) c.loop-bank-test.true c.loop-bank.invariant c.carried_at-more.ensures refl

pub returns : goal.returns
returns c = added_all c.args.carrier.now (slice_index c.args.counts.now) c.args.sums.now c.loop-bank.sums c.loop-bank.bank c.loop-bank-test.false c.loop-bank.invariant
