use Rattle.std.proofs.Common.{arith}
use Rattle.dh_viewing.proofs.Covered.{inner_some, covered_next, covered_small}
use Rattle.dh_viewing.proofs.bank_sets.covering_bank.Goals as goal

pub overflow_mul-bank : goal.overflow_mul-bank
overflow_mul-bank c = let few = covered_small c.args.view.now c.args.parent.now c.loop-i.i (record { size = 0; banks = 0 }) c.requires.view c.requires.parent c.requires.long c.loop-i-test.true c.args.parent_bank c.loop-i.inner c.loop-i.rest c.loop-i.bank c.loop-i.invariant in omega (arith, few)

pub nonzero_div-bank : goal.nonzero_div-bank
nonzero_div-bank c = inner_some c.args.view.now c.args.parent.now c.loop-i.i (record { size = 0; banks = 0 }) c.requires.view c.requires.parent c.requires.long c.loop-i-test.true c.loop-i.inner c.loop-i.invariant.inner_is

pub overflow_add-bank : goal.overflow_add-bank
overflow_add-bank c = let few = covered_small c.args.view.now c.args.parent.now c.loop-i.i (record { size = 0; banks = 0 }) c.requires.view c.requires.parent c.requires.long c.loop-i-test.true c.args.parent_bank c.loop-i.inner c.loop-i.rest c.loop-i.bank c.loop-i.invariant in omega (arith, few)

pub nonzero_rem-rest : goal.nonzero_rem-rest
nonzero_rem-rest c = inner_some c.args.view.now c.args.parent.now c.loop-i.i (record { size = 0; banks = 0 }) c.requires.view c.requires.parent c.requires.long c.loop-i-test.true c.loop-i.inner c.loop-i.invariant.inner_is

pub loop-i-preserved : goal.loop-i-preserved
loop-i-preserved c = covered_next c.args.view.now c.args.parent.now c.loop-i.i (record { size = 0; banks = 0 }) c.requires.view c.requires.parent c.requires.long c.loop-i-test.true c.args.parent_bank c.loop-i.inner c.loop-i.rest c.loop-i.bank c.loop-i.invariant
