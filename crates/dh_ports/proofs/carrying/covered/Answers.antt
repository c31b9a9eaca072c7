use Rattle.std.proofs.Common.{arith}
use Rattle.dh_viewing.proofs.Covered.{inner_some, covered_next, covered_small}
use Rattle.dh_ports.proofs.carrying.covered.Goals as goal

pub overflow_mul-own : goal.overflow_mul-own
overflow_mul-own c = let few = covered_small c.args.view.now c.args.parent.now c.loop-i.i (record { size = 0; banks = 0 }) c.requires.view c.requires.parent c.requires.long c.loop-i-test.true c.args.bank c.loop-i.inner c.loop-i.rest c.loop-i.own c.loop-i.invariant in omega (arith, few)

pub nonzero_div-own : goal.nonzero_div-own
nonzero_div-own c = inner_some c.args.view.now c.args.parent.now c.loop-i.i (record { size = 0; banks = 0 }) c.requires.view c.requires.parent c.requires.long c.loop-i-test.true c.loop-i.inner c.loop-i.invariant.inner_is

pub overflow_add-own : goal.overflow_add-own
overflow_add-own c = let few = covered_small c.args.view.now c.args.parent.now c.loop-i.i (record { size = 0; banks = 0 }) c.requires.view c.requires.parent c.requires.long c.loop-i-test.true c.args.bank c.loop-i.inner c.loop-i.rest c.loop-i.own c.loop-i.invariant in omega (arith, few)

pub nonzero_rem-rest : goal.nonzero_rem-rest
nonzero_rem-rest c = inner_some c.args.view.now c.args.parent.now c.loop-i.i (record { size = 0; banks = 0 }) c.requires.view c.requires.parent c.requires.long c.loop-i-test.true c.loop-i.inner c.loop-i.invariant.inner_is

pub loop-i-preserved : goal.loop-i-preserved
loop-i-preserved c = covered_next c.args.view.now c.args.parent.now c.loop-i.i (record { size = 0; banks = 0 }) c.requires.view c.requires.parent c.requires.long c.loop-i-test.true c.args.bank c.loop-i.inner c.loop-i.rest c.loop-i.own c.loop-i.invariant
