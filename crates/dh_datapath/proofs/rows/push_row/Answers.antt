use Rattle.std.proofs.Common.{◌∙◌, arith}
use Rattle.std.proofs.lemmas.List.{drop_all}
use Rattle.dh_plan.specs.SeenPlans.{plan_seen}
use Rattle.dh_datapath.proofs.RegistersMade.{registers_later}
use Rattle.dh_datapath.proofs.RowsMade.{item_is, row_needs, row_goes_on, row_ends}
use Rattle.dh_datapath.proofs.rows.push_row.Goals as goal

pub push_operation-requires-clause-registers : goal.push_operation-requires-clause-registers
push_operation-requires-clause-registers c = registers_later c.args.circuit.now c.loop-i.circuit c.args.registers.now.offset c.args.plan.now.registers c.args.registers.now.wires _ c.loop-i.invariant.grows c.requires.registers

pub push_operation-requires-clause-guard : goal.push_operation-requires-clause-guard
push_operation-requires-clause-guard c =
    (row_needs c.args.circuit.now c.loop-i.circuit (plan_seen c.args.plan.now) c.args.registers.now.offset c.args.used.now c.args.first c.args.operations.now c.loop-i.i c.loop-i.kinds c.as_slice-in-loop-i.result.now
    c.loop-i.wires c.as_slice-in-loop-i-2.result.now c.index-operations-i.result c.as_slice.result.now c.requires.formed c.loop-i.invariant (omega arith) c.index-operations-i.is c.as_slice-in-loop-i.ensures c.as_slice-in-loop-i-2.ensures
    (c.as_slice.ensures ∙ item_is c.args.used.now c.loop-i.i c.index-used-i.result _ (let long = c.requires.long in omega (arith, long)) c.index-used-i.is)).0

pub push_operation-requires-clause-earlier : goal.push_operation-requires-clause-earlier
push_operation-requires-clause-earlier c =
    (row_needs c.args.circuit.now c.loop-i.circuit (plan_seen c.args.plan.now) c.args.registers.now.offset c.args.used.now c.args.first c.args.operations.now c.loop-i.i c.loop-i.kinds c.as_slice-in-loop-i.result.now
    c.loop-i.wires c.as_slice-in-loop-i-2.result.now c.index-operations-i.result c.as_slice.result.now c.requires.formed c.loop-i.invariant (omega arith) c.index-operations-i.is c.as_slice-in-loop-i.ensures c.as_slice-in-loop-i-2.ensures
    (c.as_slice.ensures ∙ item_is c.args.used.now c.loop-i.i c.index-used-i.result _ (let long = c.requires.long in omega (arith, long)) c.index-used-i.is)).1.0

pub push_operation-requires-clause-suits : goal.push_operation-requires-clause-suits
push_operation-requires-clause-suits c =
    (row_needs c.args.circuit.now c.loop-i.circuit (plan_seen c.args.plan.now) c.args.registers.now.offset c.args.used.now c.args.first c.args.operations.now c.loop-i.i c.loop-i.kinds c.as_slice-in-loop-i.result.now
    c.loop-i.wires c.as_slice-in-loop-i-2.result.now c.index-operations-i.result c.as_slice.result.now c.requires.formed c.loop-i.invariant (omega arith) c.index-operations-i.is c.as_slice-in-loop-i.ensures c.as_slice-in-loop-i-2.ensures
    (c.as_slice.ensures ∙ item_is c.args.used.now c.loop-i.i c.index-used-i.result _ (let long = c.requires.long in omega (arith, long)) c.index-used-i.is)).1.1

pub loop-i-preserved : goal.loop-i-preserved
loop-i-preserved c =
    row_goes_on c.args.circuit.now c.loop-i.circuit c.push_operation.new.circuit (plan_seen c.args.plan.now) c.args.registers.now.offset c.args.used.now c.args.first c.args.operations.now c.loop-i.i c.loop-i.kinds c.as_slice-in-loop-i.result.now
    c.loop-i.wires c.as_slice-in-loop-i-2.result.now c.index-operations-i.result c.as_slice.result.now c.in_ok-wire.wire c.kind_given-kind.result c.as_slice-in-loop-i-3.result.now c.push.new.self c.push-in-loop-i.new.self
    c.requires.formed c.loop-i.invariant (omega arith) c.index-operations-i.is c.as_slice-in-loop-i.ensures c.as_slice-in-loop-i-2.ensures
    (c.as_slice.ensures ∙ item_is c.args.used.now c.loop-i.i c.index-used-i.result _ (let long = c.requires.long in omega (arith, long)) c.index-used-i.is)
    c.as_slice-in-loop-i-3.ensures c.kind_given-kind.ensures c.in_ok-push.ensures c.in_ok-push-2.ensures c.in_ok-wire.ensures

pub returns : goal.returns
returns c =
    row_ends c.args.circuit.now c.loop-i.circuit (plan_seen c.args.plan.now) c.args.registers.now.offset c.args.used.now c.args.first c.args.operations.now c.loop-i.i _ c.requires.formed
    (drop_all c.loop-i.i c.args.operations.now c.loop-i-test.false) c.loop-i.invariant
