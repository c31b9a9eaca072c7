use Rattle.std.proofs.lemmas.Result.{IfOk-weaker}
use Rattle.dh_plan.specs.SeenPlans.{plan_seen}
use Rattle.dh_datapath.specs.BlockWires.{ports_look}
use Rattle.dh_datapath.proofs.FormsMade.{guarded_added, form_word_kind}
use Rattle.dh_datapath.proofs.RowsMade.{values_later}
use Rattle.dh_datapath.proofs.forms.push_operation.Goals as goal

pub push_under_guard-requires-clause-values : goal.push_under_guard-requires-clause-values
push_under_guard-requires-clause-values c = values_later c.args.circuit.now c.push_form.new.circuit c.args.kinds.now c.args.wires.now c.in_ok-wire.ensures.grows c.requires.values

pub returns : goal.returns
returns c = IfOk-weaker c.push_under_guard.result _ _
    (λ new h. guarded_added c.args.circuit.now c.push_form.new.circuit c.push_under_guard.new.circuit new c.in_ok-wire.wire (plan_seen c.args.plan.now) c.args.registers.now.offset c.args.ports.now c.args.first c.args.kinds.now
    c.args.wires.now c.args.operation.now c.kind_given-of.result c.kind_given-of.ensures
    (λ x. form_word_kind c.args.circuit.now (plan_seen c.args.plan.now) c.args.registers.now.offset c.args.first c.args.kinds.now c.args.wires.now c.requires.values c.args.ports.now x
    (ports_look c.args.plan.now.table c.args.ports.now x.held c.args.first) 0 c.args.operation.now.form c.requires.earlier c.requires.suits)
    c.in_ok-wire.ensures h) c.push_under_guard.ensures
