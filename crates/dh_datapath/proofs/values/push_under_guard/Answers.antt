use Rattle.std.proofs.lemmas.Result.{IfOk-weaker}
use Rattle.dh_datapath.proofs.ShownValueWords.{truth_named, guard_there, guarded_value_made}
use Rattle.dh_datapath.proofs.values.push_under_guard.Goals as goal

pub push_guarded-requires-clause-guard : goal.push_guarded-requires-clause-guard
push_guarded-requires-clause-guard c = truth_named c.args.circuit.now c.args.first c.args.kinds.now c.args.wires.now c.requires.values c.in-Some.number c.wire_of-test.result (guard_there c.args.first c.args.kinds.now c.args.wires.now c.args.guard c.in-Some.number c.in-Some.is c.requires.guard).0 c.wire_of-test.ensures (guard_there c.args.first c.args.kinds.now c.args.wires.now c.args.guard c.in-Some.number c.in-Some.is c.requires.guard).1

pub returns-in-Some : goal.returns-in-Some
returns-in-Some c = IfOk-weaker c.push_guarded.result _ _
    (λ wire h. guarded_value_made c.args.circuit.now c.args.first c.args.kinds.now c.args.wires.now c.requires.values c.push_guarded.new.circuit wire c.args.wire c.width.result c.wire_of-test.result c.in-Some.number c.args.guard c.args.of c.in-Some.is (guard_there c.args.first c.args.kinds.now c.args.wires.now c.args.guard c.in-Some.number c.in-Some.is c.requires.guard).0
    c.width.ensures c.wire_of-test.ensures h) c.push_guarded.ensures
