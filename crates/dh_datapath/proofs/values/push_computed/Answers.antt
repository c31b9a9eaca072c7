use Rattle.std.proofs.lemmas.Result.{IfOk-weaker}
use Rattle.dh_datapath.proofs.ShownValueWords.{kind_there, wire_named, computed_made}
use Rattle.dh_datapath.proofs.values.push_computed.Goals as goal

pub kind_of-left_kind-requires : goal.kind_of-left_kind-requires
kind_of-left_kind-requires c = kind_there c.args.circuit.now c.args.first c.args.kinds.now c.args.wires.now c.requires.values c.args.left c.requires.left

pub kind_of-right_kind-requires : goal.kind_of-right_kind-requires
kind_of-right_kind-requires c = kind_there c.args.circuit.now c.args.first c.args.kinds.now c.args.wires.now c.requires.values c.args.right c.requires.right

pub push_operator-requires-clause-left : goal.push_operator-requires-clause-left
push_operator-requires-clause-left c = wire_named c.args.circuit.now c.args.first c.args.kinds.now c.args.wires.now c.requires.values c.args.left c.wire_of-a.result c.kind_of-left_kind.result c.requires.left c.wire_of-a.ensures c.kind_of-left_kind.ensures

pub push_operator-requires-clause-right : goal.push_operator-requires-clause-right
push_operator-requires-clause-right c = wire_named c.args.circuit.now c.args.first c.args.kinds.now c.args.wires.now c.requires.values c.args.right c.wire_of-b.result c.kind_of-right_kind.result c.requires.right c.wire_of-b.ensures c.kind_of-right_kind.ensures

pub returns : goal.returns
returns c = IfOk-weaker c.push_operator.result _ _
    (λ wire h. computed_made c.args.circuit.now c.args.first c.args.kinds.now c.args.wires.now c.requires.values c.push_operator.new.circuit wire c.args.op c.args.left c.args.right c.wire_of-a.result c.wire_of-b.result c.kind_of-left_kind.result c.kind_of-right_kind.result
    c.requires.left c.requires.right c.kind_of-left_kind.ensures c.kind_of-right_kind.ensures c.wire_of-a.ensures c.wire_of-b.ensures h) c.push_operator.ensures
