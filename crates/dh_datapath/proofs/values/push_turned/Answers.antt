use Rattle.std.proofs.lemmas.Result.{IfOk-weaker}
use Rattle.dh_datapath.proofs.ShownValueWords.{kind_there, wire_named, turned_made}
use Rattle.dh_datapath.proofs.values.push_turned.Goals as goal

pub kind_of-from-requires : goal.kind_of-from-requires
kind_of-from-requires c = kind_there c.args.circuit.now c.args.first c.args.kinds.now c.args.wires.now c.requires.values c.args.inner c.requires.inner

pub push_converted-requires-clause-there : goal.push_converted-requires-clause-there
push_converted-requires-clause-there c = wire_named c.args.circuit.now c.args.first c.args.kinds.now c.args.wires.now c.requires.values c.args.inner c.wire_of-wire.result c.kind_of-from.result c.requires.inner c.wire_of-wire.ensures c.kind_of-from.ensures

pub returns : goal.returns
returns c = IfOk-weaker c.push_converted.result _ _
    (λ wire h. turned_made c.args.circuit.now c.args.first c.args.kinds.now c.args.wires.now c.requires.values c.push_converted.new.circuit wire c.args.inner c.wire_of-wire.result c.kind_of-from.result c.args.to c.requires.inner c.kind_of-from.ensures c.wire_of-wire.ensures h)
    c.push_converted.ensures
