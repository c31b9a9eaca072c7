use Rattle.std.proofs.lemmas.Result.{IfOk-weaker}
use Rattle.std.proofs.Common.{ℕ, sym, ap, subst, ◌∙◌}
use Rattle.dh_value.specs.Words.{width_of}
use Rattle.dh_cells.specs.Settled.{IsWire}
use Rattle.dh_datapath.proofs.ShownValueWords.{kind_there, wire_named, truth_named, selected_made}
use Rattle.dh_datapath.proofs.values.push_selected.Goals as goal

pub kind_of-of-requires : goal.kind_of-of-requires
kind_of-of-requires c = kind_there c.args.circuit.now c.args.first c.args.kinds.now c.args.wires.now c.requires.values c.args.a c.requires.left

pub push_choice-requires-clause-test : goal.push_choice-requires-clause-test
push_choice-requires-clause-test c = truth_named c.args.circuit.now c.args.first c.args.kinds.now c.args.wires.now c.requires.values c.args.test c.wire_of-condition.result c.requires.test c.wire_of-condition.ensures c.requires.truth

pub push_choice-requires-clause-left : goal.push_choice-requires-clause-left
push_choice-requires-clause-left c =
    subst (λ (w : ℕ). IsWire c.args.circuit.now c.wire_of-one.result w) (sym c.width.ensures)
    (wire_named c.args.circuit.now c.args.first c.args.kinds.now c.args.wires.now c.requires.values c.args.a c.wire_of-one.result c.kind_of-of.result c.requires.left c.wire_of-one.ensures c.kind_of-of.ensures)

pub push_choice-requires-clause-right : goal.push_choice-requires-clause-right
push_choice-requires-clause-right c =
    subst (λ (w : ℕ). IsWire c.args.circuit.now c.wire_of-other.result w) (sym c.width.ensures)
    (wire_named c.args.circuit.now c.args.first c.args.kinds.now c.args.wires.now c.requires.values c.args.b c.wire_of-other.result c.kind_of-of.result c.requires.right c.wire_of-other.ensures (c.kind_of-of.ensures ∙ c.requires.alike))

pub returns : goal.returns
returns c = IfOk-weaker c.push_choice.result _ _
    (λ wire h. selected_made c.args.circuit.now c.args.first c.args.kinds.now c.args.wires.now c.requires.values c.push_choice.new.circuit wire c.width.result c.args.test c.args.a c.args.b c.wire_of-condition.result c.wire_of-one.result c.wire_of-other.result
    c.requires.test c.requires.left c.requires.right (c.width.ensures ∙ ap width_of c.kind_of-of.ensures) c.wire_of-condition.ensures c.wire_of-one.ensures c.wire_of-other.ensures h) c.push_choice.ensures
