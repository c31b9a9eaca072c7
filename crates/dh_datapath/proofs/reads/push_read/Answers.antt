use Rattle.std.proofs.Common.{ℕ, sym, subst, ◌∙◌}
use Rattle.std.proofs.lemmas.Result.{IfOk-weaker}
use Rattle.dh_cells.specs.Settled.{IsWire}
use Rattle.dh_datapath.proofs.FormsMade.{picked_made}
use Rattle.dh_datapath.proofs.ShownValueWords.{kind_there, select_there, wire_named}
use Rattle.dh_datapath.proofs.reads.push_read.Goals as goal

pub kind_of-requires : goal.kind_of-requires
kind_of-requires c =
    kind_there c.args.circuit.now c.args.first c.args.kinds.now c.args.wires.now c.requires.values c.in-Some-select.number
    (select_there c.args.first c.args.wires.now c.args.access.now.select c.in-Some-select.number c.in-Some-select.is c.requires.select)

pub push_selected_bank-requires-clause-select : goal.push_selected_bank-requires-clause-select
push_selected_bank-requires-clause-select c =
    subst (λ (w : ℕ). IsWire c.args.circuit.now c.wire_of-select.result w) (sym c.width-select_width.ensures)
    (wire_named c.args.circuit.now c.args.first c.args.kinds.now c.args.wires.now c.requires.values c.in-Some-select.number c.wire_of-select.result c.kind_of.result
    (select_there c.args.first c.args.wires.now c.args.access.now.select c.in-Some-select.number c.in-Some-select.is c.requires.select) c.wire_of-select.ensures c.kind_of.ensures)

pub returns-in-Some-select : goal.returns-in-Some-select
returns-in-Some-select c = IfOk-weaker c.push_selected_bank.result _ _
    (λ wire h. picked_made c.args.circuit.now c.push_selected_bank.new.circuit wire c.args.element c.args.ports.now c.args.first c.args.kinds.now c.args.wires.now c.args.access.now c.requires.values
    c.in-Some.bank.now c.in-Some.others.now c.in-Some-select.number c.wire_of-select.result
    (select_there c.args.first c.args.wires.now c.args.access.now.select c.in-Some-select.number c.in-Some-select.is c.requires.select)
    (sym c.as_slice.ensures ∙ c.in-Some.ensures.cases.0) c.in-Some-select.is c.wire_of-select.ensures h) c.push_selected_bank.ensures
