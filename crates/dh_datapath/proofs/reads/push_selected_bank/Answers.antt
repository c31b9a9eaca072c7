use Rattle.std.proofs.lemmas.Result.{IfOk-weaker}
use Rattle.dh_cells.proofs.CellsAppended.{wire_stays}
use Rattle.dh_datapath.proofs.ListedBanks.{selected_bank_made}
use Rattle.dh_datapath.proofs.reads.push_selected_bank.Goals as goal

pub push_banks-requires-clause-select : goal.push_banks-requires-clause-select
push_banks-requires-clause-select c = wire_stays _ _ c.args.select c.args.select_width c.in_ok-default.ensures.grows c.requires.select

pub returns : goal.returns
returns c = IfOk-weaker c.push_banks.result _ _
    (λ wire h. selected_bank_made c.args.circuit.now c.push_bank.new.circuit c.push_banks.new.circuit wire c.args.width c.args.memory c.args.select c.in_ok-default.default c.args.ports.now c.args.others.now c.args.first
    c.in_ok-default.ensures h) c.push_banks.ensures
