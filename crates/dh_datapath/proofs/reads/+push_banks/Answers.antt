use Rattle.std.proofs.lemmas.Result.{IfOk-weaker}
use Rattle.std.proofs.Common.{refl}
use Rattle.dh_cells.proofs.CellsAppended.{wire_stays}
use Rattle.dh_datapath.proofs.BankChoices.{banks_made}
use Rattle.dh_datapath.proofs.reads.+push_banks.Goals as goal

pub push_bank_choice-requires-clause-select : goal.push_bank_choice-requires-clause-select
push_bank_choice-requires-clause-select t c = wire_stays _ _ c.args.select c.args.select_width c.in_ok-others.ensures.grows c.requires.select

pub returns : goal.returns
returns t c = IfOk-weaker c.push_bank_choice.result _ _
    (λ wire h. banks_made c.args.circuit.now c.push_banks.new.circuit c.push_bank_choice.new.circuit wire c.args.width c.args.memory c.args.select c.in-Some.bank.now.0 c.in_ok-others.others c.args.default
    c.args.ports.now c.in-Some.rest.now c.args.banks.now c.in-Some.bank.now c.in-Some.ensures.cases.0 refl c.in_ok-others.ensures h) c.push_bank_choice.ensures
