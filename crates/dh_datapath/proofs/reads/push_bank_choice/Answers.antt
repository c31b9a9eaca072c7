use Rattle.std.proofs.lemmas.Result.{IfOk-weaker}
use Rattle.dh_cells.proofs.CellsAppended.{wire_stays, grows_then}
use Rattle.dh_datapath.proofs.BankChoices.{choice_made}
use Rattle.dh_datapath.proofs.reads.push_bank_choice.Goals as goal

pub push_bank_test-requires : goal.push_bank_test-requires
push_bank_test-requires c = wire_stays _ _ c.args.select c.args.select_width c.in_ok-held.ensures.grows c.requires.select

pub push_choice-requires-clause-left : goal.push_choice-requires-clause-left
push_choice-requires-clause-left c = wire_stays _ _ c.in_ok-held.held c.args.width c.in_ok-test.ensures.grows c.in_ok-held.ensures.shows.there

pub push_choice-requires-clause-right : goal.push_choice-requires-clause-right
push_choice-requires-clause-right c = wire_stays _ _ c.args.others c.args.width (grows_then _ _ _ c.in_ok-held.ensures.grows c.in_ok-test.ensures.grows) c.requires.others

pub returns : goal.returns
returns c = IfOk-weaker c.push_choice.result _ _
    (λ wire h. choice_made c.args.circuit.now c.push_bank.new.circuit c.push_bank_test.new.circuit c.push_choice.new.circuit wire c.args.width c.args.memory c.in_ok-held.held c.in_ok-test.test c.args.select c.args.bank c.args.others
    c.args.ports.now c.in_ok-held.ensures c.in_ok-test.ensures h) c.push_choice.ensures
