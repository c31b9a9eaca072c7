use Rattle.std.proofs.lemmas.Result.{IfOk-weaker}
use Rattle.dh_datapath.proofs.BankTests.{never_selected}
use Rattle.dh_datapath.proofs.reads.push_bank_test.Goals as goal

pub returns-else-fits_width : goal.returns-else-fits_width
returns-else-fits_width c =
    IfOk-weaker c.push_constant.result _ _
    (λ wire h. never_selected c.args.circuit.now c.push_constant.new.self wire c.args.select c.args.width c.args.bank c.fits_width.result c.requires c.fits_width.ensures c.if-fits_width.false h)
    c.push_constant.ensures
