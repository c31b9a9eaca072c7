use Rattle.std.proofs.lemmas.Result.{IfOk-weaker}
use Rattle.dh_control.proofs.NumberTests.{never_shown}
use Rattle.dh_control.proofs.testing.push_number_test.Goals as goal

pub returns-else-fits_width : goal.returns-else-fits_width
returns-else-fits_width c =
    IfOk-weaker c.push_constant.result _ _
    (λ wire h. never_shown c.args.circuit.now c.push_constant.new.self wire c.args.wire c.args.width c.args.number c.fits_width.result c.requires c.fits_width.ensures c.if-fits_width.false h)
    c.push_constant.ensures
