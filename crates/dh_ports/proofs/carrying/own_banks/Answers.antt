use Rattle.std.proofs.Common.{◌≡◌, refl, ap, ◌∙◌, arith}
use Rattle.dh_ports.specs.Banks.{each_below}
use Rattle.dh_ports.specs.CarriersMade.{itself}
use Rattle.dh_ports.proofs.CarrierTurns.{each_next}
use Rattle.dh_ports.proofs.carrying.own_banks.Goals as goal

pub loop-bank-preserved : goal.loop-bank-preserved
loop-bank-preserved c = each_next itself c.loop-bank.bank c.loop-bank.banks.items c.push.new.self.items c.loop-bank.bank c.loop-bank.invariant refl c.in_ok-push.ensures.items

pub returns : goal.returns
returns c =
    let all : c.loop-bank.bank ≡ c.args.count = omega (arith, c.loop-bank-test.false, c.loop-bank.auto.bank-end) in
    c.loop-bank.invariant ∙ ap (each_below itself) all
