use Rattle.std.proofs.Common.{◌≡◌}
use Rattle.dh_ports.specs.Banks.{each_below}
use Rattle.dh_ports.specs.CarriersMade.{itself}
use Rattle.dh_ports.proofs.carrying.own_banks.Given as goal

abbrev pub invariant-loop-bank : goal.invariant-loop-bank
invariant-loop-bank l = l.banks.items ≡ each_below itself l.bank
