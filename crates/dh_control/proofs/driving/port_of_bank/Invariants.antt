-- The port of the bank among the pairs from the index on is that among all.
use Rattle.std.proofs.Common.{◌≡◌, drop}
use Rattle.dh_plan.specs.BoundPorts.{port_among}
use Rattle.dh_lower.specs.ShownWords.{port_or_first}
use Rattle.dh_control.proofs.driving.port_of_bank.Given as goal

abbrev pub invariant-loop-pair : goal.invariant-loop-pair
invariant-loop-pair l = port_or_first (port_among l.bank (drop l.pair-index l.pairs)) ≡ port_or_first (port_among l.bank l.pairs)
