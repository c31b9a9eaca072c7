use Rattle.std.proofs.Common.{◌≡◌}
use Rattle.dh_ports.specs.Carriers.{is_carried}
use Rattle.dh_size.specs.Sizes.{count_below}
use Rattle.dh_size.proofs.through.count_carried.Given as goal

abbrev pub invariant-loop-behind : goal.invariant-loop-behind
invariant-loop-behind l = l.count ≡ count_below (is_carried l.carrier l.bank) l.behind
