use Rattle.std.proofs.Common.{drop}
use Rattle.dh_ports.proofs.LogFacts.{IsLowering}
use Rattle.dh_ports.proofs.marks.lower_slice.Given as goal

abbrev pub invariant-loop-low : goal.invariant-loop-low
invariant-loop-low l = IsLowering l.fn.left l.fn.log.items l.lows l.left l.log.items (drop l.low-index l.lows)
