use Rattle.std.proofs.Common.{◌↔◌, drop}
use Rattle.dh_tree.specs.Counters.{AreSingle}
use Rattle.dh_tree.proofs.trees.counters.are_single.Given as goal

-- those so far are
abbrev pub invariant-loop-counter : goal.invariant-loop-counter
invariant-loop-counter l = AreSingle (drop l.counter-index l.found) ↔ AreSingle l.found
