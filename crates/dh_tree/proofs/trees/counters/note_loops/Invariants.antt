-- Those so far are noted.
use Rattle.std.proofs.Common.{◌≡◌, [], length, take}
use Rattle.dh_tree.specs.Collected.{AreCountersByEntity}
use Rattle.dh_tree.proofs.trees.counters.note_loops.Given as goal

abbrev pub invariant-loop-counter : goal.invariant-loop-counter
invariant-loop-counter l = (length l.slots ≡ length l.fn.slots) × (AreCountersByEntity [] l.fn.slots → AreCountersByEntity (take l.counter-index l.found) l.slots)
