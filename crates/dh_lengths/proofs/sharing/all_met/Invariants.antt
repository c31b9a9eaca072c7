use Rattle.std.proofs.Common.{take}
use Rattle.dh_lengths.specs.SharedReads.{AreMet}
use Rattle.dh_lengths.proofs.sharing.all_met.Given as goal

abbrev pub invariant-loop-event : goal.invariant-loop-event
invariant-loop-event l = AreMet l.classes (take l.event-index l.events) l.met.items
