use Rattle.std.proofs.Common.{◌≤◌, drop}
use Rattle.dh_tree.specs.Seen.{program_seen}
use Rattle.dh_events.specs.Accesses.{loops_listed}
use Rattle.dh_size.proofs.EventSizes.{SizesLeft}
use Rattle.dh_size.proofs.sizes.access_sizes.Given as goal

abbrev pub invariant-loop-event : goal.invariant-loop-event
invariant-loop-event l =
    SizesLeft (program_seen l.typed) (loops_listed l.rounds) l.shares (drop l.event-index l.events) l.events l.sum l.number × (l.number ≤ l.event-index)
