-- the accesses so far, and those still to come, are all
use Rattle.std.proofs.Common.{◌≡◌, ◌-◌}
use Rattle.dh_meets.specs.MayMeet.{row_of_accesses}
use Rattle.dh_accesses.proofs.SameTrees.{alls_onto}
use Rattle.dh_accesses.proofs.meeting.row.Given as goal

abbrev pub invariant-loop-access : goal.invariant-loop-access
invariant-loop-access l = alls_onto l.parts.items (row_of_accesses l.access (l.end - l.access)) ≡ row_of_accesses l.first (l.end - l.first)
