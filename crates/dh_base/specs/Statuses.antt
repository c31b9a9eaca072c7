-- The exit status of each way to end (this profile's table of statuses).
use Rattle.std.specs.Prelude.{ℕ}
use Rattle.dh_base.specs.declared.statuses.Status.{Status}
use Rattle.dh_base.specs.declared.statuses.Status.TheVariants as status

-- the exit status of the process
abbrev pub code_of : Status → ℕ
code_of status.Done = 0
code_of status.Refused = 1
code_of status.Usage = 2
code_of status.Faulted = 3
code_of status.Stuck = 3
code_of status.Going = 4
code_of status.BadData = 5
code_of status.TooLarge = 6
code_of status.ReadFault = 7
code_of status.WriteFault = 8
code_of status.NoMemory = 9
