-- Those so far are found.
use Rattle.std.proofs.Common.{◌≡◌, ◌++◌, drop}
use Rattle.dh_code.specs.States.{bits_kept, sight_in}
use Rattle.dh_code.proofs.running.find.Given as goal

abbrev pub invariant-loop-kept : goal.invariant-loop-kept
invariant-loop-kept l = l.found.items ++ bits_kept (sight_in l.state l.ranks) (drop l.kept-index l.values) ≡ l.fn.found.items ++ bits_kept (sight_in l.state l.ranks) l.values
