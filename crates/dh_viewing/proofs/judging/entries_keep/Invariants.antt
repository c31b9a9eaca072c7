use Rattle.std.proofs.Common.{◌≡◌, drop}
use Rattle.dh_viewing.specs.Judged.{entries_keep}
use Rattle.dh_viewing.proofs.judging.entries_keep.Given as goal

-- those so far break none
abbrev pub invariant-loop-entry : goal.invariant-loop-entry
invariant-loop-entry l = entries_keep (drop l.entry-index l.entries) ≡ entries_keep l.entries
