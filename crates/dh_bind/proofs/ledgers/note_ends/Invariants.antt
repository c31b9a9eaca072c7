use Rattle.std.proofs.Common.{◌≡◌, ◌++◌, drop}
use Rattle.dh_bind.specs.Ledgers.{ends_now}
use Rattle.dh_bind.proofs.ledgers.note_ends.Given as goal

abbrev pub invariant-loop-mark : goal.invariant-loop-mark
invariant-loop-mark l = l.ends.items ++ ends_now l.ledgers (drop l.mark-index l.log) ≡ l.initial.ends.items ++ ends_now l.ledgers l.log
