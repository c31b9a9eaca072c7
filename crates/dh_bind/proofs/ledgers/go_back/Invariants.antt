use Rattle.std.proofs.Common.{◌≡◌, drop}
use Rattle.dh_bind.specs.Ledgers.{Alike, undone_ledgers}
use Rattle.dh_bind.proofs.ledgers.go_back.Given as goal

abbrev pub invariant-loop-i : goal.invariant-loop-i
invariant-loop-i l = record {
  back : l.ledgers ≡ undone_ledgers (drop l.i l.log) l.initial.ledgers;
  alike : Alike l.initial.ledgers l.ledgers;
}
