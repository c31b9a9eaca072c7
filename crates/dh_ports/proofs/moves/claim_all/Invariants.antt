use Rattle.std.proofs.Common.{◌≡◌, ◌+◌, ◌++◌, drop}
use Rattle.dh_ports.specs.Claims.{claims_from}
use Rattle.dh_ports.specs.Runs.{moves_in}
use Rattle.dh_ports.proofs.moves.claim_all.Given as goal

abbrev pub invariant-loop-bank : goal.invariant-loop-bank
invariant-loop-bank l = moves_in l.moves.items ++ claims_from l.event (l.base + l.bank) (drop l.bank l.counts) ≡ moves_in l.fn.moves.items ++ claims_from l.event l.base l.counts
