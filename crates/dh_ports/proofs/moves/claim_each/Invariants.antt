use Rattle.std.proofs.Common.{◌≡◌, ◌++◌}
use Rattle.dh_ports.specs.Banks.{each_below}
use Rattle.dh_ports.specs.Carriers.{carried_to, one_at}
use Rattle.dh_ports.specs.Claims.{claims_from}
use Rattle.dh_ports.specs.Runs.{moves_in}
use Rattle.dh_ports.proofs.moves.claim_each.Given as goal

abbrev pub invariant-loop-behind : goal.invariant-loop-behind
invariant-loop-behind l = moves_in l.moves.items ≡ moves_in l.fn.moves.items ++ claims_from l.event l.base (each_below (carried_to l.carrier (one_at l.bank)) l.behind)
