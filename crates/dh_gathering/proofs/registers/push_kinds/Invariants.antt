-- So many registers so far.
use Rattle.std.proofs.Common.{◌≡◌, ◌++◌, replicate}
use Rattle.dh_gathering.proofs.registers.push_kinds.Given as goal

abbrev pub invariant-loop : goal.invariant-loop
invariant-loop l = l.registers ≡ l.fn.registers ++ replicate l.counter l.kind
