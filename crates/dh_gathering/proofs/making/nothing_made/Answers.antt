use Rattle.std.proofs.Common.{refl}
use Rattle.dh_gathering.proofs.ProgramPhased.{begins_made}
use Rattle.dh_gathering.proofs.making.nothing_made.Goals as goal

pub returns : goal.returns
returns c = begins_made _ c.args.registers c.len.result _ c.in_ok-operations.ensures.items c.new.ensures c.new-2.ensures.items c.in_ok-accesses.ensures c.in_ok-values.ensures c.len.ensures refl
