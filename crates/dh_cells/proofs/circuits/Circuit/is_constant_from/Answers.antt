use Rattle.std.proofs.Common.{arith}
use Rattle.std.proofs.lemmas.Bool.Decides.{nat_tests}
use Rattle.dh_cells.proofs.NarrowCells.{constant_reaches}
use Rattle.dh_cells.proofs.circuits.Circuit.is_constant_from.Goals as goal

pub returns-in-Some-clause-shows : goal.returns-in-Some-clause-shows
returns-in-Some-clause-shows c =
    λ on x s. constant_reaches c.args.self.now c.args.wire c.in-Some.bits c.args.least c.constant_of.result c.constant_of.ensures c.in-Some.is (let large = on in grind (arith, nat_tests)) x s
