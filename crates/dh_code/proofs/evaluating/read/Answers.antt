use Rattle.dh_code.specs.Operated.{sight}
use Rattle.dh_code.proofs.FoundSpots.{fault_spent}
use Rattle.dh_code.proofs.evaluating.read.Goals as goal

pub returns-in_default-clause-spends : goal.returns-in_default-clause-spends
returns-in_default-clause-spends c es h =
    fault_spent (Unit {0}) c.args.scene.now (sight c.args.slots.now c.args.given.now c.args.ranks.now) c.args.access.now es c.args.banks.now c.args.banks.now c.out_of_range.result c.out_of_range.ensures c.in_default.ensures h
