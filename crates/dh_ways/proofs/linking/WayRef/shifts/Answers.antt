use Rattle.std.proofs.Common.{ap}
use Rattle.dh_ways.specs.Kept.{KeptWay}
use Rattle.dh_ways.proofs.linking.WayRef.shifts.Goals as goal

pub returns : goal.returns
returns c = ap (λ (w : KeptWay). w.shifts) c.self.view_is
