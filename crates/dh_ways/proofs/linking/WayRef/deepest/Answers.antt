use Rattle.std.proofs.Common.{ap}
use Rattle.dh_ways.specs.Kept.{KeptWay}
use Rattle.dh_ways.proofs.linking.WayRef.deepest.Goals as goal

pub returns : goal.returns
returns c = ap (λ (w : KeptWay). w.deepest) c.self.view_is
