use Rattle.std.proofs.Common.{ap, ◌∙◌}
use Rattle.dh_ways.specs.Kept.{KeptWay}
use Rattle.dh_ways.proofs.linking.WayRef.view.Goals as goal

pub returns : goal.returns
returns c = c.as_map.ensures ∙ ap (λ (w : KeptWay). w.view) c.self.view_is
