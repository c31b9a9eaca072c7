use Rattle.std.proofs.Common.{ap, ◌∙◌}
use Rattle.std.specs.Prelude.{slice_get}
use Rattle.dh_ways.specs.Kept.{KeptWay}
use Rattle.dh_ways.proofs.LinksTold.{link_told}
use Rattle.dh_ways.proofs.linking.WayRef.first_hidden.Goals as goal

pub returns : goal.returns
returns c = (link_told c.self.inside.links.now c.self.inside.place c.self.inside.link.now c.self.invariant.linked c.self.invariant.there).first ∙ ap (λ (w : KeptWay). slice_get w.hidden 0) c.self.view_is
