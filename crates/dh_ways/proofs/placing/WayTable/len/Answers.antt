use Rattle.std.proofs.Common.{List, length, ap, sym, ◌∙◌}
use Rattle.dh_ways.specs.Kept.{KeptLed}
use Rattle.dh_ways.proofs.LinksTold.{links_long}
use Rattle.dh_ways.proofs.placing.WayTable.len.Goals as goal

pub returns : goal.returns
returns c = c.len.ensures ∙ (sym (links_long c.self.inside.links) ∙ ap (λ (l : List KeptLed). length l) c.self.view_is)
