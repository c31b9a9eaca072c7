use Rattle.std.proofs.Common.{Some, ap, ◌∙◌}
use Rattle.std.proofs.lemmas.Option.{slice_get_within}
use Rattle.std.proofs.lemmas.Result.{IfOk-weaker}
use Rattle.dh_ways.specs.Kept.{KeptWay}
use Rattle.dh_ways.specs.Linked.{views_kept, ways_linked}
use Rattle.dh_ways.proofs.LinksTold.{link_told, way_told}
use Rattle.dh_ways.proofs.linking.WayRef.views.Goals as goal

pub views_from-requires : goal.views_from-requires
views_from-requires c = record { linked = c.self.invariant.linked; there = slice_get_within c.self.inside.links.now c.self.inside.place c.self.inside.link.now c.self.invariant.there }

pub returns : goal.returns
returns c =
    let told = link_told c.self.inside.links.now c.self.inside.place c.self.inside.link.now c.self.invariant.linked c.self.invariant.there in
    IfOk-weaker c.views_from.result _ _ (λ views so. so ∙ ap views_kept (way_told (ways_linked c.self.inside.links.now) c.self.inside.place c.self.inside.link.now told ∙ ap (λ (w : KeptWay). Some w) c.self.view_is)) c.views_from.ensures
