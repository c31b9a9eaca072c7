use Rattle.std.proofs.Common.{Some, ap, ◌∙◌}
use Rattle.std.proofs.lemmas.Option.{slice_get_within}
use Rattle.std.proofs.lemmas.Result.{IfOk-weaker}
use Rattle.dh_ways.specs.Kept.{KeptWay}
use Rattle.dh_ways.specs.Linked.{hidden_kept, ways_linked}
use Rattle.dh_ways.proofs.LinksTold.{link_told, way_told}
use Rattle.dh_ways.proofs.linking.WayRef.hidden.Goals as goal

pub hidden_from-requires : goal.hidden_from-requires
hidden_from-requires c = record { linked = c.self.invariant.linked; there = slice_get_within c.self.inside.links.now c.self.inside.place c.self.inside.link.now c.self.invariant.there }

pub returns : goal.returns
returns c =
    let told = link_told c.self.inside.links.now c.self.inside.place c.self.inside.link.now c.self.invariant.linked c.self.invariant.there in
    IfOk-weaker c.hidden_from.result _ _ (λ hidden so. so ∙ ap hidden_kept (way_told (ways_linked c.self.inside.links.now) c.self.inside.place c.self.inside.link.now told ∙ ap (λ (w : KeptWay). Some w) c.self.view_is)) c.hidden_from.ensures
