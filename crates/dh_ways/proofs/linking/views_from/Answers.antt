use Rattle.std.proofs.Common.{ℕ, ◌<◌, List, length, map, ap, subst, sym}
use Rattle.std.specs.Prelude.{Option}
use denote.Ref.{Bor}
use Rattle.dh_tree.specs.declared.viewing.ViewMap.{ViewMap}
use Rattle.dh_ways.specs.Linked.{IsBefore}
use Rattle.dh_ways.proofs.LinksTold.{ViewsSoFar, view_pushed, views_end, views_first, views_more, next_fewer, places_left}
use Rattle.dh_ways.proofs.linking.views_from.Goals as goal

pub loop-next-init : goal.loop-next-init
loop-next-init c = views_first c.args.links.now c.args.place (map (λ (v : Bor ViewMap). v.now) c.new-views.result.items) c.requires.there (ap (λ (l : List (Bor ViewMap)). map (λ (v : Bor ViewMap). v.now) l) c.new-views.ensures.items)

pub bounds-links-at : goal.bounds-links-at
bounds-links-at c = subst (λ (o : Option ℕ). IsBefore (length c.args.links.now) o) c.in-Some.is c.loop-next.invariant.inside

pub loop-next-preserved : goal.loop-next-preserved
loop-next-preserved c =
    let before = subst (λ (o : Option ℕ). ViewsSoFar c.args.links.now c.args.place (map (λ (v : Bor ViewMap). v.now) c.loop-next.views.items) o) c.in-Some.is c.loop-next.invariant in
    views_more c.args.links.now c.args.place c.in-Some.at c.index-links-at.result c.requires.linked before.inside c.index-links-at.is
    (map (λ (v : Bor ViewMap). v.now) c.loop-next.views.items) (map (λ (v : Bor ViewMap). v.now) c.push.new.self.items)
    (view_pushed c.loop-next.views.items c.push.new.self.items _ c.index-links-at.result.view c.in_ok-push.ensures.items c.as_map.ensures) before

pub loop-next-smaller : goal.loop-next-smaller
loop-next-smaller c =
    let inside = subst (λ (o : Option ℕ). IsBefore (length c.args.links.now) o) c.in-Some.is c.loop-next.invariant.inside in
    subst (λ (o : Option ℕ). places_left c.index-links-at.result.parent < places_left o) (sym c.in-Some.is) (next_fewer c.args.links.now c.args.place c.in-Some.at c.index-links-at.result c.requires.linked inside c.index-links-at.is)

pub returns : goal.returns
returns c = views_end c.args.links.now c.args.place (map (λ (v : Bor ViewMap). v.now) c.loop-next.views.items) c.loop-next.next c.in_default.is c.loop-next.invariant
