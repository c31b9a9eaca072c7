use Rattle.std.proofs.Common.{ℕ, ◌<◌, ◌++◌, length, ap, subst, sym, ◌∙◌}
use Rattle.std.specs.Prelude.{Option}
use Rattle.dh_ways.specs.Linked.{IsBefore}
use Rattle.dh_ways.proofs.LinksTold.{HiddenSoFar, hidden_end, hidden_first, hidden_more, next_fewer, places_left}
use Rattle.dh_ways.proofs.linking.hidden_from.Goals as goal

pub loop-next-init : goal.loop-next-init
loop-next-init c = hidden_first c.args.links.now c.args.place c.new-hidden.result c.requires.there c.new-hidden.ensures

pub bounds-links-at : goal.bounds-links-at
bounds-links-at c = subst (λ (o : Option ℕ). IsBefore (length c.args.links.now) o) c.in-Some.is c.loop-next.invariant.inside

pub loop-next-preserved : goal.loop-next-preserved
loop-next-preserved c =
    let before = subst (λ (o : Option ℕ). HiddenSoFar c.args.links.now c.args.place c.loop-next.hidden o) c.in-Some.is c.loop-next.invariant in
    hidden_more c.args.links.now c.args.place c.in-Some.at c.index-links-at.result c.requires.linked before.inside c.index-links-at.is
    c.loop-next.hidden c.append.new.hidden (c.in_ok-append.ensures ∙ ap (λ l. c.loop-next.hidden ++ l) c.as_slice.ensures) before

pub loop-next-smaller : goal.loop-next-smaller
loop-next-smaller c =
    let inside = subst (λ (o : Option ℕ). IsBefore (length c.args.links.now) o) c.in-Some.is c.loop-next.invariant.inside in
    subst (λ (o : Option ℕ). places_left c.index-links-at.result.parent < places_left o) (sym c.in-Some.is) (next_fewer c.args.links.now c.args.place c.in-Some.at c.index-links-at.result c.requires.linked inside c.index-links-at.is)

pub returns : goal.returns
returns c = hidden_end c.args.links.now c.args.place c.loop-next.hidden c.loop-next.next c.in_default.is c.loop-next.invariant
