use Rattle.std.proofs.Common.{◌≡◌, ℕ, ◌<◌, length, slice_index, sym, subst, ◌∙◌}
use Rattle.dh_ports.proofs.CarrierTurns.{carried_else, carried_then}
use Rattle.dh_ports.proofs.ClaimTurns.{index_found}
use Rattle.dh_ports.proofs.carrying.carried_at.Goals as goal

pub returns-then-carrier : goal.returns-then-carrier
returns-then-carrier c = carried_then c.args.carrier.now c.args.counts.now c.args.most c.args.behind c.if-carrier.true c.requires.most

pub bounds-counts-source : goal.bounds-counts-source
bounds-counts-source c =
    let is : c.index-source.result.now ≡ slice_index c.args.carrier.now.sources.items c.args.behind = c.index-source.ensures ∙ index_found c.args.carrier.now.sources.items c.args.behind c.index-source.result.now c.requires.there in
    subst (λ (n : ℕ). n < length c.args.counts.now) (sym is) c.requires.within

pub returns-else-carrier : goal.returns-else-carrier
returns-else-carrier c =
    let is : c.index-source.result.now ≡ slice_index c.args.carrier.now.sources.items c.args.behind = c.index-source.ensures ∙ index_found c.args.carrier.now.sources.items c.args.behind c.index-source.result.now c.requires.there in
    carried_else c.args.carrier.now c.args.counts.now c.args.behind c.index-source.result.now 0 c.if-carrier.false is (subst (λ (n : ℕ). n < length c.args.counts.now) (sym is) c.requires.within)
