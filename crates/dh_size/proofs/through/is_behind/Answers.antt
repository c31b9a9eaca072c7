use Rattle.std.proofs.Common.{◌≡◌, ℕ, ◌<◌, false, length, slice_index, sym, subst, ◌∙◌}
use Rattle.dh_ports.proofs.ClaimTurns.{index_found}
use Rattle.dh_size.proofs.ThroughBanks.{behind_else, behind_then}
use Rattle.dh_size.proofs.through.is_behind.Goals as goal

pub returns-then-carrier : goal.returns-then-carrier
returns-then-carrier c = behind_then c.args.carrier.now c.args.marks.now c.args.any c.args.behind c.if-carrier.true c.requires.any

pub bounds-marks-source : goal.bounds-marks-source
bounds-marks-source c =
    let is : c.index-source.result.now ≡ slice_index c.args.carrier.now.sources.items c.args.behind = c.index-source.ensures ∙ index_found c.args.carrier.now.sources.items c.args.behind c.index-source.result.now c.requires.there in
    subst (λ (n : ℕ). n < length c.args.marks.now) (sym is) c.requires.within

pub returns-else-carrier : goal.returns-else-carrier
returns-else-carrier c =
    let is : c.index-source.result.now ≡ slice_index c.args.carrier.now.sources.items c.args.behind = c.index-source.ensures ∙ index_found c.args.carrier.now.sources.items c.args.behind c.index-source.result.now c.requires.there in
    behind_else c.args.carrier.now c.args.marks.now c.args.behind c.index-source.result.now false c.if-carrier.false is (subst (λ (n : ℕ). n < length c.args.marks.now) (sym is) c.requires.within)
