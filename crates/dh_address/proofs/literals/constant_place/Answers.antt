use Rattle.std.proofs.Common.{subst, sym, ◌∙◌, ◌≤◌}
use Rattle.dh_address.proofs.LiteralEnds.{places_end}
use Rattle.dh_address.proofs.literals.constant_place.Goals as goal

pub returns : goal.returns
returns c =
    sym (places_end c.args.dims.now c.args.indices.now c.loop-i.i c.loop-i.row c.loop-i.bank (subst (λ n. n ≤ c.loop-i.i) c.min-i-end.ensures c.loop-i-test.false)) ∙ c.loop-i.invariant
