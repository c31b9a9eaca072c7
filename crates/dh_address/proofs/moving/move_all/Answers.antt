use Rattle.std.proofs.Common.{◌∙◌, ap, subst, ◌≤◌, min, length}
use Rattle.dh_address.proofs.WayTurns.{moved_ended}
use Rattle.dh_address.proofs.moving.move_all.Goals as goal

pub returns : goal.returns
returns c =
    moved_ended c.args.dims.now c.args.factors.now c.args.offsets.now c.args.indices.now c.loop-i.i c.loop-i.list c.loop-i.ranges c.loop-i.moved _
    (subst (λ n. n ≤ c.loop-i.i) (c.min-count-2.ensures ∙ ap (λ n. min n (length c.args.indices.now)) (c.min.ensures ∙ ap (λ n. min n (length c.args.offsets.now)) c.min-count.ensures)) c.loop-i-test.false)
    c.loop-i.invariant
