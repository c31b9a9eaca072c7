use Rattle.std.proofs.Common.{ℕ, ◌<◌, [], ◌∷◌, ◌++◌, length, refl, ap, ◌∙◌, arith}
use Rattle.std.specs.Prelude.{Option}
use Rattle.dh_commands.proofs.ArmEnded.{ends_turn, ends_turn_past, given_is}
use Rattle.dh_commands.proofs.choices.end_arm.Goals as goal

pub loop-i-preserved-then-at-len : goal.loop-i-preserved-then-at-len
loop-i-preserved-then-at-len c =
    let inside = c.if-i-len.true in let long = c.len.ensures in
    let room = c.if-at-len.true in let many = c.len-then-i-len.ensures in
    let within : c.index-change.result.now.register < length c.loop-i.values.current.items = omega (arith, room, many) in
    ends_turn c.args.values.now c.loop-i.values _ c.args.floor c.loop-i.i c.loop-i.left.items c.push.new.self.items c.index-change.result.now c.index-change.result.now c.loop-i-test.true
    (omega (arith, inside, long)) c.index-change.ensures c.loop-i.invariant refl refl refl
    (c.in_ok-push.ensures.items ∙ ap (λ (o : Option ℕ). c.loop-i.left.items ++ record { register = c.index-change.result.now.register; path = c.index-change.result.now.path; value = o } ∷ [])
    (given_is c.loop-i.values.current.items c.index-change.result.now.register c.index.result.now within c.index.ensures))

pub loop-i-preserved-else-at-len : goal.loop-i-preserved-else-at-len
loop-i-preserved-else-at-len c =
    let inside = c.if-i-len.true in let long = c.len.ensures in
    let past = c.if-at-len.false in let many = c.len-then-i-len.ensures in
    ends_turn_past c.args.values.now c.loop-i.values _ c.args.floor c.loop-i.i c.loop-i.left.items c.index-change.result.now c.index-change.result.now c.loop-i-test.true
    (omega (arith, inside, long)) c.index-change.ensures c.loop-i.invariant (omega (arith, past, many)) refl
