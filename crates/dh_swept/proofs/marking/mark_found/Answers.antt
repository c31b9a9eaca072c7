use Rattle.std.proofs.Common.{arith}
use Rattle.dh_swept.proofs.WiresFound.{looking_starts, looking_turn, looking_ends}
use Rattle.dh_swept.proofs.marking.mark_found.Goals as goal

pub loop-place-init : goal.loop-place-init
loop-place-init c = looking_starts c.args.net.now c.args.marks.now c.requires.can c.requires.rooted

pub loop-place-preserved : goal.loop-place-preserved
loop-place-preserved c =
    looking_turn c.args.net.now c.loop-place.place c.loop-place.marks c.mark_behind.new.marks c.requires.can c.loop-place.invariant c.in_ok-mark_behind.ensures

pub returns : goal.returns
returns c =
    looking_ends c.args.net.now c.loop-place.place c.loop-place.marks (let past = c.loop-place-test.false in let count = c.len-place-end.ensures in omega (arith, past, count)) c.loop-place.invariant
