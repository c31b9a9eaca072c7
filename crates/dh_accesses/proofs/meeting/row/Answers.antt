use Rattle.dh_accesses.proofs.MetParts.{row_turn, row_done}
use Rattle.dh_accesses.proofs.meeting.row.Goals as goal

pub loop-access-preserved : goal.loop-access-preserved
loop-access-preserved c =
    row_turn c.args.first c.args.end c.loop-access.access c.loop-access.parts.items c.push.new.self.items c.loop-access-test.true c.in_ok-push.ensures.items c.loop-access.invariant

pub returns : goal.returns
returns c = row_done c.args.first c.args.end c.loop-access.access c.loop-access.parts c.loop-access-test.false c.loop-access.invariant
