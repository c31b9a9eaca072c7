use Rattle.std.proofs.lemmas.Result.{IfOk-weaker}
use Rattle.dh_address.specs.SeenAround.{around_seen}
use Rattle.dh_address.proofs.ReadsMade.{read_made}
use Rattle.dh_address.proofs.blocks.push_read.Goals as goal

pub returns : goal.returns
returns c =
    IfOk-weaker c.push.result _ _
    (λ n h. read_made (around_seen c.args.old.now c.args.known.now) c.args.guard c.args.reach.now c.args.list.now c.pass_reach.new.list c.guard_ranges.new.list c.aim_reach.new.list c.push.new.self
    c.in_ok-passed.passed c.as_slice.result.now c.as_slice-2.result.now c.in_ok-guard.guard c.in_ok-access.access n c.as_slice.ensures c.as_slice-2.ensures c.in_ok-passed.ensures c.in_ok-guard.ensures
    c.in_ok-access.ensures h)
    c.push.ensures
