use Rattle.std.proofs.Common.{rules}
use Rattle.dh_phases.proofs.SeenPhases.{straight_more}
use Rattle.dh_phases.proofs.gathering.end_phase.Goals as goal

pub returns-in_ok-push-clause-done : goal.returns-in_ok-push-clause-done
returns-in_ok-push-clause-done c =
    straight_more c.args.done.now.items c.push.new.self.items c.replace-commands.result c.args.current.now.items c.args.current.now.len c.is_empty.result c.in_ok-push.ensures.items (search rules) c.args.current.now.ok.0 c.is_empty.ensures c.if-not-is_empty.true
