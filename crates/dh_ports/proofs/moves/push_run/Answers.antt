use Rattle.dh_ports.proofs.RunTurns.{run_pushed}
use Rattle.dh_ports.proofs.moves.push_run.Goals as goal

pub returns : goal.returns
returns c = run_pushed c.args.moves.now.items c.push.new.self.items c.args.first c.args.end c.in_ok-push.ensures.items
