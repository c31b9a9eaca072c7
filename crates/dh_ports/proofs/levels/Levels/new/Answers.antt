use Rattle.dh_ports.proofs.LeftTurns.{levels_start}
use Rattle.dh_ports.proofs.levels.Levels.new.Goals as goal

pub returns-clause-kept : goal.returns-clause-kept
returns-clause-kept c = (levels_start (record { left = c.args.left; log = c.new.result; lows = c.new-2.result; outer = c.new-3.result; spare = c.new-4.result }) c.new.ensures.items c.new-2.ensures.items c.new-3.ensures.items).0

pub returns-clause-starts : goal.returns-clause-starts
returns-clause-starts c = (levels_start (record { left = c.args.left; log = c.new.result; lows = c.new-2.result; outer = c.new-3.result; spare = c.new-4.result }) c.new.ensures.items c.new-2.ensures.items c.new-3.ensures.items).1
