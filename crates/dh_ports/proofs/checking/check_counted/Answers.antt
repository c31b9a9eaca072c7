use Rattle.dh_tree.specs.Seen.{program_seen}
use Rattle.dh_ports.proofs.Judged.{judged_told}
use Rattle.dh_ports.proofs.checking.check_counted.Goals as goal

pub returns : goal.returns
returns c = judged_told (program_seen c.args.typed) _ _ c.judged.ensures
