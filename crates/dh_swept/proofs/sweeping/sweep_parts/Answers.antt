use Rattle.dh_swept.proofs.NetSwept.{can_mark}
use Rattle.dh_swept.proofs.sweeping.sweep_parts.Goals as goal

pub mark_needed-requires : goal.mark_needed-requires
mark_needed-requires c = can_mark c.args.net.now c.requires
