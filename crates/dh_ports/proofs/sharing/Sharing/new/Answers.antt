use Rattle.dh_ports.proofs.SharedSteps.{share_begins}
use Rattle.dh_ports.proofs.sharing.Sharing.new.Goals as goal

pub returns : goal.returns
returns c =
    share_begins c.args.count c.in_ok-ones.ones.items (record { classes = c.by_phase.result; levels = c.new.result; flags = c.new-2.result })
    c.in_ok-ones.ensures c.by_phase.ensures c.new.ensures.kept c.new.ensures.starts c.new-2.ensures.items
