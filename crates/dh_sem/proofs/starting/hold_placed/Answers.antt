use Rattle.dh_tree.specs.Seen.{program_seen}
use Rattle.dh_sem.proofs.FirstMade.{few_ways}
use Rattle.dh_sem.proofs.starting.hold_placed.Goals as goal

pub ways_in-requires : goal.ways_in-requires
ways_in-requires c = record { few = few_ways (program_seen c.args.program.now) c.requires.runnable }
