use Rattle.dh_tree.specs.Seen.{program_seen}
use Rattle.dh_runnable.proofs.ProgramsRun.{ready_few}
use Rattle.dh_tests.proofs.phase_lengths.lengths_of.Goals as goal

pub phase_lengths-requires-clause-few : goal.phase_lengths-requires-clause-few
phase_lengths-requires-clause-few c = ready_few (program_seen c.in_ok-typed.typed) c.in_ok-typed.ensures.1
