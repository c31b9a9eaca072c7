use Rattle.dh_runnable.proofs.ProgramsRun.{enough_runs, ready_runs}
use Rattle.dh_runnable.proofs.ready_programs_are_runnable.Goals as goal

pub returns-clause-enough : goal.returns-clause-enough
returns-clause-enough c = enough_runs

pub returns-clause-ready : goal.returns-clause-ready
returns-clause-ready c = ready_runs
