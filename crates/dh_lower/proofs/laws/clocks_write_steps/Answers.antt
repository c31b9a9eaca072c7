use Rattle.dh_lower.proofs.StepWrites.{ports_write_step}
use Rattle.dh_lower.proofs.laws.clocks_write_steps.Goals as goal

pub returns : goal.returns
returns c = λ plan t u users registers memories held words m wires dss has now say.
    ports_write_step plan t u users has registers memories held words m now wires dss say.many say.drives
