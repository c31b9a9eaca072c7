use Rattle.dh_plan.proofs.PlayedProgram.{plans_play_programs}
use Rattle.dh_plan.proofs.laws.plans_play_programs.Goals as goal

pub returns : goal.returns
returns c p = plans_play_programs p
