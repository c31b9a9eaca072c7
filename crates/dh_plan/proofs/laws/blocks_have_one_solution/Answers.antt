use Rattle.dh_plan.proofs.ValuesAlike.{memories_look_back}
use Rattle.dh_plan.proofs.BlocksSolved.{has_one_solution}
use Rattle.dh_plan.proofs.laws.blocks_have_one_solution.Goals as goal

pub returns-clause-solution : goal.returns-clause-solution
returns-clause-solution c s look first os back ordered = has_one_solution s look first back os ordered

pub returns-clause-memories : goal.returns-clause-memories
returns-clause-memories c s first = memories_look_back s first
