use Rattle.dh_plan.proofs.StoringTree.{storing_is_plan}
use Rattle.dh_plan.proofs.examples.storing_plan_does_its_program.Goals as goal

pub returns : goal.returns
returns c = storing_is_plan
