use Rattle.dh_plan.proofs.RolesOfRegisters.{phases_give_roles}
use Rattle.dh_plan.proofs.laws.registers_have_roles.Goals as goal

pub returns : goal.returns
returns c = phases_give_roles
