use Rattle.dh_control.proofs.UsersApart.{users_listed}
use Rattle.dh_control.proofs.laws.plans_have_users.Goals as goal

pub returns : goal.returns
returns c = λ plan u formed. users_listed plan u formed
