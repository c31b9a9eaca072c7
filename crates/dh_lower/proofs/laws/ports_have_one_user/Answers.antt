use Rattle.dh_lower.proofs.AsksMeant.{asks_means}
use Rattle.dh_lower.proofs.UsersAlone.{one_user_acts}
use Rattle.dh_lower.proofs.laws.ports_have_one_user.Goals as goal

pub returns : goal.returns
returns c = record {
  one = λ plan u users registers memories blocks port v w o p r s has kept x y a b. one_user_acts plan u users has registers memories blocks kept port v w o p r s x y a b;
  asking = λ plan t u registers memories held words m user now e. asks_means plan t u registers memories held words m now user e;
}
