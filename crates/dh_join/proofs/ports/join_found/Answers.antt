use Rattle.std.proofs.Common.{Some}
use Rattle.std.proofs.lemmas.Result.{IfOk-weaker}
use Rattle.dh_join.proofs.DriversStand.{one_as, found_second_as, found_former_as}
use Rattle.dh_join.proofs.ports.join_found.Goals as goal

pub returns-in-None : goal.returns-in-None
returns-in-None c = found_second_as _ c.args.port c.args.write c.args.first c.args.second c.in-None.is c.requires.second

pub join_former-requires-clause-former : goal.join_former-requires-clause-former
join_former-requires-clause-former c = one_as _ c.args.port c.args.write c.args.first (Some c.in-Some.former) c.in-Some.is c.requires.first

pub returns-in-Some : goal.returns-in-Some
returns-in-Some c =
    IfOk-weaker c.join_former.result _ _ (λ joined h. found_former_as _ _ c.args.port c.args.write c.args.first c.in-Some.former c.args.second joined c.in-Some.is h) c.join_former.ensures
