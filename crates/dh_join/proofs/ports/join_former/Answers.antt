use Rattle.std.proofs.Common.{Some, sym, ◌∙◌}
use Rattle.dh_join.proofs.DriversStand.{one_as, found_first_as, found_both_as}
use Rattle.dh_join.proofs.ports.join_former.Goals as goal

pub returns-in-None : goal.returns-in-None
returns-in-None c = found_first_as _ c.args.port c.args.write (Some c.args.former) c.args.second c.in-None.is c.requires.former

pub join_two-requires-clause-first : goal.join_two-requires-clause-first
join_two-requires-clause-first c = c.requires.former.0

pub join_two-requires-clause-second : goal.join_two-requires-clause-second
join_two-requires-clause-second c = (one_as _ c.args.port c.args.write c.args.second (Some c.in-Some.latter) c.in-Some.is c.requires.second).0

pub join_two-requires-clause-kind : goal.join_two-requires-clause-kind
join_two-requires-clause-kind c = (one_as _ c.args.port c.args.write c.args.second (Some c.in-Some.latter) c.in-Some.is c.requires.second).1 ∙ sym c.requires.former.1

pub returns-in_ok-joined-in-Some : goal.returns-in_ok-joined-in-Some
returns-in_ok-joined-in-Some c =
    found_both_as _ _ c.args.port c.args.write c.args.former c.args.second c.in-Some.latter c.in_ok-joined-in-Some.joined c.in-Some.is c.requires.former c.requires.second c.in_ok-joined-in-Some.ensures
