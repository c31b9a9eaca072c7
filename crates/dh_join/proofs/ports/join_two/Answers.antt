use Rattle.dh_cells.proofs.CellsAppended.{width_later}
use Rattle.dh_join.proofs.CellsGrown.{driver_later}
use Rattle.dh_join.proofs.DriversStand.{two_joined}
use Rattle.dh_join.proofs.ports.join_two.Goals as goal

pub push_either-requires-clause-left : goal.push_either-requires-clause-left
push_either-requires-clause-left c = c.requires.first.enable

pub push_either-requires-clause-right : goal.push_either-requires-clause-right
push_either-requires-clause-right c = c.requires.second.enable

pub push_choice-requires-clause-test : goal.push_choice-requires-clause-test
push_choice-requires-clause-test c = width_later _ _ c.args.first.enable 1 c.in_ok-enable.ensures.grows.begins c.requires.first.enable

pub push_choice-requires-clause-left : goal.push_choice-requires-clause-left
push_choice-requires-clause-left c = width_later _ _ c.args.first.row c.args.port.row_width c.in_ok-enable.ensures.grows.begins c.requires.first.row

pub push_choice-requires-clause-right : goal.push_choice-requires-clause-right
push_choice-requires-clause-right c = width_later _ _ c.args.second.row c.args.port.row_width c.in_ok-enable.ensures.grows.begins c.requires.second.row

pub join_data-requires-clause-first : goal.join_data-requires-clause-first
join_data-requires-clause-first c =
    driver_later _ _ c.args.port c.args.first (λ i d at. c.in_ok-row.ensures.grows.begins i d (c.in_ok-enable.ensures.grows.begins i d at)) c.requires.first

pub join_data-requires-clause-second : goal.join_data-requires-clause-second
join_data-requires-clause-second c =
    driver_later _ _ c.args.port c.args.second (λ i d at. c.in_ok-row.ensures.grows.begins i d (c.in_ok-enable.ensures.grows.begins i d at)) c.requires.second

pub returns : goal.returns
returns c =
    two_joined _ _ _ _ c.args.port c.args.first c.args.second c.in_ok-enable.enable c.in_ok-row.row c.in_ok-data_.data_ c.in_ok-enable.ensures c.in_ok-row.ensures c.in_ok-data_.ensures
