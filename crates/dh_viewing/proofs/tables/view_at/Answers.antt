use Rattle.dh_viewing.proofs.SharedTables.{map_found, no_map}
use Rattle.dh_viewing.proofs.tables.view_at.Goals as goal

pub returns-in-Some : goal.returns-in-Some
returns-in-Some c = map_found c.args.views.now c.args.place c.shared_at.result c.in-Some.view c.as_map.result.now c.shared_at.ensures c.in-Some.is c.as_map.ensures

pub returns-in-None : goal.returns-in-None
returns-in-None c = no_map c.args.views.now c.args.place c.shared_at.result c.shared_at.ensures c.in-None.is
