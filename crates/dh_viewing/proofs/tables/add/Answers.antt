use Rattle.std.specs.Prelude.{is_ok}
use Rattle.dh_viewing.specs.Tables.{all_shared, shared_seen}
use Rattle.dh_viewing.proofs.PlacedViews.{none_pushed}
use Rattle.dh_viewing.proofs.SharedTables.{shared_pushed}
use Rattle.dh_viewing.proofs.tables.add.Goals as goal

pub returns-in-None-clause-placed : goal.returns-in-None-clause-placed
returns-in-None-clause-placed c =
    none_pushed (all_shared c.args.views.now) (all_shared c.push.new.self) (shared_seen c.args.view) c.args.places.now.items (is_ok c.push.result) c.requires c.in-None.is
    (shared_pushed (is_ok c.push.result) c.args.views.now c.push.new.self c.args.view c.push.ensures)
