use Rattle.std.specs.Prelude.{is_ok}
use Rattle.dh_viewing.proofs.PlacedViews.{none_pushed}
use Rattle.dh_viewing.proofs.placing.add.Goals as goal

pub returns-in-None-clause-placed : goal.returns-in-None-clause-placed
returns-in-None-clause-placed c = none_pushed c.args.views.now c.push.new.self c.args.view c.args.places.now.items (is_ok c.push.result) c.requires c.in-None.is c.push.ensures
