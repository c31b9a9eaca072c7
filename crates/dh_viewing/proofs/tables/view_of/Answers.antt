use Rattle.dh_viewing.specs.Tables.{all_shared}
use Rattle.dh_viewing.proofs.PlacedViews.{found_by}
use Rattle.dh_viewing.proofs.tables.view_of.Goals as goal

pub returns : goal.returns
returns c = found_by (all_shared c.args.views.now) c.args.places.now c.args.entity c.place_at.result _ c.requires c.place_at.ensures c.view_at.ensures
