use Rattle.dh_viewing.proofs.KeptPrograms.{views_kept}
use Rattle.dh_viewing.proofs.laws.kept_views_have_shapes.Goals as goal

pub returns : goal.returns
returns c = views_kept
