use Rattle.dh_viewing.proofs.KeptAll.{all_kept}
use Rattle.dh_viewing.proofs.laws.kept_views_are_all.Goals as goal

pub returns : goal.returns
returns c = all_kept
