use Rattle.dh_lower.proofs.FitsKept.{fits_kept}
use Rattle.dh_lower.proofs.laws.clocks_keep_fits.Goals as goal

pub returns : goal.returns
returns c = fits_kept
