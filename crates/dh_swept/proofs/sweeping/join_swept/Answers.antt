use Rattle.std.proofs.Common.{refl}
use Rattle.dh_swept.proofs.NetSwept.{parts_sweep}
use Rattle.dh_swept.proofs.NeededKept.{needs_all}
use Rattle.dh_swept.proofs.SweptRuns.{does_the_same}
use Rattle.dh_swept.proofs.sweeping.join_swept.Goals as goal

pub returns : goal.returns
returns c = record {
  same = does_the_same c.args.net _ c.requires.valid (parts_sweep c.args.net c.args.swept c.requires.parts _ refl refl refl refl refl refl refl refl);
  needed = needs_all c.args.net c.args.swept c.requires.parts _ refl refl refl refl refl refl;
}
