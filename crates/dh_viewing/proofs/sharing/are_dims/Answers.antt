use Rattle.std.proofs.lemmas.Slice.Eq.{slice_eq-Decides}
use Rattle.dh_viewing.proofs.SharedMaps.{dims_decide}
use Rattle.dh_viewing.proofs.sharing.are_dims.Goals as goal

pub returns : goal.returns
returns c = λ same. (slice_eq-Decides dims_decide c.args.one.now c.args.other.now c.eq.result c.eq.ensures).0 same
