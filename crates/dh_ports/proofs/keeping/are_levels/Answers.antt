use Rattle.std.proofs.lemmas.Slice.Eq.{slice_eq-Decides}
use Rattle.dh_ports.proofs.SameReach.{levels_decide}
use Rattle.dh_ports.proofs.keeping.are_levels.Goals as goal

pub returns : goal.returns
returns c = λ same. (slice_eq-Decides levels_decide c.args.one.now c.args.other.now c.eq.result c.eq.ensures).0 same
