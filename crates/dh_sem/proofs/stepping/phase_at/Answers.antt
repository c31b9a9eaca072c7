use Rattle.std.proofs.lemmas.Option.{slice_get-get_or}
use Rattle.dh_sem.proofs.stepping.phase_at.Goals as goal

pub returns : goal.returns
returns c = slice_get-get_or c.args.phases.now c.args.at _ c.requires.there
