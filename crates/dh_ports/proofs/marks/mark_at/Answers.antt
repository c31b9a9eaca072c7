use Rattle.std.proofs.lemmas.Option.{slice_get-get_or}
use Rattle.dh_ports.proofs.marks.mark_at.Goals as goal

pub returns : goal.returns
returns c = slice_get-get_or c.args.marks.now c.args.place _ c.requires.there
