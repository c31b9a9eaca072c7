use Rattle.std.proofs.Common.{Some, ap, sym, ◌∙◌}
use Rattle.std.proofs.lemmas.Option.{slice_get-get_or}
use Rattle.dh_sem.proofs.stepping.lanes_at.Goals as goal

pub returns : goal.returns
returns c = slice_get-get_or c.args.lanes.now c.args.at c.index-lanes-at.result c.requires.there ∙ ap Some (sym c.index-lanes-at.is)
