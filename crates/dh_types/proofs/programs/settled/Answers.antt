use Rattle.dh_types.proofs.Wanting.{unsettled}
use Rattle.dh_types.proofs.programs.settled.Goals as goal

pub returns-in_err-of-in-None : goal.returns-in_err-of-in-None
returns-in_err-of-in-None c = unsettled c.args.tree c.args.least _ c.from_residual.ensures c.in-None.is
