use Rattle.dh_plan.proofs.ValuesAlike.{does_by_values}
use Rattle.dh_plan.proofs.laws.blocks_do_by_values.Goals as goal

pub returns : goal.returns
returns c = does_by_values
