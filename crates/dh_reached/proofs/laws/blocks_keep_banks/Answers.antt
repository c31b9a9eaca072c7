use Rattle.dh_reached.proofs.StepKeeps as steps
use Rattle.dh_reached.proofs.laws.blocks_keep_banks.Goals as goal

pub returns : goal.returns
returns c plan block registers memories sites u order known apart = steps.blocks_keep_banks plan block registers memories sites u order known apart
