use Rattle.dh_told.proofs.RegistersSized.{registers_are_sized}
use Rattle.dh_told.proofs.laws.registers_are_sized.Goals as goal

pub returns : goal.returns
returns c = registers_are_sized
