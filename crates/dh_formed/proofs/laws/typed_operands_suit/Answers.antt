use Rattle.dh_formed.proofs.OperandsTyped as typed
use Rattle.dh_formed.proofs.laws.typed_operands_suit.Goals as goal

pub returns : goal.returns
returns c = typed.typed_operands_suit
