use Rattle.dh_charged.proofs.MemoriesHad.{ready_have_memories}
use Rattle.dh_charged.proofs.laws.accesses_have_memories.Goals as goal

pub returns : goal.returns
returns c p ready few banks = ready_have_memories p ready few banks
