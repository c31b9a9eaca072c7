use Rattle.dh_sound.proofs.AccessBanks.{bank_told}
use Rattle.dh_sound.proofs.accesses_lie_in_their_banks.Goals as goal

pub returns : goal.returns
returns c = λ p typed rules b path v k a n r s is made leads. bank_told p b path v k a n r s typed rules is made leads
