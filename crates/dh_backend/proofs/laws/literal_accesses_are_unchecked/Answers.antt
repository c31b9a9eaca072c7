use Rattle.dh_backend.proofs.LiteralsUnchecked.{literals_are_unchecked}
use Rattle.dh_backend.proofs.laws.literal_accesses_are_unchecked.Goals as goal

pub returns : goal.returns
returns c p = literals_are_unchecked p
