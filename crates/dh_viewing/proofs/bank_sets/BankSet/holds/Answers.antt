use Rattle.std.proofs.Common.{ap}
use Rattle.std.specs.Prelude.{nat_eq}
use Rattle.std.proofs.lemmas.Nat.Bits.{shr_and_one}
use Rattle.dh_viewing.proofs.bank_sets.BankSet.holds.Goals as goal

pub returns : goal.returns
returns c = ap (λ m. nat_eq m 1) (shr_and_one c.args.self.bits c.args.bank)
