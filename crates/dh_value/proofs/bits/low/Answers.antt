use Rattle.std.proofs.Common.{ap, ◌∙◌, bit_and}
use Rattle.std.proofs.lemmas.Nat.{and_mask}
use Rattle.dh_value.proofs.bits.low.Goals as goal

pub returns : goal.returns
returns c = ap (λ m. bit_and c.args.bits m) c.mask.ensures ∙ and_mask c.args.bits c.args.width
