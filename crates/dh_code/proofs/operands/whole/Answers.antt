use Rattle.std.proofs.Common.{◌^◌, ap, sym, ◌∙◌}
use Rattle.dh_value.specs.Words.{residue, value_in}
use Rattle.dh_code.proofs.MaskedSums.{natural_residue}
use Rattle.dh_code.proofs.operands.whole.Goals as goal

pub returns-in-Bool : goal.returns-in-Bool
returns-in-Bool c = natural_residue c.args.word.kind c.args.word.bits c.requires.sized c.requires.fits ∙ ap (λ k. residue (2 ^ 64) (value_in k c.args.word.bits)) (sym c.in-Bool.is)

pub returns-in-Unsigned : goal.returns-in-Unsigned
returns-in-Unsigned c = natural_residue c.args.word.kind c.args.word.bits c.requires.sized c.requires.fits ∙ ap (λ k. residue (2 ^ 64) (value_in k c.args.word.bits)) (sym c.in-Unsigned.is)
