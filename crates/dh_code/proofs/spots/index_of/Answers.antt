use Rattle.std.proofs.Common.{ap, sym, ◌∙◌}
use Rattle.std.specs.Int.{w128}
use Rattle.std.proofs.Math.Facts.{sfits_lit, yes_ltb}
use Rattle.std.proofs.lemmas.Int.{to_z-of_z}
use Rattle.dh_value.specs.Words as words
use Rattle.dh_code.specs.Banks.{index_within}
use Rattle.dh_code.proofs.MaskedSums.{natural_value}
use Rattle.dh_code.proofs.spots.index_of.Goals as goal

pub returns-in-Bool-clause-is : goal.returns-in-Bool-clause-is
returns-in-Bool-clause-is c = c.number_below.ensures.is ∙ ap (λ k. index_within c.args.size (words.value_in k c.args.word.bits)) (sym c.in-Bool.is)

pub returns-in-Unsigned-clause-is : goal.returns-in-Unsigned-clause-is
returns-in-Unsigned-clause-is c = c.number_below-in-Unsigned.ensures.is ∙ ap (λ k. index_within c.args.size (words.value_in k c.args.word.bits)) (sym c.in-Unsigned.is)

pub returns-then-is_natural-clause-is : goal.returns-then-is_natural-clause-is
returns-then-is_natural-clause-is c =
    c.number_below-then-is_natural.ensures.is
    ∙ (ap (λ z. index_within c.args.size z) (sym (natural_value c.in-Signed.width c.args.word.bits (c.is_natural.ensures.0 c.if-is_natural.true)))
    ∙ ap (λ k. index_within c.args.size (words.value_in k c.args.word.bits)) (sym c.in-Signed.is))

pub returns-else-is_natural-clause-is : goal.returns-else-is_natural-clause-is
returns-else-is_natural-clause-is c = c.index_below.ensures.is ∙ ap (λ z. index_within c.args.size z) (to_z-of_z w128 c.number.result (sfits_lit (yes_ltb c.number.type_inv)) ∙ c.number.ensures)
