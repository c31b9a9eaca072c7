use Rattle.std.proofs.Common.{◌≡◌, ap, arith}
use Rattle.std.proofs.lemmas.Result.{IfOk-weaker}
use Rattle.dh_value.specs.declared.kinds.Kind.TheVariants.{Unsigned}
use Rattle.dh_value.specs.declared.operators.Op.TheVariants.{Eq}
use Rattle.dh_value.specs.Words.{value_of, with_bits, word_of}
use Rattle.dh_value.specs.Operations.{binary_of}
use Rattle.dh_expressions.specs.Drafted.{word_shown}
use Rattle.dh_expressions.specs.Shown.{lowest_bit}
use Rattle.dh_expressions.proofs.Pushing.{gives, gives_both, gives_same}
use Rattle.dh_expressions.proofs.terms.push_lowest_bit.Goals as goal

pub returns-clause-means : goal.returns-clause-means
returns-clause-means c =
    let one : c.literal.result ≡ with_bits (Unsigned 1) 1 = c.literal.ensures (omega arith, omega arith) in
    IfOk-weaker c.push_compute.result _ _ (λ v p.
    gives_same c.args.draft.now c.push_compute.new.draft v (λ x. binary_of Eq (word_of (Unsigned 1) (value_of (word_shown x c.args.value))) c.literal.result) (λ x. lowest_bit (word_shown x c.args.value))
    (λ x. ap (λ w. binary_of Eq (word_of (Unsigned 1) (value_of (word_shown x c.args.value))) w) one)
    (gives_both c.args.draft.now c.push_convert.new.draft c.push_constant.new.draft c.push_compute.new.draft c.in_ok-bit.bit c.in_ok-one.one v
    (λ x. word_of (Unsigned 1) (value_of (word_shown x c.args.value))) (λ x. c.literal.result) (λ u w. binary_of Eq u w)
    (gives _ _ _ _ c.in_ok-bit.ensures.means) (gives _ _ _ _ c.in_ok-one.ensures.means) p)) c.push_compute.ensures.means

pub returns-clause-made : goal.returns-clause-made
returns-clause-made c = IfOk-weaker c.push_compute.result _ _ (λ v p. record {
  first = c.push_convert.new.draft;
  second = c.push_constant.new.draft;
  bit = c.in_ok-bit.bit;
  one = c.in_ok-one.one;
  converts = c.in_ok-bit.ensures.made;
  constant = record { word = c.literal.result; is = c.literal.ensures; pushes = c.in_ok-one.ensures.made };
  pushes = p;
}) c.push_compute.ensures.made
