use Rattle.std.proofs.Common.{inl, inr, refl}
use Rattle.dh_expressions.proofs.Multiplying.{sum_add, sum_skip}
use Rattle.dh_expressions.proofs.iterators.push_bit.Goals as goal

pub returns-then-not-has_bit-clause-means : goal.returns-then-not-has_bit-clause-means
returns-then-not-has_bit-clause-means c = λ d few h. sum_skip d c.args.draft.now c.args.value c.args.factor c.args.by c.args.sum (c.has_bit.ensures.unset c.if-not-has_bit.true few) h

pub returns-clause-means : goal.returns-clause-means
returns-clause-means c = λ d few h.
    sum_add d c.args.draft.now c.push_shifted.new.draft c.push_sum.new.draft c.args.value c.args.factor c.args.by c.args.sum c.in_ok-shifted.shifted c.in_ok-push_sum.field-0
    (c.has_bit.ensures.set c.if-not-has_bit.false) h (c.in_ok-shifted.ensures.means few) c.in_ok-push_sum.ensures.means

pub returns-then-not-has_bit-clause-made : goal.returns-then-not-has_bit-clause-made
returns-then-not-has_bit-clause-made c = inl (refl, refl)

pub returns-clause-made : goal.returns-clause-made
returns-clause-made c = inr (record {
  middle = c.push_shifted.new.draft;
  shifted = c.in_ok-shifted.shifted;
  total = c.in_ok-push_sum.field-0;
  shifts = c.in_ok-shifted.ensures.made;
  sums = c.in_ok-push_sum.ensures.made;
  more_is = refl;
})
