use Rattle.std.proofs.Common.{◌≡◌, ℕ, refl, sym, subst, arith, add-one}
use Rattle.std.specs.Prelude.{Option}
use Rattle.std.proofs.lemmas.Result.{IfOk-weaker}
use Rattle.dh_expressions.specs.MadeValues.{MadeBits, MadeTotal}
use Rattle.dh_expressions.specs.Multiples.{SumSoFar}
use Rattle.dh_expressions.proofs.Multiplying.{sum_first, sum_last, sum_lost}
use Rattle.dh_expressions.proofs.iterators.push_multiple.Goals as goal

pub loop-by-init : goal.loop-by-init
loop-by-init c = record { sums = sum_first c.args.draft.now c.args.value c.args.factor; made = (refl, refl) }

pub loop-by-preserved : goal.loop-by-preserved
loop-by-preserved c = record {
  sums = c.in_ok-sum.ensures.means c.args.draft.now c.loop-by-test.true c.loop-by.invariant.sums;
  made =
      subst (λ (b : ℕ). MadeBits c.args.value b c.args.draft.now c.push_bit.new.draft c.in_ok-sum.sum) (sym (add-one c.loop-by.by))
      (c.loop-by.draft, (c.loop-by.sum, (c.loop-by.invariant.made, c.in_ok-sum.ensures.made)));
}

pub returns-in-Some-clause-means : goal.returns-in-Some-clause-means
returns-in-Some-clause-means c = λ some.
    let end : c.loop-by.by ≡ 64 = let l = c.loop-by-test.false in let e = c.loop-by.auto.by-end in omega (arith, l, e) in
    sum_last c.args.draft.now c.loop-by.draft c.args.value c.args.factor c.in-Some.sum c.loop-by.sum c.in-Some.is c.ranges.factor.fits
    (subst (λ (b : ℕ). SumSoFar c.args.draft.now c.loop-by.draft c.args.value c.args.factor b c.loop-by.sum) end c.loop-by.invariant.sums)

pub returns-in-Some-clause-made : goal.returns-in-Some-clause-made
returns-in-Some-clause-made c = record {
  bits = c.loop-by.by;
  few = let e = c.loop-by.auto.by-end in omega (arith, e);
  middle = c.loop-by.draft;
  sum = c.loop-by.sum;
  sums = c.loop-by.invariant.made;
  total = subst (λ (o : Option ℕ). MadeTotal c.args.kind o c.loop-by.draft c.loop-by.draft c.in-Some.sum) (sym c.in-Some.is) (refl, refl);
}

pub returns-in-None-clause-means : goal.returns-in-None-clause-means
returns-in-None-clause-means c =
    let end : c.loop-by.by ≡ 64 = let l = c.loop-by-test.false in let e = c.loop-by.auto.by-end in omega (arith, l, e) in
    IfOk-weaker c.push_constant.result _ _ (λ n p some.
    absurd (sum_lost c.args.draft.now c.loop-by.draft c.args.value c.args.factor c.loop-by.sum c.in-None.is c.ranges.factor.fits some
    (subst (λ (b : ℕ). SumSoFar c.args.draft.now c.loop-by.draft c.args.value c.args.factor b c.loop-by.sum) end c.loop-by.invariant.sums))) c.push_constant.ensures.means

pub returns-in-None-clause-made : goal.returns-in-None-clause-made
returns-in-None-clause-made c = IfOk-weaker c.push_constant.result _ _ (λ n p. record {
  bits = c.loop-by.by;
  few = let e = c.loop-by.auto.by-end in omega (arith, e);
  middle = c.loop-by.draft;
  sum = c.loop-by.sum;
  sums = c.loop-by.invariant.made;
  total =
      subst (λ (o : Option ℕ). MadeTotal c.args.kind o c.loop-by.draft c.push_constant.new.draft n) (sym c.in-None.is)
      (record { word = c.literal.result; is = c.literal.ensures; pushes = p });
}) c.push_constant.ensures.made
