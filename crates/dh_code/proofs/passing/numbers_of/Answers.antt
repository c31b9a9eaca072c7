use Rattle.std.proofs.Common.{rules, ◌≡◌, ◌++◌, ◌∷◌, [], ◌+◌, length, ap, ◌∙◌, arith, add-one, SFits}
use Rattle.std.specs.Prelude.{ℤ}
use Rattle.std.specs.Int.{w128}
use Rattle.std.proofs.lemmas.Int.{to_z-of_z}
use Rattle.dh_value.specs.Words as words
use Rattle.dh_viewing.specs.Numbers.{numbers_in}
use Rattle.dh_code.specs.Operated.{view_seen}
use Rattle.dh_code.proofs.LinksPassed.{numbers_at, numbers_end}
use Rattle.dh_code.proofs.passing.numbers_of.Goals as goal

pub loop-operand-preserved : goal.loop-operand-preserved
loop-operand-preserved c =
    let z : SFits w128 c.number.result = search rules in
    let same = to_z-of_z w128 c.number.result z in
    rw (add-one c.loop-operand.operand-index) (
      numbers_at (view_seen c.args.view.now) (numbers_in c.loop-operand.numbers) (numbers_in c.with_number-numbers.result) c.args.operands.now c.loop-operand.operand-index _ c.number.result c.loop-operand-test.true
          (c.with_number-numbers.ensures.numbers ∙ ap (λ (y : ℤ). numbers_in c.loop-operand.numbers ++ y ∷ []) same) (c.number.ensures ∙ ap (λ x. words.value_of x) c.value_at.ensures.value) c.loop-operand.invariant.0,
      c.with_number-numbers.ensures.long ∙ (ap (λ n. n + 1) c.loop-operand.invariant.1 ∙ add-one c.loop-operand.operand-index),
    )

pub returns-clause-values : goal.returns-clause-values
returns-clause-values c = numbers_end (view_seen c.args.view.now) (numbers_in c.loop-operand.numbers) c.args.operands.now c.loop-operand.operand-index c.loop-operand-test.false c.loop-operand.invariant.0

pub returns-clause-long : goal.returns-clause-long
returns-clause-long c =
    let past = c.loop-operand-test.false in
    let up = c.loop-operand.auto.operand-index-end in
    let all : c.loop-operand.operand-index ≡ length c.args.operands.now = omega (arith, past, up) in
    c.loop-operand.invariant.1 ∙ all
