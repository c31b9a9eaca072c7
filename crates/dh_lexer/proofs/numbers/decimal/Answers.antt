-- One digit more, what is no digit, and the end of the digits.
use Rattle.std.proofs.Common.{get_or, sym, ◌∙◌, refl, arith, ◌<◌, ◌≤◌, ◌^◌, length}
use Rattle.dh_lexer.proofs.Decimals.{reading_turn, reading_bad, reading_end}
use Rattle.dh_lexer.proofs.numbers.decimal.Goals as goal

pub loop-i-preserved : goal.loop-i-preserved
loop-i-preserved c =
    reading_turn c.args.bytes.now c.loop-i.i c.loop-i.number (get_or c.args.bytes.now c.loop-i.i 0) c.loop-i-test.true refl
    (sym c.is_ascii_digit.ensures.value ∙ c.if-not-is_ascii_digit.false) c.loop-i.invariant

pub returns-then-not-is_ascii_digit : goal.returns-then-not-is_ascii_digit
returns-then-not-is_ascii_digit c =
    reading_bad c.args.bytes.now c.loop-i.i c.loop-i.number (get_or c.args.bytes.now c.loop-i.i 0) c.loop-i-test.true refl
    (sym c.is_ascii_digit.ensures.value ∙ c.if-not-is_ascii_digit.true) c.loop-i.invariant

pub returns : goal.returns
returns c =
    let late : length c.args.bytes.now ≤ c.loop-i.i = omega (arith, c.loop-i-test.false) in
    let small : c.loop-i.number < 2 ^ 64 = omega (arith, c.loop-i.auto.number-fits) in
    reading_end c.args.bytes.now c.loop-i.i c.loop-i.number late c.requires.0 small c.loop-i.invariant
