-- A word that is not plain writes no steps; of a plain one std reads them.
use Rattle.std.proofs.Common.{sym}
use Rattle.dh_app.proofs.StepWords.{steps_read, not_plain}
use Rattle.dh_app.proofs.words.steps_of.Goals as goal

pub returns-then-not-is_plain : goal.returns-then-not-is_plain
returns-then-not-is_plain c = sym (not_plain c.args.word.now (sym c.if-not-is_plain.ensures))

pub returns-in_default : goal.returns-in_default
returns-in_default c =
    let h = rw c.in_default.is at (steps_read c.args.word.now c.from_str_radix.result (sym c.if-not-is_plain.ensures) c.from_str_radix.ensures.value) in
    sym h

pub returns-then-steps-gt-MOST_STEPS : goal.returns-then-steps-gt-MOST_STEPS
returns-then-steps-gt-MOST_STEPS c =
    let h = rw c.in-Ok.is at (steps_read c.args.word.now c.from_str_radix.result (sym c.if-not-is_plain.ensures) c.from_str_radix.ensures.value) in
    sym (h.1 c.if-steps-gt-MOST_STEPS.true)

pub returns : goal.returns
returns c =
    let h = rw c.in-Ok.is at (steps_read c.args.word.now c.from_str_radix.result (sym c.if-not-is_plain.ensures) c.from_str_radix.ensures.value) in
    sym (h.0 c.if-steps-gt-MOST_STEPS.false)
