use Rattle.std.proofs.Common.{refl, ap, ◌∙◌, length, take, drop, ◌-◌}
use Rattle.dh_tree.specs.PlainTrees.{shrinks, splits, suffixes, shifts}
use Rattle.dh_parser.specs.Grammar.{shrink, split, suffix, shift}
use Rattle.dh_parser.specs.Reading.{the_factor, the_suffix, the_offset}
use Rattle.dh_parser.proofs.FirstTokens.{first_is}
use Rattle.dh_parser.proofs.BracketLoops.{brackets_is, view_at, ap2}
use Rattle.dh_parser.proofs.Going.{ok_then, err_then, given}
use Rattle.dh_parser.proofs.parsing.views.read_plan.Goals as goal

pub returns-in_err-parent-in-Shrink-clause-answer : goal.returns-in_err-parent-in-Shrink-clause-answer
returns-in_err-parent-in-Shrink-clause-answer c =
    let all = c.args.reader.now.rest.now in
    let rest = take (length all - 1) (drop 1 all) in
    let e = view_at _ _ c.token-item.result _ (first_is _ _ c.in-len1-up.len_at_least c.token-item.is) c.in-Shrink.is ∙ brackets_is the_factor (shrink c.token-item.result.place) rest in
    rw (e, given c.from_residual.ensures) (err_then _ c.in_err-parent-in-Shrink.ensures.answer)

pub returns-in_ok-parent-in-Shrink-clause-answer : goal.returns-in_ok-parent-in-Shrink-clause-answer
returns-in_ok-parent-in-Shrink-clause-answer c =
    let all = c.args.reader.now.rest.now in
    let rest = take (length all - 1) (drop 1 all) in
    let e = view_at _ _ c.token-item.result _ (first_is _ _ c.in-len1-up.len_at_least c.token-item.is) c.in-Shrink.is ∙ brackets_is the_factor (shrink c.token-item.result.place) rest in
    rw e (ok_then _ c.in_ok-parent-in-Shrink.ensures.answer λ p s. record { holds = ((s.0, (ap2 shrinks s.1.0 s.1.1)), refl) })

pub returns-in_err-parent-in-Split-clause-answer : goal.returns-in_err-parent-in-Split-clause-answer
returns-in_err-parent-in-Split-clause-answer c =
    let all = c.args.reader.now.rest.now in
    let rest = take (length all - 1) (drop 1 all) in
    let e = view_at _ _ c.token-item.result _ (first_is _ _ c.in-len1-up.len_at_least c.token-item.is) c.in-Split.is ∙ brackets_is the_factor (split c.token-item.result.place) rest in
    rw (e, given c.from_residual-in_err-parent-in-Split.ensures) (err_then _ c.in_err-parent-in-Split.ensures.answer)

pub returns-in_ok-parent-in-Split-clause-answer : goal.returns-in_ok-parent-in-Split-clause-answer
returns-in_ok-parent-in-Split-clause-answer c =
    let all = c.args.reader.now.rest.now in
    let rest = take (length all - 1) (drop 1 all) in
    let e = view_at _ _ c.token-item.result _ (first_is _ _ c.in-len1-up.len_at_least c.token-item.is) c.in-Split.is ∙ brackets_is the_factor (split c.token-item.result.place) rest in
    rw e (ok_then _ c.in_ok-parent-in-Split.ensures.answer λ p s. record { holds = ((s.0, (ap2 splits s.1.0 s.1.1)), refl) })

pub returns-in_err-parent-in-Suffix-clause-answer : goal.returns-in_err-parent-in-Suffix-clause-answer
returns-in_err-parent-in-Suffix-clause-answer c =
    let all = c.args.reader.now.rest.now in
    let rest = take (length all - 1) (drop 1 all) in
    let e = view_at _ _ c.token-item.result _ (first_is _ _ c.in-len1-up.len_at_least c.token-item.is) c.in-Suffix.is ∙ brackets_is the_suffix (suffix c.token-item.result.place) rest in
    rw (e, given c.from_residual-in_err-parent-in-Suffix.ensures) (err_then _ c.in_err-parent-in-Suffix.ensures.answer)

pub returns-in_ok-parent-in-Suffix-clause-answer : goal.returns-in_ok-parent-in-Suffix-clause-answer
returns-in_ok-parent-in-Suffix-clause-answer c =
    let all = c.args.reader.now.rest.now in
    let rest = take (length all - 1) (drop 1 all) in
    let e = view_at _ _ c.token-item.result _ (first_is _ _ c.in-len1-up.len_at_least c.token-item.is) c.in-Suffix.is ∙ brackets_is the_suffix (suffix c.token-item.result.place) rest in
    rw e (ok_then _ c.in_ok-parent-in-Suffix.ensures.answer λ p s. record { holds = ((s.0, (ap2 suffixes s.1.0 s.1.1)), refl) })

pub returns-in_err-parent-in-Shift-clause-answer : goal.returns-in_err-parent-in-Shift-clause-answer
returns-in_err-parent-in-Shift-clause-answer c =
    let all = c.args.reader.now.rest.now in
    let rest = take (length all - 1) (drop 1 all) in
    let e = view_at _ _ c.token-item.result _ (first_is _ _ c.in-len1-up.len_at_least c.token-item.is) c.in-Shift.is ∙ brackets_is the_offset (shift c.token-item.result.place) rest in
    rw (e, given c.from_residual-in_err-parent-in-Shift.ensures) (err_then _ c.in_err-parent-in-Shift.ensures.answer)

pub returns-in_ok-parent-in-Shift-clause-answer : goal.returns-in_ok-parent-in-Shift-clause-answer
returns-in_ok-parent-in-Shift-clause-answer c =
    let all = c.args.reader.now.rest.now in
    let rest = take (length all - 1) (drop 1 all) in
    let e = view_at _ _ c.token-item.result _ (first_is _ _ c.in-len1-up.len_at_least c.token-item.is) c.in-Shift.is ∙ brackets_is the_offset (shift c.token-item.result.place) rest in
    rw e (ok_then _ c.in_ok-parent-in-Shift.ensures.answer λ p s. record { holds = ((s.0, (ap shifts s.1)), refl) })
