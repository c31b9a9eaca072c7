use Rattle.std.proofs.Common.{◌≡◌, ℕ, ◌<◌, ◌-◌, length, ap, ◌∙◌, arith}
use Rattle.std.specs.Prelude.{slice_index}
use Rattle.dh_commands.proofs.JoinedArms.{has_other, mark_is, no_choice, other_stays}
use Rattle.dh_commands.proofs.choices.note_other.Goals as goal
use Rattle.dh_commands.proofs.choices.note_other.Goals.{else-mark-len-via-then-mark-len+else-is_none, else-mark-len-via-else-mark-len}

pub returns-else-mark-len-clause-noted : goal.returns-else-mark-len-clause-noted
returns-else-mark-len-clause-noted c =
    let test = c.if-at-len.false in let long = c.len.ensures in
    let within : c.args.left.register < length c.args.marks.now.items = omega (arith, test, long) in
    let place : c.saturating_sub-mark.result ≡ slice_index c.args.marks.now.items c.args.left.register - 1 =
    c.saturating_sub-mark.ensures ∙ ap (λ (n : ℕ). n - 1) (mark_is c.args.marks.now.items c.args.left.register c.index-else-index-eq0.result.now within c.index-else-index-eq0.ensures) in
    let many = c.len-else-index-eq0.ensures in
    other_stays c.args.marks.now.items c.args.choices.now.items c.args.left c.saturating_sub-mark.result within
    (λ none. c.if-index-eq0.false (mark_is c.args.marks.now.items c.args.left.register c.index.result.now within c.index.ensures ∙ none)) place
    (λ d at. elim c.else-mark-len.branch [
      | else-mark-len-via-then-mark-len+else-is_none w ↦
          has_other c.args.choices.now.items c.saturating_sub-mark.result w.index-then-mark-len.result.now d c.args.left.value (let l = w.if-mark-len.true in omega (arith, l, many)) w.index-then-mark-len.ensures w.if-is_none.ensures at
      | else-mark-len-via-else-mark-len w ↦ no_choice c.args.choices.now.items c.saturating_sub-mark.result d c.args.left.value (let l = w.if-mark-len.false in omega (arith, l, many)) at
    ])
