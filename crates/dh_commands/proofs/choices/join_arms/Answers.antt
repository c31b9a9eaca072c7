use Rattle.std.proofs.Common.{List, refl, ap, ◌∙◌, add-one, arith}
use Rattle.dh_commands.specs.declared.choices.Choice.{Choice}
use Rattle.dh_commands.specs.Joined.{all_unmarked}
use Rattle.dh_commands.proofs.JoinTurns.{joins_all, joins_one, joins_two}
use Rattle.dh_commands.proofs.choices.join_arms.Goals as goal

pub loop-left-preserved : goal.loop-left-preserved
loop-left-preserved c =
    rw (add-one c.loop-left.left-index)
    (joins_one c.args.values.now c.loop-left.values (record { current = c.loop-left.values.current; log = c.loop-left.values.log; marks = c.note_chosen.new.marks }) c.args.chosen.now c.args.other.now c.loop-left.choices.items c.note_chosen.new.choices.items
    c.loop-left.left-index _ refl refl c.loop-left-test.true c.in_ok-note_chosen.ensures.marked c.in_ok-note_chosen.ensures.noted c.loop-left.invariant)

pub loop-left-2-preserved : goal.loop-left-2-preserved
loop-left-2-preserved c =
    rw (add-one c.loop-left-2.left-index)
    (joins_two c.args.values.now c.loop-left-2.values (record { current = c.loop-left-2.values.current; log = c.loop-left-2.values.log; marks = c.note_other.new.marks }) c.args.chosen.now c.args.other.now c.loop-left-2.choices.items c.note_other.new.choices.items
    c.loop-left-2.left-index _ refl refl c.loop-left-2-test.true c.in_ok-note_other.ensures.marked c.in_ok-note_other.ensures.noted c.loop-left-2.invariant)

pub returns : goal.returns
returns c =
    joins_all c.args.values.now c.loop-left-2.values (record { current = c.loop-left-2.values.current; log = c.loop-left-2.values.log; marks = c.unmark.new.marks }) c.args.chosen.now c.args.other.now c.loop-left-2.choices.items c.loop-left-2.left-index
    (let l = c.loop-left-2-test.false in omega (arith, l)) refl refl (c.unmark.ensures ∙ ap (λ (cs : List Choice). all_unmarked cs c.loop-left-2.values.marks.items) c.as_slice.ensures.value) c.loop-left-2.invariant
