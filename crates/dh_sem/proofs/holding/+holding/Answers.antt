use Rattle.std.proofs.Common.{map, refl, ap, ◌∙◌}
use Rattle.dh_phases.specs.declared.gathering.NumberedCommand.{NumberedCommand}
use Rattle.dh_phases.specs.GatheredPhases.{header_seen, numbered_seen, phase_seen}
use Rattle.dh_phases.proofs.SeenPhases.{straight_is}
use Rattle.dh_sem.proofs.FormsHeld.{choice_fixed, choice_seen, fixed_as, loop_fixed, loop_seen, straight_fixed, turns_fixed, turns_seen}
use Rattle.dh_sem.proofs.ListsHeld.{hold_begin, hold_turn}
use Rattle.dh_sem.proofs.holding.+holding.Goals as goal

pub fixed-returns-in_ok-list-in-Straight : goal.fixed-returns-in_ok-list-in-Straight
fixed-returns-in_ok-list-in-Straight t c =
    fixed_as c.args.names.now c.args.paths c.args.made.now _ c.args.phase.now _ _ (ap phase_seen c.in-Straight.is ∙ straight_is c.in-Straight.commands)
    (straight_fixed c.args.names.now c.args.paths c.args.made.now (record { code = c.flatten_commands.new.code; phases = c.args.made.now.phases; lanes = c.args.made.now.lanes }) c.in-Straight.commands.items c.as_slice-in-Straight.result.now c.in_ok-list-in-Straight.list
    (c.as_slice-in-Straight.ensures.value ∙ (c.in_ok-commands-in-Straight.ensures ∙ ap (λ cs. map (λ (n : NumberedCommand). n.command) cs) c.as_slice.ensures.value)) c.in_ok-list-in-Straight.ensures refl refl)

pub fixed-returns-in_ok-body-in-Turns : goal.fixed-returns-in_ok-body-in-Turns
fixed-returns-in_ok-body-in-Turns t c =
    fixed_as c.args.names.now c.args.paths c.args.made.now c.hold.new.made c.args.phase.now _ _ (turns_seen c.args.phase.now c.in-Turns.command c.in-Turns.header c.in-Turns.count c.in-Turns.body c.as_slice-in-Turns.result.now c.in-Turns.is c.as_slice-in-Turns.ensures.value)
    (turns_fixed c.args.names.now c.args.paths c.in_ok-within-in-Turns.within c.args.made.now (record { code = c.args.made.now.code; phases = c.args.made.now.phases; lanes = c.lanes_inside.new.lanes }) c.hold.new.made (header_seen c.in-Turns.header.now) c.in-Turns.count _ c.in_ok-body-in-Turns.body
    refl refl c.in_ok-within-in-Turns.ensures.more c.in_ok-within-in-Turns.ensures.lead c.in_ok-body-in-Turns.ensures (numbered_seen c.in-Turns.command) c.counted_turns-turns.result c.counted_turns-turns.ensures)

pub fixed-returns-in_ok-body-in-Loop : goal.fixed-returns-in_ok-body-in-Loop
fixed-returns-in_ok-body-in-Loop t c =
    fixed_as c.args.names.now c.args.paths c.args.made.now c.hold-in-Loop.new.made c.args.phase.now _ _ (loop_seen c.args.phase.now c.in-Loop.command c.in-Loop.test c.in-Loop.body c.as_slice-in-Loop.result.now c.in-Loop.is c.as_slice-in-Loop.ensures.value)
    (loop_fixed c.args.names.now c.args.paths c.args.made.now (record { code = c.flat.new.code; phases = c.args.made.now.phases; lanes = c.args.made.now.lanes }) c.hold-in-Loop.new.made (numbered_seen c.in-Loop.command) c.in-Loop.test.now _ c.in_ok-test-in-Loop.test c.in_ok-body-in-Loop.body
    (record { flat = c.in_ok-test-in-Loop.ensures; phases = refl; lanes = refl }) c.in_ok-body-in-Loop.ensures)

pub fixed-returns-in_ok-other-in-Choice : goal.fixed-returns-in_ok-other-in-Choice
fixed-returns-in_ok-other-in-Choice t c =
    fixed_as c.args.names.now c.args.paths c.args.made.now c.hold-in-Choice-2.new.made c.args.phase.now _ _
    (choice_seen c.args.phase.now c.in-Choice.command c.in-Choice.test c.in-Choice.then c.in-Choice.other c.as_slice-in-Choice.result.now c.as_slice-in-Choice-2.result.now c.in-Choice.is c.as_slice-in-Choice.ensures.value c.as_slice-in-Choice-2.ensures.value)
    (choice_fixed c.args.names.now c.args.paths c.args.made.now (record { code = c.flat-in-Choice.new.code; phases = c.args.made.now.phases; lanes = c.args.made.now.lanes }) c.hold-in-Choice.new.made c.hold-in-Choice-2.new.made (numbered_seen c.in-Choice.command) c.in-Choice.test.now _ _ c.in_ok-test-in-Choice.test
    c.in_ok-chosen-in-Choice.chosen c.in_ok-other-in-Choice.other (record { flat = c.in_ok-test-in-Choice.ensures; phases = refl; lanes = refl }) c.in_ok-chosen-in-Choice.ensures c.in_ok-other-in-Choice.ensures)

pub hold-loop-i-init : goal.hold-loop-i-init
hold-loop-i-init t c = hold_begin c.args.names.now c.args.paths c.args.made.now c.args.phases.now

pub hold-loop-i-preserved : goal.hold-loop-i-preserved
hold-loop-i-preserved t c =
    hold_turn c.args.names.now c.args.paths c.args.made.now c.loop-i.made c.fixed.new.made _ c.args.phases.now c.loop-i.i c.index-phases-i.result c.in_ok-form.form c.loop-i.next c.len-at.result
    c.loop-i-test.true c.loop-i.auto.i c.index-phases-i.is c.in_ok-form.ensures refl refl c.in_ok-push.ensures.items (c.len-at.ensures ∙ c.fixed.new.made.phases.ok.0) c.loop-i.invariant
