use Rattle.std.proofs.Common.{ap, ◌∙◌, ◌-◌, take}
use Rattle.dh_code.specs.States.{undone_slots}
use Rattle.dh_code.proofs.Undoing.{undo_turn}
use Rattle.dh_code.proofs.running.undo.Goals as goal

pub loop-i-preserved : goal.loop-i-preserved
loop-i-preserved c = ap (λ ws. undone_slots (take (c.loop-i.i - 1) c.args.changes.now) ws) c.set_number.ensures ∙ undo_turn c.args.changes.now c.loop-i.i _ c.loop-i.variables _ c.loop-i-test.true c.loop-i.auto.i c.loop-i.invariant
