use Rattle.std.proofs.Common.{refl, arith}
use Rattle.dh_tree.specs.Seen.{term_seen}
use Rattle.dh_tree.specs.KindBreaches.{shifts_breaches}
use Rattle.dh_types.specs.Walks.{typing_state_of, noted}
use Rattle.dh_base.proofs.InPlace.{start, turn}
use Rattle.dh_types.proofs.Lists.{shift_step, shift_made, shifts_made, shifts_run, shift_turn, items_made, items_noted}
use Rattle.dh_types.proofs.walks.Walk.shifts.Goals as goal

pub loop-offset-init : goal.loop-offset-init
loop-offset-init c = ((refl, λ k d past. refl), start term_seen shift_step shift_made _ _)

pub loop-offset-preserved : goal.loop-offset-preserved
loop-offset-preserved c =
    let made = shift_turn (typing_state_of c.loop-offset.self) (typing_state_of c.offset.new.self) c.offset-item.result _ c.offset.new.offset c.offset-item.is c.offset.ensures.tree c.offset.ensures.state in
    turn term_seen shift_step shift_made c.deref_mut-offset-items.result.now c.loop-offset.offset-items c.loop-offset.offset-index (typing_state_of c.args.self.now) (typing_state_of c.loop-offset.self) (typing_state_of c.offset.new.self) c.offset-item.result c.offset.new.offset
    (omega (arith, c.loop-offset-test.true, c.loop-offset.auto.offset-items)) c.loop-offset.invariant.0 c.loop-offset.invariant.1 c.offset-item.is made.0 made.1

pub returns-clause-tree : goal.returns-clause-tree
returns-clause-tree c =
    items_made term_seen shift_step shift_made _ c.args.by.now _ _ _ _ _ (shifts_made (typing_state_of c.args.self.now)) c.deref_mut-offset-items.ensures.value c.deref_mut-offset-items.ensures.len c.loop-offset-test.false c.loop-offset.invariant.0 c.loop-offset.invariant.1

pub returns-clause-state : goal.returns-clause-state
returns-clause-state c =
    items_noted term_seen shift_step shift_made _ c.args.by.now _ _ _ _ _ (λ l. noted (typing_state_of c.args.self.now) (shifts_breaches (typing_state_of c.args.self.now).facts l)) (shifts_made (typing_state_of c.args.self.now)) (shifts_run (typing_state_of c.args.self.now)) c.deref_mut-offset-items.ensures.value c.deref_mut-offset-items.ensures.len c.loop-offset-test.false c.loop-offset.invariant.0 c.loop-offset.invariant.1
