use Rattle.std.proofs.Common.{refl, get_or, arith}
use Rattle.dh_tree.specs.Seen.{factor_seen}
use Rattle.dh_tree.specs.KindBreaches.{suffixes_breaches}
use Rattle.dh_types.specs.Walks.{typing_state_of, noted}
use Rattle.dh_base.proofs.InPlace.{start, turn}
use Rattle.dh_types.proofs.Lists.{suffix_step, suffix_made, suffixes_made, suffixes_run, suffix_turn, items_made, items_noted}
use Rattle.dh_types.proofs.walks.Walk.suffixes.Goals as goal

pub loop-pair-init : goal.loop-pair-init
loop-pair-init c = ((refl, λ k d past. refl), start factor_seen suffix_step suffix_made _ _)

pub loop-pair-preserved : goal.loop-pair-preserved
loop-pair-preserved c =
    let y = get_or c.loop-pair.pair-items c.loop-pair.pair-index c.pair-item.result in
    let made = suffix_turn (typing_state_of c.loop-pair.self) (typing_state_of c.offset.new.self) c.pair-item.result y c.offset.new.offset c.pair-item.is c.offset.ensures.tree c.offset.ensures.state in
    turn factor_seen suffix_step suffix_made c.deref_mut-pair-items.result.now c.loop-pair.pair-items c.loop-pair.pair-index (typing_state_of c.args.self.now) (typing_state_of c.loop-pair.self) (typing_state_of c.offset.new.self) c.pair-item.result (y.0, c.offset.new.offset)
    (omega (arith, c.loop-pair-test.true, c.loop-pair.auto.pair-items)) c.loop-pair.invariant.0 c.loop-pair.invariant.1 c.pair-item.is made.0 made.1

pub returns-clause-tree : goal.returns-clause-tree
returns-clause-tree c =
    items_made factor_seen suffix_step suffix_made _ c.args.by.now _ _ _ _ _ (suffixes_made (typing_state_of c.args.self.now)) c.deref_mut-pair-items.ensures.value c.deref_mut-pair-items.ensures.len c.loop-pair-test.false c.loop-pair.invariant.0 c.loop-pair.invariant.1

pub returns-clause-state : goal.returns-clause-state
returns-clause-state c =
    items_noted factor_seen suffix_step suffix_made _ c.args.by.now _ _ _ _ _ (λ l. noted (typing_state_of c.args.self.now) (suffixes_breaches (typing_state_of c.args.self.now).facts l)) (suffixes_made (typing_state_of c.args.self.now)) (suffixes_run (typing_state_of c.args.self.now)) c.deref_mut-pair-items.ensures.value c.deref_mut-pair-items.ensures.len c.loop-pair-test.false c.loop-pair.invariant.0 c.loop-pair.invariant.1
