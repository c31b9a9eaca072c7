use Rattle.std.proofs.Common.{◌∙◌, ap, sym, map, refl, length, get_or, arith}
use Rattle.dh_tree.specs.Seen.{factor_seen}
use Rattle.dh_tree.specs.Breaches.{offsets_breaches}
use Rattle.dh_tree.specs.Resolved.{resolved_offset}
use Rattle.dh_names.specs.Walks.{state_of, walked}
use Rattle.dh_base.proofs.InPlace.{start, turn, finish, written}
use Rattle.dh_names.proofs.OffsetsDone.{offset_step, offset_made, offsets_made, offsets_run, offset_turn}
use Rattle.dh_names.proofs.walks.NameWalk.offsets.Goals as goal

pub loop-pair-init : goal.loop-pair-init
loop-pair-init c = ((refl, λ k d past. refl), start factor_seen offset_step offset_made _ _)

pub loop-pair-preserved : goal.loop-pair-preserved
loop-pair-preserved c =
    let y = get_or c.loop-pair.pair-items c.loop-pair.pair-index c.pair-item.result in
    let made = offset_turn (state_of c.loop-pair.self) (state_of c.expression.new.self) c.pair-item.result y c.expression.new.term c.pair-item.is c.expression.ensures.tree c.expression.ensures.state in
    turn factor_seen offset_step offset_made c.deref_mut-pair-items.result.now c.loop-pair.pair-items c.loop-pair.pair-index (state_of c.args.self.now) (state_of c.loop-pair.self) (state_of c.expression.new.self) c.pair-item.result (y.0, c.expression.new.term)
    (omega (arith, c.loop-pair-test.true, c.loop-pair.auto.pair-items)) c.loop-pair.invariant.0 c.loop-pair.invariant.1 c.pair-item.is made.0 made.1

pub returns-clause-tree : goal.returns-clause-tree
returns-clause-tree c =
    let v = c.deref_mut-pair-items.ensures.value in
    ap (λ l. map factor_seen l) (written c.args.by.now.items c.loop-pair.pair-items c.args.by.now.len (c.loop-pair.auto.pair-items ∙ ap (λ l. length l) v) (sym (ap (λ l. length l) v) ∙ c.deref_mut-pair-items.ensures.len))
    ∙ (finish factor_seen offset_step offset_made c.deref_mut-pair-items.result.now c.loop-pair.pair-items c.loop-pair.pair-index (state_of c.args.self.now) (state_of c.loop-pair.self)
    (omega (arith, c.loop-pair-test.false, c.loop-pair.auto.pair-items)) c.loop-pair.invariant.0 c.loop-pair.invariant.1).0
    ∙ offsets_made (state_of c.args.self.now) (map factor_seen c.deref_mut-pair-items.result.now)
    ∙ ap (λ l. map (resolved_offset (state_of c.args.self.now).scope.visible) (map factor_seen l)) v

pub returns-clause-state : goal.returns-clause-state
returns-clause-state c =
    let s = state_of c.args.self.now in
    (finish factor_seen offset_step offset_made c.deref_mut-pair-items.result.now c.loop-pair.pair-items c.loop-pair.pair-index s (state_of c.loop-pair.self)
    (omega (arith, c.loop-pair-test.false, c.loop-pair.auto.pair-items)) c.loop-pair.invariant.0 c.loop-pair.invariant.1).1
    ∙ offsets_run s (map factor_seen c.deref_mut-pair-items.result.now)
    ∙ ap (λ l. walked s (offsets_breaches s.scope.visible (map factor_seen l)) s.scope) c.deref_mut-pair-items.ensures.value
