use Rattle.std.proofs.Common.{List, ℕ, subst, sym, ◌∙◌}
use Rattle.dh_cells.specs.Settled.{Adds, AreWires}
use Rattle.dh_cells.specs.ShownValues.{any_shown}
use Rattle.dh_control.specs.StateWires.{active_shown}
use Rattle.dh_control.proofs.GatheredItems.{list_in}
use Rattle.dh_control.proofs.StandsTell.{picked_wires}
use Rattle.dh_control.proofs.WiresListed.{next_listed}
use Rattle.dh_control.proofs.standing.push_active.Goals as goal

pub push_any-requires : goal.push_any-requires
push_any-requires c =
    subst (λ (l : List ℕ). AreWires c.loop-i.circuit l 1)
    (sym (c.as_slice.ensures.value ∙ list_in c.args.count c.in_ok-lists.lists.items c.as_slice-lists.result.now c.args.stands.now c.loop-i.i c.index-lists-i.result c.loop-i-test.true c.in_ok-lists.ensures.each c.as_slice-lists.ensures.value c.index-lists-i.is))
    (picked_wires _ _ c.args.stands.now c.loop-i.i c.loop-i.invariant.grows c.requires)

pub loop-i-preserved : goal.loop-i-preserved
loop-i-preserved c =
    next_listed _ _ _ (λ i. 1) (active_shown c.args.stands.now) c.loop-i.i c.in_ok-wire.wire _ _ c.loop-i.invariant
    (subst (λ (l : List ℕ). Adds c.loop-i.circuit c.push_any.new.circuit c.in_ok-wire.wire 1 (any_shown l))
    (c.as_slice.ensures.value ∙ list_in c.args.count c.in_ok-lists.lists.items c.as_slice-lists.result.now c.args.stands.now c.loop-i.i c.index-lists-i.result c.loop-i-test.true c.in_ok-lists.ensures.each c.as_slice-lists.ensures.value c.index-lists-i.is)
    c.in_ok-wire.ensures) c.in_ok-push.ensures
