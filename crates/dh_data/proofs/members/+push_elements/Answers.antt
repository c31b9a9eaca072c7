use Rattle.std.proofs.Common.{◌+◌, ◌∙◌, List, true, false, drop, ap, subst}
use Rattle.std.proofs.lemmas.List.{drop_all}
use Rattle.serde_json.specs.Data.{Data}
use Rattle.serde_json.specs.View.{view, items_view}
use Rattle.dh_data.specs.DataFiles.{joined_items, in_order}
use Rattle.dh_data.specs.Reading.{PushesElements}
use Rattle.dh_base.proofs.ListItems.{at_item}
use Rattle.dh_data.proofs.Elements.{order_of, pushes_item, pushes_stopped, pushes_all}
use Rattle.dh_data.proofs.members.+push_elements.Goals as goal

pub returns-then-not-branch : goal.returns-then-not-branch
returns-then-not-branch t c =
    let vs = c.deref-item-items.result.now in
    let list = at_item vs c.loop-item.item-index c.item-item.result c.loop-item-test.true c.item-item.is in
    let here = subst (λ b. PushesElements c.args.kind (in_order c.in-Some.rest.now (view c.item-item.result)) c.loop-item.values.items c.push_elements.new.values.items b) c.if-not-branch.true c.in_ok-push_elements.ensures in
    let order = ap (λ xs. joined_items (in_order c.in-Some.rest.now) (items_view xs)) c.deref-item-items.ensures.value ∙ order_of c.args.dims.now _ c.in-Some.rest.now (view c.args.value.now) c.in-Some-as_array.items.now.items c.in-Some.ensures.cases.0 c.in-Some-as_array.ensures in
    subst (λ (ds : List Data). PushesElements c.args.kind ds c.args.values.now.items c.push_elements.new.values.items false) order
    (c.loop-item.invariant c.push_elements.new.values.items false (pushes_stopped c.args.kind c.in-Some.rest.now _ (drop (c.loop-item.item-index + 1) vs) c.item-item.result c.loop-item.values.items c.push_elements.new.values.items list here))

pub loop-item-preserved : goal.loop-item-preserved
loop-item-preserved t c =
    let vs = c.deref-item-items.result.now in
    let list = at_item vs c.loop-item.item-index c.item-item.result c.loop-item-test.true c.item-item.is in
    let here = subst (λ b. PushesElements c.args.kind (in_order c.in-Some.rest.now (view c.item-item.result)) c.loop-item.values.items c.push_elements.new.values.items b) c.if-not-branch.false c.in_ok-push_elements.ensures in
    λ new all g. c.loop-item.invariant new all (pushes_item c.args.kind c.in-Some.rest.now _ (drop (c.loop-item.item-index + 1) vs) c.item-item.result c.loop-item.values.items c.push_elements.new.values.items new all list here g)

pub returns : goal.returns
returns t c =
    let vs = c.deref-item-items.result.now in
    let order = ap (λ xs. joined_items (in_order c.in-Some.rest.now) (items_view xs)) c.deref-item-items.ensures.value ∙ order_of c.args.dims.now _ c.in-Some.rest.now (view c.args.value.now) c.in-Some-as_array.items.now.items c.in-Some.ensures.cases.0 c.in-Some-as_array.ensures in
    subst (λ (ds : List Data). PushesElements c.args.kind ds c.args.values.now.items c.loop-item.values.items true) order
    (c.loop-item.invariant c.loop-item.values.items true (pushes_all c.args.kind c.in-Some.rest.now _ c.loop-item.values.items (drop_all c.loop-item.item-index vs c.loop-item-test.false)))
