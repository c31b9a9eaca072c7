use Rattle.std.proofs.Common.{◌+◌, ◌∙◌, drop, subst, sym, true≢false, refl}
use Rattle.std.proofs.lemmas.List.{drop_all}
use Rattle.serde_json.specs.View.{items_view}
use Rattle.dh_data.specs.DataFiles.{HasDeclaredSizes, EachItem}
use Rattle.dh_base.proofs.ListItems.{at_item}
use Rattle.dh_data.proofs.Elements.{not_sized, sized_from, sized_items, sizes_on, sizes_stop, sizes_end}
use Rattle.dh_data.proofs.members.+is_sized.Goals as goal

pub returns-then-len-dim : goal.returns-then-len-dim
returns-then-len-dim t c =
    (λ h. absurd (true≢false (sym h)), λ h. absurd (not_sized c.args.dims.now c.in-Some.dim.now c.in-Some.rest.now _ c.in-Some-as_array.items.now.items c.in-Some.ensures.cases.0 c.in-Some-as_array.ensures (λ e. c.if-len-dim.true (c.len.ensures ∙ (c.in-Some-as_array.items.now.ok.0 ∙ e))) h))

pub returns-then-not-is_sized : goal.returns-then-not-is_sized
returns-then-not-is_sized t c =
    let vs = c.deref-item-items.result.now in
    let list = at_item vs c.loop-item.item-index c.item-item.result c.loop-item-test.true c.item-item.is in
    (λ h. absurd (true≢false (sym h)), λ h. absurd (sizes_stop c.in-Some.rest.now _ (drop (c.loop-item.item-index + 1) vs) vs c.item-item.result list (λ g. true≢false (sym (c.is_sized.ensures.1 g) ∙ c.if-not-is_sized.true)) c.loop-item.invariant (subst (λ xs. EachItem (HasDeclaredSizes c.in-Some.rest.now) (items_view xs)) (sym c.deref-item-items.ensures.value) (sized_items c.args.dims.now c.in-Some.dim.now c.in-Some.rest.now _ c.in-Some-as_array.items.now.items c.in-Some.ensures.cases.0 c.in-Some-as_array.ensures h))))

pub loop-item-preserved : goal.loop-item-preserved
loop-item-preserved t c =
    let vs = c.deref-item-items.result.now in
    let list = at_item vs c.loop-item.item-index c.item-item.result c.loop-item-test.true c.item-item.is in
    sizes_on c.in-Some.rest.now _ (drop (c.loop-item.item-index + 1) vs) vs c.item-item.result list (c.is_sized.ensures.0 c.if-not-is_sized.false) c.loop-item.invariant

pub returns : goal.returns
returns t c =
    let vs = c.deref-item-items.result.now in
    let each = subst (λ xs. EachItem (HasDeclaredSizes c.in-Some.rest.now) (items_view xs)) c.deref-item-items.ensures.value (sizes_end c.in-Some.rest.now _ vs (drop_all c.loop-item.item-index vs c.loop-item-test.false) c.loop-item.invariant) in
    (λ h. sized_from c.args.dims.now c.in-Some.dim.now c.in-Some.rest.now _ c.in-Some-as_array.items.now.items c.in-Some.ensures.cases.0 c.in-Some-as_array.ensures (sym c.in-Some-as_array.items.now.ok.0 ∙ (sym c.len.ensures ∙ c.if-len-dim.false)) each, λ h. refl)
