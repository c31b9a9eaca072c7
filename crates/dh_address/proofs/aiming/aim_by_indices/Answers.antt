use Rattle.std.proofs.Common.{sym, ap, ◌∙◌, ◌==◌, not}
use Rattle.std.proofs.lemmas.Result.{IfOk-weaker}
use Rattle.dh_address.proofs.IndexAims.{aims_place, aims_spread}
use Rattle.dh_address.proofs.aiming.aim_by_indices.Goals as goal

pub returns-in-Some : goal.returns-in-Some
returns-in-Some c =
    IfOk-weaker c.push_place.result _ _
    (λ p h. aims_place c.args.old.now.table.now c.args.reach.now c.args.indices.now c.dims_in-dims.result.now c.element_total.result c.bit_length-width.result c.select_width-narrow.result (not (c.len-banked.result == 1))
    c.args.list.now c.push_place.new.list p.row p.select c.requires c.dims_in-dims.ensures c.element_total.ensures c.bit_length-width.ensures c.select_width-narrow.ensures (ap (λ n. not (n == 1)) c.len-banked.ensures) c.in-Some.place
    (sym c.in-Some.is ∙ c.constant_place.ensures) h)
    c.push_place.ensures

pub returns-in_ok-values-in-None : goal.returns-in_ok-values-in-None
returns-in_ok-values-in-None c =
    IfOk-weaker c.push_spread.result _ _
    (λ p h. aims_spread c.args.old.now.table.now c.args.reach.now c.args.indices.now c.dims_in-dims.result.now c.element_total.result c.bit_length-width.result c.select_width-narrow.result (not (c.len-banked.result == 1))
    c.args.list.now c.push_spread.new.list p.row p.select c.requires c.dims_in-dims.ensures c.element_total.ensures c.bit_length-width.ensures c.select_width-narrow.ensures (ap (λ n. not (n == 1)) c.len-banked.ensures)
    (sym c.in-None.is ∙ c.constant_place.ensures)
    c.as_slice.result.now (c.as_slice.ensures ∙ c.in_ok-values-in-None.ensures) h)
    c.push_spread.ensures
