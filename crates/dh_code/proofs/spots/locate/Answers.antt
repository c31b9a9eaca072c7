use Rattle.std.proofs.Common.{ap, sym, ◌∙◌, refl, add-one}
use Rattle.std.specs.Prelude.{slice_index_or}
use Rattle.dh_value.specs.Words as words
use Rattle.dh_code.specs.Banks.{index_within}
use Rattle.dh_code.specs.Operated.{view_seen}
use Rattle.dh_code.proofs.Located.{has_room, leads_last, leads_more, leads_none, none_of_many}
use Rattle.dh_code.proofs.spots.locate.Goals as goal

pub returns-then-indices-dims-clause-spreads : goal.returns-then-indices-dims-clause-spreads
returns-then-indices-dims-clause-spreads c = none_of_many c.args.dims.now (view_seen c.args.view.now) c.args.indices.now c.if-indices-dims.true

pub returns-in_default-clause-spreads : goal.returns-in_default-clause-spreads
returns-in_default-clause-spreads c =
    let z_is = ap (λ w. words.value_of w) c.value_at.ensures.value in
    leads_none c.args.dims.now (view_seen c.args.view.now) c.args.indices.now c.loop-i.i (record { size = 0; banks = 0 }) _ c.loop-i.spread c.loop-i-test.true c.if-indices-dims.false c.loop-i.invariant
    (sym (c.in_default.ensures.is ∙ ap (λ z. index_within (slice_index_or c.args.dims.now c.loop-i.i (record { size = 0; banks = 0 })).size z) z_is))

pub next_spread-spread-requires-clause-room : goal.next_spread-spread-requires-clause-room
next_spread-spread-requires-clause-room c =
    let z_is = ap (λ w. words.value_of w) c.value_at.ensures.value in
    has_room c.args.dims.now (view_seen c.args.view.now) c.args.indices.now c.loop-i.i (record { size = 0; banks = 0 }) _ c.loop-i.spread c.loop-i-test.true c.if-indices-dims.false c.loop-i.invariant
    c.requires.dims c.in-Some.index (c.in-Some.ensures.below c.in-Some.index refl) (sym (c.in-Some.ensures.is ∙ ap (λ z. index_within (slice_index_or c.args.dims.now c.loop-i.i (record { size = 0; banks = 0 })).size z) z_is))

pub loop-i-preserved : goal.loop-i-preserved
loop-i-preserved c =
    let z_is = ap (λ w. words.value_of w) c.value_at.ensures.value in
    rw (add-one c.loop-i.i)
    (leads_more c.args.dims.now (view_seen c.args.view.now) c.args.indices.now c.loop-i.i (record { size = 0; banks = 0 }) _ c.loop-i.spread c.loop-i-test.true c.if-indices-dims.false c.loop-i.invariant
    c.in-Some.index (c.in-Some.ensures.below c.in-Some.index refl) (sym (c.in-Some.ensures.is ∙ ap (λ z. index_within (slice_index_or c.args.dims.now c.loop-i.i (record { size = 0; banks = 0 })).size z) z_is)) c.next_spread-spread.result c.next_spread-spread.ensures)

pub returns-clause-spreads : goal.returns-clause-spreads
returns-clause-spreads c = (leads_last c.args.dims.now (view_seen c.args.view.now) c.args.indices.now c.loop-i.i c.loop-i.spread c.loop-i-test.false c.loop-i.invariant).0

pub returns-clause-within : goal.returns-clause-within
returns-clause-within c = (leads_last c.args.dims.now (view_seen c.args.view.now) c.args.indices.now c.loop-i.i c.loop-i.spread c.loop-i-test.false c.loop-i.invariant).1
