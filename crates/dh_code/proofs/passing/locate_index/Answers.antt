use Rattle.std.proofs.Common.{◌≡◌, rules, length, refl, ap, sym, ◌∙◌, add-one, get_or, SFits}
use Rattle.std.specs.Prelude.{ℤ, List, pos}
use Rattle.std.specs.Int.{w128}
use Rattle.std.proofs.lemmas.Int.{to_z-of_z}
use Rattle.dh_viewing.specs.Numbers.{numbers_in}
use Rattle.dh_code.specs.Banks.{index_within}
use Rattle.dh_code.proofs.NumbersLocated.{index_first, index_last, index_more, index_none, index_room}
use Rattle.dh_code.proofs.passing.locate_index.Goals as goal

pub loop-i-init : goal.loop-i-init
loop-i-init c =
    let same : length (numbers_in c.args.index.now) ≡ length c.args.dims.now = sym (ap (λ (l : List ℤ). length l) c.listed-numbers.ensures.value) ∙ (c.listed-numbers.ensures.long ∙ c.requires.long) in
    index_first c.args.dims.now (numbers_in c.args.index.now) 0 0 0 refl refl refl c.requires.dims same

pub returns-in_default-clause-spreads : goal.returns-in_default-clause-spreads
returns-in_default-clause-spreads c =
    let number = get_or c.listed-numbers.result.now c.loop-i.i (pos 0) in
    let z : SFits w128 number = search rules in
    let same : length (numbers_in c.args.index.now) ≡ length c.args.dims.now = sym (ap (λ (l : List ℤ). length l) c.listed-numbers.ensures.value) ∙ (c.listed-numbers.ensures.long ∙ c.requires.long) in
    index_none c.args.dims.now (numbers_in c.args.index.now) c.loop-i.i (record { size = 0; banks = 0 }) (pos 0) number c.loop-i.spread c.loop-i-test.true same (ap (λ (l : List ℤ). get_or l c.loop-i.i (pos 0)) (sym c.listed-numbers.ensures.value)) c.loop-i.invariant
    (sym (c.in_default.ensures.is ∙ ap (λ (y : ℤ). index_within (get_or c.args.dims.now c.loop-i.i (record { size = 0; banks = 0 })).size y) (to_z-of_z w128 number z)))

pub next_spread-spread-requires-clause-room : goal.next_spread-spread-requires-clause-room
next_spread-spread-requires-clause-room c =
    let number = get_or c.listed-numbers.result.now c.loop-i.i (pos 0) in
    let z : SFits w128 number = search rules in
    let same : length (numbers_in c.args.index.now) ≡ length c.args.dims.now = sym (ap (λ (l : List ℤ). length l) c.listed-numbers.ensures.value) ∙ (c.listed-numbers.ensures.long ∙ c.requires.long) in
    index_room c.args.dims.now (numbers_in c.args.index.now) c.loop-i.i (record { size = 0; banks = 0 }) (pos 0) number c.loop-i.spread c.loop-i-test.true same (ap (λ (l : List ℤ). get_or l c.loop-i.i (pos 0)) (sym c.listed-numbers.ensures.value)) c.loop-i.invariant
    c.requires.dims c.in-Some.number (c.in-Some.ensures.below c.in-Some.number refl)
    (sym (c.in-Some.ensures.is ∙ ap (λ (y : ℤ). index_within (get_or c.args.dims.now c.loop-i.i (record { size = 0; banks = 0 })).size y) (to_z-of_z w128 number z)))

pub loop-i-preserved : goal.loop-i-preserved
loop-i-preserved c =
    let number = get_or c.listed-numbers.result.now c.loop-i.i (pos 0) in
    let z : SFits w128 number = search rules in
    let same : length (numbers_in c.args.index.now) ≡ length c.args.dims.now = sym (ap (λ (l : List ℤ). length l) c.listed-numbers.ensures.value) ∙ (c.listed-numbers.ensures.long ∙ c.requires.long) in
    rw (add-one c.loop-i.i)
    (index_more c.args.dims.now (numbers_in c.args.index.now) c.loop-i.i (record { size = 0; banks = 0 }) (pos 0) number c.loop-i.spread c.loop-i-test.true same (ap (λ (l : List ℤ). get_or l c.loop-i.i (pos 0)) (sym c.listed-numbers.ensures.value)) c.loop-i.invariant
    c.in-Some.number (c.in-Some.ensures.below c.in-Some.number refl)
    (sym (c.in-Some.ensures.is ∙ ap (λ (y : ℤ). index_within (get_or c.args.dims.now c.loop-i.i (record { size = 0; banks = 0 })).size y) (to_z-of_z w128 number z))) c.next_spread-spread.result c.next_spread-spread.ensures)

pub returns-clause-spreads : goal.returns-clause-spreads
returns-clause-spreads c = (index_last c.args.dims.now (numbers_in c.args.index.now) c.loop-i.i c.loop-i.spread c.loop-i-test.false c.loop-i.invariant).0

pub returns-clause-within : goal.returns-clause-within
returns-clause-within c = (index_last c.args.dims.now (numbers_in c.args.index.now) c.loop-i.i c.loop-i.spread c.loop-i-test.false c.loop-i.invariant).1
