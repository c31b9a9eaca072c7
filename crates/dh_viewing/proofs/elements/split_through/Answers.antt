use Rattle.std.proofs.Common.{rules, ap, sym, ◌∙◌, get_or, List, [], ◌∷◌, ◌++◌, SFits, to_z, of_z}
use Rattle.std.specs.Prelude.{ℤ, pos}
use Rattle.std.specs.Int.{w128}
use Rattle.std.proofs.lemmas.Int.{to_z-of_z}
use Rattle.dh_viewing.specs.Moved.{number_within}
use Rattle.dh_viewing.proofs.SplitViews.{split_share, split_below, split_element}
use Rattle.dh_viewing.proofs.elements.split_through.Goals as goal

pub joined-place-requires-clause-share : goal.joined-place-requires-clause-share
joined-place-requires-clause-share c = split_share c.args.v.now c.requires.map c.requires.sort c.as_slice-parent.result.now c.as_slice.result.now (record { size = 0; banks = 0 }) c.as_slice-parent.ensures c.as_slice.ensures

pub joined-place-requires-clause-small : goal.joined-place-requires-clause-small
joined-place-requires-clause-small c =
    split_below c.args.v.now c.requires.map c.requires.sort c.as_slice-parent.result.now c.as_slice.result.now (record { size = 0; banks = 0 }) c.as_slice-parent.ensures c.as_slice.ensures c.as_slice-view.result.now (record { size = 0; banks = 0 }) c.in-Some.copy c.in-Some-natural.element c.as_slice-view.ensures
    (c.natural.ensures.below c.in-Some.copy c.in-Some.is) (c.natural-2.ensures.below c.in-Some-natural.element c.in-Some-natural.is)

pub returns : goal.returns
returns c offsets =
    let first = get_or c.args.indices.now 0 (pos 0) in
    let second = get_or c.args.indices.now 1 (pos 0) in
    let f : SFits w128 first = search rules in
    let g : SFits w128 second = search rules in
    let h : SFits w128 c.from.result = search rules in
    split_element c.args.v.now c.requires.map c.requires.sort c.as_slice-view.result.now c.as_slice-parent.result.now c.as_slice.result.now (record { size = 0; banks = 0 }) (record { size = 0; banks = 0 }) c.args.indices.now c.in-Some.copy c.in-Some-natural.element c.joined-place.result _
    c.as_slice-view.ensures c.as_slice-parent.ensures c.as_slice.ensures c.requires.indices
    (sym c.in-Some.is ∙ (c.natural.ensures.is ∙ ap (λ (z : ℤ). number_within (get_or c.as_slice-view.result.now 0 (record { size = 0; banks = 0 })).size z) (to_z-of_z w128 first f)))
    (sym c.in-Some-natural.is ∙ (c.natural-2.ensures.is ∙ ap (λ (z : ℤ). number_within (get_or c.as_slice-view.result.now 1 (record { size = 0; banks = 0 })).size z) (to_z-of_z w128 second g)))
    c.joined-place.ensures
    (c.with_number.ensures.numbers ∙ (ap (λ (l : List ℤ). l ++ to_z w128 (of_z w128 c.from.result) ∷ []) c.no_numbers.ensures.numbers ∙ ap (λ (z : ℤ). z ∷ []) (to_z-of_z w128 c.from.result h ∙ c.from.ensures)))
    offsets
