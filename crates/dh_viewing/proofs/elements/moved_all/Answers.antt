use Rattle.std.proofs.Common.{rules, sym, ap, ◌∙◌, get_or, ◌∷◌, [], ◌++◌, SFits, to_z, of_z}
use Rattle.std.specs.Prelude.{ℤ, pos}
use Rattle.std.specs.Int.{w128}
use Rattle.std.proofs.lemmas.Int.{to_z-of_z}
use Rattle.dh_viewing.specs.Moved.{moved_number}
use Rattle.dh_viewing.specs.Numbers.{numbers_in}
use Rattle.dh_viewing.proofs.MovedNumbers.{moves_on}
use Rattle.dh_viewing.proofs.elements.moved_all.Goals as goal

pub loop-i-preserved : goal.loop-i-preserved
loop-i-preserved c =
    let size = (get_or c.args.dims.now c.loop-i.i (record { size = 0; banks = 0 })).size in
    let factor = get_or c.args.factors.now c.loop-i.i 0 in
    let offset = get_or c.args.offsets.now c.loop-i.i (pos 0) in
    let index = get_or c.args.indices.now c.loop-i.i (pos 0) in
    let o : SFits w128 offset = search rules in
    let n : SFits w128 index = search rules in
    let z : SFits w128 c.in-Some.number = search rules in
    moves_on c.args.dims.now c.args.factors.now c.args.offsets.now c.args.indices.now c.loop-i.i (record { size = 0; banks = 0 }) c.loop-i.index c.with_number-index.result c.in-Some.number c.loop-i-test.true
    c.requires.factors_long c.requires.offsets_long c.requires.indices_long c.loop-i.invariant
    (sym c.in-Some.is ∙ (c.moved.ensures ∙ (ap (λ (y : ℤ). moved_number size factor y (to_z w128 (of_z w128 index))) (to_z-of_z w128 offset o) ∙ ap (λ (y : ℤ). moved_number size factor offset y) (to_z-of_z w128 index n))))
    (c.with_number-index.ensures.numbers ∙ ap (λ (y : ℤ). numbers_in c.loop-i.index ++ y ∷ []) (to_z-of_z w128 c.in-Some.number z)) c.with_number-index.ensures.long
