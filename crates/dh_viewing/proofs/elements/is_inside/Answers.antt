use Rattle.std.proofs.Common.{rules, ap, ◌∙◌, get_or, SFits}
use Rattle.std.specs.Prelude.{ℤ, pos}
use Rattle.std.specs.Int.{w128}
use Rattle.std.proofs.lemmas.Int.{to_z-of_z}
use Rattle.dh_tree.specs.ViewElements as definitions
use Rattle.dh_viewing.proofs.InsideDims.{not_inside, inside_next}
use Rattle.dh_viewing.proofs.elements.is_inside.Goals as goal

pub returns-then-not-is_index : goal.returns-then-not-is_index
returns-then-not-is_index c =
    let index = get_or c.args.indices.now c.loop-i.i (pos 0) in
    let n : SFits w128 index = search rules in
    not_inside c.args.dims.now c.args.indices.now c.loop-i.i (record { size = 0; banks = 0 }) c.is_index.result c.loop-i-test.true c.requires c.loop-i.invariant
    (c.is_index.ensures ∙ ap (λ (y : ℤ). definitions.is_index (get_or c.args.dims.now c.loop-i.i (record { size = 0; banks = 0 })).size y) (to_z-of_z w128 index n)) c.if-not-is_index.true

pub loop-i-preserved : goal.loop-i-preserved
loop-i-preserved c =
    let index = get_or c.args.indices.now c.loop-i.i (pos 0) in
    let n : SFits w128 index = search rules in
    inside_next c.args.dims.now c.args.indices.now c.loop-i.i (record { size = 0; banks = 0 }) c.is_index.result c.loop-i-test.true c.requires c.loop-i.invariant
    (c.is_index.ensures ∙ ap (λ (y : ℤ). definitions.is_index (get_or c.args.dims.now c.loop-i.i (record { size = 0; banks = 0 })).size y) (to_z-of_z w128 index n)) c.if-not-is_index.false
