use Rattle.std.proofs.Common.{ℕ, ◌++◌, [], ◌∷◌, Some, subst, sym}
use Rattle.std.specs.Prelude.{slice_set}
use Rattle.dh_tree.proofs.Collecting.{no_number, some_number}
use Rattle.dh_viewing.specs.Placed.{AreViewPlaces}
use Rattle.dh_viewing.proofs.PlacedViews.{now_placed, placed_before}
use Rattle.dh_viewing.proofs.placing.note.Goals as goal

pub returns-then-is_none : goal.returns-then-is_none
returns-then-is_none c vs v h n e =
    subst (λ (x : ℕ). AreViewPlaces (vs ++ v ∷ []) (slice_set c.args.places.now c.args.entity (Some x))) (sym n)
    (now_placed vs v c.args.places.now h c.args.entity e (no_number _ c.is_none.result c.is_none.ensures c.if-is_none.true) c.requires)

pub returns-else-is_none : goal.returns-else-is_none
returns-else-is_none c vs v h n e =
    let some = some_number _ c.is_none.result c.is_none.ensures c.if-is_none.false in
    placed_before vs v c.args.places.now h c.args.entity e some.0 some.1
