-- A shape without a breach keeps the rules.
use Rattle.std.proofs.Common.{◌≡◌, ◌==◌, ◌&&◌, not, Bool, true, false, List, [], ◌∷◌, refl, ap}
use Rattle.dh_base.specs.declared.places.Place.{Place}
use Rattle.dh_tree.specs.declared.breaches.Breach.{Breach}
use Rattle.dh_tree.specs.declared.tables.Dim.{Dim}
use Rattle.dh_tree.specs.declared.tables.Shape.{Shape}
use Rattle.dh_tree.specs.declared.trees.programs.DimPlaces.{DimPlaces}
use Rattle.dh_tree.specs.declared.trees.programs.ShapePlaces.{ShapePlaces}
use Rattle.dh_tree.specs.Indices.{divides, dim_breaches, dims_breaches, shape_breaches, dim_keeps, dims_keep, shape_keeps}
use Rattle.dh_tree.specs.Kinds.{when}
use Rattle.dh_tree.proofs.EmptyLists.{first_none, second_none, not_none}

when_none : (b : Bool) (x : Breach) → when b (x ∷ []) ≡ [] → b ≡ false
when_none true x e = not_none _ _ e
when_none false x e = refl

both_true : (a b : Bool) → a ≡ true → b ≡ true → (a && b) ≡ true
both_true true true e f = refl
both_true true false e f = f
both_true false b e f = e

not_false : (b : Bool) → b ≡ false → not b ≡ true
not_false b e = ap not e

of_not : (b : Bool) → not b ≡ false → b ≡ true
of_not true e = refl
of_not false e = cc

dim_without : (size_place banks_place : Place) (d : Dim) → dim_breaches size_place banks_place d ≡ [] → dim_keeps d ≡ true
dim_without size_place banks_place d e =
    let size = when_none (d.size == 0) _ (first_none (when (d.size == 0) _) _ e) in
    let banks = when_none (not (divides d.banks d.size)) _ (second_none (when (d.size == 0) _) _ e) in
    both_true _ _ (not_false (d.size == 0) size) (of_not (divides d.banks d.size) banks)

dims_without : (at : Place) (ds : List Dim) (places : List DimPlaces) → dims_breaches at ds places ≡ [] → dims_keep ds ≡ true
dims_without at [] places e = refl
dims_without at (d ∷ ds) [] e =
    both_true _ _ (dim_without at at d (first_none (dim_breaches at at d) _ e)) (dims_without at ds [] (second_none (dim_breaches at at d) _ e))
dims_without at (d ∷ ds) (p ∷ ps) e =
    both_true _ _ (dim_without p.size_place p.banks_place d (first_none (dim_breaches p.size_place p.banks_place d) _ e))
    (dims_without at ds ps (second_none (dim_breaches p.size_place p.banks_place d) _ e))

-- a shape without a breach keeps the rules
pub shape_without : (s : Shape) (places : ShapePlaces) → shape_breaches s places ≡ [] → shape_keeps s ≡ true
shape_without s places e =
    let ports = when_none (s.ports == 0) _ (first_none (when (s.ports == 0) _) _ e) in
    both_true _ _ (not_false (s.ports == 0) ports) (dims_without places.kind_place s.dims places.dims (second_none (when (s.ports == 0) _) _ e))
