-- Behind each view of a way there are as many indices as its parent has dimensions; in the end as many as the memory has.
use Rattle.std.proofs.Common.{◌≡◌, ℕ, suc, ◌+◌, List, length, map, refl, sym, ap, subst, ◌∙◌, arith}
use Rattle.std.specs.Prelude.{Option, Some, None, [], ◌∷◌, slice_get}
use Rattle.std.proofs.lemmas.List.{length-append}
use Rattle.dh_tree.specs.declared.tables.Dim.{Dim}
use Rattle.dh_tree.specs.declared.viewing.ViewMap.{ViewMap}
use Rattle.dh_tree.specs.declared.viewing.ViewSort.{ViewSort}
use Rattle.dh_tree.specs.declared.viewing.ViewSort.TheVariants.{Shrink, Split, Suffix, Shift}
use Rattle.dh_tree.specs.Elements.{dims_at}
use Rattle.dh_tree.specs.ViewElements.{offsets_needed}
use Rattle.dh_tree.specs.ViewShapes.{AreDimsOf, AreSplitOf, IsShapeOf, IsViewMap}
use Rattle.dh_plan.specs.declared.operations.Operation.{Operation}
use Rattle.dh_plan.specs.declared.operations.Reach.{Reach}
use Rattle.dh_plan.specs.declared.operations.ReachStep.{ReachStep}
use Rattle.dh_plan.specs.PlainPlans.{PlainPlan}
use Rattle.dh_plan.specs.PlanKinds.{AreSteps, NamesElement, ReachSuits, StepFits}
use Rattle.dh_address.specs.declared.operands.BlockValue.{BlockValue}
use Rattle.dh_address.specs.declared.operands.Ranged.{Ranged}
use Rattle.dh_address.specs.Arounds.{RenumberedBlock}
use Rattle.dh_address.specs.WaysMade.{IndexWay, way, IsIndexWay, operand_of, moved_one, moved_all, unit_factors, split_made, dealt_way, passed_by, passed_if, step_passed, steps_passed, way_begun, passed_to, reach_passed}
use Rattle.dh_address.proofs.AccessesPut.{HasMany}
use Rattle.dh_address.proofs.WaySizes.{HasMaps, one_of}

pub mapped_long : {A B : Type 0} (f : A → B) (xs : List A) → length (map f xs) ≡ length xs
mapped_long f [] = refl
mapped_long f (x ∷ xs) = ap suc (mapped_long f xs)

-- one more index
moved_one_long : (size factor : ℕ) (e i : BlockValue) (w : IndexWay) → length (moved_one size factor e i w).indices ≡ length w.indices + 1
moved_one_long size factor e i w = length-append w.indices _

moved_all_long : (ds : List Dim) (ks : List ℕ) (es is : List BlockValue) (w : IndexWay) → length ks ≡ length ds → length es ≡ length ds → length is ≡ length ds
    → length (moved_all ds ks es is w).indices ≡ length w.indices + length ds
moved_all_long [] ks es is w k e i = omega arith
moved_all_long (d ∷ ds) [] es is w k e i = absurd (omega (arith, k))
moved_all_long (d ∷ ds) (f ∷ ks) [] is w k e i = absurd (omega (arith, e))
moved_all_long (d ∷ ds) (f ∷ ks) (o ∷ es) [] w k e i = absurd (omega (arith, i))
moved_all_long (d ∷ ds) (f ∷ ks) (o ∷ es) (j ∷ is) w k e i =
    let one = moved_one_long d.size f o j w in
    let rest = moved_all_long ds ks es is (moved_one d.size f o j w) (omega (arith, k)) (omega (arith, e)) (omega (arith, i)) in
    rest ∙ sum (length (moved_one d.size f o j w).indices) (length w.indices) (length ds) one
  where
    sum : (a b c : ℕ) → a ≡ b + 1 → a + c ≡ b + suc c
    sum a b c e = omega (arith, e)

-- Shapes.

pub dims_long : (sort : ViewSort) (vs ps : List Dim) (ks : List ℕ) → AreDimsOf sort vs ps ks → (length vs ≡ length ps) × (length ks ≡ length ps)
dims_long sort [] [] [] h = (refl, refl)
dims_long sort [] [] (k ∷ ks) h = absurd h
dims_long sort [] (p ∷ ps) ks h = absurd h
dims_long sort (v ∷ vs) [] ks h = absurd h
dims_long sort (v ∷ vs) (p ∷ ps) [] h = absurd h
dims_long sort (v ∷ vs) (p ∷ ps) (k ∷ ks) h = let more = dims_long sort vs ps ks h.1 in (ap suc more.0, ap suc more.1)

split_long : (vs ps : List Dim) (ks : List ℕ) (is : List BlockValue) (os : List Operation) (ranges : List Ranged) → AreSplitOf vs ps ks → length is ≡ length vs
    → length (dealt_way ranges (split_made vs ps is os)).indices ≡ length ps
split_long [] ps ks is os ranges h l = absurd h
split_long (v ∷ []) ps ks is os ranges h l = absurd h
split_long (v ∷ (w ∷ (u ∷ vs))) ps ks is os ranges h l = absurd h
split_long (v ∷ (w ∷ [])) [] ks is os ranges h l = absurd h
split_long (v ∷ (w ∷ [])) (p ∷ (q ∷ ps)) ks is os ranges h l = absurd h
split_long (v ∷ (w ∷ [])) (p ∷ []) [] is os ranges h l = absurd h
split_long (v ∷ (w ∷ [])) (p ∷ []) (k ∷ (j ∷ ks)) is os ranges h l = absurd h
split_long (v ∷ (w ∷ [])) (p ∷ []) (k ∷ []) [] os ranges h l = absurd (omega (arith, l))
split_long (v ∷ (w ∷ [])) (p ∷ []) (k ∷ []) (a ∷ []) os ranges h l = absurd (omega (arith, l))
split_long (v ∷ (w ∷ [])) (p ∷ []) (k ∷ []) (a ∷ (b ∷ is)) os ranges h l = refl

pub sort_long : (sort : ViewSort) (v : ViewMap) (es is : List BlockValue) (os : List Operation) (ranges : List Ranged) → IsShapeOf sort v.shape.dims v.parent.dims v.by
    → length es ≡ offsets_needed sort v.parent.dims → length is ≡ length v.shape.dims → length (passed_by sort v es is os ranges).indices ≡ length v.parent.dims
sort_long Shrink v es is os ranges h e i = i ∙ (dims_long Shrink v.shape.dims v.parent.dims v.by h).0
sort_long Split v es is os ranges h e i = split_long v.shape.dims v.parent.dims v.by is os ranges h i
sort_long Suffix v es is os ranges h e i =
    let l = dims_long Suffix v.shape.dims v.parent.dims v.by h in moved_all_long v.parent.dims v.by es is (way os ranges []) l.1 e (i ∙ l.0) ∙ omega arith
sort_long Shift v es is os ranges h e i =
    moved_all_long v.parent.dims (unit_factors v.parent.dims) es is (way os ranges []) (mapped_long (λ d. 1) v.parent.dims) e (i ∙ ap (λ (ds : List Dim). length ds) h.0) ∙ omega arith

-- Ways.

module _ (a : RenumberedBlock) (p : PlainPlan) (maps : HasMaps p) (views : a.views ≡ p.views) where
  steps_long : (memory : ℕ) (steps : List ReachStep) (dims : List Dim) (w : IndexWay) → AreSteps p a.first a.kinds memory steps dims → length w.indices ≡ length dims
      → length (steps_passed a steps w).indices ≡ length (dims_at p.table memory)
  steps_long memory [] dims w s l = l ∙ ap (λ (ds : List Dim). length ds) s
  steps_long memory (t ∷ ts) dims w s l =
      let next = of (slice_get p.views t.view) refl s in
      steps_long memory ts next.0 (step_passed a t w) next.1.0 (subst (λ (vs : List ViewMap). length (passed_if (slice_get vs t.view) (map (operand_of a) t.offsets) w).indices ≡ length next.0) (sym views) next.1.1)
    where
      of : (o : Option ViewMap) → slice_get p.views t.view ≡ o → StepFits p a.first a.kinds t.offsets o dims (AreSteps p a.first a.kinds memory ts)
          → (ds : List Dim) × (AreSteps p a.first a.kinds memory ts ds × (length (passed_if o (map (operand_of a) t.offsets) w).indices ≡ length ds))
      of None e f = absurd f
      of (Some v) e f = (
        v.parent.dims,
        (
          f.1.1,
          sort_long v.sort v (map (operand_of a) t.offsets) w.indices w.operations _ (one_of IsViewMap p.views t.view v maps e).shape
              (mapped_long (operand_of a) t.offsets ∙ f.1.0) (l ∙ ap (λ (ds : List Dim). length ds) (sym f.0)),
        ),
      )

  to_long : (r : Reach) (row : Option ℕ) (old : List Operation) → NamesElement p a.first a.kinds r row → HasMany p.table r row (passed_to a r row old).indices
  to_long r None old element = steps_long r.memory r.steps element.0 (way_begun a r old) element.1.1 (mapped_long (operand_of a) r.indices ∙ element.1.0)
  to_long r (Some row) old element = tt

  -- of what was seen as the way of an access
  pub passed_long : (r : Reach) → ReachSuits p a.first a.kinds r → (old passed : List Operation) (ranges : List Ranged) (indices : List BlockValue) → IsIndexWay passed ranges indices (reach_passed a r old)
      → HasMany p.table r r.row indices
  passed_long r suits old passed ranges indices e = subst (λ (is : List BlockValue). HasMany p.table r r.row is) (sym e.1.1) (to_long r r.row old suits.element)
