-- The dimensions on a way have sizes as small as those of its memory: no view makes one larger.
use Rattle.std.proofs.Common.{◌≡◌, ℕ, zero, suc, ◌*◌, ◌^◌, ◌<◌, ◌≤◌, List, refl, sym, subst, arith}
use Rattle.std.specs.Prelude.{Option, Some, None, [], ◌∷◌, slice_get, max}
use Rattle.std.specs.List.{AllByRecursion}
use Rattle.std.proofs.Math.Nat.{le-mul_of_pos_right, mul_comm}
use Rattle.dh_value.specs.declared.kinds.Kind.{Kind}
use Rattle.dh_tree.specs.declared.tables.Dim.{Dim}
use Rattle.dh_tree.specs.declared.tables.MemEntry.{MemEntry}
use Rattle.dh_tree.specs.declared.viewing.ViewMap.{ViewMap}
use Rattle.dh_tree.specs.declared.viewing.ViewSort.{ViewSort}
use Rattle.dh_tree.specs.declared.viewing.ViewSort.TheVariants.{Shrink, Split, Suffix, Shift}
use Rattle.dh_tree.specs.Elements.{dims_at}
use Rattle.dh_tree.specs.Shapes.{IsDim, IsProgramTable}
use Rattle.dh_tree.specs.Tables.{elements_of}
use Rattle.dh_tree.specs.ViewShapes.{AreDimsOf, AreSplitOf, IsShapeOf, IsViewMap}
use Rattle.dh_plan.specs.declared.operations.ReachStep.{ReachStep}
use Rattle.dh_plan.specs.PlainPlans.{PlainPlan}
use Rattle.dh_plan.specs.PlanKinds.{AreSteps, StepFits}
use Rattle.dh_address.proofs.LiteralMeans.{dims_formed, elements_small, elements_some}

-- each view of the plan has the shape of its sort
abbrev pub HasMaps : PlainPlan → Type 0
HasMaps p = AllByRecursion IsViewMap p.views

pub one_of : {A : Type 0} (P : A → Type 0) (xs : List A) (i : ℕ) (v : A) → AllByRecursion P xs → slice_get xs i ≡ Some v → P v
one_of P [] i v h e = absurd (cc)
one_of P (x ∷ xs) zero v h e = let same : x ≡ v = cc in subst P same h.0
one_of P (x ∷ xs) (suc i) v h e = one_of P xs i v h.1 e

-- a dimension of few elements
pub record IsFew (d : Dim) : Type 0 where
  pub dim : IsDim d
  pub small : d.size < 2 ^ 60

abbrev pub AreFew : List Dim → Type 0
AreFew dims = AllByRecursion IsFew dims

few_of : (ds : List Dim) → AllByRecursion IsDim ds → (n : ℕ) → elements_of ds ≤ n → n < 2 ^ 60 → AreFew ds
few_of [] h n l m = tt
few_of (d ∷ ds) h n l m =
    let others = elements_some ds h.1 in
    let here : d.size ≤ d.size * elements_of ds = le-mul_of_pos_right d.size others in
    let rest : elements_of ds ≤ elements_of ds * d.size = le-mul_of_pos_right (elements_of ds) h.0.size in
    (record { dim = h.0; small = omega (arith, here, l, m) }, few_of ds h.1 n (omega (arith, rest, l, mul_comm (elements_of ds) d.size)) m)

pub memory_few : (table : List MemEntry) (memory : ℕ) → IsProgramTable table → AreFew (dims_at table memory)
memory_few table memory h =
    let l = elements_small table memory in
    let m = h.elements in
    few_of (dims_at table memory) (dims_formed table memory h.entries) (max 1048576 1) (omega (arith, l, m)) (omega arith)

-- Views.

shrunk_few : (vs ps : List Dim) (ks : List ℕ) → AreDimsOf Shrink vs ps ks → AllByRecursion IsDim vs → AreFew ps → AreFew vs
shrunk_few [] ps ks h own few = tt
shrunk_few (v ∷ vs) [] ks h own few = absurd (h)
shrunk_few (v ∷ vs) (p ∷ ps) [] h own few = absurd (h)
shrunk_few (v ∷ vs) (p ∷ ps) (k ∷ ks) h own few = (record { dim = own.0; small = subst (λ (n : ℕ). n < 2 ^ 60) (sym h.0.0) few.0.small }, shrunk_few vs ps ks h.1 own.1 few.1)

suffix_few : (vs ps : List Dim) (ks : List ℕ) → AreDimsOf Suffix vs ps ks → AllByRecursion IsDim vs → AreFew ps → AreFew vs
suffix_few [] ps ks h own few = tt
suffix_few (v ∷ vs) [] ks h own few = absurd (h)
suffix_few (v ∷ vs) (p ∷ ps) [] h own few = absurd (h)
suffix_few (v ∷ vs) (p ∷ ps) (k ∷ ks) h own few = (subst (λ (d : Dim). IsFew d) (sym h.0.0) few.0, suffix_few vs ps ks h.1 own.1 few.1)

split_few : (vs ps : List Dim) (ks : List ℕ) → AreSplitOf vs ps ks → AllByRecursion IsDim vs → AreFew ps → AreFew vs
split_few [] ps ks h own few = absurd (h)
split_few (v ∷ []) ps ks h own few = absurd (h)
split_few (v ∷ (w ∷ (u ∷ vs))) ps ks h own few = absurd (h)
split_few (v ∷ (w ∷ [])) [] ks h own few = absurd (h)
split_few (v ∷ (w ∷ [])) (p ∷ (q ∷ ps)) ks h own few = absurd (h)
split_few (v ∷ (w ∷ [])) (p ∷ []) [] h own few = absurd (h)
split_few (v ∷ (w ∷ [])) (p ∷ []) (k ∷ (j ∷ ks)) h own few = absurd (h)
split_few (v ∷ (w ∷ [])) (p ∷ []) (k ∷ []) h own few =
    let all = h.1.0 in
    let part : w.size ≤ w.size * k = le-mul_of_pos_right w.size h.1.1.1 in
    let copies : k ≤ k * w.size = le-mul_of_pos_right k own.1.0.size in
    let turn = mul_comm k w.size in
    let size = h.0.0 in
    let small = few.0.small in
    (record { dim = own.0; small = omega (arith, copies, turn, all, size, small) }, (record { dim = own.1.0; small = omega (arith, part, all, small) }, tt))

shape_few : (sort : ViewSort) (vs ps : List Dim) (ks : List ℕ) → IsShapeOf sort vs ps ks → AllByRecursion IsDim vs → AreFew ps → AreFew vs
shape_few Shrink vs ps ks h own few = shrunk_few vs ps ks h own few
shape_few Split vs ps ks h own few = split_few vs ps ks h own few
shape_few Suffix vs ps ks h own few = suffix_few vs ps ks h own few
shape_few Shift vs ps ks h own few = subst (λ (ds : List Dim). AreFew ds) (sym h.0) few

pub view_few : (v : ViewMap) → IsViewMap v → AreFew v.parent.dims → AreFew v.shape.dims
view_few v h few = shape_few v.sort v.shape.dims v.parent.dims v.by h.shape h.own.dims few

-- Ways.

module _ (p : PlainPlan) (maps : HasMaps p) (tables : IsProgramTable p.table) (first : ℕ) (kinds : List Kind) (memory : ℕ) where
  pub way_few : (steps : List ReachStep) (dims : List Dim) → AreSteps p first kinds memory steps dims → AreFew dims
  way_few [] dims h = subst (λ (ds : List Dim). AreFew ds) (sym h) (memory_few p.table memory tables)
  way_few (s ∷ ss) dims h = of (slice_get p.views s.view) refl h (λ ds. way_few ss ds)
    where
      of : (o : Option ViewMap) → slice_get p.views s.view ≡ o → StepFits p first kinds s.offsets o dims (AreSteps p first kinds memory ss)
          → ((ds : List Dim) → AreSteps p first kinds memory ss ds → AreFew ds) → AreFew dims
      of None e h more = absurd h
      of (Some v) e h more = subst (λ (ds : List Dim). AreFew ds) h.0 (view_few v (one_of IsViewMap p.views s.view v maps e) (more v.parent.dims h.1.1))
