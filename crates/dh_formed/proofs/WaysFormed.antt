-- The steps of a way are formed as a plan asks: each view takes as many offsets as it needs, and the views lead from the
-- dimensions of what is named to those of the memory.
use Rattle.std.proofs.Common.{◌≡◌, ℕ, ◌+◌, ◌-◌, ◌≤◌, List, [], ◌∷◌, Some, None, refl, sym, ap, ◌∙◌, subst, arith, length, take, drop}
use Rattle.std.specs.Prelude.{◌++◌, Option}
use Rattle.std.specs.List.{AllByRecursion}
use Rattle.std.proofs.lemmas.List.{length-take-le, length-drop, take-append-drop}
use Rattle.dh_tree.specs.declared.tables.Dim.{Dim}
use Rattle.dh_tree.specs.declared.viewing.ViewMap.{ViewMap}
use Rattle.dh_tree.specs.Elements.{dims_at}
use Rattle.dh_tree.specs.PlainTrees as plain
use Rattle.dh_meaning.specs.CoreOf.{dims_by}
use Rattle.dh_meaning.specs.Ways.{Way, WayStep as ViewStep}
use Rattle.dh_code.proofs.Ranges.{all_dropped, all_taken}
use Rattle.dh_plan.specs.declared.operations.ReachStep.{ReachStep}
use Rattle.dh_plan.specs.Ordered.{offsets_taken}
use Rattle.dh_plan.specs.PlanKinds.{AreSteps, StepFits}
use Rattle.dh_expressions.specs.declared.drafts.Draft.{Draft}
use Rattle.dh_expressions.specs.declared.elements.Aim.{Aim}
use Rattle.dh_expressions.specs.declared.scenes.Lane.{Lane}
use Rattle.dh_expressions.specs.declared.scenes.Scene.{Scene}
use Rattle.dh_expressions.specs.declared.scenes.Through.{Through}
use Rattle.dh_expressions.specs.Evaluated.{steps_told}
use Rattle.dh_expressions.specs.Named.{number_of_parent}
use Rattle.dh_formed.specs.Formed.{AimSuits, FormedBlock, HasNumbers, IsNumberThere, RowSuits, StepsSuit, WaySuits}
use Rattle.dh_formed.proofs.ElementsFormed.{all_append}

module _ (x : FormedBlock) (through : List Through) (d : Draft) where
  steps_numbers : (steps : List ViewStep) (first : ℕ) (values : List ℕ) → AllByRecursion (IsNumberThere x d) values → AllByRecursion (IsNumberThere x d) (offsets_taken (steps_told through first steps values))
  steps_numbers [] first values h = tt
  steps_numbers (s ∷ ss) first values h =
      all_append (IsNumberThere x d) (take s.offsets values) (offsets_taken (steps_told through (number_of_parent through first) ss (drop s.offsets values))) (all_taken (IsNumberThere x d) values s.offsets h)
      (steps_numbers ss (number_of_parent through first) (drop s.offsets values) (all_dropped (IsNumberThere x d) values s.offsets h))

steps_lead : (x : FormedBlock) (through : List Through) (memory : ℕ) (steps : List ViewStep) (first count : ℕ) (dims : List Dim) (values : List ℕ) → length values ≡ count → StepsSuit x through memory first steps count dims
    → AreSteps x.plan x.first x.kinds memory (steps_told through first steps values) dims
steps_lead x through memory [] first count dims values long h = h.1
steps_lead x through memory (s ∷ ss) first count dims values long h =
    subst (λ (o : Option ViewMap). StepFits x.plan x.first x.kinds (take s.offsets values) o dims (AreSteps x.plan x.first x.kinds memory (steps_told through (number_of_parent through first) ss (drop s.offsets values)))) (sym h.0.0) (
      h.0.1.0,
      (
        length-take-le s.offsets values (enough (length values) count s.offsets h.1.0 long h.1.1.0) ∙ h.0.1.1,
        steps_lead x through memory ss (number_of_parent through first) h.1.0 s.is.parent.dims (drop s.offsets values) (length-drop s.offsets values ∙ left (length values) count s.offsets h.1.0 long h.1.1.0) h.1.1.1,
      ),
    )
  where
    enough : (l c n m : ℕ) → l ≡ c → c ≡ n + m → n ≤ l
    enough l c n m e f = omega (arith, e, f)

    left : (l c n m : ℕ) → l ≡ c → c ≡ n + m → l - n ≡ m
    left l c n m e f = omega (arith, e, f)

-- all offsets are taken, one behind the other
pub steps_take : (x : FormedBlock) (through : List Through) (memory : ℕ) (steps : List ViewStep) (first count : ℕ) (dims : List Dim) (values : List ℕ) → length values ≡ count → StepsSuit x through memory first steps count dims → offsets_taken (steps_told through first steps values) ≡ values
steps_take x through memory [] first count dims values long h = none values (long ∙ h.0)
  where
    none : (vs : List ℕ) → length vs ≡ 0 → ◌≡◌ {A = List ℕ} [] vs
    none [] e = refl
    none (v ∷ vs) e = absurd (cc)
steps_take x through memory (s ∷ ss) first count dims values long h =
    ap (λ (vs : List ℕ). take s.offsets values ++ vs) (steps_take x through memory ss (number_of_parent through first) h.1.0 s.is.parent.dims (drop s.offsets values) (length-drop s.offsets values ∙ left (length values) count s.offsets h.1.0 long h.1.1.0) h.1.1.1)
    ∙ take-append-drop s.offsets values
  where
    left : (l c n m : ℕ) → l ≡ c → c ≡ n + m → l - n ≡ m
    left l c n m e f = omega (arith, e, f)

-- indices and the steps behind them name an element of the memory
module _ (x : FormedBlock) (scene : Scene) (lane : Lane) (memory first : ℕ) (d : Draft) (form : plain.TermForm) (aim : Aim) (count : ℕ) (row : aim.row ≡ None) (indices : HasNumbers x d count aim.indices) where
  pub memory_aim : aim.steps ≡ [] → count ≡ length (dims_at x.plan.table memory) → AimSuits x d memory form aim
  memory_aim none all = record {
    indices = indices.each;
    offsets = no_offsets;
    row = subst (λ (o : Option ℕ). RowSuits x d memory form aim o) (sym row) (dims_at x.plan.table memory, (indices.long ∙ all, still));
  }
    where
      no_offsets : AllByRecursion (IsNumberThere x d) (offsets_taken aim.steps)
      no_offsets = subst (λ (ss : List ReachStep). AllByRecursion (IsNumberThere x d) (offsets_taken ss)) (sym none) tt

      still : AreSteps x.plan x.first x.kinds memory aim.steps (dims_at x.plan.table memory)
      still = subst (λ (ss : List ReachStep). AreSteps x.plan x.first x.kinds memory ss (dims_at x.plan.table memory)) (sym none) refl

  pub way_aim : (w : Way) (values : List ℕ) → aim.steps ≡ steps_told scene.through.now first w.steps values → HasNumbers x d (length w.hidden) values → WaySuits x scene lane memory first (Some w)
      → count ≡ length (dims_by (dims_at x.plan.table memory) (Some w)) → AimSuits x d memory form aim
  way_aim w values are hidden suits all = record {
    indices = indices.each;
    offsets = subst (λ (ss : List ReachStep). AllByRecursion (IsNumberThere x d) (offsets_taken ss)) (sym are) (steps_numbers x scene.through.now d w.steps first values hidden.each);
    row = subst (λ (o : Option ℕ). RowSuits x d memory form aim o) (sym row) (
      w.is.shape.dims,
      (
        indices.long ∙ all,
        subst (λ (ss : List ReachStep). AreSteps x.plan x.first x.kinds memory ss w.is.shape.dims) (sym are) (steps_lead x scene.through.now memory w.steps first (length w.hidden) w.is.shape.dims values hidden.long suits.1),
      ),
    );
  }
