-- Where the memories of a program keep the rules, and the factors and brackets of its views, all views are kept.
use Rattle.std.proofs.Common.{◌≡◌, ℕ, ◌≤◌, ◌%◌, ◌==◌, ◌&&◌, not, Bool, true, false, if◌then◌else◌, List, [], ◌∷◌, ◌++◌, map, Option, Some, None, refl, sym, ap, subst, ◌∙◌, arith}
use Rattle.std.proofs.lemmas.Bool.Decides.{nat_tests}
use Rattle.std.specs.List.{AllByRecursion}
use Rattle.dh_tree.proofs.FirstBreaches.{none_is_kept}
use Rattle.dh_tree.specs.declared.breaches.Breach.{Breach}
use Rattle.dh_tree.specs.declared.tables.Dim.{Dim}
use Rattle.dh_tree.specs.declared.tables.MemEntry.{MemEntry}
use Rattle.dh_tree.specs.declared.tables.Shape.{Shape}
use Rattle.dh_tree.specs.declared.viewing.Viewed.{Viewed}
use Rattle.dh_tree.specs.declared.viewing.ViewMap.{ViewMap}
use Rattle.dh_tree.specs.Indices.{divides, dim_keeps, dims_keep, shape_keeps}
use Rattle.dh_tree.specs.LeastBreach.{least_of}
use Rattle.dh_tree.specs.Memories.{Memory, memory_in, memories_of, entry_of, same_entity, table_of}
use Rattle.dh_tree.specs.PlainTrees.{Program}
use Rattle.dh_tree.specs.Shapes.{IsDim, IsShape, IsMemory, IsProgramTable}
use Rattle.dh_tree.specs.ViewBreaches.{breaks_none, kept_shape, kept_shape_in, kept_of, kept_behind, kept_views}
use Rattle.dh_tree.specs.ViewFactors.{viewing_breaches, viewings_breaches, factor_breaches_of}
use Rattle.dh_tree.specs.Views.{Viewing, view_in, shape_of, shape_in, viewed_of, viewed_behind, viewed_in, views_of}
use Rattle.dh_viewing.specs.Judged.{entries_keep, kept_or}
use Rattle.dh_viewing.proofs.KeptViews.{first_none, left_of, right_of, second_none}

both_are : (a b : Bool) → a ≡ true → b ≡ true → (a && b) ≡ true
both_are true b e f = f
both_are false b e f = e

some_not : (n : ℕ) → 1 ≤ n → not (n == 0) ≡ true
some_not n h = grind (arith, nat_tests)

dim_all : (d : Dim) → IsDim d → dim_keeps d ≡ true
dim_all d h =
    both_are (not (d.size == 0)) (divides d.banks d.size) (some_not d.size h.size)
    (both_are (not (d.banks == 0)) (d.size % d.banks == 0) (some_not d.banks h.banks) (ap (λ n. n == 0) h.divides))

dims_all : (ds : List Dim) → AllByRecursion IsDim ds → dims_keep ds ≡ true
dims_all [] h = refl
dims_all (d ∷ ds) h = both_are (dim_keeps d) (dims_keep ds) (dim_all d h.0) (dims_all ds h.1)

shape_all : (s : Shape) → IsShape s → shape_keeps s ≡ true
shape_all s h = both_are (not (s.ports == 0)) (dims_keep s.dims) (some_not s.ports h.least_ports) (dims_all s.dims h.dims)

-- a memory whose shape breaks no rule
abbrev pub Keeps : MemEntry → Type 0
Keeps e = shape_keeps e.shape ≡ true

memories_all : (es : List MemEntry) → AllByRecursion IsMemory es → AllByRecursion Keeps es
memories_all [] h = tt
memories_all (e ∷ es) h = (shape_all e.shape h.0.shape, memories_all es h.1)

found_keeps : (ms : List Memory) (e : Option ℕ) (m : Memory) → AllByRecursion Keeps (map entry_of ms) → memory_in ms e ≡ Some m → shape_keeps m.shape ≡ true
found_keeps [] e m h is = cc
found_keeps (x ∷ ms) e m h is = by (same_entity x.name.entity e) is (λ f. found_keeps ms e m h.1 f)
  where
    by : (b : Bool) → (if b then Some x else memory_in ms e) ≡ Some m → (memory_in ms e ≡ Some m → shape_keeps m.shape ≡ true) → shape_keeps m.shape ≡ true
    by true f rest = subst (λ (y : Memory). shape_keeps y.shape ≡ true) (some_same x m f) h.0
      where
        or : Memory → Option Memory → Memory
        or y None = y
        or y (Some z) = z

        some_same : (a b : Memory) → Some a ≡ Some b → a ≡ b
        some_same a b g = ap (or a) g
    by false f rest = rest f

same_shape : (ms : List Memory) (vs : List Viewed) (e : Option ℕ) → AllByRecursion Keeps (map entry_of ms) → kept_shape_in ms vs e ≡ shape_in ms vs e
same_shape ms vs e h = by (memory_in ms e) refl (view_in vs e)
  where
    by : (m : Option Memory) → memory_in ms e ≡ m → (v : Option ViewMap) → kept_shape m v ≡ shape_of m v
    by (Some m) f v = ap (λ b. if b then Some m.shape else None) (found_keeps ms e m h f)
    by None f (Some v) = refl
    by None f None = refl

one_all : (v : Viewing) (o : Option Shape) → viewing_breaches v o ≡ [] → kept_of v o ≡ viewed_of v o
one_all v o e = ap (λ l. if breaks_none l then viewed_of v o else []) e

all_behind : (ms : List Memory) (before : List Viewed) (vs : List Viewing) → AllByRecursion Keeps (map entry_of ms) → viewings_breaches ms before vs ≡ [] → kept_behind ms before vs ≡ viewed_behind ms before vs
all_behind ms before [] h e = refl
all_behind ms before (v ∷ vs) h e =
    let o = shape_in ms before v.parent.entity in
    let first = viewing_breaches v o in
    let rest = viewings_breaches ms (before ++ viewed_of v o) vs in
    ap (λ x. kept_behind ms (before ++ kept_of v x) vs) (same_shape ms before v.parent.entity h)
    ∙ (ap (λ l. kept_behind ms (before ++ l) vs) (one_all v o (first_none first rest e)) ∙ all_behind ms (before ++ viewed_of v o) vs h (second_none first rest e))

pub all_kept : (p : Program) → factor_breaches_of p ≡ [] → IsProgramTable (table_of p) → kept_views p ≡ viewed_in p
all_kept p e t = all_behind (memories_of p) [] (views_of p) (memories_all (map entry_of (memories_of p)) t.entries) e

-- As code tells it.

entries_all : (es : List MemEntry) → entries_keep es ≡ true → AllByRecursion Keeps es
entries_all [] h = tt
entries_all (e ∷ es) h = (left_of (shape_keeps e.shape) (entries_keep es) h, entries_all es (right_of (shape_keeps e.shape) (entries_keep es) h))

-- where no memory and no view breaks a rule, no view is kept apart
pub none_apart : (ms : List Memory) (vs : List Viewing) (all unbroken : Bool) → all ≡ (unbroken && entries_keep (map entry_of ms)) → all ≡ true → (unbroken ≡ true → viewings_breaches ms [] vs ≡ []) → viewed_behind ms [] vs ≡ kept_behind ms [] vs
none_apart ms vs all true is told h = sym (all_behind ms [] vs (entries_all (map entry_of ms) (sym is ∙ told)) (h refl))
none_apart ms vs all false is told h = absurd (never (sym told ∙ is))
  where
    never : true ≡ false → ⊥
    never e = cc

-- where no breach is kept, none was found
unbroken : (old : Option Breach) (bs : List Breach) → least_of old bs ≡ None → bs ≡ []
unbroken None bs e = none_is_kept bs e
unbroken (Some b) bs e = let some : b ∷ bs ≡ [] = none_is_kept (b ∷ bs) e in cc

-- what is told of the views of a program, by that of those which are found
pub judged : (p : Program) (vs : List Viewing) (first all : List Viewed) (apart : Option (List Viewed)) (is_none : Bool) (old new : Option Breach) → vs ≡ views_of p → first ≡ [] → all ≡ viewed_behind (memories_of p) first vs
    → new ≡ least_of old (viewings_breaches (memories_of p) first vs) → (is_none ≡ true → new ≡ None)
    → ((is_none ≡ true → viewings_breaches (memories_of p) [] vs ≡ []) → kept_or (viewed_behind (memories_of p) [] vs) apart ≡ kept_behind (memories_of p) [] vs)
    → (all ≡ viewed_in p) × ((kept_or all apart ≡ kept_views p) × (new ≡ least_of old (factor_breaches_of p)))
judged p vs first all apart is_none old new are empty made broken none so =
    let ms = memories_of p in
    let whole : all ≡ viewed_behind ms [] vs = made ∙ ap (λ l. viewed_behind ms l vs) empty in
    let least : new ≡ least_of old (viewings_breaches ms [] vs) = broken ∙ ap (λ l. least_of old (viewings_breaches ms l vs)) empty in (
      whole ∙ ap (viewed_behind ms []) are,
      (
        ap (λ l. kept_or l apart) whole ∙ (so (λ t. unbroken old (viewings_breaches ms [] vs) (sym least ∙ none t)) ∙ ap (kept_behind ms []) are),
        least ∙ ap (λ l. least_of old (viewings_breaches ms [] l)) are,
      ),
    )
