-- Where the factors of a program's views keep the rule, each view of it has a shape that keeps the rules and limits.
use Rattle.std.proofs.Common.{◌≡◌, ℕ, Bool, true, false, if◌then◌else◌, List, [], ◌∷◌, ◌++◌, map, Option, Some, None, refl, ap, subst}
use Rattle.std.specs.List.{AllByRecursion}
use Rattle.dh_tree.specs.declared.tables.Shape.{Shape}
use Rattle.dh_tree.specs.Memories.{Memory, memory_in, memories_of, entry_of, same_entity, table_of}
use Rattle.dh_tree.specs.PlainTrees.{Program}
use Rattle.dh_tree.specs.Shapes.{IsShape, IsMemory, IsProgramTable}
use Rattle.dh_tree.specs.declared.viewing.Viewed.{Viewed}
use Rattle.dh_tree.specs.declared.viewing.ViewMap.{ViewMap}
use Rattle.dh_tree.specs.ViewFactors.{viewing_breaches, viewings_breaches, factor_breaches_of}
use Rattle.dh_tree.specs.Views.{Viewing, view_in, shape_of, shape_in, viewed_of, viewed_behind, viewed_in, views_of}
use Rattle.dh_tree.specs.ViewShapes.{IsViewMap}
use Rattle.dh_viewing.proofs.KeptViews.{first_none, second_none, kept_view}

abbrev pub AreKept : List Viewed → Type 0
AreKept vs = AllByRecursion (λ v. IsViewMap v.is) vs

-- what is found keeps what all keep
pub memory_kept : (ms : List Memory) (e : Option ℕ) (m : Memory) → AllByRecursion IsMemory (map entry_of ms) → memory_in ms e ≡ Some m → IsShape m.shape
memory_kept [] e m h is = cc
memory_kept (x ∷ ms) e m h is = by (same_entity x.name.entity e) is (λ f. memory_kept ms e m h.1 f)
  where
    by : (b : Bool) → (if b then Some x else memory_in ms e) ≡ Some m → (memory_in ms e ≡ Some m → IsShape m.shape) → IsShape m.shape
    by true f rest = subst (λ (y : Memory). IsShape y.shape) (some_same x m f) h.0.shape
      where
        or : Memory → Option Memory → Memory
        or y None = y
        or y (Some z) = z

        some_same : (a b : Memory) → Some a ≡ Some b → a ≡ b
        some_same a b g = ap (or a) g
    by false f rest = rest f

view_kept : (vs : List Viewed) (e : Option ℕ) (v : ViewMap) → AreKept vs → view_in vs e ≡ Some v → IsViewMap v
view_kept [] e v h is = cc
view_kept (x ∷ vs) e v h is = by (same_entity x.entity e) is (λ f. view_kept vs e v h.1 f)
  where
    by : (b : Bool) → (if b then Some x.is else view_in vs e) ≡ Some v → (view_in vs e ≡ Some v → IsViewMap v) → IsViewMap v
    by true f rest = subst IsViewMap (some_same x.is v f) h.0
      where
        or : ViewMap → Option ViewMap → ViewMap
        or y None = y
        or y (Some z) = z

        some_same : (a b : ViewMap) → Some a ≡ Some b → a ≡ b
        some_same a b g = ap (or a) g
    by false f rest = rest f

shape_kept : (ms : List Memory) (vs : List Viewed) (e : Option ℕ) (s : Shape) → AllByRecursion IsMemory (map entry_of ms) → AreKept vs → shape_in ms vs e ≡ Some s → IsShape s
shape_kept ms vs e s h k is = by (memory_in ms e) refl (view_in vs e) refl is
  where
    or : Shape → Option Shape → Shape
    or y None = y
    or y (Some z) = z

    some_same : (a b : Shape) → Some a ≡ Some b → a ≡ b
    some_same a b g = ap (or a) g

    by : (m : Option Memory) → memory_in ms e ≡ m → (v : Option ViewMap) → view_in vs e ≡ v → shape_of m v ≡ Some s → IsShape s
    by (Some m) f v g i = subst IsShape (some_same m.shape s i) (memory_kept ms e m h f)
    by None f (Some v) g i = subst IsShape (some_same v.shape s i) (view_kept vs e v k g).own
    by None f None g i = cc

both_kept : (vs ws : List Viewed) → AreKept vs → AreKept ws → AreKept (vs ++ ws)
both_kept [] ws h k = k
both_kept (v ∷ vs) ws h k = (h.0, both_kept vs ws h.1 k)

one_kept : (v : Viewing) (o : Option Shape) → ((s : Shape) → o ≡ Some s → IsShape s) → viewing_breaches v o ≡ [] → AreKept (viewed_of v o)
one_kept v None h e = tt
one_kept v (Some s) h e = (kept_view v.form s v.parent.place (h s refl) e, tt)

all_kept : (ms : List Memory) (before : List Viewed) (vs : List Viewing) → AllByRecursion IsMemory (map entry_of ms) → AreKept before → viewings_breaches ms before vs ≡ [] → AreKept (viewed_behind ms before vs)
all_kept ms before [] h k e = k
all_kept ms before (v ∷ vs) h k e =
    let o = shape_in ms before v.parent.entity in
    let first = viewing_breaches v o in
    let rest = viewings_breaches ms (before ++ viewed_of v o) vs in
    all_kept ms (before ++ viewed_of v o) vs h (both_kept before (viewed_of v o) k (one_kept v o (λ s is. shape_kept ms before v.parent.entity s h k is) (first_none first rest e))) (second_none first rest e)

pub views_kept : (p : Program) → factor_breaches_of p ≡ [] → IsProgramTable (table_of p) → AreKept (viewed_in p)
views_kept p e t = all_kept (memories_of p) [] (views_of p) t.entries tt e
