-- What the code finds of the views of a program.
use Rattle.std.specs.Prelude.{◌≡◌, ℕ, ◌/◌, Bool, true, if◌then◌else◌, List, [], ◌∷◌, ◌++◌, map, Option, Some, None, option_map, Result, OnOk, Vec}
use Rattle.std.specs.Global.{Global}
use denote.Ref.{Bor}
use Rattle.dh_base.specs.declared.places.Place.{Place}
use Rattle.dh_tree.specs.declared.breaches.Breach.{Breach}
use Rattle.dh_tree.specs.declared.tables.Dim.{Dim}
use Rattle.dh_tree.specs.declared.tables.MemEntry.{MemEntry}
use Rattle.dh_tree.specs.declared.tables.Shape.{Shape}
use Rattle.dh_tree.specs.declared.trees.expressions.Expr.{Expr}
use Rattle.dh_tree.specs.declared.trees.programs.Tree.{Tree}
use Rattle.dh_tree.specs.declared.viewing.Viewed.{Viewed}
use Rattle.dh_tree.specs.declared.viewing.ViewMap.{ViewMap}
use Rattle.dh_tree.specs.Indices.{shape_keeps}
use Rattle.dh_tree.specs.Memories.{Memory, memories_of, memory_in}
use Rattle.dh_tree.specs.Seen.{factor_seen, view_plan, program_seen}
use Rattle.dh_tree.specs.ViewBreaches.{breaks_none, kept_behind, kept_of, kept_shape_in}
use Rattle.dh_tree.specs.ViewFactors.{factor_broken, factor_keeps, factors_breaches, viewing_breaches, viewings_breaches}
use Rattle.dh_tree.specs.Views.{Viewing, map_of, shape_in, viewed_behind, viewed_of}
use Rattle.dh_viewing.specs.declared.collecting.DeclaredView.{DeclaredView}

abbrev pub viewing_found : DeclaredView → Viewing
viewing_found f = record { name = f.name.now; parent = f.parent.now; form = view_plan f.form.now }

abbrev pub viewings_found : List DeclaredView → List Viewing
viewings_found fs = map viewing_found fs

-- these views are found behind those that were found before, where no memory was refused
abbrev pub FindsViews : {E : Type 0} → Result (Unit {0}) E → (old new : Vec DeclaredView Global) → List Viewing → Type 0
FindsViews result old new views = OnOk result (viewings_found new.items ≡ viewings_found old.items ++ views)

-- a dimension of a shrunk view, where a factor stands at its place or none
abbrev pub shrunk_by : Option ℕ → Dim → Dim
shrunk_by None d = d
shrunk_by (Some k) d = record { size = d.size; banks = d.banks / k }

abbrev pub entry_shape : Option MemEntry → Option Shape
entry_shape None = None
entry_shape (Some e) = Some e.shape

abbrev pub memory_shape : Option Memory → Option Shape
memory_shape None = None
memory_shape (Some m) = Some m.shape

-- that of the memory of a program that an entity is, if it is one
abbrev pub memory_shape_in : Tree → (entity : Option ℕ) → Option Shape
memory_shape_in tree entity = memory_shape (memory_in (memories_of (program_seen tree)) entity)

-- the shape of a memory, where it keeps the rules, or else of a view
abbrev pub shape_kept : (memory : Option Shape) → Option ViewMap → Option Shape
shape_kept (Some s) view = if shape_keeps s then Some s else None
shape_kept None (Some v) = Some v.shape
shape_kept None None = None

-- so of those that are lent
abbrev pub shape_lent : (memory : Option (Bor Shape)) → (view : Option (Bor ViewMap)) → Option Shape
shape_lent memory view = shape_kept (option_map (λ s. s.now) memory) (option_map (λ v. v.now) view)

-- a view whose parent has this shape, and one that keeps the rule besides
abbrev pub map_through : Viewing → (parent : Option Shape) → Option ViewMap
map_through v None = None
map_through v (Some s) = Some (map_of v.form s)

abbrev pub kept_through : Viewing → (parent : Option Shape) → Option ViewMap
kept_through v None = None
kept_through v (Some s) = if breaks_none (viewing_breaches v (Some s)) then Some (map_of v.form s) else None

-- the view that is an entity, where there is one
abbrev pub viewed_as : (entity : Option ℕ) → Option ViewMap → List Viewed
viewed_as entity None = []
viewed_as entity (Some m) = record { entity = entity; is = m } ∷ []

-- a place, or else another
abbrev pub place_or : (other : Place) → Option Place → Place
place_or other None = other
place_or other (Some p) = p

-- the breach of a factor of a dimension, where there is one
abbrev pub factor_broken_at : (multiplies : Bool) → Option ℕ → Place → Dim → List Breach
factor_broken_at m (Some k) p d = factor_broken (factor_keeps m k d.banks) p
factor_broken_at m None p d = []

-- the factors of a suffix, of which each stands beside its offset
abbrev pub factors_paired : List (ℕ × Expr) → List ℕ
factors_paired by = map (λ (p : ℕ × Expr). p.0) by

-- what the factors of a suffix break, each where it stands and with its dimension
abbrev pub multiples_breaches : (parent : Place) → List (ℕ × Expr) → List Place → List Dim → List Breach
multiples_breaches parent by places dims = factors_breaches true parent (map (λ s. s.factor) (map factor_seen by)) places dims

-- Views behind others: the parent of each is a memory of the program, or one of the others.

-- what such a view is, where it has a parent
abbrev pub map_behind : Tree → (before : List Viewed) → DeclaredView → Option ViewMap
map_behind tree before f = map_through (viewing_found f) (shape_in (memories_of (program_seen tree)) before f.parent.now.entity)

-- the others with it, and with all of these
abbrev pub with_found_view : Tree → (before : List Viewed) → DeclaredView → List Viewed
with_found_view tree before f = before ++ viewed_of (viewing_found f) (shape_in (memories_of (program_seen tree)) before f.parent.now.entity)

abbrev pub with_all_found : Tree → (before : List Viewed) → List DeclaredView → List Viewed
with_all_found tree before fs = viewed_behind (memories_of (program_seen tree)) before (viewings_found fs)

-- what its factors and brackets break, and those of all of these
abbrev pub found_breaches : Tree → (before : List Viewed) → DeclaredView → List Breach
found_breaches tree before f = viewing_breaches (viewing_found f) (shape_in (memories_of (program_seen tree)) before f.parent.now.entity)

abbrev pub all_found_breaches : Tree → (before : List Viewed) → List DeclaredView → List Breach
all_found_breaches tree before fs = viewings_breaches (memories_of (program_seen tree)) before (viewings_found fs)

-- Those that keep the rules, behind others that do.

-- the shape of the memory, where it keeps the rules, or of the view among the others that an entity is
abbrev pub kept_shape_at : Tree → (kept : List Viewed) → (entity : Option ℕ) → Option Shape
kept_shape_at tree kept entity = kept_shape_in (memories_of (program_seen tree)) kept entity

-- the others with a view, where it keeps the rules, and with those of these that do
abbrev pub with_kept_view : Tree → (kept : List Viewed) → DeclaredView → List Viewed
with_kept_view tree kept f = kept ++ kept_of (viewing_found f) (kept_shape_in (memories_of (program_seen tree)) kept f.parent.now.entity)

abbrev pub with_all_kept : Tree → (kept : List Viewed) → List DeclaredView → List Viewed
with_all_kept tree kept fs = kept_behind (memories_of (program_seen tree)) kept (viewings_found fs)
