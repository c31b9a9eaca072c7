-- The views of a program in text order, and what each is: its shape, that of its parent, and its factors. A
-- view's parent is a memory or an earlier view. (The table of views of this profile.)
use Rattle.std.specs.Prelude.{ℕ, ◌/◌, if◌then◌else◌, List, [], ◌∷◌, ◌++◌, map, Option, Some, None}
use Rattle.dh_tree.specs.declared.tables.Dim.{Dim}
use Rattle.dh_tree.specs.declared.tables.Shape.{Shape}
use Rattle.dh_tree.specs.declared.trees.expressions.Ref.{Ref}
use Rattle.dh_tree.specs.Memories.{Memory, memories_of, memory_in, same_entity}
use Rattle.dh_tree.specs.PlainTrees.{ViewPlan, shrinks, splits, suffixes, shifts, Action, action, ActionForm, lets, lets_memory, views, assigns, stores, reduces, calls, blocks, decides, repeats, counts, MaybeAction, no_action, one_action, Actions, no_actions, action_then, Groups, no_groups, group_then, Program}
use Rattle.dh_tree.specs.declared.viewing.Viewed.{Viewed}
use Rattle.dh_tree.specs.declared.viewing.ViewMap.{ViewMap}
use Rattle.dh_tree.specs.declared.viewing.ViewSort.{ViewSort}
use Rattle.dh_tree.specs.declared.viewing.ViewSort.TheVariants.{Shrink, Split, Suffix, Shift}

-- a view, where it is declared
pub record Viewing : Type 0 where
  pub name : Ref
  pub parent : Ref
  pub form : ViewPlan

abbrev mutual
  -- the views that a command declares, in text order
  pub viewings : Action → List Viewing
  viewings (action id place form) = form_viewings form

  pub form_viewings : ActionForm → List Viewing
  form_viewings (views name parent form) = record { name = name; parent = parent; form = form } ∷ []
  form_viewings (blocks body) = groups_viewings body
  form_viewings (decides test chosen other) = viewings chosen ++ other_viewings other
  form_viewings (repeats test body) = viewings body
  form_viewings (counts iterator declared low high factor body combine combine_place) = viewings body ++ other_viewings combine
  form_viewings (lets name declared value) = []
  form_viewings (lets_memory name shape shape_places value) = []
  form_viewings (assigns target value) = []
  form_viewings (stores target value) = []
  form_viewings (reduces target op value) = []
  form_viewings (calls function arguments) = []

  pub other_viewings : MaybeAction → List Viewing
  other_viewings no_action = []
  other_viewings (one_action a) = viewings a

  pub groups_viewings : Groups → List Viewing
  groups_viewings no_groups = []
  groups_viewings (group_then part rest) = part_viewings part ++ groups_viewings rest

  pub part_viewings : Actions → List Viewing
  part_viewings no_actions = []
  part_viewings (action_then a rest) = viewings a ++ part_viewings rest

abbrev pub views_of : Program → List Viewing
views_of p = viewings p.body

-- Shapes.

-- the same sizes in fewer banks; a bracket that lacks changes nothing
abbrev pub shrunk_dims : (factors : List ℕ) → List Dim → List Dim
shrunk_dims (k ∷ ks) (d ∷ ds) = record { size = d.size; banks = d.banks / k } ∷ shrunk_dims ks ds
shrunk_dims [] ds = ds
shrunk_dims (k ∷ ks) [] = []

-- a dimension and one factor: so many copies, and what each has
abbrev pub split_dims : (factors : List ℕ) → List Dim → List Dim
split_dims (k ∷ ks) (d ∷ ds) = record { size = k; banks = k } ∷ (record { size = d.size / k; banks = d.banks / k } ∷ [])
split_dims [] ds = []
split_dims (k ∷ ks) [] = []

abbrev pub dims_of : ViewPlan → (parent : List Dim) → List Dim
dims_of (shrinks by by_place) parent = shrunk_dims by parent
dims_of (splits by by_place) parent = split_dims by parent
dims_of (suffixes by by_place) parent = parent
dims_of (shifts by) parent = parent

abbrev pub sort_of : ViewPlan → ViewSort
sort_of (shrinks by by_place) = Shrink
sort_of (splits by by_place) = Split
sort_of (suffixes by by_place) = Suffix
sort_of (shifts by) = Shift

-- the factors; a shift has none
abbrev pub factors_of : ViewPlan → List ℕ
factors_of (shrinks by by_place) = by
factors_of (splits by by_place) = by
factors_of (suffixes by by_place) = map (λ s. s.factor) by
factors_of (shifts by) = []

-- a view of what has this shape
abbrev pub map_of : ViewPlan → (parent : Shape) → ViewMap
map_of form parent = record {
  shape = record { kind = parent.kind; ports = parent.ports; dims = dims_of form parent.dims };
  parent = parent;
  sort = sort_of form;
  by = factors_of form;
}

-- What a name stands for.

-- the view that is this entity
abbrev pub view_in : List Viewed → Option ℕ → Option ViewMap
view_in [] entity = None
view_in (v ∷ vs) entity = if same_entity v.entity entity then Some v.is else view_in vs entity

-- the shape of the memory, or else of the view, that is this entity
abbrev pub shape_of : Option Memory → Option ViewMap → Option Shape
shape_of (Some m) view = Some m.shape
shape_of None (Some v) = Some v.shape
shape_of None None = None

abbrev pub shape_in : List Memory → List Viewed → Option ℕ → Option Shape
shape_in ms vs entity = shape_of (memory_in ms entity) (view_in vs entity)

-- a view whose parent has this shape; one that has no parent, as in no typed program, is none
abbrev pub viewed_of : Viewing → Option Shape → List Viewed
viewed_of v None = []
viewed_of v (Some parent) = record { entity = v.name.entity; is = map_of v.form parent } ∷ []

-- these views behind others
abbrev pub viewed_behind : List Memory → (before : List Viewed) → List Viewing → List Viewed
viewed_behind ms before [] = before
viewed_behind ms before (v ∷ vs) = viewed_behind ms (before ++ viewed_of v (shape_in ms before v.parent.entity)) vs

-- the views of a program
abbrev pub viewed_in : Program → List Viewed
viewed_in p = viewed_behind (memories_of p) [] (views_of p)

-- the view of a program that is this entity
abbrev pub view_of : Program → (entity : ℕ) → Option ViewMap
view_of p entity = view_in (viewed_in p) (Some entity)
