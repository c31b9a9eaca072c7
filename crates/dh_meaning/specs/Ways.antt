-- The ways from names of views to their memories: the views that stand between, and where their offsets are kept. The
-- offset of a suffix or a shift is kept, when the view's command is done, in a hidden variable of the place of that
-- command. These variables are the entities behind those of the program, in text order. (Which element an index names
-- is told in dh_tree's ViewElements; hidden variables are this project's.)
use Rattle.std.specs.Prelude.{ℕ, suc, ◌+◌, max, Bool, if◌then◌else◌, List, [], ◌∷◌, ◌++◌, length, map, take, Option, Some, None}
use Rattle.dh_value.specs.declared.kinds.Kind.{Kind}
use Rattle.dh_value.specs.declared.kinds.Kind.TheVariants as kind
use Rattle.dh_tree.specs.declared.tables.Shape.{Shape}
use Rattle.dh_tree.specs.declared.trees.expressions.Ref.{Ref}
use Rattle.dh_tree.specs.Memories.{Memory, memories_of, memory_in, same_entity}
use Rattle.dh_tree.specs.PlainTrees.{Term, ViewPlan, Action, action, ActionForm, lets, lets_memory, views, assigns, stores, reduces, calls, blocks, decides, repeats, counts, MaybeAction, no_action, one_action, Actions, no_actions, action_then, Groups, no_groups, group_then, Program}
use Rattle.dh_tree.specs.declared.viewing.ViewMap.{ViewMap}
use Rattle.dh_tree.specs.ViewElements.{offsets_needed}
use Rattle.dh_tree.specs.ViewOffsets.{offsets_of, moves, is_shift_view}
use Rattle.dh_tree.specs.Views.{map_of}
use Rattle.dh_meaning.specs.Bindings.{Binding, bindings_of, kind_found, depth_inside}

-- Views where they stand: inside so many unrolled loops.

pub record ViewSite : Type 0 where
  pub name : Ref
  pub parent : Ref
  pub form : ViewPlan
  pub depth : ℕ

abbrev mutual
  pub standings : (depth : ℕ) → Action → List ViewSite
  standings depth (action id place form) = form_standings depth form

  pub form_standings : (depth : ℕ) → ActionForm → List ViewSite
  form_standings depth (views name parent form) = record { name = name; parent = parent; form = form; depth = depth } ∷ []
  form_standings depth (lets name declared value) = []
  form_standings depth (lets_memory name shape shape_places value) = []
  form_standings depth (assigns target value) = []
  form_standings depth (stores target value) = []
  form_standings depth (reduces target op value) = []
  form_standings depth (calls function arguments) = []
  form_standings depth (blocks body) = groups_standings depth body
  form_standings depth (decides test chosen other) = standings depth chosen ++ other_standings depth other
  form_standings depth (repeats test body) = standings depth body
  form_standings depth (counts iterator declared low high factor body combine combine_place) =
      standings (depth_inside depth factor.value) body ++ other_standings (depth_inside depth factor.value) combine

  pub other_standings : (depth : ℕ) → MaybeAction → List ViewSite
  other_standings depth no_action = []
  other_standings depth (one_action a) = standings depth a

  pub groups_standings : (depth : ℕ) → Groups → List ViewSite
  groups_standings depth no_groups = []
  groups_standings depth (group_then part rest) = part_standings depth part ++ groups_standings depth rest

  pub part_standings : (depth : ℕ) → Actions → List ViewSite
  part_standings depth no_actions = []
  part_standings depth (action_then a rest) = standings depth a ++ part_standings depth rest

-- Hidden variables.

pub record Hidden : Type 0 where
  pub entity : ℕ
  pub kind : Kind
  pub depth : ℕ

-- those of offsets, of which the first is kept in this entity
abbrev pub hidden_from : (first depth : ℕ) → List Term → List Hidden
hidden_from first depth [] = []
hidden_from first depth (t ∷ ts) = record { entity = first; kind = kind_found t; depth = depth } ∷ hidden_from (suc first) depth ts

abbrev pub hidden_of : (first : ℕ) → ViewSite → List Hidden
hidden_of first s = hidden_from first s.depth (offsets_of s.form)

-- the first entity behind them
abbrev pub behind_hidden : (first : ℕ) → ViewSite → ℕ
behind_hidden first s = first + length (offsets_of s.form)

abbrev pub behind_all : (first : ℕ) → List ViewSite → ℕ
behind_all first [] = first
behind_all first (s ∷ ss) = behind_all (behind_hidden first s) ss

-- how many entities a program has, those that keep offsets among them
abbrev pub all_entities_of : Program → ℕ
all_entities_of p = behind_all (length p.entities) (standings 0 p.body)

-- Ways.

-- a view on the way, with the number of offsets that it takes
pub record WayStep : Type 0 where
  pub is : ViewMap
  pub offsets : ℕ

pub record Way : Type 0 where
  -- the view that is named, and the entity of the memory
  pub is : ViewMap
  pub memory : Option ℕ
  -- the views, the named one first, and where their offsets are kept, in the same order
  pub steps : List WayStep
  pub hidden : List Hidden
  -- the depth of the deepest view that moves, and of the deepest shift; 0 where there is none
  pub deepest : ℕ
  pub shifts : ℕ

abbrev pub step_of : ViewMap → WayStep
step_of v = record { is = v; offsets = offsets_needed v.sort v.parent.dims }

abbrev pub depth_where : Bool → (depth : ℕ) → ℕ
depth_where b depth = if b then depth else 0

-- the way of a view, behind which that of its parent goes on; a parent without a way is a memory
abbrev pub way_behind : (first : ℕ) → ViewSite → ViewMap → Option Way → Way
way_behind first s v None = record {
  is = v;
  memory = s.parent.entity;
  steps = step_of v ∷ [];
  hidden = hidden_of first s;
  deepest = depth_where (moves s.form) s.depth;
  shifts = depth_where (is_shift_view s.form) s.depth;
}
way_behind first s v (Some w) = record {
  is = v;
  memory = w.memory;
  steps = step_of v ∷ w.steps;
  hidden = hidden_of first s ++ w.hidden;
  deepest = max (depth_where (moves s.form) s.depth) w.deepest;
  shifts = max (depth_where (is_shift_view s.form) s.depth) w.shifts;
}

-- a view's entity with its way
pub record Led : Type 0 where
  pub entity : Option ℕ
  pub way : Way

abbrev pub way_in : List Led → Option ℕ → Option Way
way_in [] entity = None
way_in (l ∷ ls) entity = if same_entity l.entity entity then Some l.way else way_in ls entity

-- a memory has no way
abbrev pub way_unless : Option Memory → Option Way → Option Way
way_unless (Some m) way = None
way_unless None way = way

-- the way of what an entity is, where that is a view
abbrev pub way_at : List Memory → List Led → Option ℕ → Option Way
way_at ms ls entity = way_unless (memory_in ms entity) (way_in ls entity)

-- the shape of a memory, or else of the view that is named by a way
abbrev pub shape_named : Option Memory → Option Way → Option Shape
shape_named (Some m) way = Some m.shape
shape_named None (Some w) = Some w.is.shape
shape_named None None = None

-- a view of what has this shape; one whose parent has none, as in no typed program, has no way
abbrev pub led_of : (first : ℕ) → ViewSite → Option Shape → Option Way → List Led
led_of first s None parent = []
led_of first s (Some shape) parent = record { entity = s.name.entity; way = way_behind first s (map_of s.form shape) parent } ∷ []

abbrev pub led_after : List Memory → (first : ℕ) → (before : List Led) → ViewSite → List Led
led_after ms first before s =
    led_of first s (shape_named (memory_in ms s.parent.entity) (way_in before s.parent.entity)) (way_at ms before s.parent.entity)

-- those behind others, of which the first hidden variable is this entity
abbrev pub led_behind : List Memory → (first : ℕ) → (before : List Led) → List ViewSite → List Led
led_behind ms first before [] = before
led_behind ms first before (s ∷ ss) = led_behind ms (behind_hidden first s) (before ++ led_after ms first before s) ss

-- the ways of a program's views
abbrev pub ways_of : Program → List Led
ways_of p = led_behind (memories_of p) (length p.entities) [] (standings 0 p.body)

-- the way of what an entity of a program is
abbrev pub way_to : Program → Option ℕ → Option Way
way_to p entity = way_at (memories_of p) (ways_of p) entity

-- where its offsets are kept, the view's own first
abbrev pub hidden_in : Option Way → List Hidden
hidden_in None = []
hidden_in (Some w) = w.hidden

-- those of its own offsets
abbrev pub own_hidden : Option Way → ViewPlan → List Hidden
own_hidden w form = take (length (offsets_of form)) (hidden_in w)

-- the entity of the memory that a name leads to
abbrev pub base_of : Option Way → Option ℕ → Option ℕ
base_of None entity = entity
base_of (Some w) entity = w.memory

-- Bindings: a view has the depth of the deepest command on its way, on which keys depend; its offsets those of its own.

abbrev pub hidden_binding : Hidden → Binding
hidden_binding h = record { entity = Some h.entity; kind = h.kind; depth = h.depth; iterates = None }

abbrev pub led_binding : Led → Binding
led_binding l = record { entity = l.entity; kind = kind.Bool; depth = l.way.deepest; iterates = None }

abbrev pub hidden_bindings : (first : ℕ) → List ViewSite → List Binding
hidden_bindings first [] = []
hidden_bindings first (s ∷ ss) = map hidden_binding (hidden_of first s) ++ hidden_bindings (behind_hidden first s) ss

abbrev pub view_bindings : Program → List Binding
view_bindings p = map led_binding (ways_of p) ++ hidden_bindings (length p.entities) (standings 0 p.body)

-- the variables of a program, and behind them its views and what they keep
abbrev pub all_bindings_of : Program → List Binding
all_bindings_of p = bindings_of p ++ view_bindings p
