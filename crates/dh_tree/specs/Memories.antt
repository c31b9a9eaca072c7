-- The memories of a program: those from outside, in text order, and behind them those of its body. Their
-- places in this list are their numbers.
use Rattle.std.specs.Prelude.{ℕ, suc, ◌==◌, Bool, true, false, if◌then◌else◌, List, [], ◌∷◌, ◌++◌, map, Option, Some, None, option_map}
use Rattle.dh_tree.specs.declared.tables.MemEntry.{MemEntry}
use Rattle.dh_tree.specs.declared.tables.Shape.{Shape}
use Rattle.dh_tree.specs.declared.trees.expressions.Ref.{Ref}
use Rattle.dh_tree.specs.declared.trees.programs.ShapePlaces.{ShapePlaces}
use Rattle.dh_tree.specs.PlainTrees.{Action, action, ActionForm, lets, lets_memory, views, assigns, stores, reduces, calls, blocks, decides, repeats, counts, MaybeAction, no_action, one_action, Actions, no_actions, action_then, Groups, no_groups, group_then, Declared, Program}
use Rattle.dh_tree.specs.Scopes.{entity_number}

-- a memory, where it is declared
pub record Memory : Type 0 where
  pub name : Ref
  pub shape : Shape
  pub shape_places : ShapePlaces
  -- its contents are given from outside
  pub outside : Bool

abbrev pub outside_memory : Declared → Memory
outside_memory d = record { name = d.name; shape = d.shape; shape_places = d.shape_places; outside = true }

abbrev mutual
  -- the local memories that a command declares, in text order
  pub locals : Action → List Memory
  locals (action id place form) = form_locals form

  pub form_locals : ActionForm → List Memory
  form_locals (lets_memory name shape shape_places value) = record { name = name; shape = shape; shape_places = shape_places; outside = false } ∷ []
  form_locals (blocks body) = groups_locals body
  form_locals (decides test chosen other) = locals chosen ++ other_locals other
  form_locals (repeats test body) = locals body
  form_locals (counts iterator declared low high factor body combine combine_place) = locals body ++ other_locals combine
  form_locals (lets name declared value) = []
  form_locals (views name parent form) = []
  form_locals (assigns target value) = []
  form_locals (stores target value) = []
  form_locals (reduces target o value) = []
  form_locals (calls function arguments) = []

  pub other_locals : MaybeAction → List Memory
  other_locals no_action = []
  other_locals (one_action a) = locals a

  pub groups_locals : Groups → List Memory
  groups_locals no_groups = []
  groups_locals (group_then part rest) = part_locals part ++ groups_locals rest

  pub part_locals : Actions → List Memory
  part_locals no_actions = []
  part_locals (action_then a rest) = locals a ++ part_locals rest

abbrev pub memories_of : Program → List Memory
memories_of p = map outside_memory p.decls ++ locals p.body

-- both stand for one entity
abbrev pub same_entity : Option ℕ → Option ℕ → Bool
same_entity (Some m) (Some n) = m == n
same_entity _ _ = false

-- the number of the memory that is this entity, if one is
abbrev pub number_in : List Memory → Option ℕ → Option ℕ
number_in [] entity = None
number_in (m ∷ ms) entity = if same_entity m.name.entity entity then Some 0 else option_map suc (number_in ms entity)

-- the memory that is this entity
abbrev pub memory_in : List Memory → Option ℕ → Option Memory
memory_in [] entity = None
memory_in (m ∷ ms) entity = if same_entity m.name.entity entity then Some m else memory_in ms entity

abbrev pub entry_of : Memory → MemEntry
entry_of m = record { name = m.name.name; shape = m.shape; outside = m.outside }

-- the table of the memories of a program
abbrev pub table_of : Program → List MemEntry
table_of p = map entry_of (memories_of p)

-- the number of the memory that a name stands for; every name of a resolved program stands for something
abbrev pub memory_of_name : List Memory → Ref → ℕ
memory_of_name ms r = entity_number (number_in ms r.entity)
