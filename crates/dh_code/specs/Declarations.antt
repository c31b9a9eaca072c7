-- The variables of a program where they are declared: the kind of each, and the factors of the unrolled loops
-- round it; behind its own ones those that keep the offsets of its views. And the slots that they are given: those of
-- each entity behind those of the entities before it.
use Rattle.std.specs.Prelude.{ℕ, zero, suc, ◌+◌, nat_lt, if◌then◌else◌, List, [], ◌∷◌, ◌++◌, length, Option, Some, None}
use Rattle.dh_value.specs.declared.kinds.Kind.{Kind}
use Rattle.dh_value.specs.declared.kinds.Kind.TheVariants as kind
use Rattle.dh_tree.specs.Memories.{same_entity}
use Rattle.dh_tree.specs.declared.trees.expressions.Ref.{Ref}
use Rattle.dh_tree.specs.PlainTrees.{Term, ViewPlan, Action, action, ActionForm, lets, lets_memory, views, assigns, stores, reduces, calls, blocks, decides, repeats, counts, MaybeAction, no_action, one_action, Actions, no_actions, action_then, Groups, no_groups, group_then, Program}
use Rattle.dh_tree.specs.ViewOffsets.{offsets_of}
use Rattle.dh_meaning.specs.Bindings.{kind_found, let_kind}
use Rattle.dh_tree.specs.Kinds.{iterator_kind}
use Rattle.dh_meaning.specs.Ways.{all_entities_of}
use Rattle.dh_code.specs.declared.places.Declared.{Declared}
use Rattle.dh_code.specs.declared.places.VariableSlots.{VariableSlots}
use Rattle.dh_code.specs.Ranks.{copies_in}
use Rattle.dh_code.specs.Slots.{Placing}

pub record Declaration : Type 0 where
  pub entity : Option ℕ
  pub kind_is : Kind
  pub factors : List ℕ

-- the factors inside a loop; one of a single copy adds nothing
abbrev pub factors_inside : (factors : List ℕ) → (factor : ℕ) → List ℕ
factors_inside factors factor = if nat_lt 1 factor then factors ++ factor ∷ [] else factors

abbrev mutual
  -- the variables that a command declares inside loops of these factors, in text order
  pub declarations : (factors : List ℕ) → Action → List Declaration
  declarations factors (action id place form) = form_declarations factors form

  pub form_declarations : (factors : List ℕ) → ActionForm → List Declaration
  form_declarations factors (lets name declared value) = record { entity = name.entity; kind_is = let_kind declared value; factors = factors } ∷ []
  form_declarations factors (lets_memory name shape shape_places value) = []
  form_declarations factors (views name parent form) = []
  form_declarations factors (assigns target value) = []
  form_declarations factors (stores target value) = []
  form_declarations factors (reduces target op value) = []
  form_declarations factors (calls function arguments) = []
  form_declarations factors (blocks body) = groups_declarations factors body
  form_declarations factors (decides test chosen other) = declarations factors chosen ++ other_declarations factors other
  form_declarations factors (repeats test body) = declarations factors body
  form_declarations factors (counts iterator declared low high factor body combine combine_place) =
      record { entity = iterator.entity; kind_is = iterator_kind declared; factors = factors_inside factors factor.value }
      ∷ (declarations (factors_inside factors factor.value) body ++ other_declarations (factors_inside factors factor.value) combine)

  pub other_declarations : (factors : List ℕ) → MaybeAction → List Declaration
  other_declarations factors no_action = []
  other_declarations factors (one_action a) = declarations factors a

  pub groups_declarations : (factors : List ℕ) → Groups → List Declaration
  groups_declarations factors no_groups = []
  groups_declarations factors (group_then part rest) = part_declarations factors part ++ groups_declarations factors rest

  pub part_declarations : (factors : List ℕ) → Actions → List Declaration
  part_declarations factors no_actions = []
  part_declarations factors (action_then a rest) = declarations factors a ++ part_declarations factors rest

-- Variables that keep offsets.

-- a view, inside loops of these factors
pub record Factored : Type 0 where
  pub name : Ref
  pub parent : Ref
  pub form : ViewPlan
  pub factors : List ℕ

abbrev mutual
  -- the views that a command declares inside loops of these factors, in text order
  pub factored : (factors : List ℕ) → Action → List Factored
  factored factors (action id place form) = form_factored factors form

  pub form_factored : (factors : List ℕ) → ActionForm → List Factored
  form_factored factors (views name parent form) = record { name = name; parent = parent; form = form; factors = factors } ∷ []
  form_factored factors (lets name declared value) = []
  form_factored factors (lets_memory name shape shape_places value) = []
  form_factored factors (assigns target value) = []
  form_factored factors (stores target value) = []
  form_factored factors (reduces target op value) = []
  form_factored factors (calls function arguments) = []
  form_factored factors (blocks body) = groups_factored factors body
  form_factored factors (decides test chosen other) = factored factors chosen ++ other_factored factors other
  form_factored factors (repeats test body) = factored factors body
  form_factored factors (counts iterator declared low high factor body combine combine_place) =
      factored (factors_inside factors factor.value) body ++ other_factored (factors_inside factors factor.value) combine

  pub other_factored : (factors : List ℕ) → MaybeAction → List Factored
  other_factored factors no_action = []
  other_factored factors (one_action a) = factored factors a

  pub groups_factored : (factors : List ℕ) → Groups → List Factored
  groups_factored factors no_groups = []
  groups_factored factors (group_then part rest) = part_factored factors part ++ groups_factored factors rest

  pub part_factored : (factors : List ℕ) → Actions → List Factored
  part_factored factors no_actions = []
  part_factored factors (action_then a rest) = factored factors a ++ part_factored factors rest

-- those of offsets, of which the first is kept in this entity
abbrev pub hidden_declared : (first : ℕ) → (factors : List ℕ) → List Term → List Declaration
hidden_declared first factors [] = []
hidden_declared first factors (t ∷ ts) = record { entity = Some first; kind_is = kind_found t; factors = factors } ∷ hidden_declared (suc first) factors ts

abbrev pub all_hidden_declared : (first : ℕ) → List Factored → List Declaration
all_hidden_declared first [] = []
all_hidden_declared first (f ∷ fs) = hidden_declared first f.factors (offsets_of f.form) ++ all_hidden_declared (first + length (offsets_of f.form)) fs

abbrev pub hidden_declarations : Program → List Declaration
hidden_declarations p = all_hidden_declared (length p.entities) (factored [] p.body)

abbrev pub all_declarations_of : Program → List Declaration
all_declarations_of p = declarations [] p.body ++ hidden_declarations p

-- the variable that is this entity, the first where there are more
abbrev pub declaration_in : List Declaration → (entity : ℕ) → Option Declaration
declaration_in [] entity = None
declaration_in (d ∷ ds) entity = if same_entity d.entity (Some entity) then Some d else declaration_in ds entity

-- what the code keeps of it
abbrev pub declared_of : Declaration → Declared
declared_of d = record { entity = d.entity; kind = d.kind_is; depth = length d.factors; copies = copies_in d.factors }

abbrev pub declared_factors : Option Declaration → List ℕ
declared_factors None = []
declared_factors (Some d) = d.factors

abbrev pub kind_declared : Option Declaration → Kind
kind_declared None = kind.Bool
kind_declared (Some d) = d.kind_is

-- the slots of a variable behind so many; what is no variable has one
abbrev pub held_behind : (count : ℕ) → Option Declaration → VariableSlots
held_behind count d = record { kind = kind_declared d; depth = length (declared_factors d); first = count }

-- those of so many entities, from a number on, behind so many slots
abbrev pub all_held : List Declaration → (count from entities : ℕ) → List VariableSlots
all_held ds count from zero = []
all_held ds count from (suc entities) =
    held_behind count (declaration_in ds from) ∷ all_held ds (count + copies_in (declared_factors (declaration_in ds from))) (suc from) entities

abbrev pub slots_counted : List Declaration → (count from entities : ℕ) → ℕ
slots_counted ds count from zero = count
slots_counted ds count from (suc entities) = slots_counted ds (count + copies_in (declared_factors (declaration_in ds from))) (suc from) entities

-- the slots of a program's variables
abbrev pub placing_of : Program → Placing
placing_of p = record {
  held = all_held (all_declarations_of p) 0 0 (all_entities_of p);
  factors = λ entity. declared_factors (declaration_in (all_declarations_of p) entity);
}

abbrev pub slots_of : Program → ℕ
slots_of p = slots_counted (all_declarations_of p) 0 0 (all_entities_of p)
