-- The variables of a program, where they are declared: the kind of each, round how many unrolled loops it is
-- declared, and of an iterator the factor of its loop. (A variable has one value in each copy of these loops;
-- the iterator of an unrolled loop one in each copy of its own loop, too. This profile, after Nigam and
-- others, PLDI 2020.)
use Rattle.std.specs.Prelude.{ℕ, suc, nat_lt, if◌then◌else◌, List, [], ◌∷◌, ◌++◌, Option, Some, None}
use Rattle.dh_tree.specs.Kinds.{iterator_kind}
use Rattle.dh_value.specs.declared.kinds.Kind.{Kind}
use Rattle.dh_value.specs.declared.kinds.Kind.TheVariants.{Bool}
use Rattle.dh_tree.specs.Memories.{same_entity}
use Rattle.dh_tree.specs.PlainTrees.{Term, term, Action, action, ActionForm, lets, lets_memory, views, assigns, stores, reduces, calls, blocks, decides, repeats, counts, MaybeAction, no_action, one_action, Actions, no_actions, action_then, Groups, no_groups, group_then, Program}

-- a variable
pub record Binding : Type 0 where
  pub entity : Option ℕ
  pub kind : Kind
  -- the unrolled loops round its declaration; for the iterator of an unrolled loop that loop among them
  pub depth : ℕ
  -- the factor of the loop of which it is the iterator
  pub iterates : Option ℕ

-- a kind that was found; every expression of a typed program has one
abbrev pub kind_or_first : Option Kind → Kind
kind_or_first None = Bool
kind_or_first (Some k) = k

abbrev pub kind_found : Term → Kind
kind_found (term place kind form) = kind_or_first kind

-- the kind of a `let`: the one that it declares, or else that of its right side
abbrev pub let_kind : (declared : Option Kind) → (value : Option Term) → Kind
let_kind (Some k) value = k
let_kind None None = Bool
let_kind None (Some t) = kind_found t

-- the depth inside a loop of a factor
abbrev pub depth_inside : (depth factor : ℕ) → ℕ
depth_inside depth factor = if nat_lt 1 factor then suc depth else depth

abbrev mutual
  -- the variables that a command declares at a depth, in text order
  pub bindings : (depth : ℕ) → Action → List Binding
  bindings depth (action id place form) = form_bindings depth form

  pub form_bindings : (depth : ℕ) → ActionForm → List Binding
  form_bindings depth (lets name declared value) = record { entity = name.entity; kind = let_kind declared value; depth = depth; iterates = None } ∷ []
  form_bindings depth (lets_memory name shape shape_places value) = []
  form_bindings depth (views name parent form) = []
  form_bindings depth (assigns target value) = []
  form_bindings depth (stores target value) = []
  form_bindings depth (reduces target op value) = []
  form_bindings depth (calls function arguments) = []
  form_bindings depth (blocks body) = groups_bindings depth body
  form_bindings depth (decides test chosen other) = bindings depth chosen ++ other_bindings depth other
  form_bindings depth (repeats test body) = bindings depth body
  form_bindings depth (counts iterator declared low high factor body combine combine_place) =
      record { entity = iterator.entity; kind = iterator_kind declared; depth = depth_inside depth factor.value; iterates = Some factor.value }
      ∷ (bindings (depth_inside depth factor.value) body ++ other_bindings (depth_inside depth factor.value) combine)

  pub other_bindings : (depth : ℕ) → MaybeAction → List Binding
  other_bindings depth no_action = []
  other_bindings depth (one_action a) = bindings depth a

  pub groups_bindings : (depth : ℕ) → Groups → List Binding
  groups_bindings depth no_groups = []
  groups_bindings depth (group_then part rest) = part_bindings depth part ++ groups_bindings depth rest

  pub part_bindings : (depth : ℕ) → Actions → List Binding
  part_bindings depth no_actions = []
  part_bindings depth (action_then a rest) = bindings depth a ++ part_bindings depth rest

abbrev pub bindings_of : Program → List Binding
bindings_of p = bindings 0 p.body

-- the variable that is this entity, the first where there are more; every name of a resolved program that is
-- used as a variable has one
abbrev pub binding_in : List Binding → (entity : ℕ) → Option Binding
binding_in [] entity = None
binding_in (b ∷ bs) entity = if same_entity b.entity (Some entity) then Some b else binding_in bs entity

abbrev pub kind_bound : Option Binding → Kind
kind_bound None = Bool
kind_bound (Some b) = b.kind

abbrev pub depth_bound : Option Binding → ℕ
depth_bound None = 0
depth_bound (Some b) = b.depth
