-- A command of the source assigns only to variables that are declared inside all the unrolled loops round it, so that
-- they have a value for each copy; but for reducers in blocks that join copies.
use Rattle.std.specs.Prelude.{ℕ, zero, suc, ◌+◌, ◌≤◌, ◌<◌, List, [], ◌∷◌, length}
use Rattle.dh_tree.specs.PlainTrees.{Action, action, ActionForm, lets, lets_memory, views, assigns, stores, reduces, calls, blocks, decides, repeats, counts, MaybeAction, no_action, one_action, Actions, no_actions, action_then, Groups, no_groups, group_then}
use Rattle.dh_meaning.specs.Bindings.{depth_inside}
use Rattle.dh_tree.specs.ViewOffsets.{offsets_of}
use Rattle.dh_meaning.specs.Bindings.{binding_in, depth_bound}
use Rattle.dh_meaning.specs.CoreOf.{Known, depth_of, way_of}
use Rattle.dh_meaning.specs.Phases.{Located}
use Rattle.dh_meaning.specs.Ways.{Hidden, hidden_in}
use Rattle.dh_sound.specs.SimpleForms.{JoinsFolds}

-- a view keeps so many offsets, from the first of these variables on: all are declared inside, as they are kept
abbrev pub KeepsInside : Known → (depth : ℕ) → List Hidden → (count : ℕ) → Type 0
KeepsInside known d hs zero = Unit {0}
KeepsInside known d [] (suc n) = ⊥
KeepsInside known d (h ∷ hs) (suc n) = (d ≤ h.depth) × ((e : ℕ) → h.entity ≤ e → e < h.entity + suc n → d ≤ depth_bound (binding_in known.bindings e))

abbrev mutual
  -- so many unrolled loops stand round it
  pub AssignsInside : Known → (depth : ℕ) → Action → Type 0
  AssignsInside known d (action id place form) = FormAssignsInside known d form

  pub FormAssignsInside : Known → (depth : ℕ) → ActionForm → Type 0
  FormAssignsInside known d (lets name declared value) = d ≤ depth_of known name
  FormAssignsInside known d (lets_memory name shape shape_places value) = Unit {0}
  FormAssignsInside known d (views name parent form) = KeepsInside known d (hidden_in (way_of known name)) (length (offsets_of form))
  FormAssignsInside known d (assigns target value) = d ≤ depth_of known target
  FormAssignsInside known d (stores target value) = Unit {0}
  FormAssignsInside known d (reduces target o value) = d ≤ depth_of known target
  FormAssignsInside known d (calls function arguments) = Unit {0}
  FormAssignsInside known d (blocks body) = GroupsAssignInside known d body
  FormAssignsInside known d (decides test chosen other) = AssignsInside known d chosen × OtherAssignsInside known d other
  FormAssignsInside known d (repeats test body) = AssignsInside known d body
  FormAssignsInside known d (counts iterator declared low high factor body combine combine_place) =
      AssignsInside known (depth_inside d factor.value) body × JoinsFolds combine

  pub OtherAssignsInside : Known → (depth : ℕ) → MaybeAction → Type 0
  OtherAssignsInside known d no_action = Unit {0}
  OtherAssignsInside known d (one_action a) = AssignsInside known d a

  pub GroupsAssignInside : Known → (depth : ℕ) → Groups → Type 0
  GroupsAssignInside known d no_groups = Unit {0}
  GroupsAssignInside known d (group_then part rest) = PartAssignsInside known d part × GroupsAssignInside known d rest

  pub PartAssignsInside : Known → (depth : ℕ) → Actions → Type 0
  PartAssignsInside known d no_actions = Unit {0}
  PartAssignsInside known d (action_then a rest) = AssignsInside known d a × PartAssignsInside known d rest

-- each of these commands assigns to variables of this depth or more
abbrev pub AllAssignInside : Known → (depth : ℕ) → List Located → Type 0
AllAssignInside known d [] = Unit {0}
AllAssignInside known d (c ∷ cs) = AssignsInside known d c.command × AllAssignInside known d cs
