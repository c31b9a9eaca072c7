-- A command of the source that keeps the iterators of the loops round it: it assigns to none of them, declares none of
-- them again, and keeps offsets of views in variables from the ground on, where none of them is.
use Rattle.std.specs.Prelude.{◌≡◌, ℕ, ◌<◌, false, List, [], ◌∷◌, ◌++◌, length}
use Rattle.std.specs.List.{AllByRecursion}
use Rattle.dh_tree.specs.declared.trees.expressions.Ref.{Ref}
use Rattle.dh_tree.specs.declared.trees.programs.Entity.{Entity}
use Rattle.dh_tree.specs.Breaches.{KeepsNames}
use Rattle.dh_tree.specs.Placements.{names_iterator, placement_breaches}
use Rattle.dh_tree.specs.Resolved.{HasEntities}
use Rattle.dh_tree.specs.PlainTrees.{Action, action, ActionForm, lets, lets_memory, views, assigns, stores, reduces, calls, blocks, decides, repeats, counts, MaybeAction, no_action, one_action, Actions, no_actions, action_then, Groups, no_groups, group_then, Program}
use Rattle.dh_meaning.specs.CoreOf.{entity_number}

-- it is none of these entities
abbrev pub IsOther : (entity : ℕ) → List ℕ → Type 0
IsOther entity [] = Unit {0}
IsOther entity (iterator ∷ iterators) = (iterator ≡ entity → ⊥) × IsOther entity iterators

-- a name stands for none of these entities
abbrev pub NamesOther : Ref → (iterators : List ℕ) → Type 0
NamesOther r iterators = IsOther (entity_number r.entity) iterators

-- the iterators inside a loop
abbrev pub also : List ℕ → Ref → List ℕ
also iterators r = iterators ++ entity_number r.entity ∷ []

abbrev mutual
  pub ActionLeaves : (ground : ℕ) (iterators : List ℕ) → Action → Type 0
  ActionLeaves ground is (action id place form) = FormLeaves ground is form

  pub FormLeaves : (ground : ℕ) (iterators : List ℕ) → ActionForm → Type 0
  FormLeaves ground is (lets name declared value) = NamesOther name is
  FormLeaves ground is (lets_memory name shape shape_places value) = Unit {0}
  FormLeaves ground is (views name parent form) = AllByRecursion (λ i. i < ground) is
  FormLeaves ground is (assigns target value) = NamesOther target is
  FormLeaves ground is (stores target value) = Unit {0}
  FormLeaves ground is (reduces target op value) = NamesOther target is
  FormLeaves ground is (calls function arguments) = Unit {0}
  FormLeaves ground is (blocks body) = GroupsLeave ground is body
  FormLeaves ground is (decides test chosen other) = ActionLeaves ground is chosen × OtherLeaves ground is other
  FormLeaves ground is (repeats test body) = ActionLeaves ground is body
  FormLeaves ground is (counts iterator declared low high factor body combine combine_place) =
      NamesOther iterator is × (ActionLeaves ground (also is iterator) body × OtherLeaves ground (also is iterator) combine)

  pub OtherLeaves : (ground : ℕ) (iterators : List ℕ) → MaybeAction → Type 0
  OtherLeaves ground is no_action = Unit {0}
  OtherLeaves ground is (one_action a) = ActionLeaves ground is a

  pub GroupsLeave : (ground : ℕ) (iterators : List ℕ) → Groups → Type 0
  GroupsLeave ground is no_groups = Unit {0}
  GroupsLeave ground is (group_then part rest) = PartLeaves ground is part × GroupsLeave ground is rest

  pub PartLeaves : (ground : ℕ) (iterators : List ℕ) → Actions → Type 0
  PartLeaves ground is no_actions = Unit {0}
  PartLeaves ground is (action_then a rest) = ActionLeaves ground is a × PartLeaves ground is rest

-- the program does
abbrev pub LeavesIterators : Program → Type 0
LeavesIterators p = ActionLeaves (length p.entities) [] p.body

-- What the rules on places say of assignments, said of reducers: none puts anything into an iterator.
abbrev mutual
  pub FoldsElsewhere : List Entity → Action → Type 0
  FoldsElsewhere es (action id place form) = FormFoldsElsewhere es form

  pub FormFoldsElsewhere : List Entity → ActionForm → Type 0
  FormFoldsElsewhere es (lets name declared value) = Unit {0}
  FormFoldsElsewhere es (lets_memory name shape shape_places value) = Unit {0}
  FormFoldsElsewhere es (views name parent form) = Unit {0}
  FormFoldsElsewhere es (assigns target value) = Unit {0}
  FormFoldsElsewhere es (stores target value) = Unit {0}
  FormFoldsElsewhere es (reduces target op value) = names_iterator es target.entity ≡ false
  FormFoldsElsewhere es (calls function arguments) = Unit {0}
  FormFoldsElsewhere es (blocks body) = GroupsFoldElsewhere es body
  FormFoldsElsewhere es (decides test chosen other) = FoldsElsewhere es chosen × OtherFoldsElsewhere es other
  FormFoldsElsewhere es (repeats test body) = FoldsElsewhere es body
  FormFoldsElsewhere es (counts iterator declared low high factor body combine combine_place) = FoldsElsewhere es body × OtherFoldsElsewhere es combine

  pub OtherFoldsElsewhere : List Entity → MaybeAction → Type 0
  OtherFoldsElsewhere es no_action = Unit {0}
  OtherFoldsElsewhere es (one_action a) = FoldsElsewhere es a

  pub GroupsFoldElsewhere : List Entity → Groups → Type 0
  GroupsFoldElsewhere es no_groups = Unit {0}
  GroupsFoldElsewhere es (group_then part rest) = PartFoldsElsewhere es part × GroupsFoldElsewhere es rest

  pub PartFoldsElsewhere : List Entity → Actions → Type 0
  PartFoldsElsewhere es no_actions = Unit {0}
  PartFoldsElsewhere es (action_then a rest) = FoldsElsewhere es a × PartFoldsElsewhere es rest

-- What is told of a program's names: it breaks no rule on names, each name has its entity, and no rule on what is
-- assigned to is broken.
pub record KeepsItsNames (p : Program) : Type 0 where
  pub names : KeepsNames p
  pub entities : HasEntities p
  pub placements : placement_breaches p ≡ []
  pub folds : FoldsElsewhere p.entities p.body
