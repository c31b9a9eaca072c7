-- Which variables a command assigns to.
use Rattle.std.specs.Prelude.{◌≡◌, ◌⊎◌, ℕ, List, [], ◌∷◌, length}
use Rattle.dh_tree.specs.PlainTrees.{Action, action, ActionForm, lets, lets_memory, views, assigns, stores, reduces, calls, blocks, decides, repeats, counts, MaybeAction, no_action, one_action, Actions, no_actions, action_then, Groups, no_groups, group_then}
use Rattle.dh_tree.specs.ViewOffsets.{offsets_of}
use Rattle.dh_meaning.specs.CoreOf.{entity_number, Known, way_of}
use Rattle.dh_meaning.specs.Ways.{Hidden, hidden_in}
use Rattle.dh_commands.specs.Setting.{IsVariableAmong}

-- a view gives values to the variables that keep its offsets, where one keeps an offset on its way
abbrev pub IsOffsetVariable : List Hidden → (count entity : ℕ) → Type 0
IsOffsetVariable [] count entity = ⊥
IsOffsetVariable (h ∷ hs) count entity = IsVariableAmong h.entity count entity

module _ (known : Known) where
  abbrev mutual
    pub IsAssignedIn : Action → (entity : ℕ) → Type 0
    IsAssignedIn (action id place form) entity = IsAssignedBy form entity

    pub IsAssignedBy : ActionForm → (entity : ℕ) → Type 0
    IsAssignedBy (lets name declared value) entity = entity ≡ entity_number name.entity
    IsAssignedBy (assigns target value) entity = entity ≡ entity_number target.entity
    IsAssignedBy (stores target value) entity = ⊥
    IsAssignedBy (reduces target op value) entity = entity ≡ entity_number target.entity
    IsAssignedBy (decides test chosen other) entity = IsAssignedIn chosen entity ⊎ IsAssignedInOther other entity
    IsAssignedBy (blocks body) entity = IsAssignedInGroups body entity
    IsAssignedBy (lets_memory name shape shape_places value) entity = ⊥
    IsAssignedBy (views name parent form) entity = IsOffsetVariable (hidden_in (way_of known name)) (length (offsets_of form)) entity
    IsAssignedBy (calls function arguments) entity = ⊥
    IsAssignedBy (repeats test body) entity = ⊥
    IsAssignedBy (counts iterator declared low high factor body combine combine_place) entity = ⊥

    pub IsAssignedInOther : MaybeAction → (entity : ℕ) → Type 0
    IsAssignedInOther no_action entity = ⊥
    IsAssignedInOther (one_action a) entity = IsAssignedIn a entity

    pub IsAssignedInPart : Actions → (entity : ℕ) → Type 0
    IsAssignedInPart no_actions entity = ⊥
    IsAssignedInPart (action_then a rest) entity = IsAssignedIn a entity ⊎ IsAssignedInPart rest entity

    pub IsAssignedInGroups : Groups → (entity : ℕ) → Type 0
    IsAssignedInGroups no_groups entity = ⊥
    IsAssignedInGroups (group_then part rest) entity = IsAssignedInPart part entity ⊎ IsAssignedInGroups rest entity
