-- What is told of commands whose reducers join copies, and of blocks of reducers, is told of the commands inside them.
use Rattle.std.proofs.Common.{List, [], ◌∷◌}
use Rattle.std.specs.List.{AllByRecursion}
use Rattle.dh_tree.specs.PlainTrees.{Action, action, ActionForm, lets, lets_memory, views, assigns, stores, reduces, calls, blocks, decides, repeats, counts, MaybeAction, no_action, one_action, Actions, no_actions, action_then, Groups, no_groups, group_then}
use Rattle.dh_meaning.specs.Core.{Turning}
use Rattle.dh_meaning.specs.Phases.{Located}
use Rattle.dh_sound.specs.SimpleForms.{IsFoldForm, FoldsOnly, GroupsFoldOnly, PartFoldsOnly, JoinsFolds, FoldsInJoins, OtherFoldsInJoins, GroupsFoldInJoins, PartFoldsInJoins}
use Rattle.dh_typed_blocks.proofs.PhasesHolding.{EachPart, EachGroup, OfOther, OnlyFolds, GroupsOnlyFold, PartOnlyFolds, OtherOnlyFolds, EachOf, IsReducer}

abbrev pub Simple : List Turning → Action → Type 0
Simple loops a = FoldsInJoins a

abbrev pub Joins : List Turning → ActionForm → Type 0
Joins loops form = IsFoldForm form

pub part_simple : (d : List Turning) (part : Actions) → PartFoldsInJoins part → EachPart Simple d part
part_simple d no_actions h = tt
part_simple d (action_then a rest) h = (h.0, part_simple d rest h.1)

pub groups_simple : (d : List Turning) (gs : Groups) → GroupsFoldInJoins gs → EachGroup Simple d gs
groups_simple d no_groups h = tt
groups_simple d (group_then part rest) h = (part_simple d part h.0, groups_simple d rest h.1)

pub other_simple : (d : List Turning) (m : MaybeAction) → OtherFoldsInJoins m → OfOther Simple d m
other_simple d no_action h = tt
other_simple d (one_action a) h = h

mutual
  folds_only : (d : List Turning) (a : Action) → FoldsOnly a → OnlyFolds Joins d a
  folds_only d (action id place (reduces target o value)) h = h
  folds_only d (action id place (blocks body)) h = groups_fold d body h
  folds_only d (action id place (lets name declared value)) h = elim h [ ]
  folds_only d (action id place (lets_memory name shape shape_places value)) h = elim h [ ]
  folds_only d (action id place (views name parent form)) h = elim h [ ]
  folds_only d (action id place (assigns target value)) h = elim h [ ]
  folds_only d (action id place (stores target value)) h = elim h [ ]
  folds_only d (action id place (calls function arguments)) h = elim h [ ]
  folds_only d (action id place (decides test chosen other)) h = elim h [ ]
  folds_only d (action id place (repeats test body)) h = elim h [ ]
  folds_only d (action id place (counts iterator declared low high factor body combine combine_place)) h = elim h [ ]

  groups_fold : (d : List Turning) (gs : Groups) → GroupsFoldOnly gs → GroupsOnlyFold Joins d gs
  groups_fold d no_groups h = tt
  groups_fold d (group_then part rest) h = (part_folds d part h.0, groups_fold d rest h.1)

  part_folds : (d : List Turning) (part : Actions) → PartFoldsOnly part → PartOnlyFolds Joins d part
  part_folds d no_actions h = tt
  part_folds d (action_then a rest) h = (folds_only d a h.0, part_folds d rest h.1)

pub joins_folds : (d : List Turning) (m : MaybeAction) → JoinsFolds m → OtherOnlyFolds Joins d m
joins_folds d no_action h = tt
joins_folds d (one_action a) h = folds_only d a h

-- a reducer of such a block
pub is_fold : (d : List Turning) (form : ActionForm) → IsReducer Joins d form → IsFoldForm form
is_fold d (reduces target o value) h = h
is_fold d (blocks body) h = elim h [ ]
is_fold d (lets name declared value) h = elim h [ ]
is_fold d (lets_memory name shape shape_places value) h = elim h [ ]
is_fold d (views name parent form) h = elim h [ ]
is_fold d (assigns target value) h = elim h [ ]
is_fold d (stores target value) h = elim h [ ]
is_fold d (calls function arguments) h = elim h [ ]
is_fold d (decides test chosen other) h = elim h [ ]
is_fold d (repeats test body) h = elim h [ ]
is_fold d (counts iterator declared low high factor body combine combine_place) h = elim h [ ]

pub all_simple : (d : List Turning) (cs : List Located) → EachOf Simple d cs → AllByRecursion (λ (c : Located). FoldsInJoins c.command) cs
all_simple d [] h = tt
all_simple d (c ∷ cs) h = (h.0, all_simple d cs h.1)
