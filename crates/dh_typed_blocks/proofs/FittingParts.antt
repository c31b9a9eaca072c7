-- What fits and is simple has parts that fit and are simple, and so have reducers that join copies.
use Rattle.std.proofs.Common.{List}
use Rattle.dh_tree.specs.PlainTrees.{Action, action, ActionForm, lets, lets_memory, views, assigns, stores, reduces, calls, blocks, decides, repeats, counts, MaybeAction, no_action, one_action, Actions, no_actions, action_then, Groups, no_groups, group_then}
use Rattle.dh_meaning.specs.Core.{Turning}
use Rattle.dh_meaning.specs.CoreOf.{Known}
use Rattle.dh_sound.specs.SimpleForms.{IsFoldForm, FoldsOnly, GroupsFoldOnly, PartFoldsOnly, JoinsFolds, FoldsInJoins, OtherFoldsInJoins, GroupsFoldInJoins, PartFoldsInJoins}
use Rattle.dh_code.specs.Slots.{Placing}
use Rattle.dh_typed_blocks.proofs.Fitting.{FoldFits, Fits, OtherFits, GroupsFit, PartFits}
use Rattle.dh_typed_blocks.proofs.PhasesHolding.{EachPart, EachGroup, OfOther, OnlyFolds, GroupsOnlyFold, PartOnlyFolds, OtherOnlyFolds, IsReducer}

module _ (known : Known) (p : Placing) where
  abbrev pub SimpleFits : List Turning → Action → Type 0
  SimpleFits loops a = FoldsInJoins a × Fits known p loops a

  abbrev pub JoinFits : List Turning → ActionForm → Type 0
  JoinFits loops form = IsFoldForm form × FoldFits known p loops form

  pub part_parts : (d : List Turning) (part : Actions) → PartFoldsInJoins part → PartFits known p d part → EachPart SimpleFits d part
  part_parts d no_actions h g = tt
  part_parts d (action_then a rest) h g = ((h.0, g.0), part_parts d rest h.1 g.1)

  pub groups_parts : (d : List Turning) (gs : Groups) → GroupsFoldInJoins gs → GroupsFit known p d gs → EachGroup SimpleFits d gs
  groups_parts d no_groups h g = tt
  groups_parts d (group_then part rest) h g = (part_parts d part h.0 g.0, groups_parts d rest h.1 g.1)

  pub other_parts : (d : List Turning) (m : MaybeAction) → OtherFoldsInJoins m → OtherFits known p d m → OfOther SimpleFits d m
  other_parts d no_action h g = tt
  other_parts d (one_action a) h g = (h, g)

  mutual
    only_folds : (d : List Turning) (a : Action) → FoldsOnly a → OnlyFolds (FoldFits known p) d a → OnlyFolds JoinFits d a
    only_folds d (action id place (reduces target o value)) h g = (h, g)
    only_folds d (action id place (blocks body)) h g = groups_fold d body h g
    only_folds d (action id place (lets name declared value)) h g = elim h [ ]
    only_folds d (action id place (lets_memory name shape shape_places value)) h g = elim h [ ]
    only_folds d (action id place (views name parent form)) h g = elim h [ ]
    only_folds d (action id place (assigns target value)) h g = elim h [ ]
    only_folds d (action id place (stores target value)) h g = elim h [ ]
    only_folds d (action id place (calls function arguments)) h g = elim h [ ]
    only_folds d (action id place (decides test chosen other)) h g = elim h [ ]
    only_folds d (action id place (repeats test body)) h g = elim h [ ]
    only_folds d (action id place (counts iterator declared low high factor body combine combine_place)) h g = elim h [ ]

    groups_fold : (d : List Turning) (gs : Groups) → GroupsFoldOnly gs → GroupsOnlyFold (FoldFits known p) d gs → GroupsOnlyFold JoinFits d gs
    groups_fold d no_groups h g = tt
    groups_fold d (group_then part rest) h g = (part_folds d part h.0 g.0, groups_fold d rest h.1 g.1)

    part_folds : (d : List Turning) (part : Actions) → PartFoldsOnly part → PartOnlyFolds (FoldFits known p) d part → PartOnlyFolds JoinFits d part
    part_folds d no_actions h g = tt
    part_folds d (action_then a rest) h g = (only_folds d a h.0 g.0, part_folds d rest h.1 g.1)

  pub joins_parts : (d : List Turning) (m : MaybeAction) → JoinsFolds m → OtherOnlyFolds (FoldFits known p) d m → OtherOnlyFolds JoinFits d m
  joins_parts d no_action h g = tt
  joins_parts d (one_action a) h g = only_folds d a h g

  pub is_join : (d : List Turning) (form : ActionForm) → IsReducer JoinFits d form → IsFoldForm form
  is_join d (reduces target o value) h = h.0
  is_join d (blocks body) h = elim h [ ]
  is_join d (lets name declared value) h = elim h [ ]
  is_join d (lets_memory name shape shape_places value) h = elim h [ ]
  is_join d (views name parent form) h = elim h [ ]
  is_join d (assigns target value) h = elim h [ ]
  is_join d (stores target value) h = elim h [ ]
  is_join d (calls function arguments) h = elim h [ ]
  is_join d (decides test chosen other) h = elim h [ ]
  is_join d (repeats test body) h = elim h [ ]
  is_join d (counts iterator declared low high factor body combine combine_place) h = elim h [ ]
