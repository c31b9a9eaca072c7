-- Each view of a ready program that has offsets keeps them: the variables on its way are declared inside, as many as there
-- are offsets. By one walk over the body, with what is named and what is assigned inside.
use Rattle.std.proofs.Common.{ℕ, List, [], ◌∷◌, length, refl}
use Rattle.dh_tree.specs.PlainTrees.{Term, Action, action, ActionForm, lets, lets_memory, views, assigns, stores, reduces, calls, blocks, decides, repeats, counts, MaybeAction, no_action, one_action, Actions, no_actions, action_then, Groups, no_groups, group_then, Program}
use Rattle.dh_tree.specs.Ready.{IsReady}
use Rattle.dh_tree.specs.ViewOffsets.{offsets_of}
use Rattle.dh_meaning.specs.Bindings.{depth_inside}
use Rattle.dh_meaning.specs.CoreOf.{Known, known_of, way_of}
use Rattle.dh_meaning.specs.Ways.{Hidden, hidden_in}
use Rattle.dh_sound.specs.AssignsInside.{AssignsInside, FormAssignsInside, OtherAssignsInside, GroupsAssignInside, PartAssignsInside, KeepsInside}
use Rattle.dh_sound.specs.SimpleForms.{JoinsFolds, FoldsOnly, FormFoldsOnly, GroupsFoldOnly, PartFoldsOnly}
use Rattle.dh_sound.specs.Straight.{KeepsAny, IsKeptAction, IsKeptForm, IsKeptOther, AreKeptGroups, AreKeptActions, IsNamedAction, IsNamedForm, IsNamedOther, AreNamedGroups, AreNamedActions}
use Rattle.dh_sound.proofs.NamedPrograms.{ready_named}
use Rattle.dh_sound.proofs.SortsOfPrograms.{assigns_inside}

-- where offsets are kept inside there are variables for them
keeps_any : (known : Known) (d : ℕ) (hs : List Hidden) (os : List Term) → KeepsInside known d hs (length os) → KeepsAny hs os
keeps_any known d (h ∷ hs) os k = tt
keeps_any known d [] [] k = refl
keeps_any known d [] (o ∷ os) k = absurd k

module _ (known : Known) where
  -- blocks that join copies hold no view
  mutual
    folds_kept : (a : Action) → IsNamedAction a → FoldsOnly a → IsKeptAction known a
    folds_kept (action id place form) n x = form_folds_kept form n x

    form_folds_kept : (f : ActionForm) → IsNamedForm f → FormFoldsOnly f → IsKeptForm known f
    form_folds_kept (reduces target o value) n x = n
    form_folds_kept (blocks body) n x = groups_folds_kept body n x
    form_folds_kept (lets name declared value) n x = absurd x
    form_folds_kept (lets_memory name shape shape_places value) n x = absurd x
    form_folds_kept (views name parent form) n x = absurd x
    form_folds_kept (assigns target value) n x = absurd x
    form_folds_kept (stores target value) n x = absurd x
    form_folds_kept (calls function arguments) n x = absurd x
    form_folds_kept (decides test chosen other) n x = absurd x
    form_folds_kept (repeats test body) n x = absurd x
    form_folds_kept (counts iterator declared low high factor body combine combine_place) n x = absurd x

    groups_folds_kept : (gs : Groups) → AreNamedGroups gs → GroupsFoldOnly gs → AreKeptGroups known gs
    groups_folds_kept no_groups n x = tt
    groups_folds_kept (group_then part rest) n x = (part_folds_kept part n.0 x.0, groups_folds_kept rest n.1 x.1)

    part_folds_kept : (part : Actions) → AreNamedActions part → PartFoldsOnly part → AreKeptActions known part
    part_folds_kept no_actions n x = tt
    part_folds_kept (action_then a rest) n x = (folds_kept a n.0 x.0, part_folds_kept rest n.1 x.1)

  join_kept : (m : MaybeAction) → IsNamedOther m → JoinsFolds m → IsKeptOther known m
  join_kept no_action n x = tt
  join_kept (one_action a) n x = folds_kept a n x

  mutual
    kept_action : (d : ℕ) (a : Action) → IsNamedAction a → AssignsInside known d a → IsKeptAction known a
    kept_action d (action id place form) n x = kept_form d form n x

    kept_form : (d : ℕ) (f : ActionForm) → IsNamedForm f → FormAssignsInside known d f → IsKeptForm known f
    kept_form d (lets name declared value) n x = n
    kept_form d (lets_memory name shape shape_places value) n x = tt
    kept_form d (views name parent form) n x = (n, keeps_any known d (hidden_in (way_of known name)) (offsets_of form) x)
    kept_form d (assigns target value) n x = n
    kept_form d (stores target value) n x = n
    kept_form d (reduces target o value) n x = n
    kept_form d (calls function arguments) n x = tt
    kept_form d (blocks body) n x = kept_groups d body n x
    kept_form d (decides test chosen other) n x = (n.0, (kept_action d chosen n.1.0 x.0, kept_other d other n.1.1 x.1))
    kept_form d (repeats test body) n x = (n.0, kept_action d body n.1 x)
    kept_form d (counts iterator declared low high factor body combine combine_place) n x =
        (n.0, (kept_action (depth_inside d factor.value) body n.1.0 x.0, join_kept combine n.1.1 x.1))

    kept_other : (d : ℕ) (m : MaybeAction) → IsNamedOther m → OtherAssignsInside known d m → IsKeptOther known m
    kept_other d no_action n x = tt
    kept_other d (one_action a) n x = kept_action d a n x

    kept_groups : (d : ℕ) (gs : Groups) → AreNamedGroups gs → GroupsAssignInside known d gs → AreKeptGroups known gs
    kept_groups d no_groups n x = tt
    kept_groups d (group_then part rest) n x = (kept_part d part n.0 x.0, kept_groups d rest n.1 x.1)

    kept_part : (d : ℕ) (part : Actions) → AreNamedActions part → PartAssignsInside known d part → AreKeptActions known part
    kept_part d no_actions n x = tt
    kept_part d (action_then a rest) n x = (kept_action d a n.0 x.0, kept_part d rest n.1 x.1)

-- each view of a ready program keeps the offsets that it has
pub ready_kept : (p : Program) → IsReady p → IsKeptAction (known_of p) p.body
ready_kept p r =
    kept_action (known_of p) 0 p.body (ready_named p r)
    (assigns_inside p r (record { names = r.names; entities = r.entities; kinds = r.kinds; suits = r.suits; widths = r.of_text.widths }))

-- and what is kept so is named
mutual
  pub kept_named : (known : Known) (a : Action) → IsKeptAction known a → IsNamedAction a
  kept_named known (action id place f) n = kept_named_form known f n

  kept_named_form : (known : Known) (f : ActionForm) → IsKeptForm known f → IsNamedForm f
  kept_named_form known (lets name declared value) n = n
  kept_named_form known (lets_memory name shape shape_places value) n = tt
  kept_named_form known (views name parent form) n = n.0
  kept_named_form known (assigns target value) n = n
  kept_named_form known (stores target value) n = n
  kept_named_form known (reduces target op value) n = n
  kept_named_form known (calls function arguments) n = tt
  kept_named_form known (blocks body) n = kept_named_groups known body n
  kept_named_form known (decides test chosen other) n = (n.0, (kept_named known chosen n.1.0, kept_named_other known other n.1.1))
  kept_named_form known (repeats test body) n = (n.0, kept_named known body n.1)
  kept_named_form known (counts iterator declared low high factor body combine combine_place) n = (n.0, (kept_named known body n.1.0, kept_named_other known combine n.1.1))

  kept_named_other : (known : Known) (m : MaybeAction) → IsKeptOther known m → IsNamedOther m
  kept_named_other known no_action n = tt
  kept_named_other known (one_action a) n = kept_named known a n

  kept_named_groups : (known : Known) (gs : Groups) → AreKeptGroups known gs → AreNamedGroups gs
  kept_named_groups known no_groups n = tt
  kept_named_groups known (group_then g rest) n = (kept_named_part known g n.0, kept_named_groups known rest n.1)

  kept_named_part : (known : Known) (part : Actions) → AreKeptActions known part → AreNamedActions part
  kept_named_part known no_actions n = tt
  kept_named_part known (action_then a rest) n = (kept_named known a n.0, kept_named_part known rest n.1)
