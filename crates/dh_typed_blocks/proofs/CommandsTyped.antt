-- What fits is typed, and so are reducers that join copies.
use Rattle.std.proofs.Common.{ℕ, suc, List, [], ◌∷◌, ◌++◌, Some, None}
use Rattle.std.specs.List.{AllByRecursion}
use Rattle.dh_tree.specs.PlainTrees.{Term, Action, action, lets, lets_memory, views, assigns, stores, reduces, calls, blocks, decides, repeats, counts, MaybeAction, no_action, one_action, Actions, no_actions, action_then, Groups, no_groups, group_then}
use Rattle.dh_tree.specs.ViewOffsets.{offsets_of}
use Rattle.dh_meaning.specs.Core.{Turning}
use Rattle.dh_meaning.specs.CoreOf.{Known, action_form_of, way_of}
use Rattle.dh_meaning.specs.Phases.{Located}
use Rattle.dh_meaning.specs.Ways.{Hidden, hidden_in}
use Rattle.dh_runnable.specs.ActionsRun.{table_known}
use Rattle.dh_code.specs.Slots.{Placing}
use Rattle.dh_typed_blocks.specs.TypedTerms.{ActionTyped, KeepsSized, KeptSized, OtherTyped, GroupsTyped, PartTyped}
use Rattle.dh_typed_blocks.proofs.Fitting.{FoldFits, Fits, KeepsFits, KeptFits, OtherFits, GroupsFit, PartFits}
use Rattle.dh_typed_blocks.proofs.FittingParts.{SimpleFits, JoinFits}
use Rattle.dh_typed_blocks.proofs.PhasesHolding.{EachOf, EachFold, IsReducer}

module _ (known : Known) (p : Placing) where
  kept_sized : (ts : List Turning) (depth first : ℕ) (os : List Term) → KeptFits known p ts depth first os → KeptSized known first os
  kept_sized ts depth first [] h = tt
  kept_sized ts depth first (o ∷ os) h = (h.0.0.sized, kept_sized ts depth (suc first) os h.1)

  view_sized : (ts : List Turning) (hs : List Hidden) (os : List Term) → KeepsFits known p ts hs os → KeepsSized known hs os
  view_sized ts hs [] h = tt
  view_sized ts [] (o ∷ os) h = tt
  view_sized ts (x ∷ hs) (o ∷ os) h = kept_sized ts x.depth x.entity (o ∷ os) h

  mutual
    pub fits_typed : (a : Action) (ts : List Turning) → Fits known p ts a → ActionTyped known (table_known known) a
    fits_typed (action id place (lets name declared None)) ts h = (tt, h.0.sized)
    fits_typed (action id place (lets name declared (Some t))) ts h = (h.0.1, h.1.0.sized)
    fits_typed (action id place (lets_memory name shape shape_places value)) ts h = tt
    fits_typed (action id place (views name parent form)) ts h = (h.0.1, view_sized ts (hidden_in (way_of known name)) (offsets_of form) h.1)
    fits_typed (action id place (assigns target value)) ts h = (h.0.1, h.1.0.sized)
    fits_typed (action id place (stores target value)) ts h = (h.0.0.1, h.0.1.1)
    fits_typed (action id place (reduces target o value)) ts h = elim h [ ]
    fits_typed (action id place (calls function arguments)) ts h = tt
    fits_typed (action id place (blocks body)) ts h = groups_typed body ts h
    fits_typed (action id place (decides test chosen other)) ts h = ((h.0.0.1, h.0.1), (fits_typed chosen ts h.1.0, other_typed other ts h.1.1))
    fits_typed (action id place (repeats test body)) ts h = tt
    fits_typed (action id place (counts iterator declared low high factor body combine combine_place)) ts h = tt

    other_typed : (m : MaybeAction) (ts : List Turning) → OtherFits known p ts m → OtherTyped known (table_known known) m
    other_typed no_action ts h = tt
    other_typed (one_action a) ts h = fits_typed a ts h

    groups_typed : (gs : Groups) (ts : List Turning) → GroupsFit known p ts gs → GroupsTyped known (table_known known) gs
    groups_typed no_groups ts h = tt
    groups_typed (group_then part rest) ts h = (part_typed part ts h.0, groups_typed rest ts h.1)

    part_typed : (part : Actions) (ts : List Turning) → PartFits known p ts part → PartTyped known (table_known known) part
    part_typed no_actions ts h = tt
    part_typed (action_then a rest) ts h = (fits_typed a ts h.0, part_typed rest ts h.1)

  reducer_typed : (a : Action) (ts : List Turning) → IsReducer (JoinFits known p) ts (action_form_of a) → ActionTyped known (table_known known) a
  reducer_typed (action id place (reduces r o t)) ts h = let fits : FoldFits known p ts (reduces r o t) = h.1 in fits.0.0.1
  reducer_typed (action id place (lets name declared value)) ts h = elim h [ ]
  reducer_typed (action id place (lets_memory name shape shape_places value)) ts h = elim h [ ]
  reducer_typed (action id place (views name parent form)) ts h = elim h [ ]
  reducer_typed (action id place (assigns target value)) ts h = elim h [ ]
  reducer_typed (action id place (stores target value)) ts h = elim h [ ]
  reducer_typed (action id place (calls function arguments)) ts h = elim h [ ]
  reducer_typed (action id place (blocks body)) ts h = elim h [ ]
  reducer_typed (action id place (decides test chosen other)) ts h = elim h [ ]
  reducer_typed (action id place (repeats test body)) ts h = elim h [ ]
  reducer_typed (action id place (counts iterator declared low high factor body combine combine_place)) ts h = elim h [ ]

  folds_typed : (ts : List Turning) (cs : List Located) → EachFold (JoinFits known p) ts cs → AllByRecursion (λ (c : Located). ActionTyped known (table_known known) c.command) cs
  folds_typed ts [] h = tt
  folds_typed ts (c ∷ cs) h = (reducer_typed c.command ts h.0, folds_typed ts cs h.1)

  -- straight commands, and behind them reducers
  pub all_typed : (ts : List Turning) (done folds : List Located) → EachOf (SimpleFits known p) ts done → EachFold (JoinFits known p) ts folds
      → AllByRecursion (λ (c : Located). ActionTyped known (table_known known) c.command) (done ++ folds)
  all_typed ts [] folds h f = folds_typed ts folds f
  all_typed ts (c ∷ cs) folds h f = (fits_typed c.command ts h.0.1, all_typed ts cs folds h.1 f)
