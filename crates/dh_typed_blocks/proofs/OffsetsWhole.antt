-- The offsets of views that fit are integers, and so are the variables that keep them.
use Rattle.std.proofs.Common.{◌≡◌, ℕ, suc, ◌+◌, List, [], ◌∷◌, ◌++◌, length, map, refl, subst}
use Rattle.std.specs.List.{AllByRecursion}
use Rattle.dh_value.specs.declared.kinds.Kind.{Kind}
use Rattle.dh_value.specs.Words.{IsInteger}
use Rattle.dh_tree.specs.PlainTrees.{Term, term, Action, action, ActionForm, lets, lets_memory, views, assigns, stores, reduces, calls, blocks, decides, repeats, counts, MaybeAction, no_action, one_action, Actions, no_actions, action_then, Groups, no_groups, group_then, Program}
use Rattle.dh_tree.specs.Ready.{IsReady}
use Rattle.dh_tree.specs.Seen.{terms}
use Rattle.dh_tree.specs.ViewOffsets.{offsets_of}
use Rattle.dh_meaning.specs.Bindings.{depth_inside, kind_found}
use Rattle.dh_meaning.specs.Core.{Turning}
use Rattle.dh_meaning.specs.CoreOf.{Known, known_of, turning_of}
use Rattle.dh_meaning.specs.Phases.{turn_count}
use Rattle.dh_meaning.specs.Ways.{Hidden, ViewSite, behind_hidden, form_standings, groups_standings, hidden_from, hidden_of, other_standings, part_standings, standings}
use Rattle.dh_ways.specs.HiddenVariables.{all_hidden}
use Rattle.dh_ways.specs.Stands.{view_site_of}
use Rattle.dh_sound.proofs.SortsOfPrograms.{assigns_inside}
use Rattle.dh_runnable.specs.ActionsRun.{table_known}
use Rattle.dh_code.specs.Declarations.{Declaration, Factored, all_hidden_declared, hidden_declared, placing_of}
use Rattle.dh_code.specs.Slots.{Placing}
use Rattle.dh_code.proofs.HiddenPlaced.{stand_of}
use Rattle.dh_expressions.specs.Shown.{kind_written}
use Rattle.dh_typed_blocks.specs.TypedTerms.{AreTyped}
use Rattle.dh_typed_blocks.proofs.Fitting.{Fits, FormFits, FoldFits, GroupsFit, OtherFits, PartFits}
use Rattle.dh_typed_blocks.proofs.IteratorsSorted.{ready_plain}
use Rattle.dh_typed_blocks.proofs.MemoriesFew.{ready_few}
use Rattle.dh_typed_blocks.proofs.PhasesHolding.{FormOnlyFolds, GroupsOnlyFold, OnlyFolds, OtherOnlyFolds, PartOnlyFolds}
use Rattle.dh_typed_blocks.proofs.ProgramsFit.{ready_fits}

abbrev pub AreWhole : List Term → Type 0
AreWhole ts = AllByRecursion (λ (t : Term). IsInteger (kind_found t)) ts

-- the offsets of each view
abbrev pub AllWhole : List ViewSite → Type 0
AllWhole ss = AllByRecursion (λ (s : ViewSite). AreWhole (offsets_of s.form)) ss

two_whole : (ss more : List ViewSite) → AllWhole ss → AllWhole more → AllWhole (ss ++ more)
two_whole [] more a b = b
two_whole (s ∷ ss) more a b = (a.0, two_whole ss more a.1 b)

found_written : (t : Term) → kind_written t ≡ kind_found t
found_written (term place k form) = refl

-- Reducers alone declare nothing.
module _ (F : List Turning → ActionForm → Type 0) where
  mutual
    only_whole : (a : Action) (d : ℕ) (loops : List Turning) → OnlyFolds F loops a → AllWhole (standings d a)
    only_whole (action id place form) d loops h = form_only form d loops h

    form_only : (f : ActionForm) (d : ℕ) (loops : List Turning) → FormOnlyFolds F loops f → AllWhole (form_standings d f)
    form_only (reduces target o value) d loops h = tt
    form_only (blocks body) d loops h = groups_only body d loops h
    form_only (lets name declared value) d loops h = tt
    form_only (lets_memory name shape shape_places value) d loops h = tt
    form_only (views name parent form) d loops h = elim h [ ]
    form_only (assigns target value) d loops h = tt
    form_only (stores target value) d loops h = tt
    form_only (calls function arguments) d loops h = tt
    form_only (decides test chosen other) d loops h = elim h [ ]
    form_only (repeats test body) d loops h = elim h [ ]
    form_only (counts iterator declared low high factor body combine combine_place) d loops h = elim h [ ]

    groups_only : (gs : Groups) (d : ℕ) (loops : List Turning) → GroupsOnlyFold F loops gs → AllWhole (groups_standings d gs)
    groups_only no_groups d loops h = tt
    groups_only (group_then part rest) d loops h = two_whole (part_standings d part) (groups_standings d rest) (part_only part d loops h.0) (groups_only rest d loops h.1)

    part_only : (part : Actions) (d : ℕ) (loops : List Turning) → PartOnlyFolds F loops part → AllWhole (part_standings d part)
    part_only no_actions d loops h = tt
    part_only (action_then a rest) d loops h = two_whole (standings d a) (part_standings d rest) (only_whole a d loops h.0) (part_only rest d loops h.1)

  other_only : (m : MaybeAction) (d : ℕ) (loops : List Turning) → OtherOnlyFolds F loops m → AllWhole (other_standings d m)
  other_only no_action d loops h = tt
  other_only (one_action a) d loops h = only_whole a d loops h

module _ (known : Known) (p : Placing) where
  typed_whole : (ts : List Term) → AreTyped known (table_known known) (terms ts) → AreWhole ts
  typed_whole [] h = tt
  typed_whole (t ∷ ts) h = (subst (λ (k : Kind). IsInteger k) (found_written t) h.0.1, typed_whole ts h.1)

  mutual
    pub whole_standings : (a : Action) (d : ℕ) (loops : List Turning) → Fits known p loops a → AllWhole (standings d a)
    whole_standings (action id place form) d loops h = form_whole form d loops h

    form_whole : (f : ActionForm) (d : ℕ) (loops : List Turning) → FormFits known p loops f → AllWhole (form_standings d f)
    form_whole (lets name declared value) d loops h = tt
    form_whole (lets_memory name shape shape_places value) d loops h = tt
    form_whole (views name parent form) d loops h = (typed_whole (offsets_of form) h.0.1, tt)
    form_whole (assigns target value) d loops h = tt
    form_whole (stores target value) d loops h = tt
    form_whole (reduces target o value) d loops h = tt
    form_whole (calls function arguments) d loops h = tt
    form_whole (blocks body) d loops h = groups_whole body d loops h
    form_whole (decides test chosen other) d loops h = two_whole (standings d chosen) (other_standings d other) (whole_standings chosen d loops h.1.0) (other_whole other d loops h.1.1)
    form_whole (repeats test body) d loops h = whole_standings body d loops h.1
    form_whole (counts iterator declared low high factor body combine combine_place) d loops h =
        let inner : List Turning = loops ++ turning_of known (turn_count low.value high.value factor.value) (counts iterator declared low high factor body combine combine_place) ∷ [] in
        two_whole (standings (depth_inside d factor.value) body) (other_standings (depth_inside d factor.value) combine)
        (whole_standings body (depth_inside d factor.value) inner h.0) (other_only (FoldFits known p) combine (depth_inside d factor.value) inner h.1)

    other_whole : (m : MaybeAction) (d : ℕ) (loops : List Turning) → OtherFits known p loops m → AllWhole (other_standings d m)
    other_whole no_action d loops h = tt
    other_whole (one_action a) d loops h = whole_standings a d loops h

    groups_whole : (gs : Groups) (d : ℕ) (loops : List Turning) → GroupsFit known p loops gs → AllWhole (groups_standings d gs)
    groups_whole no_groups d loops h = tt
    groups_whole (group_then part rest) d loops h = two_whole (part_standings d part) (groups_standings d rest) (part_whole part d loops h.0) (groups_whole rest d loops h.1)

    part_whole : (part : Actions) (d : ℕ) (loops : List Turning) → PartFits known p loops part → AllWhole (part_standings d part)
    part_whole no_actions d loops h = tt
    part_whole (action_then a rest) d loops h = two_whole (standings d a) (part_standings d rest) (whole_standings a d loops h.0) (part_whole rest d loops h.1)

-- What keeps them.

from_whole : (first depth : ℕ) (ts : List Term) → AreWhole ts → AllByRecursion (λ (h : Hidden). IsInteger h.kind) (hidden_from first depth ts)
from_whole first depth [] a = tt
from_whole first depth (t ∷ ts) a = (a.0, from_whole (suc first) depth ts a.1)

both_whole : (hs gs : List Hidden) → AllByRecursion (λ (h : Hidden). IsInteger h.kind) hs → AllByRecursion (λ (h : Hidden). IsInteger h.kind) gs → AllByRecursion (λ (h : Hidden). IsInteger h.kind) (hs ++ gs)
both_whole [] gs a b = b
both_whole (h ∷ hs) gs a b = (a.0, both_whole hs gs a.1 b)

pub hidden_whole : (first : ℕ) (ss : List ViewSite) → AllWhole ss → AllByRecursion (λ (h : Hidden). IsInteger h.kind) (all_hidden first ss)
hidden_whole first [] a = tt
hidden_whole first (s ∷ ss) a = both_whole (hidden_of first s) (all_hidden (behind_hidden first s) ss) (from_whole first s.depth (offsets_of s.form) a.0) (hidden_whole (behind_hidden first s) ss a.1)

-- and so as declarations
declared_whole : (first : ℕ) (factors : List ℕ) (ts : List Term) → AreWhole ts → AllByRecursion (λ (d : Declaration). IsInteger d.kind_is) (hidden_declared first factors ts)
declared_whole first factors [] a = tt
declared_whole first factors (t ∷ ts) a = (a.0, declared_whole (suc first) factors ts a.1)

both_declared : (ds es : List Declaration) → AllByRecursion (λ (d : Declaration). IsInteger d.kind_is) ds → AllByRecursion (λ (d : Declaration). IsInteger d.kind_is) es → AllByRecursion (λ (d : Declaration). IsInteger d.kind_is) (ds ++ es)
both_declared [] es a b = b
both_declared (d ∷ ds) es a b = (a.0, both_declared ds es a.1 b)

pub factored_whole : (first : ℕ) (fs : List Factored) → AllWhole (map (λ f. view_site_of (stand_of f)) fs) → AllByRecursion (λ (d : Declaration). IsInteger d.kind_is) (all_hidden_declared first fs)
factored_whole first [] a = tt
factored_whole first (f ∷ fs) a =
    both_declared (hidden_declared first f.factors (offsets_of f.form)) (all_hidden_declared (first + length (offsets_of f.form)) fs) (declared_whole first f.factors (offsets_of f.form) a.0)
    (factored_whole (first + length (offsets_of f.form)) fs a.1)

-- of a ready program
pub ready_offsets : (p : Program) → IsReady p → AllWhole (standings 0 p.body)
ready_offsets p ready =
    whole_standings (known_of p) (placing_of p) p.body 0 []
    (ready_fits p ready (ready_few p ready) (assigns_inside p ready (record { names = ready.names; entities = ready.entities; kinds = ready.kinds; suits = ready.suits; widths = ready.of_text.widths })) (ready_plain p ready))
