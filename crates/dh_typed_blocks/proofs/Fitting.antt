-- What is told of the commands of a ready program by the loops in which they stand, and of the names in them: all that
-- blocks of straight commands are asked, said of the source. Reducers stand in blocks that join copies alone.
use Rattle.std.proofs.Common.{◌≡◌, ℕ, ◌≤◌, suc, List, [], ◌∷◌, ◌++◌, length, Option, Some, None}
use Rattle.dh_value.specs.declared.kinds.Kind.{Kind}
use Rattle.dh_value.specs.declared.kinds.Kind.TheVariants.{Bool}
use Rattle.dh_value.specs.Words.{IsInteger, IsKind}
use Rattle.dh_tree.specs.declared.trees.expressions.Ref.{Ref}
use Rattle.dh_tree.specs.WiderKinds.{wider}
use Rattle.dh_tree.specs.PlainTrees.{Term, Action, action, ActionForm, lets, lets_memory, views, assigns, stores, reduces, calls, blocks, decides, repeats, counts, MaybeAction, no_action, one_action, Actions, no_actions, action_then, Groups, no_groups, group_then}
use Rattle.dh_tree.specs.Seen.{terms}
use Rattle.dh_tree.specs.ViewOffsets.{offsets_of}
use Rattle.dh_meaning.specs.Bindings.{binding_in, kind_or_first, kind_bound}
use Rattle.dh_meaning.specs.Core.{Turning}
use Rattle.dh_meaning.specs.CoreOf.{Known, depth_of, entity_number, kind_of, turning_of, way_of}
use Rattle.dh_meaning.specs.Phases.{turn_count}
use Rattle.dh_meaning.specs.Ways.{Hidden, hidden_in}
use Rattle.dh_sound.specs.Blocks.{factors}
use Rattle.dh_sound.specs.NamesInScope.{InScope}
use Rattle.dh_sound.specs.SameKeys.{IsIteratorName}
use Rattle.dh_runnable.specs.ActionsRun.{table_known}
use Rattle.dh_code.specs.Slots.{Placing}
use Rattle.dh_code.specs.Suited.{IsInside}
use Rattle.dh_expressions.specs.Shown.{kind_written}
use Rattle.dh_blocks.specs.SoundTerms.{AreSound, IsSound, IsSoundTarget}
use Rattle.dh_tree.specs.TextNumbers.{Reduces}
use Rattle.dh_blocks.specs.SoundCommands.{CanHold, kind_aimed}
use Rattle.dh_typed_blocks.specs.PlainPrograms.{IsPlainTarget, IsWholeTerm}
use Rattle.dh_typed_blocks.specs.TypedTerms.{AreTyped, IsTyped}
use Rattle.dh_typed_blocks.proofs.PhasesHolding.{OtherOnlyFolds}

-- a variable that keeps an offset, as a name
abbrev pub kept_at : (entity : ℕ) → Ref
kept_at entity = record { name = []; place = record { line = 0; column = 0 }; entity = Some entity }

module _ (known : Known) where
  -- the iterators of these loops are of integer kinds
  abbrev pub AllInteger : List Turning → Type 0
  AllInteger [] = Unit {0}
  AllInteger (l ∷ ls) = IsInteger (kind_bound (binding_in known.bindings l.iterator)) × AllInteger ls

module _ (known : Known) (p : Placing) where
  -- a name in an expression, inside these loops: a variable that is declared inside the first of them, or an iterator
  pub record IsNamedIn (loops : List Turning) (r : Ref) (k : Kind) : Type 0 where
    pub is : r.entity ≡ Some (entity_number r.entity)
    pub bound : kind_of known r ≡ k
    pub inside : IsInside p (factors loops) (depth_of known r) (entity_number r.entity)
    pub scope : InScope known loops r
    pub integer : (loop : Turning) → IsIteratorName known r loop → IsInteger k

  -- a variable that is assigned to, declared inside so many loops or more
  pub record IsTargetIn (loops : List Turning) (least : ℕ) (r : Ref) : Type 0 where
    pub is : r.entity ≡ Some (entity_number r.entity)
    pub sized : IsKind (kind_of known r)
    pub inside : IsInside p (factors loops) (depth_of known r) (entity_number r.entity)
    pub plain : IsPlainTarget known r
    pub full : least ≤ depth_of known r

  abbrev pub TermFits : List Turning → Term → Type 0
  TermFits loops t = IsSound known (table_known known) (IsNamedIn loops) t × IsTyped known (table_known known) t

  abbrev pub TestFits : List Turning → Term → Type 0
  TestFits loops t = TermFits loops t × (kind_written t ≡ Bool)

  abbrev pub AssignFits : List Turning → Ref → Term → Type 0
  AssignFits loops r t = TermFits loops t × (IsTargetIn loops (length (factors loops)) r × CanHold (kind_of known r) t)

  abbrev pub LetFits : List Turning → Ref → Option Kind → Option Term → Type 0
  LetFits loops r declared None = IsTargetIn loops (length (factors loops)) r × (kind_or_first declared ≡ kind_of known r)
  LetFits loops r declared (Some t) = AssignFits loops r t

  abbrev pub StoreFits : List Turning → (target value : Term) → Type 0
  StoreFits loops target t =
      (TermFits loops t × (IsSoundTarget known (table_known known) (IsNamedIn loops) target × IsTyped known (table_known known) target))
      × CanHold (kind_aimed known (table_known known) target) t

  -- offsets are numbers, and are kept in variables that follow one another from a first one on, inside as many loops: each has
  -- the kind of its offset
  abbrev pub KeptFits : List Turning → (depth first : ℕ) → List Term → Type 0
  KeptFits loops depth first [] = Unit {0}
  KeptFits loops depth first (t ∷ ts) =
      (IsTargetIn loops (length (factors loops)) (kept_at first) × ((depth ≡ depth_of known (kept_at first)) × (kind_of known (kept_at first) ≡ kind_written t))) × KeptFits loops depth (suc first) ts

  abbrev pub KeepsFits : List Turning → List Hidden → List Term → Type 0
  KeepsFits loops hs [] = Unit {0}
  KeepsFits loops [] (t ∷ ts) = ⊥
  KeepsFits loops (h ∷ hs) (t ∷ ts) = KeptFits loops h.depth h.entity (t ∷ ts)

  abbrev pub OffsetsFit : List Turning → List Term → Type 0
  OffsetsFit loops ts = AreSound known (table_known known) (IsNamedIn loops) (terms ts) × AreTyped known (table_known known) (terms ts)

  abbrev pub FoldFits : List Turning → ActionForm → Type 0
  FoldFits loops (reduces r o t) =
      (TermFits loops t × IsTargetIn loops 0 r) × ((Reduces o × IsWholeTerm known (length (factors loops)) t) × IsInteger (wider (kind_of known r) (kind_written t)))
  FoldFits loops (lets name declared value) = ⊥
  FoldFits loops (lets_memory name shape shape_places value) = ⊥
  FoldFits loops (views name parent form) = ⊥
  FoldFits loops (assigns target value) = ⊥
  FoldFits loops (stores target value) = ⊥
  FoldFits loops (calls function arguments) = ⊥
  FoldFits loops (blocks body) = ⊥
  FoldFits loops (decides test chosen other) = ⊥
  FoldFits loops (repeats test body) = ⊥
  FoldFits loops (counts iterator declared low high factor body combine combine_place) = ⊥

  abbrev mutual
    pub Fits : List Turning → Action → Type 0
    Fits loops (action id place form) = FormFits loops form

    pub FormFits : List Turning → ActionForm → Type 0
    FormFits loops (lets name declared value) = LetFits loops name declared value
    FormFits loops (lets_memory name shape shape_places value) = Unit {0}
    FormFits loops (views name parent form) = OffsetsFit loops (offsets_of form) × KeepsFits loops (hidden_in (way_of known name)) (offsets_of form)
    FormFits loops (assigns target value) = AssignFits loops target value
    FormFits loops (stores target value) = StoreFits loops target value
    FormFits loops (reduces target o value) = ⊥
    FormFits loops (calls function arguments) = Unit {0}
    FormFits loops (blocks body) = GroupsFit loops body
    FormFits loops (decides test chosen other) = TestFits loops test × (Fits loops chosen × OtherFits loops other)
    FormFits loops (repeats test body) = TestFits loops test × Fits loops body
    FormFits loops (counts iterator declared low high factor body combine combine_place) =
        Fits (loops ++ turning_of known (turn_count low.value high.value factor.value) (counts iterator declared low high factor body combine combine_place) ∷ []) body
        × OtherOnlyFolds FoldFits (loops ++ turning_of known (turn_count low.value high.value factor.value) (counts iterator declared low high factor body combine combine_place) ∷ []) combine

    pub OtherFits : List Turning → MaybeAction → Type 0
    OtherFits loops no_action = Unit {0}
    OtherFits loops (one_action a) = Fits loops a

    pub GroupsFit : List Turning → Groups → Type 0
    GroupsFit loops no_groups = Unit {0}
    GroupsFit loops (group_then part rest) = PartFits loops part × GroupsFit loops rest

    pub PartFits : List Turning → Actions → Type 0
    PartFits loops no_actions = Unit {0}
    PartFits loops (action_then a rest) = Fits loops a × PartFits loops rest
