-- Straight commands that fit are sound in a scene that is of their program, and reducers that join copies are. And what
-- fits assigns inside all loops.
use Rattle.std.proofs.Common.{◌≡◌, ◌⊎◌, ℕ, suc, ◌+◌, ◌<◌, ◌≤◌, Bool, true, inl, inr, List, [], ◌∷◌, ◌++◌, length, Some, None, sym, ◌∙◌, subst, arith}
use Rattle.std.proofs.lemmas.Bool.{cases_lt}
use Rattle.std.specs.List.{AllByRecursion}
use Rattle.dh_value.specs.declared.kinds.Kind.{Kind}
use Rattle.dh_value.specs.Words.{IsInteger, IsKind}
use Rattle.dh_tree.specs.declared.trees.expressions.Ref.{Ref}
use Rattle.dh_tree.specs.WiderKinds.{wider}
use Rattle.dh_tree.specs.PlainTrees.{Term, term, number, truth_value, named, accessed, in_bank, applied, converted, Action, action, lets, lets_memory, views, assigns, stores, reduces, calls, blocks, decides, repeats, counts, MaybeAction, no_action, one_action, Actions, no_actions, action_then, Groups, no_groups, group_then}
use Rattle.dh_tree.specs.Seen.{program_seen, terms}
use Rattle.dh_tree.specs.ViewOffsets.{offsets_of}
use Rattle.dh_meaning.specs.Bindings.{binding_in, depth_bound, kind_or_first}
use Rattle.dh_meaning.specs.Core.{Turning}
use Rattle.dh_meaning.specs.CoreOf.{Known, depth_of, entity_number, action_form_of, kind_of, turning_of, way_of}
use Rattle.dh_meaning.specs.Phases.{Located, turn_count}
use Rattle.dh_meaning.specs.Ways.{Hidden, hidden_in}
use Rattle.dh_plan.specs.Correspondence.{Round, loops_round}
use Rattle.dh_runnable.specs.ActionsRun.{table_known}
use Rattle.dh_sound.specs.AssignsInside.{AllAssignInside, AssignsInside, KeepsInside, OtherAssignsInside, GroupsAssignInside, PartAssignsInside}
use Rattle.dh_sound.specs.Blocks.{factors}
use Rattle.dh_sound.specs.SimpleForms.{FoldsInJoins, OtherFoldsInJoins, GroupsFoldInJoins, PartFoldsInJoins}
use Rattle.dh_sound.proofs.DepthsNamed.{inside_count}
use Rattle.dh_code.specs.Declarations.{placing_of}
use Rattle.dh_code.specs.Slots.{Placing, held_at}
use Rattle.dh_expressions.specs.declared.paths.Level.{Level}
use Rattle.dh_expressions.specs.declared.scenes.Scene.{Scene}
use Rattle.dh_expressions.specs.Evaluated.{known_in}
use Rattle.dh_expressions.specs.Shown.{kind_written}
use Rattle.dh_commands.specs.ShownVariables.{IsSeen, level_factors}
use Rattle.dh_blocks.specs.NamedVariables.{IsNamedHere}
use Rattle.dh_blocks.specs.SoundTerms.{AreSound, IsSound}
use Rattle.dh_blocks.specs.SoundCommands.{CanHold, CanKeep, CanKeepFrom, IsOwnOf, SoundAction, SoundOther, SoundGroups, SoundPart}
use Rattle.dh_blocks.proofs.SoundMapped.{action_mapped}
use Rattle.dh_typed_blocks.specs.PlainPrograms.{IsPlainTarget, IsWholeTerm}
use Rattle.dh_typed_blocks.specs.ScenesTold.{TellsScene}
use Rattle.dh_typed_blocks.proofs.Fitting.{IsNamedIn, IsTargetIn, KeepsFits, KeptFits, kept_at, FoldFits, Fits, OtherFits, GroupsFit, PartFits}
use Rattle.dh_typed_blocks.proofs.FittingParts.{SimpleFits, JoinFits}
use Rattle.dh_typed_blocks.proofs.NamesHere.{long_is, seen_here, full_here}
use Rattle.dh_typed_blocks.proofs.PhasesHolding.{EachOf, EachFold, IsReducer}

-- What fits assigns inside.
module _ (known : Known) (p : Placing) where
  -- each variable that keeps one of these offsets is declared so deep
  kept_deep : (ts : List Turning) (depth first : ℕ) (os : List Term) → KeptFits known p ts depth first os → (e : ℕ) → first ≤ e → e < first + length os → length (factors ts) ≤ depth_bound (binding_in known.bindings e)
  kept_deep ts depth first [] h e low high = absurd (none first e low high)
    where
      none : (n m : ℕ) → n ≤ m → m < n + 0 → ⊥
      none n m l k = omega (arith, l, k)
  kept_deep ts depth first (o ∷ os) h e low high = by (cases_lt first e) (kept_deep ts depth (suc first) os h.1 e)
    where
      same : (n m : ℕ) → n ≤ m → m ≤ n → n ≡ m
      same n m l k = omega (arith, l, k)

      rest : (n m l : ℕ) → m < n + suc l → m < suc n + l
      rest n m l k = omega (arith, k)

      next : (n m : ℕ) → n < m → suc n ≤ m
      next n m l = omega (arith, l)

      by : (first < e) ⊎ (e ≤ first) → (suc first ≤ e → e < suc first + length os → length (factors ts) ≤ depth_bound (binding_in known.bindings e)) → length (factors ts) ≤ depth_bound (binding_in known.bindings e)
      by (inl l) later = later (next first e l) (rest first e (length os) high)
      by (inr l) later = subst (λ (n : ℕ). length (factors ts) ≤ depth_bound (binding_in known.bindings n)) (same first e low l) h.0.0.full

  view_inside : (ts : List Turning) (hs : List Hidden) (os : List Term) → KeepsFits known p ts hs os → KeepsInside known (length (factors ts)) hs (length os)
  view_inside ts hs [] h = tt
  view_inside ts [] (o ∷ os) h = absurd h
  view_inside ts (x ∷ hs) (o ∷ os) h = (subst (λ (n : ℕ). length (factors ts) ≤ n) (sym h.0.1.0) h.0.0.full, λ e low high. kept_deep ts x.depth x.entity (o ∷ os) h e low high)

  mutual
    fits_inside : (a : Action) (ts : List Turning) → FoldsInJoins a → Fits known p ts a → AssignsInside known (length (factors ts)) a
    fits_inside (action id place (lets name declared None)) ts s h = h.0.full
    fits_inside (action id place (lets name declared (Some t))) ts s h = h.1.0.full
    fits_inside (action id place (lets_memory name shape shape_places value)) ts s h = tt
    fits_inside (action id place (views name parent form)) ts s h = view_inside ts (hidden_in (way_of known name)) (offsets_of form) h.1
    fits_inside (action id place (assigns target value)) ts s h = h.1.0.full
    fits_inside (action id place (stores target value)) ts s h = tt
    fits_inside (action id place (reduces target o value)) ts s h = elim h [ ]
    fits_inside (action id place (calls function arguments)) ts s h = tt
    fits_inside (action id place (blocks body)) ts s h = groups_inside body ts s h
    fits_inside (action id place (decides test chosen other)) ts s h = (fits_inside chosen ts s.0 h.1.0, other_inside other ts s.1 h.1.1)
    fits_inside (action id place (repeats test body)) ts s h = fits_inside body ts s h.1
    fits_inside (action id place (counts iterator declared low high factor body combine combine_place)) ts s h =
        let own : Turning = turning_of known (turn_count low.value high.value factor.value) (counts iterator declared low high factor body combine combine_place) in (
          subst (λ (d : ℕ). AssignsInside known d body) (inside_count known ts (turn_count low.value high.value factor.value) (counts iterator declared low high factor body combine combine_place))
              (fits_inside body (ts ++ own ∷ []) s.0 h.0),
          s.1,
        )

    other_inside : (m : MaybeAction) (ts : List Turning) → OtherFoldsInJoins m → OtherFits known p ts m → OtherAssignsInside known (length (factors ts)) m
    other_inside no_action ts s h = tt
    other_inside (one_action a) ts s h = fits_inside a ts s h

    groups_inside : (gs : Groups) (ts : List Turning) → GroupsFoldInJoins gs → GroupsFit known p ts gs → GroupsAssignInside known (length (factors ts)) gs
    groups_inside no_groups ts s h = tt
    groups_inside (group_then part rest) ts s h = (part_inside part ts s.0 h.0, groups_inside rest ts s.1 h.1)

    part_inside : (part : Actions) (ts : List Turning) → PartFoldsInJoins part → PartFits known p ts part → PartAssignsInside known (length (factors ts)) part
    part_inside no_actions ts s h = tt
    part_inside (action_then a rest) ts s h = (fits_inside a ts s.0 h.0, part_inside rest ts s.1 h.1)

  pub all_inside : (ts : List Turning) (cs : List Located) → EachOf (SimpleFits known p) ts cs → AllAssignInside known (length (factors ts)) cs
  all_inside ts [] h = tt
  all_inside ts (c ∷ cs) h = (fits_inside c.command ts h.0.0 h.0.1, all_inside ts cs h.1)

-- Commands.
module _ (scene : Scene) (levels : List Level) (rounds : List Round) (tells : TellsScene scene) (top : level_factors levels ≡ factors (loops_round rounds)) where
  abbrev places : Placing
  places = placing_of (program_seen scene.program.now)

  abbrev Named : Ref → Kind → Type 0
  Named = IsNamedIn (known_in scene) places (loops_round rounds)

  abbrev held_kind : Ref → Kind
  held_kind r = (held_at scene.held.now (entity_number r.entity)).kind

  kind_same : (r : Ref) → kind_of (known_in scene) r ≡ held_kind r
  kind_same r = sym (tells.kind (entity_number r.entity))

  own_here : (r : Ref) → IsTargetIn (known_in scene) places (loops_round rounds) (length (factors (loops_round rounds))) r → IsOwnOf scene levels (entity_number r.entity)
  own_here r h = record { seen = seen_here scene levels rounds tells top r h.inside h.plain; full = full_here scene levels rounds tells top r h }

  holds_here : (r : Ref) (t : Term) → CanHold (kind_of (known_in scene) r) t → CanHold (held_kind r) t
  holds_here r t h = subst (λ (k : Kind). CanHold k t) (kind_same r) h

  -- what a view keeps
  kept_here : (depth first : ℕ) (os : List Term) → KeptFits (known_in scene) places (loops_round rounds) depth first os → CanKeepFrom scene levels (table_known (known_in scene)) Named depth first os
  kept_here depth first [] h = tt
  kept_here depth first (o ∷ os) h = ((own_here (kept_at first) h.0.0, (h.0.1.0, holds_here (kept_at first) o (λ e. sym h.0.1.1 ∙ e))), kept_here depth (suc first) os h.1)

  view_here : (hs : List Hidden) (os : List Term) → AreSound (known_in scene) (table_known (known_in scene)) Named (terms os) → KeepsFits (known_in scene) places (loops_round rounds) hs os → CanKeep scene levels (table_known (known_in scene)) Named hs os
  view_here hs [] s h = tt
  view_here [] (o ∷ os) s h = absurd h
  view_here (x ∷ hs) (o ∷ os) s h = (s, kept_here x.depth x.entity (o ∷ os) h)

  mutual
    pub action_here : (Folds : ℕ → Type 0) (a : Action) → FoldsInJoins a → Fits (known_in scene) places (loops_round rounds) a → SoundAction scene levels (table_known (known_in scene)) Named Folds a
    action_here Folds (action id place (lets name declared None)) s h =
        (own_here name h.0, record { sized = subst IsKind (kind_same name) h.0.sized; kind_is = h.1 ∙ kind_same name })
    action_here Folds (action id place (lets name declared (Some t))) s h = (h.0.0, (own_here name h.1.0, holds_here name t h.1.1))
    action_here Folds (action id place (lets_memory name shape shape_places value)) s h = tt
    action_here Folds (action id place (views name parent form)) s h = view_here (hidden_in (way_of (known_in scene) name)) (offsets_of form) h.0.0 h.1
    action_here Folds (action id place (assigns target value)) s h = (h.0.0, (own_here target h.1.0, holds_here target value h.1.1))
    action_here Folds (action id place (stores target value)) s h = ((h.0.0.0, h.0.1.0), h.1)
    action_here Folds (action id place (reduces target o value)) s h = elim h [ ]
    action_here Folds (action id place (calls function arguments)) s h = tt
    action_here Folds (action id place (blocks body)) s h = groups_here Folds body s h
    action_here Folds (action id place (decides test chosen other)) s h = (h.0.0.0, (action_here (λ entity. ⊥) chosen s.0 h.1.0, other_here (λ entity. ⊥) other s.1 h.1.1))
    action_here Folds (action id place (repeats test body)) s h = tt
    action_here Folds (action id place (counts iterator declared low high factor body combine combine_place)) s h = tt

    other_here : (Folds : ℕ → Type 0) (m : MaybeAction) → OtherFoldsInJoins m → OtherFits (known_in scene) places (loops_round rounds) m → SoundOther scene levels (table_known (known_in scene)) Named Folds m
    other_here Folds no_action s h = tt
    other_here Folds (one_action a) s h = action_here Folds a s h

    groups_here : (Folds : ℕ → Type 0) (gs : Groups) → GroupsFoldInJoins gs → GroupsFit (known_in scene) places (loops_round rounds) gs → SoundGroups scene levels (table_known (known_in scene)) Named Folds gs
    groups_here Folds no_groups s h = tt
    groups_here Folds (group_then part rest) s h = (part_here Folds part s.0 h.0, groups_here Folds rest s.1 h.1)

    part_here : (Folds : ℕ → Type 0) (part : Actions) → PartFoldsInJoins part → PartFits (known_in scene) places (loops_round rounds) part → SoundPart scene levels (table_known (known_in scene)) Named Folds part
    part_here Folds no_actions s h = tt
    part_here Folds (action_then a rest) s h = (action_here Folds a s.0 h.0, part_here Folds rest s.1 h.1)

  -- Reducers: what they put together is a variable that is declared inside all the loops.
  module _ (kinds : List Kind) where
    abbrev Whole : Ref → Kind → Type 0
    Whole r k = IsNamedHere scene levels kinds rounds (λ entity. true) r k

    whole_name : (r : Ref) (k : Kind) → Named r k → IsPlainTarget (known_in scene) r → length (factors (loops_round rounds)) ≤ depth_of (known_in scene) r → Whole r k
    whole_name r k h plain full = inl (record {
      is = h.is;
      seen = seen_here scene levels rounds tells top r h.inside plain;
      kind_is = sym (kind_same r) ∙ h.bound;
      binding = plain;
      free = inr (subst (λ (n : ℕ). n ≤ depth_of (known_in scene) r) (sym (long_is scene levels rounds tells top)) full);
    })

    whole_term : (t : Term) → IsWholeTerm (known_in scene) (length (factors (loops_round rounds))) t → IsSound (known_in scene) (table_known (known_in scene)) Named t → IsSound (known_in scene) (table_known (known_in scene)) Whole t
    whole_term (term place k (named r)) w s = (whole_name r (kind_or_first k) s.0 w.0 w.1, s.1)
    whole_term (term place k (number negative x)) w s = elim w [ ]
    whole_term (term place k (truth_value x)) w s = elim w [ ]
    whole_term (term place k (accessed r ts)) w s = elim w [ ]
    whole_term (term place k (in_bank r bank at t)) w s = elim w [ ]
    whole_term (term place k (applied o l r)) w s = elim w [ ]
    whole_term (term place k (converted t to)) w s = elim w [ ]

    fold_here : (a : Action) → IsReducer (JoinFits (known_in scene) places) (loops_round rounds) (action_form_of a)
        → SoundAction scene levels (table_known (known_in scene)) Whole (IsSeen scene levels) a
    fold_here (action id place (reduces r o t)) h =
        let fits : FoldFits (known_in scene) places (loops_round rounds) (reduces r o t) = h.1 in (
          (whole_term t fits.1.0.1 fits.0.0.0, seen_here scene levels rounds tells top r fits.0.1.inside fits.0.1.plain),
          record {
            operator = fits.1.0.0;
            kind_is = kind_same r;
            sized = subst IsKind (kind_same r) fits.0.1.sized;
            integer = subst (λ (k : Kind). IsInteger (wider k (kind_written t))) (kind_same r) fits.1.1;
          },
        )
    fold_here (action id place (lets name declared value)) h = elim h [ ]
    fold_here (action id place (lets_memory name shape shape_places value)) h = elim h [ ]
    fold_here (action id place (views name parent form)) h = elim h [ ]
    fold_here (action id place (assigns target value)) h = elim h [ ]
    fold_here (action id place (stores target value)) h = elim h [ ]
    fold_here (action id place (calls function arguments)) h = elim h [ ]
    fold_here (action id place (blocks body)) h = elim h [ ]
    fold_here (action id place (decides test chosen other)) h = elim h [ ]
    fold_here (action id place (repeats test body)) h = elim h [ ]
    fold_here (action id place (counts iterator declared low high factor body combine combine_place)) h = elim h [ ]

    pub folds_here : (cs : List Located) → EachFold (JoinFits (known_in scene) places) (loops_round rounds) cs
        → AllByRecursion (λ (c : Located). SoundAction scene levels (table_known (known_in scene)) Whole (IsSeen scene levels) c.command) cs
    folds_here [] h = tt
    folds_here (c ∷ cs) h = (fold_here c.command h.0, folds_here cs h.1)

    -- straight commands, by what is known of names
    pub all_here : (touched : ℕ → Bool) → ((r : Ref) (k : Kind) → Named r k → IsNamedHere scene levels kinds rounds touched r k) → (cs : List Located) → EachOf (SimpleFits (known_in scene) places) (loops_round rounds) cs
        → AllByRecursion (λ (c : Located). SoundAction scene levels (table_known (known_in scene)) (IsNamedHere scene levels kinds rounds touched) (IsSeen scene levels) c.command) cs
    all_here touched to [] h = tt
    all_here touched to (c ∷ cs) h =
        (action_mapped scene levels (table_known (known_in scene)) Named (IsNamedHere scene levels kinds rounds touched) to (IsSeen scene levels) c.command (action_here (IsSeen scene levels) c.command h.0.0 h.0.1), all_here touched to cs h.1)
