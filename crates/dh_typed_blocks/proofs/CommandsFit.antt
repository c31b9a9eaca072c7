-- A command of a ready program fits, where it stands: by recursion over the tree beside that of dh_runnable, which tells what
-- is known of the names that are visible at each point of the text.
use Rattle.std.proofs.Common.{◌≡◌, ℕ, suc, ◌≤◌, arith, ◌*◌, ◌&&◌, ◌||◌, Bool, false, if◌then◌else◌, List, [], ◌∷◌, ◌++◌, length, Option, Some, None, refl, ap, sym, ◌∙◌, subst}
use Rattle.std.specs.List.{AllByRecursion}
use Rattle.dh_base.specs.declared.limits.Limit.TheVariants as limit
use Rattle.dh_base.specs.declared.places.Place.{Place}
use Rattle.dh_value.specs.declared.kinds.Kind.{Kind}
use Rattle.dh_value.specs.declared.kinds.Kind.TheVariants as kind
use Rattle.dh_value.specs.Words.{IsInteger, IsKind}
use Rattle.dh_tree.specs.declared.breaches.Breach.{Breach}
use Rattle.dh_tree.specs.declared.trees.expressions.Ref.{Ref}
use Rattle.dh_tree.specs.declared.trees.programs.Sort.TheVariants.{Iterator}
use Rattle.dh_tree.specs.Breaches as names
use Rattle.dh_tree.specs.Breaches.{unknown, twice, term_breaches, terms_breaches, form_breaches, actions_breaches}
use Rattle.dh_tree.specs.Excesses.{excess_at, form_copies_excess, other_copies_excess, part_copies_excess}
use Rattle.dh_tree.specs.Forms.{unbuilt, form_holds, unbuilt_form, unbuilt_part}
use Rattle.dh_tree.specs.Indices.{term_index_breaches, turns_breaches, action_form_index_breaches, actions_index_breaches}
use Rattle.dh_tree.specs.KindBreaches.{term_kind_breaches, indices_kind_breaches, parent_breaches, assigned_breaches, truth_breaches, condition_breaches, target_breaches, reducer_kind_breaches, iterator_breaches, low_breaches, high_breaches, action_form_kind_breaches, actions_kind_breaches}
use Rattle.dh_tree.specs.Kinds.{of_iterator, Facts, fact_of, found, place_of, for_numbers, index_breaches, target_kind, iterator_kind, facts_after_form, facts_after_actions, typed_term, typed_terms, typed_plan, typed_action_form, typed_other, typed_actions, typed_groups}
use Rattle.dh_tree.specs.PlainTrees.{Term, term, term_then, accessed, in_bank, number, truth_value, named, applied, converted, action, ActionForm, lets, lets_memory, views, assigns, stores, reduces, calls, blocks, decides, repeats, counts, MaybeAction, no_action, one_action, Actions, no_actions, action_then, Groups, no_groups, group_then}
use Rattle.dh_tree.specs.Resolved.{used, declares, resolved_term, resolved_terms, resolved_plan, resolved_form, resolved_other, resolved_actions, resolved_groups}
use Rattle.dh_tree.specs.Scopes.{Scope, declare, leave, past, at_end, form_at_end, actions_at_end}
use Rattle.dh_tree.specs.Seen.{terms}
use Rattle.dh_tree.specs.ViewBreaches.{action_form_view_breaches, offsets_view_breaches, part_view_breaches, term_view_breaches}
use Rattle.dh_tree.specs.ViewOffsets.{offsets_of}
use Rattle.dh_tree.specs.Widths.{IsSized, AreSized, AreAllSized}
use Rattle.dh_tree.proofs.EmptyLists.{first_none, second_none, not_none}
use Rattle.dh_meaning.specs.Bindings.{Binding, depth_bound, depth_inside, kind_bound, kind_found, binding_in, kind_or_first, let_kind}
use Rattle.dh_meaning.specs.Core.{Turning}
use Rattle.dh_meaning.specs.CoreOf.{Known, kind_of, depth_of, entity_number, turning_of, way_of}
use Rattle.dh_meaning.specs.Phases.{turn_count}
use Rattle.dh_meaning.specs.Ways.{Hidden, Way, hidden_binding, hidden_from, hidden_in, way_at}
use Rattle.dh_sound.specs.AssignsInside.{FormAssignsInside, OtherAssignsInside, GroupsAssignInside, PartAssignsInside}
use Rattle.dh_sound.specs.Blocks.{factors}
use Rattle.dh_sound.specs.NamesInScope.{InScope, is_variable, FormScoped, OtherScoped, GroupsScoped, PartScoped}
use Rattle.dh_sound.specs.SameKeys.{EachName, EachNameOf, IsNoIterator}
use Rattle.dh_sound.specs.SimpleForms.{FormFoldsInJoins, OtherFoldsInJoins, GroupsFoldInJoins, PartFoldsInJoins, FormFoldsOnly, GroupsFoldOnly, PartFoldsOnly, JoinsFolds}
use Rattle.dh_sound.specs.Straight.{IsTarget, IsNamedForm, IsNamedOther, AreNamedGroups, AreNamedActions}
use Rattle.dh_sound.proofs.DepthsNamed.{inside_count}
use Rattle.dh_sound.proofs.FactsGrow.{form_grows, InStep, next_in_step, past_in_step, form_in_step, part_in_step}
use Rattle.dh_sound.proofs.Offsets.{offsets_kinds, offsets_named, offsets_sized, offsets_typed, offsets_visible}
use Rattle.dh_runnable.specs.ActionsRun.{table_known}
use Rattle.dh_code.specs.Declarations.{factors_inside, form_factored, groups_factored, other_factored, part_factored}
use Rattle.dh_code.specs.Ranks.{copies_in}
use Rattle.dh_code.specs.Slots.{Placing}
use Rattle.dh_code.specs.Suited.{IsInside}
use Rattle.dh_runnable.proofs.CommandsRun as run
use Rattle.dh_runnable.proofs.CommandsRun.{first_viewed, form_leads, part_leads, second_viewed, view_told}
use Rattle.dh_runnable.proofs.NamesKnown.{Knows, knows_more, name_known, still_known, declared_known, past_known, target_sized}
use Rattle.dh_runnable.proofs.Operands.{bool_sized}
use Rattle.dh_runnable.proofs.SidesRun.{MaybeKnown, maybe_known, iterator_sized, iterator_good, target_known}
use Rattle.dh_runnable.proofs.SidesRun as sides
use Rattle.dh_runnable.proofs.TermsSuited.{indexed, judged, IsReady, IsKnown, known_sized, kind_found_is, name_inside, offsets_known, term_known}
use Rattle.dh_runnable.proofs.TurnsCounted.{first_within, second_within, KeepsTurns, turns_kept, copies_inside}
use Rattle.dh_runnable.proofs.TypedParts.{for_numbers_sized}
use Rattle.dh_runnable.proofs.ViewsKnown.{AreGoodWays, AreKept, Rules}
use Rattle.dh_blocks.specs.SoundCommands.{CanHold, kind_aimed}
use Rattle.dh_blocks.specs.SoundTerms.{IsSound, IsSoundTarget, kept_name}
use Rattle.dh_typed_blocks.specs.PlainPrograms.{AreFewMemories, IsKeptFor, IsPlainTarget, FormPlain, OtherPlain, GroupsPlain, PartPlain}
use Rattle.dh_typed_blocks.proofs.Fitting.{AllInteger, IsNamedIn, IsTargetIn, KeepsFits, KeptFits, OffsetsFit, TermFits, kept_at, FoldFits, FormFits, OtherFits, GroupsFit, PartFits}
use Rattle.dh_typed_blocks.proofs.KindsGiven.{written_is}
use Rattle.dh_typed_blocks.proofs.ReducersWhole.{FormJoinsWhole, OtherJoinsWhole, GroupsJoinWhole, PartJoinsWhole, FormReducesWhole, OtherReducesWhole, GroupsReduceWhole, PartReducesWhole}
use Rattle.dh_typed_blocks.proofs.PhasesHolding.{FormOnlyFolds, GroupsOnlyFold, PartOnlyFolds, OtherOnlyFolds}
use Rattle.dh_typed_blocks.proofs.SidesFit.{number_is, factors_more, integer_more, bound_is, to_name, can_hold, is_test, can_reduce}
use Rattle.dh_typed_blocks.proofs.TermsSound.{term_sound}
use Rattle.dh_typed_blocks.proofs.TermsTyped.{index_integer, term_typed}

-- Declarations.

let_none : (declared : Option Kind) → let_kind declared None ≡ kind_or_first declared
let_none None = refl
let_none (Some k) = refl

-- an iterator that is no truth is an integer
integer_kind : (k : Kind) (r : Ref) → IsKind k → iterator_breaches r k ≡ [] → IsInteger k
integer_kind kind.Bool r s e = not_none _ _ e
integer_kind (kind.Unsigned w) r s e = s
integer_kind (kind.Signed w) r s e = s

-- the target of a store
store_target : (known : Known) (Name : Ref → Kind → Type 0) (target : Term) (j : Kind) → IsTarget target → IsSound known (table_known known) Name target → found target ≡ Some j
    → IsSoundTarget known (table_known known) Name target × (kind_aimed known (table_known known) target ≡ j)
store_target known Name (term place m (accessed r ts)) j n s e = ((s.0, s.1.0), sym s.1.1 ∙ ap kind_or_first e)
store_target known Name (term place m (in_bank r bank at row)) j n s e = ((s.0, (s.1.0, s.1.1.0)), sym s.1.1.1.0 ∙ ap kind_or_first e)
store_target known Name (term place m (number negative x)) j n s e = elim n [ ]
store_target known Name (term place m (truth_value b)) j n s e = elim n [ ]
store_target known Name (term place m (named r)) j n s e = elim n [ ]
store_target known Name (term place m (applied o left right)) j n s e = elim n [ ]
store_target known Name (term place m (converted inner to)) j n s e = elim n [ ]

module _ (known : Known) (rules : Rules) (good : AreGoodWays known rules.views) (p : Placing) (few : AreFewMemories known) where
  -- what keeps an offset is in scope
  kept_scope : (ts : List Turning) (h : Hidden) → binding_in known.bindings h.entity ≡ Some (hidden_binding h) → InScope known ts (kept_name h)
  kept_scope ts h e = is_variable h.entity refl (subst (λ (b : Option Binding). IsNoIterator b) (sym e) refl)

  -- an expression, with the kind that is known of it
  right : (ts : List Turning) (facts : Facts) (s : Scope) (want : Option Kind) (t : Term) → AllInteger known ts → Knows known p (factors ts) facts s.visible → IsSized want → typed_term facts want t ≡ t
      → resolved_term s.visible t ≡ t → term_breaches s.visible t ≡ [] → term_kind_breaches facts t ≡ [] → term_index_breaches (indexed known rules) t ≡ [] → term_view_breaches (judged known rules) t ≡ [] → AreSized t → EachName (InScope known ts) t
      → IsKnown known p (factors ts) t × TermFits known p ts t
  right ts facts s want t ai k w e n v b i x z near =
      let ready : IsReady known rules facts s.visible t = record { named = n; visible = v; kinds = b; indices = i; views = x; sized = z } in (
        term_known known p (factors ts) rules good facts s.visible k want w t e ready,
        (
          term_sound known p (factors ts) few (InScope known ts) (IsNamedIn known p ts) (to_name known p ts ai) (kept_scope ts) rules good facts s.visible k want w t e ready near,
          term_typed known p (factors ts) rules good facts s.visible k want w t e ready,
        ),
      )

  let_sized : (loops : List ℕ) (declared : Option Kind) (value : Option Term) → IsSized declared → MaybeKnown known p loops value → IsKind (let_kind declared value)
  let_sized loops (Some k) value z m = z
  let_sized loops None None z m = bool_sized
  let_sized loops None (Some t) z m = subst IsKind (sym (kind_found_is t m.kind m.is)) (m.operand 0).sized

  -- the right side of a `let` is held
  let_holds : (loops : List ℕ) (own : Kind) (declared : Option Kind) (t : Term) → own ≡ let_kind declared (Some t) → (k : IsKnown known p loops t) → assigned_breaches declared (found t) (place_of t) ≡ [] → CanHold own t
  let_holds loops own (Some j) t e k h bool = can_hold own (Some j) j t k.kind refl e k.is h bool
  let_holds loops own None t e k h bool = written_is t k.kind k.is ∙ (sym (kind_found_is t k.kind k.is) ∙ (sym e ∙ bool))

  -- what is assigned to
  target_in : (ts : List Turning) (least : ℕ) (facts : Facts) (r : Ref) (t : sides.IsTarget known p (factors ts) facts r) → IsPlainTarget known r → least ≤ depth_of known r → IsTargetIn known p ts least r
  target_in ts least facts r t plain full = record {
    is = number_is r t.number t.entity;
    sized = subst IsKind (sym (bound_is known p (factors ts) r t.number t.kind t.entity t.stands)) t.stands.sized;
    inside = name_inside known p (factors ts) r t.number t.kind t.entity t.stands;
    plain = plain;
    full = full;
  }

  -- offsets of a view
  offsets_fit : (ts : List Turning) (facts : Facts) (s : Scope) → AllInteger known ts → Knows known p (factors ts) facts s.visible → (os : List Term) → typed_terms facts (terms os) ≡ terms os → resolved_terms s.visible (terms os) ≡ terms os
      → terms_breaches s.visible (terms os) ≡ [] → indices_kind_breaches facts (terms os) ≡ [] → offsets_view_breaches (judged known rules) os ≡ [] → AreAllSized (terms os) → EachNameOf (InScope known ts) (terms os) → OffsetsFit known p ts os
  offsets_fit ts facts s ai k [] e n v b w z near = (tt, tt)
  offsets_fit ts facts s ai k (t ∷ os) e n v b w z near =
      let first_typed : typed_term facts None t ≡ t = let eq : term_then (typed_term facts None t) (typed_terms facts (terms os)) ≡ term_then t (terms os) = e in cc in
      let rest_typed : typed_terms facts (terms os) ≡ terms os = let eq : term_then (typed_term facts None t) (typed_terms facts (terms os)) ≡ term_then t (terms os) = e in cc in
      let first_named : resolved_term s.visible t ≡ t = let eq : term_then (resolved_term s.visible t) (resolved_terms s.visible (terms os)) ≡ term_then t (terms os) = n in cc in
      let rest_named : resolved_terms s.visible (terms os) ≡ terms os = let eq : term_then (resolved_term s.visible t) (resolved_terms s.visible (terms os)) ≡ term_then t (terms os) = n in cc in
      let below = second_none (index_breaches (found t) (place_of t)) _ b in
      let own = first_none (term_index_breaches (indexed known rules) t ++ term_view_breaches (judged known rules) t) _ w in
      let one = right ts facts s None t ai k tt first_typed first_named (first_none (term_breaches s.visible t) _ v) (first_none (term_kind_breaches facts t) _ below)
      (first_none (term_index_breaches (indexed known rules) t) _ own) (second_none (term_index_breaches (indexed known rules) t) _ own) z.0 near.0 in
      let rest = offsets_fit ts facts s ai k os rest_typed rest_named (second_none (term_breaches s.visible t) _ v) (second_none (term_kind_breaches facts t) _ below)
      (second_none (term_index_breaches (indexed known rules) t ++ term_view_breaches (judged known rules) t) _ w) z.1 near.1 in (
        (one.1.0, rest.0),
        ((one.1.1, index_integer known p (factors ts) t one.0 (first_none (index_breaches (found t) (place_of t)) _ b)), rest.1),
      )

  same_least : (n : ℕ) → n ≤ n
  same_least n = omega arith

  -- and the variables that keep them, which are the first on its way
  kept_fit : (ts : List Turning) (name : Ref) (os : List Term) → AllByRecursion (λ t. IsKnown known p (factors ts) t) os → (first : ℕ) (rest : List Hidden) → AreKept p (factors ts) (hidden_from first (length (factors ts)) os ++ rest)
      → AllByRecursion (IsKeptFor known name) (hidden_from first (length (factors ts)) os ++ rest) → KeptFits known p ts (length (factors ts)) first os
  kept_fit ts name [] k first rest a b = tt
  kept_fit ts name (t ∷ os) k first rest a b =
      let deep : depth_of known (kept_at first) ≡ length (factors ts) = ap depth_bound b.0.found in
      let bound : kind_of known (kept_at first) ≡ kind_found t = ap kind_bound b.0.found in (
        (
          record {
            is = refl;
            sized = subst IsKind (sym bound) a.0.sized;
            inside = subst (λ (d : ℕ). IsInside p (factors ts) d first) (sym deep) a.0.inside;
            plain = subst (λ (o : Option Binding). IsNoIterator o) (sym b.0.found) refl;
            full = subst (λ (d : ℕ). length (factors ts) ≤ d) (sym deep) (same_least (length (factors ts)));
          },
          (sym deep, bound ∙ (kind_found_is t k.0.kind k.0.is ∙ sym (written_is t k.0.kind k.0.is))),
        ),
        kept_fit ts name os k.1 (suc first) rest a.1 b.1,
      )

  keeps_fit : (ts : List Turning) (name : Ref) (os : List Term) → AllByRecursion (λ t. IsKnown known p (factors ts) t) os → (first : ℕ) (hs rest : List Hidden) → hs ≡ hidden_from first (length (factors ts)) os ++ rest → AreKept p (factors ts) hs
      → AllByRecursion (IsKeptFor known name) hs → KeepsFits known p ts hs os
  keeps_fit ts name [] k first hs rest e a b = tt
  keeps_fit ts name (t ∷ os) k first hs rest e a b =
      subst (λ (gs : List Hidden). KeepsFits known p ts gs (t ∷ os)) (sym e)
      (kept_fit ts name (t ∷ os) k first rest (subst (λ (gs : List Hidden). AreKept p (factors ts) gs) e a) (subst (λ (gs : List Hidden). AllByRecursion (IsKeptFor known name) gs) e b))

  none_least : (n : ℕ) → 0 ≤ n
  none_least n = omega arith

  -- a list of commands: its first, and what is known behind it
  record PartSplit (form : ActionForm) (rest : Actions) (id : ℕ) (place : Place) (loops : List ℕ) (facts : Facts) (s : Scope) (stepped : Bool) : Type 0 where
    first : run.IsSound known rules good p loops facts s place form
    step : InStep (past s (action id place form) (at_end s (action id place form))) (facts_after_form facts form)
    knows : Knows known p loops (facts_after_form facts form) (past s (action id place form) (at_end s (action id place form))).visible
    behind : run.PartSound known rules good p loops (facts_after_form facts form) (past s (action id place form) (at_end s (action id place form))) (stepped || form_holds form) rest

  split_part : (form : ActionForm) (rest : Actions) (id : ℕ) (place : Place) (loops : List ℕ) (facts : Facts) (s : Scope) (stepped : Bool) → InStep s facts → Knows known p loops facts s.visible
      → run.PartSound known rules good p loops facts s stepped (action_then (action id place form) rest) → PartSplit form rest id place loops facts s stepped
  split_part form rest id place loops facts s stepped l k h =
      let typed : typed_action_form facts form ≡ form = let eq = h.typed in cc in
      let named : resolved_form s form ≡ form = let eq = h.named in cc in
      let behind : typed_actions (facts_after_form facts (typed_action_form facts form)) rest ≡ rest = let eq = h.typed in cc in
      let behind_named : resolved_actions (past s (action id place form) (at_end s (action id place form))) rest ≡ rest = let eq = h.named in cc in
      let sound : run.IsSound known rules good p loops facts s place form = record {
        typed = typed;
        named = named;
        visible = first_none (form_breaches s form) _ h.visible;
        kinds = first_none (action_form_kind_breaches facts form) _ h.kinds;
        indices = first_none (action_form_index_breaches (indexed known rules) form) _ h.indices;
        views = first_none (action_form_view_breaches (judged known rules) form) _ h.views;
        forms = first_none (unbuilt_form place form) _ h.forms;
        sized = h.sized.0;
        copies = first_within (form_copies_excess (copies_in loops) form) _ h.copies;
        numbers = h.numbers.0;
        placed = h.placed.0;
        declares_memories = h.declares_memories.0;
        viewed = first_viewed known rules good p (form_factored loops form) (part_factored loops rest) h.viewed;
      } in
      let again : List Breach = (if stepped && form_holds form then unbuilt place else []) in
      record {
        first = sound;
        step = past_in_step s (form_at_end s form) (facts_after_form facts form) (action id place form) (form_in_step s facts form l);
        knows = past_known known p loops facts s (action id place form) k (form_leads known rules good p form loops facts s place l k sound).knows;
        behind = record {
          typed = subst (λ (f : ActionForm). typed_actions (facts_after_form facts f) rest ≡ rest) typed behind;
          named = behind_named;
          visible = second_none (form_breaches s form) _ h.visible;
          kinds = second_none (action_form_kind_breaches facts form) _ h.kinds;
          indices = second_none (action_form_index_breaches (indexed known rules) form) _ h.indices;
          views = second_none (action_form_view_breaches (judged known rules) form) _ h.views;
          forms = second_none again _ (second_none (unbuilt_form place form) _ h.forms);
          sized = h.sized.1;
          copies = second_within (form_copies_excess (copies_in loops) form) _ h.copies;
          numbers = h.numbers.1;
          placed = h.placed.1;
          declares_memories = h.declares_memories.1;
          viewed = second_viewed known rules good p (form_factored loops form) (part_factored loops rest) h.viewed;
        };
      }

  record GroupsSplit (part : Actions) (rest : Groups) (loops : List ℕ) (facts : Facts) (s : Scope) : Type 0 where
    first : run.PartSound known rules good p loops facts s false part
    step : InStep (actions_at_end s part) (facts_after_actions facts part)
    knows : Knows known p loops (facts_after_actions facts part) (actions_at_end s part).visible
    behind : run.GroupsSound known rules good p loops (facts_after_actions facts part) (actions_at_end s part) rest

  split_groups : (part : Actions) (rest : Groups) (loops : List ℕ) (facts : Facts) (s : Scope) → InStep s facts → Knows known p loops facts s.visible
      → run.GroupsSound known rules good p loops facts s (group_then part rest) → GroupsSplit part rest loops facts s
  split_groups part rest loops facts s l k h =
      let typed : typed_actions facts part ≡ part = let eq = h.typed in cc in
      let named : resolved_actions s part ≡ part = let eq = h.named in cc in
      let behind : typed_groups (facts_after_actions facts (typed_actions facts part)) rest ≡ rest = let eq = h.typed in cc in
      let behind_named : resolved_groups (actions_at_end s part) rest ≡ rest = let eq = h.named in cc in
      let sound : run.PartSound known rules good p loops facts s false part = record {
        typed = typed;
        named = named;
        visible = first_none (actions_breaches s part) _ h.visible;
        kinds = first_none (actions_kind_breaches facts part) _ h.kinds;
        indices = first_none (actions_index_breaches (indexed known rules) part) _ h.indices;
        views = first_none (part_view_breaches (judged known rules) part) _ h.views;
        forms = first_none (unbuilt_part false part) _ h.forms;
        sized = h.sized.0;
        copies = first_within (part_copies_excess (copies_in loops) part) _ h.copies;
        numbers = h.numbers.0;
        placed = h.placed.0;
        declares_memories = h.declares_memories.0;
        viewed = first_viewed known rules good p (part_factored loops part) (groups_factored loops rest) h.viewed;
      } in
      record {
        first = sound;
        step = part_in_step s facts part l;
        knows = (part_leads known rules good p part loops facts s false l k sound).knows;
        behind = record {
          typed = subst (λ (q : Actions). typed_groups (facts_after_actions facts q) rest ≡ rest) typed behind;
          named = behind_named;
          visible = second_none (actions_breaches s part) _ h.visible;
          kinds = second_none (actions_kind_breaches facts part) _ h.kinds;
          indices = second_none (actions_index_breaches (indexed known rules) part) _ h.indices;
          views = second_none (part_view_breaches (judged known rules) part) _ h.views;
          forms = second_none (unbuilt_part false part) _ h.forms;
          sized = h.sized.1;
          copies = second_within (part_copies_excess (copies_in loops) part) _ h.copies;
          numbers = h.numbers.1;
          placed = h.placed.1;
          declares_memories = h.declares_memories.1;
          viewed = second_viewed known rules good p (part_factored loops part) (groups_factored loops rest) h.viewed;
        };
      }

  mutual
    pub form_fits : (f : ActionForm) (ts : List Turning) (facts : Facts) (s : Scope) (place : Place) → InStep s facts → Knows known p (factors ts) facts s.visible → run.IsSound known rules good p (factors ts) facts s place f
        → FormScoped known ts f → FormAssignsInside known (length (factors ts)) f → FormJoinsWhole known (length (factors ts)) f → FormFoldsInJoins f → IsNamedForm f → FormPlain known f → AllInteger known ts → FormFits known p ts f
    form_fits (lets name declared None) ts facts s place l k h sc asg wh si na pl ai =
        let same : declares s name ≡ name = let eq = h.named in cc in
        let entity : name.entity ≡ Some (length s.entities) = sym (ap (λ (r : Ref). r.entity) same) in (
          record {
            is = number_is name (length s.entities) entity;
            sized = subst IsKind (sym h.placed.bound) (let_sized (factors ts) declared None h.sized.0 tt);
            inside = h.placed.inside;
            plain = pl;
            full = asg;
          },
          sym (h.placed.bound ∙ let_none declared),
        )
    form_fits (lets name declared (Some t)) ts facts s place l k h sc asg wh si na pl ai =
        let same : declares s name ≡ name = let eq = h.named in cc in
        let entity : name.entity ≡ Some (length s.entities) = sym (ap (λ (r : Ref). r.entity) same) in
        let typed : typed_term facts (for_numbers declared) t ≡ t = let eq = h.typed in cc in
        let resolved : resolved_term s.visible t ≡ t = let eq = h.named in cc in
        let v = right ts facts s (for_numbers declared) t ai k (for_numbers_sized declared h.sized.0) typed resolved (first_none (term_breaches s.visible t) _ h.visible) (second_none (assigned_breaches declared (found t) (place_of t)) _ h.kinds) h.indices h.views h.sized.1 sc in (
          v.1,
          (
            record {
              is = number_is name (length s.entities) entity;
              sized = subst IsKind (sym h.placed.bound) (let_sized (factors ts) declared (Some t) h.sized.0 v.0);
              inside = h.placed.inside;
              plain = pl;
              full = asg;
            },
            let_holds (factors ts) (kind_of known name) declared t h.placed.bound v.0 (first_none (assigned_breaches declared (found t) (place_of t)) _ h.kinds),
          ),
        )
    form_fits (lets_memory name shape shape_places value) ts facts s place l k h sc asg wh si na pl ai = tt
    form_fits (views name parent form) ts facts s place l k h sc asg wh si na pl ai =
        let plan_typed : typed_plan facts form ≡ form = let eq = h.typed in cc in
        let plan_named : resolved_plan s.visible form ≡ form = let eq = h.named in cc in
        let above : used s.visible parent ≡ parent = let eq = h.named in cc in
        let same : declares s name ≡ name = let eq = h.named in cc in
        let number : name.entity ≡ Some (length s.entities) = sym (ap (λ (r : Ref). r.entity) same) in
        let below = second_none (unknown s.visible parent) _ h.visible in
        let typed = offsets_typed facts form plan_typed in
        let named_so = offsets_named s.visible form plan_named in
        let seen = offsets_visible s.visible form ∙ first_none (names.plan_name_breaches s.visible form) _ below in
        let kinds = offsets_kinds facts form ∙ second_none (parent_breaches (fact_of facts parent) parent.place) _ h.kinds in
        let sized = offsets_sized form h.sized in
        let offsets = offsets_known known p (factors ts) rules good facts s.visible k (offsets_of form) typed named_so seen kinds h.views sized in
        let told = view_told known rules good p (factors ts) facts s name parent form l (name_known known p (factors ts) facts s.visible parent k above (first_none (unknown s.visible parent) _ h.visible))
        (first_none (parent_breaches (fact_of facts parent) parent.place) _ h.kinds) number h.declares_memories h.viewed.0 offsets in
        let way : way_of known name ≡ Some told.leads.view.way = ap (way_at known.memories known.ways) h.viewed.0.named ∙ told.leads.view.is in (
          offsets_fit ts facts s ai k (offsets_of form) typed named_so seen kinds h.views sized sc,
          subst (λ (o : Option Way). KeepsFits known p ts (hidden_in o) (offsets_of form)) (sym way)
              (keeps_fit ts name (offsets_of form) offsets told.leads.first told.leads.view.way.hidden told.leads.rest told.leads.hidden told.leads.view.kept
              (few.kept name h.viewed.0.number told.leads.view.way h.viewed.0.named way)),
        )
    form_fits (calls function arguments) ts facts s place l k h sc asg wh si na pl ai = tt
    form_fits (reduces target o value) ts facts s place l k h sc asg wh si na pl ai = elim si [ ]
    form_fits (assigns target value) ts facts s place l k h sc asg wh si na pl ai =
        let typed : typed_term facts (for_numbers (target_kind (fact_of facts target))) value ≡ value = let eq = h.typed in cc in
        let resolved : resolved_term s.visible value ≡ value = let eq = h.named in cc in
        let same : used s.visible target ≡ target = let eq = h.named in cc in
        let name = name_known known p (factors ts) facts s.visible target k same (first_none (unknown s.visible target) _ h.visible) in
        let side = second_none (target_breaches (fact_of facts target) target.place) _ h.kinds in
        let v = right ts facts s _ value ai k (for_numbers_sized _ (target_sized known p (factors ts) facts target name)) typed resolved
        (second_none (unknown s.visible target) _ h.visible)
        (second_none (assigned_breaches (target_kind (fact_of facts target)) (found value) (place_of value)) _ side) h.indices h.views h.sized sc in
        let t = target_known known p (factors ts) facts target name (first_none (target_breaches (fact_of facts target) target.place) _ h.kinds) in (
          v.1,
          (
            target_in ts (length (factors ts)) facts target t pl asg,
            can_hold (kind_of known target) (target_kind (fact_of facts target)) t.kind value v.0.kind t.is (bound_is known p (factors ts) target t.number t.kind t.entity t.stands) v.0.is
                (first_none (assigned_breaches (target_kind (fact_of facts target)) (found value) (place_of value)) _ side),
          ),
        )
    form_fits (stores target value) ts facts s place l k h sc asg wh si na pl ai =
        let first : typed_term facts None target ≡ target = let eq = h.typed in cc in
        let second : typed_term facts (for_numbers (found (typed_term facts None target))) value ≡ value = let eq = h.typed in cc in
        let first_same : resolved_term s.visible target ≡ target = let eq = h.named in cc in
        let second_same : resolved_term s.visible value ≡ value = let eq = h.named in cc in
        let t = right ts facts s None target ai k tt first first_same (first_none (term_breaches s.visible target) _ h.visible) (first_none (term_kind_breaches facts target) _ h.kinds)
        (first_none (term_index_breaches (indexed known rules) target) _ h.indices) (first_none (term_view_breaches (judged known rules) target) _ h.views) h.sized.0 sc.0 in
        let sized : IsSized (found (typed_term facts None target)) = subst (λ (t : Term). IsSized (found t)) (sym first) (known_sized known p (factors ts) target t.0) in
        let side = second_none (term_kind_breaches facts target) _ h.kinds in
        let v = right ts facts s _ value ai k (for_numbers_sized _ sized) second second_same
        (second_none (term_breaches s.visible target) _ h.visible) (second_none (assigned_breaches (found target) (found value) (place_of value)) _ side)
        (second_none (term_index_breaches (indexed known rules) target) _ h.indices) (second_none (term_view_breaches (judged known rules) target) _ h.views) h.sized.1 sc.1 in
        let aim = store_target known (IsNamedIn known p ts) target t.0.kind na.0 t.1.0 t.0.is in (
          (v.1, (aim.0, t.1.1)),
          can_hold (kind_aimed known (table_known known) target) (found target) t.0.kind value v.0.kind t.0.is aim.1 v.0.is (first_none (assigned_breaches (found target) (found value) (place_of value)) _ side),
        )
    form_fits (blocks body) ts facts s place l k h sc asg wh si na pl ai =
        groups_fit body ts facts s l k (record {
          typed = let eq = h.typed in cc;
          named = let eq = h.named in cc;
          visible = h.visible;
          kinds = h.kinds;
          indices = h.indices;
          views = h.views;
          forms = h.forms;
          sized = h.sized;
          copies = h.copies;
          numbers = h.numbers;
          placed = h.placed;
          declares_memories = h.declares_memories;
          viewed = h.viewed;
        }) sc asg wh si na pl ai
    form_fits (decides test (action chosen_id chosen_place chosen) other) ts facts s place l k h sc asg wh si na pl ai =
        let loops : List ℕ = factors ts in
        let test_typed : typed_term facts None test ≡ test = let eq = h.typed in cc in
        let test_named : resolved_term s.visible test ≡ test = let eq = h.named in cc in
        let chosen_typed : typed_action_form facts chosen ≡ chosen = let eq = h.typed in cc in
        let chosen_named : resolved_form s chosen ≡ chosen = let eq = h.named in cc in
        let other_typed : typed_other (facts_after_form facts (typed_action_form facts chosen)) other ≡ other = let eq = h.typed in cc in
        let other_named : resolved_other (leave s (form_at_end s chosen)) other ≡ other = let eq = h.named in cc in
        let visible = second_none (term_breaches s.visible test) _ h.visible in
        let kinds = second_none (condition_breaches facts test) _ h.kinds in
        let indices = second_none (term_index_breaches (indexed known rules) test) _ h.indices in
        let seen = second_none (term_view_breaches (judged known rules) test) _ h.views in
        let truth = first_none (condition_breaches facts test) _ h.kinds in
        let t = right ts facts s None test ai k tt test_typed test_named (first_none (term_breaches s.visible test) _ h.visible)
        (second_none (truth_breaches (found test) (place_of test)) _ truth) (first_none (term_index_breaches (indexed known rules) test) _ h.indices) (first_none (term_view_breaches (judged known rules) test) _ h.views) h.sized.0 sc.0 in
        let first = form_fits chosen ts facts s chosen_place l k (record {
          typed = chosen_typed;
          named = chosen_named;
          visible = first_none (form_breaches s chosen) _ visible;
          kinds = first_none (action_form_kind_breaches facts chosen) _ kinds;
          indices = first_none (action_form_index_breaches (indexed known rules) chosen) _ indices;
          views = first_none (action_form_view_breaches (judged known rules) chosen) _ seen;
          forms = first_none (unbuilt_form chosen_place chosen) _ h.forms;
          sized = h.sized.1.0;
          copies = first_within (form_copies_excess (copies_in (factors ts)) chosen) _ h.copies;
          numbers = h.numbers.0;
          placed = h.placed.0;
          declares_memories = h.declares_memories.0;
          viewed = first_viewed known rules good p (form_factored (factors ts) chosen) (other_factored (factors ts) other) h.viewed;
        }) sc.1.0 asg.0 wh.0 si.0 na.1.0 pl.0 ai in
        let second = other_fits other ts (facts_after_form facts chosen) (leave s (form_at_end s chosen)) (form_in_step s facts chosen l)
        (still_known known p (factors ts) facts (facts_after_form facts chosen) s.visible (form_grows facts chosen) k) (record {
          typed = subst (λ (f : ActionForm). typed_other (facts_after_form facts f) other ≡ other) chosen_typed other_typed;
          named = other_named;
          visible = second_none (form_breaches s chosen) _ visible;
          kinds = second_none (action_form_kind_breaches facts chosen) _ kinds;
          indices = second_none (action_form_index_breaches (indexed known rules) chosen) _ indices;
          views = second_none (action_form_view_breaches (judged known rules) chosen) _ seen;
          forms = second_none (unbuilt_form chosen_place chosen) _ h.forms;
          sized = h.sized.1.1;
          copies = second_within (form_copies_excess (copies_in (factors ts)) chosen) _ h.copies;
          numbers = h.numbers.1;
          placed = h.placed.1;
          declares_memories = h.declares_memories.1;
          viewed = second_viewed known rules good p (form_factored (factors ts) chosen) (other_factored (factors ts) other) h.viewed;
        }) sc.1.1 asg.1 wh.1 si.1 na.1.1 pl.1 ai in
        ((t.1, is_test test t.0.kind t.0.is (first_none (truth_breaches (found test) (place_of test)) _ truth)), (first, second))
    form_fits (repeats test (action body_id body_place body)) ts facts s place l k h sc asg wh si na pl ai =
        let test_typed : typed_term facts None test ≡ test = let eq = h.typed in cc in
        let test_named : resolved_term s.visible test ≡ test = let eq = h.named in cc in
        let body_typed : typed_action_form facts body ≡ body = let eq = h.typed in cc in
        let body_named : resolved_form s body ≡ body = let eq = h.named in cc in
        let truth = first_none (condition_breaches facts test) _ h.kinds in
        let t = right ts facts s None test ai k tt test_typed test_named (first_none (term_breaches s.visible test) _ h.visible)
        (second_none (truth_breaches (found test) (place_of test)) _ truth) (first_none (term_index_breaches (indexed known rules) test) _ h.indices) (first_none (term_view_breaches (judged known rules) test) _ h.views) h.sized.0 sc.0 in
        let inner = form_fits body ts facts s body_place l k (record {
          typed = body_typed;
          named = body_named;
          visible = second_none (term_breaches s.visible test) _ h.visible;
          kinds = second_none (condition_breaches facts test) _ h.kinds;
          indices = second_none (term_index_breaches (indexed known rules) test) _ h.indices;
          views = second_none (term_view_breaches (judged known rules) test) _ h.views;
          forms = h.forms;
          sized = h.sized.1;
          copies = h.copies;
          numbers = h.numbers;
          placed = h.placed;
          declares_memories = h.declares_memories;
          viewed = h.viewed;
        }) sc.1 asg wh si na.1 pl ai in
        ((t.1, is_test test t.0.kind t.0.is (first_none (truth_breaches (found test) (place_of test)) _ truth)), inner)
    form_fits (counts iterator declared low high factor (action body_id body_place body) combine combine_place) ts facts s place l k h sc asg wh si na pl ai =
        let whole : ActionForm = counts iterator declared low high factor (action body_id body_place body) combine combine_place in
        let own : Turning = turning_of known (turn_count low.value high.value factor.value) (counts iterator declared low high factor (action body_id body_place body) combine combine_place) in
        let more : Facts = facts ++ of_iterator (iterator_kind declared) ∷ [] in
        let inside : Scope = declare s iterator Iterator in
        let same : declares s iterator ≡ iterator = let eq = h.named in cc in
        let number : iterator.entity ≡ Some (length s.entities) = sym (ap (λ (r : Ref). r.entity) same) in
        let body_typed : typed_action_form (facts ++ of_iterator (iterator_kind declared) ∷ []) body ≡ body = let eq = h.typed in cc in
        let body_named : resolved_form (declare s iterator Iterator) body ≡ body = let eq = h.named in cc in
        let combine_typed : typed_other (facts_after_form (facts ++ of_iterator (iterator_kind declared) ∷ []) (typed_action_form (facts ++ of_iterator (iterator_kind declared) ∷ []) body)) combine ≡ combine = let eq = h.typed in cc in
        let combine_named : resolved_other (form_at_end (declare s iterator Iterator) body) combine ≡ combine = let eq = h.named in cc in
        let visible = second_none (twice s.visible iterator) _ h.visible in
        let kinds = second_none (high_breaches (iterator_kind declared) low high) _ (second_none (low_breaches (iterator_kind declared) low) _ (second_none (iterator_breaches iterator (iterator_kind declared)) _ h.kinds)) in
        let indices = second_none (turns_breaches low high factor) _ h.indices in
        let keeps : KeepsTurns low high factor = turns_kept low high factor (first_none (turns_breaches low high factor) _ h.indices) in
        let copies = second_within (excess_at limit.Copies (copies_in (factors ts) * factor.value)) _ h.copies in
        let turned : copies_in (factors_inside (factors ts) factor.value) ≡ copies_in (factors ts) * factor.value = copies_inside (factors ts) factor.value keeps.some in
        let step = next_in_step s facts iterator Iterator (of_iterator (iterator_kind declared)) l in
        let known_inside = declared_known known p (factors_inside (factors ts) factor.value) facts s iterator Iterator (of_iterator (iterator_kind declared)) l (knows_more known p (factors ts) factor.value facts s.visible k)
        (iterator_good known p (factors_inside (factors ts) factor.value) iterator (length s.entities) declared number h.sized.0 h.placed.0) in
        let body_sound : run.IsSound known rules good p (factors_inside (factors ts) factor.value) (facts ++ of_iterator (iterator_kind declared) ∷ []) (declare s iterator Iterator) body_place body = record {
          typed = body_typed;
          named = body_named;
          visible = first_none (form_breaches inside body) _ visible;
          kinds = first_none (action_form_kind_breaches more body) _ kinds;
          indices = first_none (action_form_index_breaches (indexed known rules) body) _ indices;
          views = first_none (action_form_view_breaches (judged known rules) body) _ h.views;
          forms = first_none (unbuilt_form body_place body) _ h.forms;
          sized = h.sized.1.0;
          copies = subst (λ (n : ℕ). form_copies_excess n body ≡ None) (sym turned) (first_within (form_copies_excess (copies_in (factors ts) * factor.value) body) _ copies);
          numbers = h.numbers.1.0;
          placed = h.placed.1.0;
          declares_memories = h.declares_memories.0;
          viewed = first_viewed known rules good p (form_factored (factors_inside (factors ts) factor.value) body) (other_factored (factors_inside (factors ts) factor.value) combine) h.viewed;
        } in
        let combine_sound : run.OtherSound known rules good p (factors_inside (factors ts) factor.value) (facts_after_form (facts ++ of_iterator (iterator_kind declared) ∷ []) body) (form_at_end (declare s iterator Iterator) body) combine = record {
          typed = subst (λ (f : ActionForm). typed_other (facts_after_form (facts ++ of_iterator (iterator_kind declared) ∷ []) f) combine ≡ combine) body_typed combine_typed;
          named = combine_named;
          visible = second_none (form_breaches inside body) _ visible;
          kinds = second_none (action_form_kind_breaches more body) _ kinds;
          indices = second_none (action_form_index_breaches (indexed known rules) body) _ indices;
          views = second_none (action_form_view_breaches (judged known rules) body) _ h.views;
          forms = second_none (unbuilt_form body_place body) _ h.forms;
          sized = h.sized.1.1;
          copies = subst (λ (n : ℕ). other_copies_excess n combine ≡ None) (sym turned) (second_within (form_copies_excess (copies_in (factors ts) * factor.value) body) _ copies);
          numbers = h.numbers.1.1;
          placed = h.placed.1.1;
          declares_memories = h.declares_memories.1;
          viewed = second_viewed known rules good p (form_factored (factors_inside (factors ts) factor.value) body) (other_factored (factors_inside (factors ts) factor.value) combine) h.viewed;
        } in
        let first = form_leads known rules good p body (factors_inside (factors ts) factor.value) (facts ++ of_iterator (iterator_kind declared) ∷ []) (declare s iterator Iterator) body_place step known_inside body_sound in
        let round : factors_inside (factors ts) factor.value ≡ factors (ts ++ own ∷ []) = sym (factors_more ts own) in
        let depth : depth_inside (length (factors ts)) factor.value ≡ length (factors (ts ++ own ∷ [])) = sym (inside_count known ts (turn_count low.value high.value factor.value) whole) in
        let integer : IsInteger (kind_bound (binding_in known.bindings (entity_number iterator.entity))) =
        subst IsInteger (sym h.placed.0.bound) (integer_kind (iterator_kind declared) iterator (iterator_sized declared h.sized.0) (first_none (iterator_breaches iterator (iterator_kind declared)) _ h.kinds)) in
        let integers = integer_more known ts own ai integer in (
          form_fits body (ts ++ own ∷ []) (facts ++ of_iterator (iterator_kind declared) ∷ []) (declare s iterator Iterator) body_place step
              (subst (λ (ls : List ℕ). Knows known p ls (facts ++ of_iterator (iterator_kind declared) ∷ []) (declare s iterator Iterator).visible) round known_inside)
              (subst (λ (ls : List ℕ). run.IsSound known rules good p ls (facts ++ of_iterator (iterator_kind declared) ∷ []) (declare s iterator Iterator) body_place body) round body_sound)
              sc.0 (subst (λ (d : ℕ). FormAssignsInside known d body) depth asg.0) (subst (λ (d : ℕ). FormJoinsWhole known d body) depth wh.0) si.0 na.1.0 pl.0 integers,
          joins_fit combine (ts ++ own ∷ []) (facts_after_form (facts ++ of_iterator (iterator_kind declared) ∷ []) body) (form_at_end (declare s iterator Iterator) body)
              (form_in_step (declare s iterator Iterator) (facts ++ of_iterator (iterator_kind declared) ∷ []) body step)
              (subst (λ (ls : List ℕ). Knows known p ls (facts_after_form (facts ++ of_iterator (iterator_kind declared) ∷ []) body) (form_at_end (declare s iterator Iterator) body).visible) round first.knows)
              (subst (λ (ls : List ℕ). run.OtherSound known rules good p ls (facts_after_form (facts ++ of_iterator (iterator_kind declared) ∷ []) body) (form_at_end (declare s iterator Iterator) body) combine) round combine_sound)
              sc.1 (subst (λ (d : ℕ). OtherReducesWhole known d combine) depth wh.1) si.1 pl.1 integers,
        )

    other_fits : (m : MaybeAction) (ts : List Turning) (facts : Facts) (s : Scope) → InStep s facts → Knows known p (factors ts) facts s.visible → run.OtherSound known rules good p (factors ts) facts s m
        → OtherScoped known ts m → OtherAssignsInside known (length (factors ts)) m → OtherJoinsWhole known (length (factors ts)) m → OtherFoldsInJoins m → IsNamedOther m → OtherPlain known m → AllInteger known ts → OtherFits known p ts m
    other_fits no_action ts facts s l k h sc asg wh si na pl ai = tt
    other_fits (one_action (action id place form)) ts facts s l k h sc asg wh si na pl ai =
        form_fits form ts facts s place l k (record {
          typed = let eq = h.typed in cc;
          named = let eq = h.named in cc;
          visible = h.visible;
          kinds = h.kinds;
          indices = h.indices;
          views = h.views;
          forms = h.forms;
          sized = h.sized;
          copies = h.copies;
          numbers = h.numbers;
          placed = h.placed;
          declares_memories = h.declares_memories;
          viewed = h.viewed;
        }) sc asg wh si na pl ai

    part_fits : (part : Actions) (ts : List Turning) (facts : Facts) (s : Scope) (stepped : Bool) → InStep s facts → Knows known p (factors ts) facts s.visible → run.PartSound known rules good p (factors ts) facts s stepped part
        → PartScoped known ts part → PartAssignsInside known (length (factors ts)) part → PartJoinsWhole known (length (factors ts)) part → PartFoldsInJoins part → AreNamedActions part → PartPlain known part → AllInteger known ts → PartFits known p ts part
    part_fits no_actions ts facts s stepped l k h sc asg wh si na pl ai = tt
    part_fits (action_then (action id place form) rest) ts facts s stepped l k h sc asg wh si na pl ai =
        let parts = split_part form rest id place (factors ts) facts s stepped l k h in (
          form_fits form ts facts s place l k parts.first sc.0 asg.0 wh.0 si.0 na.0 pl.0 ai,
          part_fits rest ts (facts_after_form facts form) (past s (action id place form) (at_end s (action id place form))) (stepped || form_holds form) parts.step parts.knows parts.behind sc.1 asg.1 wh.1 si.1 na.1 pl.1 ai,
        )

    groups_fit : (gs : Groups) (ts : List Turning) (facts : Facts) (s : Scope) → InStep s facts → Knows known p (factors ts) facts s.visible → run.GroupsSound known rules good p (factors ts) facts s gs
        → GroupsScoped known ts gs → GroupsAssignInside known (length (factors ts)) gs → GroupsJoinWhole known (length (factors ts)) gs → GroupsFoldInJoins gs → AreNamedGroups gs → GroupsPlain known gs → AllInteger known ts → GroupsFit known p ts gs
    groups_fit no_groups ts facts s l k h sc asg wh si na pl ai = tt
    groups_fit (group_then part rest) ts facts s l k h sc asg wh si na pl ai =
        let parts = split_groups part rest (factors ts) facts s l k h in (
          part_fits part ts facts s false l k parts.first sc.0 asg.0 wh.0 si.0 na.0 pl.0 ai,
          groups_fit rest ts (facts_after_actions facts part) (actions_at_end s part) parts.step parts.knows parts.behind sc.1 asg.1 wh.1 si.1 na.1 pl.1 ai,
        )

    -- reducers that join copies
    joins_fit : (m : MaybeAction) (ts : List Turning) (facts : Facts) (s : Scope) → InStep s facts → Knows known p (factors ts) facts s.visible → run.OtherSound known rules good p (factors ts) facts s m
        → OtherScoped known ts m → OtherReducesWhole known (length (factors ts)) m → JoinsFolds m → OtherPlain known m → AllInteger known ts → OtherOnlyFolds (FoldFits known p) ts m
    joins_fit no_action ts facts s l k h sc wh fo pl ai = tt
    joins_fit (one_action (action id place form)) ts facts s l k h sc wh fo pl ai =
        fold_fits form ts facts s place l k (record {
          typed = let eq = h.typed in cc;
          named = let eq = h.named in cc;
          visible = h.visible;
          kinds = h.kinds;
          indices = h.indices;
          views = h.views;
          forms = h.forms;
          sized = h.sized;
          copies = h.copies;
          numbers = h.numbers;
          placed = h.placed;
          declares_memories = h.declares_memories;
          viewed = h.viewed;
        }) sc wh fo pl ai

    fold_fits : (f : ActionForm) (ts : List Turning) (facts : Facts) (s : Scope) (place : Place) → InStep s facts → Knows known p (factors ts) facts s.visible → run.IsSound known rules good p (factors ts) facts s place f
        → FormScoped known ts f → FormReducesWhole known (length (factors ts)) f → FormFoldsOnly f → FormPlain known f → AllInteger known ts → FormOnlyFolds (FoldFits known p) ts f
    fold_fits (reduces target o value) ts facts s place l k h sc wh fo pl ai =
        let typed : typed_term facts (for_numbers (target_kind (fact_of facts target))) value ≡ value = let eq = h.typed in cc in
        let resolved : resolved_term s.visible value ≡ value = let eq = h.named in cc in
        let same : used s.visible target ≡ target = let eq = h.named in cc in
        let name = name_known known p (factors ts) facts s.visible target k same (first_none (unknown s.visible target) _ h.visible) in
        let below = second_none (target_breaches (fact_of facts target) target.place) _ h.kinds in
        let side = second_none (reducer_kind_breaches (target_kind (fact_of facts target)) (found value) target.place) _ below in
        let v = right ts facts s _ value ai k (for_numbers_sized _ (target_sized known p (factors ts) facts target name)) typed resolved
        (second_none (unknown s.visible target) _ h.visible)
        (second_none (assigned_breaches (target_kind (fact_of facts target)) (found value) (place_of value)) _ side) h.indices h.views h.sized sc in
        let t = target_known known p (factors ts) facts target name (first_none (target_breaches (fact_of facts target) target.place) _ h.kinds) in (
          (v.1, target_in ts 0 facts target t pl.0 (none_least (depth_of known target))),
          (
            (pl.1, wh),
            can_reduce target.place (kind_of known target) (target_kind (fact_of facts target)) t.kind value v.0.kind t.is (bound_is known p (factors ts) target t.number t.kind t.entity t.stands) v.0.is
                t.stands.sized (v.0.operand 0).sized
                (first_none (reducer_kind_breaches (target_kind (fact_of facts target)) (found value) target.place) _ below)
                (first_none (assigned_breaches (target_kind (fact_of facts target)) (found value) (place_of value)) _ side),
          ),
        )
    fold_fits (blocks body) ts facts s place l k h sc wh fo pl ai =
        fold_groups_fit body ts facts s l k (record {
          typed = let eq = h.typed in cc;
          named = let eq = h.named in cc;
          visible = h.visible;
          kinds = h.kinds;
          indices = h.indices;
          views = h.views;
          forms = h.forms;
          sized = h.sized;
          copies = h.copies;
          numbers = h.numbers;
          placed = h.placed;
          declares_memories = h.declares_memories;
          viewed = h.viewed;
        }) sc wh fo pl ai
    fold_fits (lets name declared value) ts facts s place l k h sc wh fo pl ai = elim fo [ ]
    fold_fits (lets_memory name shape shape_places value) ts facts s place l k h sc wh fo pl ai = elim fo [ ]
    fold_fits (views name parent form) ts facts s place l k h sc wh fo pl ai = elim fo [ ]
    fold_fits (assigns target value) ts facts s place l k h sc wh fo pl ai = elim fo [ ]
    fold_fits (stores target value) ts facts s place l k h sc wh fo pl ai = elim fo [ ]
    fold_fits (calls function arguments) ts facts s place l k h sc wh fo pl ai = elim fo [ ]
    fold_fits (decides test chosen other) ts facts s place l k h sc wh fo pl ai = elim fo [ ]
    fold_fits (repeats test body) ts facts s place l k h sc wh fo pl ai = elim fo [ ]
    fold_fits (counts iterator declared low high factor body combine combine_place) ts facts s place l k h sc wh fo pl ai = elim fo [ ]

    fold_groups_fit : (gs : Groups) (ts : List Turning) (facts : Facts) (s : Scope) → InStep s facts → Knows known p (factors ts) facts s.visible → run.GroupsSound known rules good p (factors ts) facts s gs
        → GroupsScoped known ts gs → GroupsReduceWhole known (length (factors ts)) gs → GroupsFoldOnly gs → GroupsPlain known gs → AllInteger known ts → GroupsOnlyFold (FoldFits known p) ts gs
    fold_groups_fit no_groups ts facts s l k h sc wh fo pl ai = tt
    fold_groups_fit (group_then part rest) ts facts s l k h sc wh fo pl ai =
        let parts = split_groups part rest (factors ts) facts s l k h in (
          fold_part_fits part ts facts s false l k parts.first sc.0 wh.0 fo.0 pl.0 ai,
          fold_groups_fit rest ts (facts_after_actions facts part) (actions_at_end s part) parts.step parts.knows parts.behind sc.1 wh.1 fo.1 pl.1 ai,
        )

    fold_part_fits : (part : Actions) (ts : List Turning) (facts : Facts) (s : Scope) (stepped : Bool) → InStep s facts → Knows known p (factors ts) facts s.visible → run.PartSound known rules good p (factors ts) facts s stepped part
        → PartScoped known ts part → PartReducesWhole known (length (factors ts)) part → PartFoldsOnly part → PartPlain known part → AllInteger known ts → PartOnlyFolds (FoldFits known p) ts part
    fold_part_fits no_actions ts facts s stepped l k h sc wh fo pl ai = tt
    fold_part_fits (action_then (action id place form) rest) ts facts s stepped l k h sc wh fo pl ai =
        let parts = split_part form rest id place (factors ts) facts s stepped l k h in (
          fold_fits form ts facts s place l k parts.first sc.0 wh.0 fo.0 pl.0 ai,
          fold_part_fits rest ts (facts_after_form facts form) (past s (action id place form) (at_end s (action id place form))) (stepped || form_holds form) parts.step parts.knows parts.behind sc.1 wh.1 fo.1 pl.1 ai,
        )
