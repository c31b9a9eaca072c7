-- A command of a typed program that breaks no rule on names, kinds, indices, bounds or views, exceeds no limit on copies, and
-- has no call, can be run inside the loops round it. By recursion over the tree, with what is known of the names
-- that are visible at each point of the text: a declaration makes its own name known, inside the factors of the loops
-- round it, and a loop its iterator, inside its own factor too.
use Rattle.std.proofs.Common.{◌≡◌, ℕ, ◌*◌, ◌<◌, ◌&&◌, ◌||◌, inl, inr, Bool, false, if◌then◌else◌, List, [], ◌∷◌, ◌++◌, length, Option, Some, None, option_map, refl, ap, sym, ◌∙◌, subst, arith}
use Rattle.std.specs.List.{AllByRecursion}
use Rattle.std.proofs.lemmas.Option.{slice_get_within}
use Rattle.dh_base.specs.declared.limits.Limit.TheVariants as limit
use Rattle.dh_base.specs.declared.places.Place.{Place}
use Rattle.dh_value.specs.declared.kinds.Kind.{Kind}
use Rattle.dh_tree.specs.declared.breaches.Breach.{Breach}
use Rattle.dh_tree.specs.declared.trees.expressions.Ref.{Ref}
use Rattle.dh_tree.specs.declared.trees.programs.Sort.TheVariants.{Variable, Iterator, Memory, View}
use Rattle.dh_tree.specs.Breaches as names
use Rattle.dh_tree.specs.Breaches.{unknown, twice, term_breaches, maybe_value_breaches, form_breaches, other_breaches, actions_breaches, groups_breaches}
use Rattle.dh_tree.specs.Excesses.{excess_at, form_copies_excess, other_copies_excess, groups_copies_excess, part_copies_excess}
use Rattle.dh_tree.specs.Forms.{unbuilt, form_holds, unbuilt_form, unbuilt_other, unbuilt_groups, unbuilt_part}
use Rattle.dh_tree.specs.Indices.{shape_breaches, term_index_breaches, turns_breaches, action_form_index_breaches, other_index_breaches, actions_index_breaches, groups_index_breaches}
use Rattle.dh_tree.specs.KindBreaches.{term_kind_breaches, assigned_breaches, truth_breaches, condition_breaches, target_breaches, reducer_kind_breaches, parent_breaches, iterator_breaches, low_breaches, high_breaches, action_form_kind_breaches, other_kind_breaches, actions_kind_breaches, groups_kind_breaches}
use Rattle.dh_tree.specs.Kinds.{Fact, of_variable, of_iterator, of_memory, of_function, Facts, fact_of, found, place_of, for_numbers, target_kind, variable_fact, iterator_kind, facts_after_form, facts_after_other, facts_after_actions, facts_after_groups, typed_term, typed_maybe, typed_plan, view_dims, view_fact, typed_action_form, typed_other, typed_actions, typed_groups}
use Rattle.dh_tree.specs.Memories.{memory_in}
use Rattle.dh_tree.specs.PlainTrees.{Term, ViewPlan, action, ActionForm, lets, lets_memory, views, assigns, stores, reduces, calls, blocks, decides, repeats, counts, MaybeAction, no_action, one_action, Actions, no_actions, action_then, Groups, no_groups, group_then}
use Rattle.dh_tree.specs.Resolved.{used, declares, resolved_plan, resolved_term, resolved_form, resolved_other, resolved_actions, resolved_groups}
use Rattle.dh_tree.specs.Scopes.{Scope, declare, leave, past, at_end, form_at_end, other_at_end, actions_at_end, groups_at_end}
use Rattle.dh_tree.specs.TextNumbers.{FormHasTextNumbers, OtherHasTextNumbers, GroupsHaveTextNumbers, PartHasTextNumbers}
use Rattle.dh_tree.specs.ViewBreaches.{action_form_view_breaches, groups_view_breaches, other_view_breaches, part_view_breaches, term_view_breaches}
use Rattle.dh_tree.specs.ViewOffsets.{offsets_of}
use Rattle.dh_tree.specs.Widths.{IsSized, AreSized, FormSized, OtherSized, ActionsSized, GroupsSized}
use Rattle.dh_tree.proofs.ShapeRules.{shape_without}
use Rattle.dh_runnable.proofs.TypedParts.{for_numbers_sized}
use Rattle.dh_tree.proofs.EmptyLists.{first_none, second_none, not_none}
use Rattle.dh_meaning.specs.Bindings.{let_kind}
use Rattle.dh_meaning.specs.CoreOf.{Known}
use Rattle.dh_sound.proofs.FactsGrow.{form_grows, InStep, next_in_step, past_in_step, form_in_step, part_in_step}
use Rattle.dh_runnable.specs.ActionsRun.{FormRuns, OtherRuns, GroupsRun, PartRuns}
use Rattle.dh_sound.proofs.Offsets.{offsets_kinds, offsets_named, offsets_sized, offsets_typed, offsets_visible}
use Rattle.dh_code.specs.Declarations.{Factored, factors_inside, form_factored, groups_factored, other_factored, part_factored}
use Rattle.dh_code.specs.Ranks.{copies_in}
use Rattle.dh_code.specs.Slots.{Placing}
use Rattle.dh_runnable.proofs.DeclarationsFound.{FormPlaced, OtherPlaced, GroupsPlaced, PartPlaced}
use Rattle.dh_runnable.proofs.MemoriesFound.{FormDeclares, OtherDeclares, GroupsDeclare, PartDeclares}
use Rattle.dh_runnable.proofs.NamesKnown.{IsGood, IsNamed, Knows, fact_is, knows_more, name_known, still_known, declared_known, past_known, target_sized}
use Rattle.dh_runnable.proofs.SidesRun.{maybe_known, let_good, let_runs, iterator_good, target_known, assign_runs, store_runs, fold_runs, test_runs}
use Rattle.dh_runnable.proofs.TermsSuited.{indexed, IsKnown, judged, known_sized, offsets_known, term_known}
use Rattle.dh_runnable.proofs.ViewsFound.{IsViewed}
use Rattle.dh_runnable.proofs.ViewsKnown.{AreGoodWays, Rules}
use Rattle.dh_runnable.proofs.ViewsLead.{ViewLeads, view_of_memory, view_of_view}
use Rattle.dh_runnable.proofs.TurnsCounted.{first_within, second_within, KeepsTurns, turns_kept, copies_inside, can_turn}

module _ (known : Known) (rules : Rules) (good : AreGoodWays known rules.views) (p : Placing) where
  -- views where they stand
  abbrev pub AreViewed : List Factored → Type 0
  AreViewed fs = AllByRecursion (λ f. IsViewed known.memories known.ways p f) fs

  pub first_viewed : (fs gs : List Factored) → AreViewed (fs ++ gs) → AreViewed fs
  first_viewed [] gs h = tt
  first_viewed (f ∷ fs) gs h = (h.0, first_viewed fs gs h.1)

  pub second_viewed : (fs gs : List Factored) → AreViewed (fs ++ gs) → AreViewed gs
  second_viewed [] gs h = h
  second_viewed (f ∷ fs) gs h = second_viewed fs gs h.1

  -- commands lead from one point of the text to another: names are known there, and the commands can be run
  pub record Leads (loops : List ℕ) (later : Facts) (end : Scope) (Runs : Type 0) : Type 0 where
    pub knows : Knows known p loops later end.visible
    pub runs : Runs

  -- a command that breaks no rule and exceeds no limit, of which the forms are built and the declarations found
  pub record IsSound (loops : List ℕ) (facts : Facts) (s : Scope) (place : Place) (f : ActionForm) : Type 0 where
    pub typed : typed_action_form facts f ≡ f
    pub named : resolved_form s f ≡ f
    pub visible : form_breaches s f ≡ []
    pub kinds : action_form_kind_breaches facts f ≡ []
    pub indices : action_form_index_breaches (indexed known rules) f ≡ []
    pub views : action_form_view_breaches (judged known rules) f ≡ []
    pub forms : unbuilt_form place f ≡ []
    pub sized : FormSized f
    pub copies : form_copies_excess (copies_in loops) f ≡ None
    pub numbers : FormHasTextNumbers f
    pub placed : FormPlaced known p loops f
    pub declares_memories : FormDeclares known.memories f
    pub viewed : AreViewed (form_factored loops f)

  pub record OtherSound (loops : List ℕ) (facts : Facts) (s : Scope) (m : MaybeAction) : Type 0 where
    pub typed : typed_other facts m ≡ m
    pub named : resolved_other s m ≡ m
    pub visible : other_breaches s m ≡ []
    pub kinds : other_kind_breaches facts m ≡ []
    pub indices : other_index_breaches (indexed known rules) m ≡ []
    pub views : other_view_breaches (judged known rules) m ≡ []
    pub forms : unbuilt_other m ≡ []
    pub sized : OtherSized m
    pub copies : other_copies_excess (copies_in loops) m ≡ None
    pub numbers : OtherHasTextNumbers m
    pub placed : OtherPlaced known p loops m
    pub declares_memories : OtherDeclares known.memories m
    pub viewed : AreViewed (other_factored loops m)

  pub record PartSound (loops : List ℕ) (facts : Facts) (s : Scope) (stepped : Bool) (part : Actions) : Type 0 where
    pub typed : typed_actions facts part ≡ part
    pub named : resolved_actions s part ≡ part
    pub visible : actions_breaches s part ≡ []
    pub kinds : actions_kind_breaches facts part ≡ []
    pub indices : actions_index_breaches (indexed known rules) part ≡ []
    pub views : part_view_breaches (judged known rules) part ≡ []
    pub forms : unbuilt_part stepped part ≡ []
    pub sized : ActionsSized part
    pub copies : part_copies_excess (copies_in loops) part ≡ None
    pub numbers : PartHasTextNumbers part
    pub placed : PartPlaced known p loops part
    pub declares_memories : PartDeclares known.memories part
    pub viewed : AreViewed (part_factored loops part)

  pub record GroupsSound (loops : List ℕ) (facts : Facts) (s : Scope) (gs : Groups) : Type 0 where
    pub typed : typed_groups facts gs ≡ gs
    pub named : resolved_groups s gs ≡ gs
    pub visible : groups_breaches s gs ≡ []
    pub kinds : groups_kind_breaches facts gs ≡ []
    pub indices : groups_index_breaches (indexed known rules) gs ≡ []
    pub views : groups_view_breaches (judged known rules) gs ≡ []
    pub forms : unbuilt_groups gs ≡ []
    pub sized : GroupsSized gs
    pub copies : groups_copies_excess (copies_in loops) gs ≡ None
    pub numbers : GroupsHaveTextNumbers gs
    pub placed : GroupsPlaced known p loops gs
    pub declares_memories : GroupsDeclare known.memories gs
    pub viewed : AreViewed (groups_factored loops gs)

  -- an expression for a place of this kind
  right_known : (loops : List ℕ) (facts : Facts) (s : Scope) (want : Option Kind) (t : Term) → Knows known p loops facts s.visible → IsSized want → typed_term facts want t ≡ t → resolved_term s.visible t ≡ t
      → term_breaches s.visible t ≡ [] → term_kind_breaches facts t ≡ [] → term_index_breaches (indexed known rules) t ≡ [] → term_view_breaches (judged known rules) t ≡ [] → AreSized t → IsKnown known p loops t
  right_known loops facts s want t k w e n v b i x z = term_known known p loops rules good facts s.visible k want w t e (record { named = n; visible = v; kinds = b; indices = i; views = x; sized = z })

  -- what is told of a view whose parent is known
  pub record ViewTold (loops : List ℕ) (facts : Facts) (s : Scope) (name parent : Ref) (form : ViewPlan) (n : ℕ) : Type 0 where
    pub here : n ≡ length s.entities
    pub kind : Option Kind
    pub dims : ℕ
    pub is : fact_of facts parent ≡ Some (of_memory kind dims)
    pub leads : ViewLeads known p loops name parent form n kind dims

  pub view_told : (loops : List ℕ) (facts : Facts) (s : Scope) (name parent : Ref) (form : ViewPlan) → InStep s facts → (n : IsNamed known p loops facts parent)
      → parent_breaches (fact_of facts parent) parent.place ≡ [] → name.entity ≡ Some (length s.entities) → memory_in known.memories name.entity ≡ None → (v : IsViewed known.memories known.ways p (record { name = name; parent = parent; form = form; factors = loops }))
      → AllByRecursion (λ t. IsKnown known p loops t) (offsets_of form) → ViewTold loops facts s name parent form v.number
  view_told loops facts s name parent form l n e number alone v offsets = by n.stands.fact (fact_is known p loops facts parent n) n.stands.good (ap (λ x. parent_breaches x parent.place) (sym (fact_is known p loops facts parent n)) ∙ e)
    where
      one : (a b : ℕ) → Some a ≡ Some b → a ≡ b
      one a b f = cc

      here : v.number ≡ length s.entities
      here = one v.number (length s.entities) (sym v.named ∙ number)

      less : n.number < v.number
      less = let within = slice_get_within facts n.number n.stands.fact n.stands.is in omega (arith, within, here, l)

      no_memory : memory_in known.memories (Some v.number) ≡ None
      no_memory = ap (memory_in known.memories) (sym v.named) ∙ alone

      told : (kind : Option Kind) (dims : ℕ) → fact_of facts parent ≡ Some (of_memory kind dims) → ViewLeads known p loops name parent form v.number kind dims → ViewTold loops facts s name parent form v.number
      told kind dims is t = record { here = here; kind = kind; dims = dims; is = is; leads = t }

      by : (f : Fact) → fact_of facts parent ≡ Some f → IsGood known p loops n.number f → parent_breaches (Some f) parent.place ≡ [] → ViewTold loops facts s name parent form v.number
      by (of_variable kind) is g b = not_none _ _ b
      by (of_iterator kind) is g b = not_none _ _ b
      by (of_function parameters) is g b = not_none _ _ b
      by (of_memory kind dims) is (inl g) b = told kind dims is (view_of_memory known p loops rules.views good name parent form v n.number kind dims no_memory n.entity less g offsets)
      by (of_memory kind dims) is (inr g) b = told kind dims is (view_of_view known p loops rules.views good name parent form v n.number kind dims no_memory n.entity less g offsets)

  -- names behind a view
  view_leads : (loops : List ℕ) (facts : Facts) (s : Scope) (name parent : Ref) (form : ViewPlan) (n : ℕ) → InStep s facts → Knows known p loops facts s.visible → ViewTold loops facts s name parent form n
      → Leads loops (facts ++ view_fact (fact_of facts parent) form ∷ []) (declare s name View) (FormRuns known p loops (views name parent form))
  view_leads loops facts s name parent form n l k t = record {
    knows = declared_known known p loops facts s name View (view_fact (fact_of facts parent) form) l k
        (subst (λ (o : Option Fact). IsGood known p loops (length s.entities) (view_fact o form)) (sym t.is)
        (subst (λ (m : ℕ). IsGood known p loops m (of_memory t.kind (view_dims form t.dims))) t.here (inr t.leads.view)));
    runs = t.leads.runs;
  }

  mutual
    pub form_leads : (f : ActionForm) (loops : List ℕ) (facts : Facts) (s : Scope) (place : Place) → InStep s facts → Knows known p loops facts s.visible → IsSound loops facts s place f
        → Leads loops (facts_after_form facts f) (form_at_end s f) (FormRuns known p loops f)
    form_leads (lets name declared value) loops facts s place l k h =
        let typed : typed_maybe facts declared value ≡ value = let eq = h.typed in cc in
        let right : option_map (resolved_term s.visible) value ≡ value = let eq = h.named in cc in
        let same : declares s name ≡ name = let eq = h.named in cc in
        let number : name.entity ≡ Some (length s.entities) = sym (ap (λ (r : Ref). r.entity) same) in
        let v = maybe_known known p loops rules good facts s.visible declared value k h.sized.0 typed right (first_none (maybe_value_breaches s.visible value) _ h.visible) h.kinds h.indices h.views h.sized.1 in
        record {
          knows = declared_known known p loops facts s name Variable (variable_fact declared value) l k (let_good known p loops name (length s.entities) declared value number h.sized.0 v h.placed);
          runs = let_runs known p loops name (let_kind declared value) declared value h.sized.0 v h.placed;
        }
    form_leads (lets_memory name shape shape_places value) loops facts s place l k h =
        let same : declares s name ≡ name = let eq = h.named in cc in
        let number : name.entity ≡ Some (length s.entities) = sym (ap (λ (r : Ref). r.entity) same) in
        record {
          knows = declared_known known p loops facts s name Memory (of_memory (Some shape.kind) (length shape.dims)) l k (inl (record {
            memory = record { name = name; shape = shape; shape_places = shape_places; outside = false };
            is = ap (memory_in known.memories) (sym number) ∙ h.declares_memories;
            kind = refl;
            long = refl;
            sized = h.sized.0;
            keeps = shape_without shape shape_places (first_none (shape_breaches shape shape_places) _ h.indices);
          }));
          runs = tt;
        }
    form_leads (views name parent form) loops facts s place l k h =
        let plan_typed : typed_plan facts form ≡ form = let eq = h.typed in cc in
        let plan_named : resolved_plan s.visible form ≡ form = let eq = h.named in cc in
        let above : used s.visible parent ≡ parent = let eq = h.named in cc in
        let same : declares s name ≡ name = let eq = h.named in cc in
        let number : name.entity ≡ Some (length s.entities) = sym (ap (λ (r : Ref). r.entity) same) in
        let below = second_none (unknown s.visible parent) _ h.visible in
        let offsets = offsets_known known p loops rules good facts s.visible k (offsets_of form) (offsets_typed facts form plan_typed) (offsets_named s.visible form plan_named)
        (offsets_visible s.visible form ∙ first_none (names.plan_name_breaches s.visible form) _ below) (offsets_kinds facts form ∙ second_none (parent_breaches (fact_of facts parent) parent.place) _ h.kinds) h.views (offsets_sized form h.sized) in
        view_leads loops facts s name parent form h.viewed.0.number l k
        (view_told loops facts s name parent form l (name_known known p loops facts s.visible parent k above (first_none (unknown s.visible parent) _ h.visible))
        (first_none (parent_breaches (fact_of facts parent) parent.place) _ h.kinds) number h.declares_memories h.viewed.0 offsets)
    form_leads (assigns target value) loops facts s place l k h =
        let typed : typed_term facts (for_numbers (target_kind (fact_of facts target))) value ≡ value = let eq = h.typed in cc in
        let right : resolved_term s.visible value ≡ value = let eq = h.named in cc in
        let same : used s.visible target ≡ target = let eq = h.named in cc in
        let name = name_known known p loops facts s.visible target k same (first_none (unknown s.visible target) _ h.visible) in
        let v = right_known loops facts s _ value k (for_numbers_sized _ (target_sized known p loops facts target name)) typed right
        (second_none (unknown s.visible target) _ h.visible)
        (second_none (assigned_breaches (target_kind (fact_of facts target)) (found value) (place_of value)) _ (second_none (target_breaches (fact_of facts target) target.place) _ h.kinds))
        h.indices h.views h.sized in
        record { knows = k; runs = assign_runs known p loops facts target value (target_known known p loops facts target name (first_none (target_breaches (fact_of facts target) target.place) _ h.kinds)) v }
    form_leads (stores target value) loops facts s place l k h =
        let first : typed_term facts None target ≡ target = let eq = h.typed in cc in
        let second : typed_term facts (for_numbers (found (typed_term facts None target))) value ≡ value = let eq = h.typed in cc in
        let first_same : resolved_term s.visible target ≡ target = let eq = h.named in cc in
        let second_same : resolved_term s.visible value ≡ value = let eq = h.named in cc in
        let t = right_known loops facts s None target k tt first first_same (first_none (term_breaches s.visible target) _ h.visible) (first_none (term_kind_breaches facts target) _ h.kinds)
        (first_none (term_index_breaches (indexed known rules) target) _ h.indices) (first_none (term_view_breaches (judged known rules) target) _ h.views) h.sized.0 in
        let sized : IsSized (found (typed_term facts None target)) = subst (λ (t : Term). IsSized (found t)) (sym first) (known_sized known p loops target t) in
        let v = right_known loops facts s _ value k (for_numbers_sized _ sized) second second_same
        (second_none (term_breaches s.visible target) _ h.visible)
        (second_none (assigned_breaches (found target) (found value) (place_of value)) _ (second_none (term_kind_breaches facts target) _ h.kinds))
        (second_none (term_index_breaches (indexed known rules) target) _ h.indices) (second_none (term_view_breaches (judged known rules) target) _ h.views) h.sized.1 in
        record { knows = k; runs = store_runs known p loops target value t v }
    form_leads (reduces target o value) loops facts s place l k h =
        let typed : typed_term facts (for_numbers (target_kind (fact_of facts target))) value ≡ value = let eq = h.typed in cc in
        let right : resolved_term s.visible value ≡ value = let eq = h.named in cc in
        let same : used s.visible target ≡ target = let eq = h.named in cc in
        let name = name_known known p loops facts s.visible target k same (first_none (unknown s.visible target) _ h.visible) in
        let below = second_none (target_breaches (fact_of facts target) target.place) _ h.kinds in
        let side = second_none (reducer_kind_breaches (target_kind (fact_of facts target)) (found value) target.place) _ below in
        let v = right_known loops facts s _ value k (for_numbers_sized _ (target_sized known p loops facts target name)) typed right
        (second_none (unknown s.visible target) _ h.visible)
        (second_none (assigned_breaches (target_kind (fact_of facts target)) (found value) (place_of value)) _ side)
        h.indices h.views h.sized in
        record {
          knows = k;
          runs = fold_runs known p loops facts target o value (target_known known p loops facts target name (first_none (target_breaches (fact_of facts target) target.place) _ h.kinds)) v h.numbers
              (first_none (reducer_kind_breaches (target_kind (fact_of facts target)) (found value) target.place) _ below)
              (first_none (assigned_breaches (target_kind (fact_of facts target)) (found value) (place_of value)) _ side);
        }
    form_leads (calls function arguments) loops facts s place l k h = not_none _ _ h.forms
    form_leads (blocks body) loops facts s place l k h =
        groups_lead body loops facts s l k (record {
          typed = let eq = h.typed in cc;
          named = let eq = h.named in cc;
          visible = h.visible;
          kinds = h.kinds;
          indices = h.indices;
          views = h.views;
          viewed = h.viewed;
          forms = h.forms;
          sized = h.sized;
          copies = h.copies;
          numbers = h.numbers;
          placed = h.placed;
          declares_memories = h.declares_memories;
        })
    form_leads (decides test (action chosen_id chosen_place chosen) other) loops facts s place l k h =
        let test_typed : typed_term facts None test ≡ test = let eq = h.typed in cc in
        let test_named : resolved_term s.visible test ≡ test = let eq = h.named in cc in
        let chosen_typed : typed_action_form facts chosen ≡ chosen = let eq = h.typed in cc in
        let chosen_named : resolved_form s chosen ≡ chosen = let eq = h.named in cc in
        let other_typed : typed_other (facts_after_form facts (typed_action_form facts chosen)) other ≡ other = let eq = h.typed in cc in
        let other_named : resolved_other (leave s (form_at_end s chosen)) other ≡ other = let eq = h.named in cc in
        let visible = second_none (term_breaches s.visible test) _ h.visible in
        let kinds = second_none (condition_breaches facts test) _ h.kinds in
        let indices = second_none (term_index_breaches (indexed known rules) test) _ h.indices in
        let seen = second_none (term_view_breaches (judged known rules) test) _ h.views in
        let truth = first_none (condition_breaches facts test) _ h.kinds in
        let t = right_known loops facts s None test k tt test_typed test_named (first_none (term_breaches s.visible test) _ h.visible)
        (second_none (truth_breaches (found test) (place_of test)) _ truth) (first_none (term_index_breaches (indexed known rules) test) _ h.indices) (first_none (term_view_breaches (judged known rules) test) _ h.views) h.sized.0 in
        let first = form_leads chosen loops facts s chosen_place l k (record {
          typed = chosen_typed;
          named = chosen_named;
          visible = first_none (form_breaches s chosen) _ visible;
          kinds = first_none (action_form_kind_breaches facts chosen) _ kinds;
          indices = first_none (action_form_index_breaches (indexed known rules) chosen) _ indices;
          views = first_none (action_form_view_breaches (judged known rules) chosen) _ seen;
          viewed = first_viewed (form_factored loops chosen) (other_factored loops other) h.viewed;
          forms = first_none (unbuilt_form chosen_place chosen) _ h.forms;
          sized = h.sized.1.0;
          copies = first_within (form_copies_excess (copies_in loops) chosen) _ h.copies;
          numbers = h.numbers.0;
          placed = h.placed.0;
          declares_memories = h.declares_memories.0;
        }) in
        let second = other_leads other loops (facts_after_form facts chosen) (leave s (form_at_end s chosen)) (form_in_step s facts chosen l)
        (still_known known p loops facts (facts_after_form facts chosen) s.visible (form_grows facts chosen) k) (record {
          typed = subst (λ (f : ActionForm). typed_other (facts_after_form facts f) other ≡ other) chosen_typed other_typed;
          named = other_named;
          visible = second_none (form_breaches s chosen) _ visible;
          kinds = second_none (action_form_kind_breaches facts chosen) _ kinds;
          indices = second_none (action_form_index_breaches (indexed known rules) chosen) _ indices;
          views = second_none (action_form_view_breaches (judged known rules) chosen) _ seen;
          viewed = second_viewed (form_factored loops chosen) (other_factored loops other) h.viewed;
          forms = second_none (unbuilt_form chosen_place chosen) _ h.forms;
          sized = h.sized.1.1;
          copies = second_within (form_copies_excess (copies_in loops) chosen) _ h.copies;
          numbers = h.numbers.1;
          placed = h.placed.1;
          declares_memories = h.declares_memories.1;
        }) in
        record {
          knows = still_known known p loops facts (facts_after_other (facts_after_form facts chosen) other) s.visible (form_grows facts (decides test (action chosen_id chosen_place chosen) other)) k;
          runs = (test_runs known p loops test t (first_none (truth_breaches (found test) (place_of test)) _ truth), (first.runs, second.runs));
        }
    form_leads (repeats test (action body_id body_place body)) loops facts s place l k h =
        let test_typed : typed_term facts None test ≡ test = let eq = h.typed in cc in
        let test_named : resolved_term s.visible test ≡ test = let eq = h.named in cc in
        let body_typed : typed_action_form facts body ≡ body = let eq = h.typed in cc in
        let body_named : resolved_form s body ≡ body = let eq = h.named in cc in
        let truth = first_none (condition_breaches facts test) _ h.kinds in
        let t = right_known loops facts s None test k tt test_typed test_named (first_none (term_breaches s.visible test) _ h.visible)
        (second_none (truth_breaches (found test) (place_of test)) _ truth) (first_none (term_index_breaches (indexed known rules) test) _ h.indices) (first_none (term_view_breaches (judged known rules) test) _ h.views) h.sized.0 in
        let inner = form_leads body loops facts s body_place l k (record {
          typed = body_typed;
          named = body_named;
          visible = second_none (term_breaches s.visible test) _ h.visible;
          kinds = second_none (condition_breaches facts test) _ h.kinds;
          indices = second_none (term_index_breaches (indexed known rules) test) _ h.indices;
          views = second_none (term_view_breaches (judged known rules) test) _ h.views;
          viewed = h.viewed;
          forms = h.forms;
          sized = h.sized.1;
          copies = h.copies;
          numbers = h.numbers;
          placed = h.placed;
          declares_memories = h.declares_memories;
        }) in
        record {
          knows = still_known known p loops facts (facts_after_form facts body) s.visible (form_grows facts body) k;
          runs = (test_runs known p loops test t (first_none (truth_breaches (found test) (place_of test)) _ truth), inner.runs);
        }
    form_leads (counts iterator declared low high factor (action body_id body_place body) combine combine_place) loops facts s place l k h =
        let more : Facts = facts ++ of_iterator (iterator_kind declared) ∷ [] in
        let inside : Scope = declare s iterator Iterator in
        let round : List ℕ = factors_inside loops factor.value in
        let same : declares s iterator ≡ iterator = let eq = h.named in cc in
        let number : iterator.entity ≡ Some (length s.entities) = sym (ap (λ (r : Ref). r.entity) same) in
        let body_typed : typed_action_form (facts ++ of_iterator (iterator_kind declared) ∷ []) body ≡ body = let eq = h.typed in cc in
        let body_named : resolved_form (declare s iterator Iterator) body ≡ body = let eq = h.named in cc in
        let combine_typed : typed_other (facts_after_form (facts ++ of_iterator (iterator_kind declared) ∷ []) (typed_action_form (facts ++ of_iterator (iterator_kind declared) ∷ []) body)) combine ≡ combine = let eq = h.typed in cc in
        let combine_named : resolved_other (form_at_end (declare s iterator Iterator) body) combine ≡ combine = let eq = h.named in cc in
        let visible = second_none (twice s.visible iterator) _ h.visible in
        let kinds = second_none (high_breaches (iterator_kind declared) low high) _ (second_none (low_breaches (iterator_kind declared) low) _ (second_none (iterator_breaches iterator (iterator_kind declared)) _ h.kinds)) in
        let indices = second_none (turns_breaches low high factor) _ h.indices in
        let keeps : KeepsTurns low high factor = turns_kept low high factor (first_none (turns_breaches low high factor) _ h.indices) in
        let few = first_within (excess_at limit.Copies (copies_in loops * factor.value)) _ h.copies in
        let copies = second_within (excess_at limit.Copies (copies_in loops * factor.value)) _ h.copies in
        let turned : copies_in (factors_inside loops factor.value) ≡ copies_in loops * factor.value = copies_inside loops factor.value keeps.some in
        let step = next_in_step s facts iterator Iterator (of_iterator (iterator_kind declared)) l in
        let known_inside = declared_known known p (factors_inside loops factor.value) facts s iterator Iterator (of_iterator (iterator_kind declared)) l (knows_more known p loops factor.value facts s.visible k)
        (iterator_good known p (factors_inside loops factor.value) iterator (length s.entities) declared number h.sized.0 h.placed.0) in
        let first = form_leads body (factors_inside loops factor.value) (facts ++ of_iterator (iterator_kind declared) ∷ []) (declare s iterator Iterator) body_place step known_inside (record {
          typed = body_typed;
          named = body_named;
          visible = first_none (form_breaches inside body) _ visible;
          kinds = first_none (action_form_kind_breaches more body) _ kinds;
          indices = first_none (action_form_index_breaches (indexed known rules) body) _ indices;
          views = first_none (action_form_view_breaches (judged known rules) body) _ h.views;
          viewed = first_viewed (form_factored (factors_inside loops factor.value) body) (other_factored (factors_inside loops factor.value) combine) h.viewed;
          forms = first_none (unbuilt_form body_place body) _ h.forms;
          sized = h.sized.1.0;
          copies = subst (λ (n : ℕ). form_copies_excess n body ≡ None) (sym turned) (first_within (form_copies_excess (copies_in loops * factor.value) body) _ copies);
          numbers = h.numbers.1.0;
          placed = h.placed.1.0;
          declares_memories = h.declares_memories.0;
        }) in
        let second = other_leads combine (factors_inside loops factor.value) (facts_after_form (facts ++ of_iterator (iterator_kind declared) ∷ []) body) (form_at_end (declare s iterator Iterator) body)
        (form_in_step (declare s iterator Iterator) (facts ++ of_iterator (iterator_kind declared) ∷ []) body step) first.knows (record {
          typed = subst (λ (f : ActionForm). typed_other (facts_after_form (facts ++ of_iterator (iterator_kind declared) ∷ []) f) combine ≡ combine) body_typed combine_typed;
          named = combine_named;
          visible = second_none (form_breaches inside body) _ visible;
          kinds = second_none (action_form_kind_breaches more body) _ kinds;
          indices = second_none (action_form_index_breaches (indexed known rules) body) _ indices;
          views = second_none (action_form_view_breaches (judged known rules) body) _ h.views;
          viewed = second_viewed (form_factored (factors_inside loops factor.value) body) (other_factored (factors_inside loops factor.value) combine) h.viewed;
          forms = second_none (unbuilt_form body_place body) _ h.forms;
          sized = h.sized.1.1;
          copies = subst (λ (n : ℕ). other_copies_excess n combine ≡ None) (sym turned) (second_within (form_copies_excess (copies_in loops * factor.value) body) _ copies);
          numbers = h.numbers.1.1;
          placed = h.placed.1.1;
          declares_memories = h.declares_memories.1;
        }) in
        record {
          knows = still_known known p loops facts (facts_after_other (facts_after_form (facts ++ of_iterator (iterator_kind declared) ∷ []) body) combine) s.visible
              (form_grows facts (counts iterator declared low high factor (action body_id body_place body) combine combine_place)) k;
          runs = (can_turn known p loops iterator low high factor h.placed.0.inside keeps h.numbers.0 few, (first.runs, second.runs));
        }

    pub other_leads : (m : MaybeAction) (loops : List ℕ) (facts : Facts) (s : Scope) → InStep s facts → Knows known p loops facts s.visible → OtherSound loops facts s m
        → Leads loops (facts_after_other facts m) (other_at_end s m) (OtherRuns known p loops m)
    other_leads no_action loops facts s l k h = record { knows = k; runs = tt }
    other_leads (one_action (action id place form)) loops facts s l k h =
        let a = form_leads form loops facts s place l k (record {
          typed = let eq = h.typed in cc;
          named = let eq = h.named in cc;
          visible = h.visible;
          kinds = h.kinds;
          indices = h.indices;
          views = h.views;
          viewed = h.viewed;
          forms = h.forms;
          sized = h.sized;
          copies = h.copies;
          numbers = h.numbers;
          placed = h.placed;
          declares_memories = h.declares_memories;
        }) in
        record { knows = a.knows; runs = a.runs }

    pub part_leads : (part : Actions) (loops : List ℕ) (facts : Facts) (s : Scope) (stepped : Bool) → InStep s facts → Knows known p loops facts s.visible → PartSound loops facts s stepped part
        → Leads loops (facts_after_actions facts part) (actions_at_end s part) (PartRuns known p loops part)
    part_leads no_actions loops facts s stepped l k h = record { knows = k; runs = tt }
    part_leads (action_then (action id place form) rest) loops facts s stepped l k h =
        let typed : typed_action_form facts form ≡ form = let eq = h.typed in cc in
        let named : resolved_form s form ≡ form = let eq = h.named in cc in
        let behind : typed_actions (facts_after_form facts (typed_action_form facts form)) rest ≡ rest = let eq = h.typed in cc in
        let behind_named : resolved_actions (past s (action id place form) (at_end s (action id place form))) rest ≡ rest = let eq = h.named in cc in
        let first = form_leads form loops facts s place l k (record {
          typed = typed;
          named = named;
          visible = first_none (form_breaches s form) _ h.visible;
          kinds = first_none (action_form_kind_breaches facts form) _ h.kinds;
          indices = first_none (action_form_index_breaches (indexed known rules) form) _ h.indices;
          views = first_none (action_form_view_breaches (judged known rules) form) _ h.views;
          viewed = first_viewed (form_factored loops form) (part_factored loops rest) h.viewed;
          forms = first_none (unbuilt_form place form) _ h.forms;
          sized = h.sized.0;
          copies = first_within (form_copies_excess (copies_in loops) form) _ h.copies;
          numbers = h.numbers.0;
          placed = h.placed.0;
          declares_memories = h.declares_memories.0;
        }) in
        let again : List Breach = (if stepped && form_holds form then unbuilt place else []) in
        let second = part_leads rest loops (facts_after_form facts form) (past s (action id place form) (at_end s (action id place form))) (stepped || form_holds form)
        (past_in_step s (form_at_end s form) (facts_after_form facts form) (action id place form) (form_in_step s facts form l))
        (past_known known p loops facts s (action id place form) k first.knows) (record {
          typed = subst (λ (f : ActionForm). typed_actions (facts_after_form facts f) rest ≡ rest) typed behind;
          named = behind_named;
          visible = second_none (form_breaches s form) _ h.visible;
          kinds = second_none (action_form_kind_breaches facts form) _ h.kinds;
          indices = second_none (action_form_index_breaches (indexed known rules) form) _ h.indices;
          views = second_none (action_form_view_breaches (judged known rules) form) _ h.views;
          viewed = second_viewed (form_factored loops form) (part_factored loops rest) h.viewed;
          forms = second_none again _ (second_none (unbuilt_form place form) _ h.forms);
          sized = h.sized.1;
          copies = second_within (form_copies_excess (copies_in loops) form) _ h.copies;
          numbers = h.numbers.1;
          placed = h.placed.1;
          declares_memories = h.declares_memories.1;
        }) in
        record { knows = second.knows; runs = (first.runs, second.runs) }

    pub groups_lead : (gs : Groups) (loops : List ℕ) (facts : Facts) (s : Scope) → InStep s facts → Knows known p loops facts s.visible → GroupsSound loops facts s gs
        → Leads loops (facts_after_groups facts gs) (groups_at_end s gs) (GroupsRun known p loops gs)
    groups_lead no_groups loops facts s l k h = record { knows = k; runs = tt }
    groups_lead (group_then part rest) loops facts s l k h =
        let typed : typed_actions facts part ≡ part = let eq = h.typed in cc in
        let named : resolved_actions s part ≡ part = let eq = h.named in cc in
        let behind : typed_groups (facts_after_actions facts (typed_actions facts part)) rest ≡ rest = let eq = h.typed in cc in
        let behind_named : resolved_groups (actions_at_end s part) rest ≡ rest = let eq = h.named in cc in
        let first = part_leads part loops facts s false l k (record {
          typed = typed;
          named = named;
          visible = first_none (actions_breaches s part) _ h.visible;
          kinds = first_none (actions_kind_breaches facts part) _ h.kinds;
          indices = first_none (actions_index_breaches (indexed known rules) part) _ h.indices;
          views = first_none (part_view_breaches (judged known rules) part) _ h.views;
          viewed = first_viewed (part_factored loops part) (groups_factored loops rest) h.viewed;
          forms = first_none (unbuilt_part false part) _ h.forms;
          sized = h.sized.0;
          copies = first_within (part_copies_excess (copies_in loops) part) _ h.copies;
          numbers = h.numbers.0;
          placed = h.placed.0;
          declares_memories = h.declares_memories.0;
        }) in
        let second = groups_lead rest loops (facts_after_actions facts part) (actions_at_end s part) (part_in_step s facts part l) first.knows (record {
          typed = subst (λ (q : Actions). typed_groups (facts_after_actions facts q) rest ≡ rest) typed behind;
          named = behind_named;
          visible = second_none (actions_breaches s part) _ h.visible;
          kinds = second_none (actions_kind_breaches facts part) _ h.kinds;
          indices = second_none (actions_index_breaches (indexed known rules) part) _ h.indices;
          views = second_none (part_view_breaches (judged known rules) part) _ h.views;
          viewed = second_viewed (part_factored loops part) (groups_factored loops rest) h.viewed;
          forms = second_none (unbuilt_part false part) _ h.forms;
          sized = h.sized.1;
          copies = second_within (part_copies_excess (copies_in loops) part) _ h.copies;
          numbers = h.numbers.1;
          placed = h.placed.1;
          declares_memories = h.declares_memories.1;
        }) in
        record { knows = second.knows; runs = (first.runs, second.runs) }
