-- In a command of a typed program that breaks no rule on names or kinds the indices of each access have their kinds,
-- and something good is known of every name that is visible behind it. By recursion over the tree, with what is known
-- at each point of the text.
use Rattle.std.proofs.Common.{◌≡◌, ℕ, ◌⊎◌, inl, inr, Bool, true, false, if◌then◌else◌, List, [], ◌∷◌, ◌++◌, length, Option, Some, None, option_map, ap, sym, ◌∙◌, subst, arith}
use Rattle.std.specs.Str.{bytes_eq}
use Rattle.dh_base.specs.declared.places.Place.{Place}
use Rattle.dh_value.specs.declared.kinds.Kind.{Kind}
use Rattle.dh_value.specs.declared.kinds.Kind.TheVariants as kind
use Rattle.dh_value.specs.Words.{IsKind}
use Rattle.dh_tree.specs.declared.trees.counters.Counter.{Counter}
use Rattle.dh_tree.specs.declared.trees.expressions.Ref.{Ref}
use Rattle.dh_tree.specs.declared.trees.programs.Sort.{Sort}
use Rattle.dh_tree.specs.declared.trees.programs.Sort.TheVariants as sort
use Rattle.dh_tree.specs.Breaches.{unknown, twice, term_breaches, maybe_value_breaches, breaches, form_breaches, other_breaches, actions_breaches, groups_breaches}
use Rattle.dh_tree.specs.KindBreaches.{term_kind_breaches, assigned_breaches, maybe_breaches, truth_breaches, condition_breaches, target_breaches, reducer_kind_breaches, parent_breaches, iterator_breaches, low_breaches, high_breaches, action_kind_breaches, action_form_kind_breaches, other_kind_breaches, actions_kind_breaches, groups_kind_breaches}
use Rattle.dh_tree.specs.Kinds.{Fact, of_variable, of_iterator, of_memory, of_function, Facts, fact_of, found, place_of, for_numbers, target_kind, value_kind, bank_breaches, variable_fact, view_fact, iterator_kind, facts_after, facts_after_form, facts_after_other, facts_after_actions, facts_after_groups, typed_term, typed_maybe, typed_action, typed_action_form, typed_other, typed_actions, typed_groups}
use Rattle.dh_tree.specs.PlainTrees.{Term, ViewPlan, Action, action, ActionForm, lets, lets_memory, views, assigns, stores, reduces, calls, blocks, decides, repeats, counts, MaybeAction, no_action, one_action, Actions, no_actions, action_then, Groups, no_groups, group_then}
use Rattle.dh_tree.specs.Resolved.{used, resolved_term, resolved_action, resolved_form, resolved_other, resolved_actions, resolved_groups}
use Rattle.dh_tree.specs.Scopes.{ScopeEntry, binding, entity_of, is_visible, bind, Scope, declare, leave, past, at_end, form_at_end, other_at_end, actions_at_end, groups_at_end}
use Rattle.dh_tree.specs.Widths.{IsSized, MaybeSized, ActionSized, FormSized, OtherSized, ActionsSized, GroupsSized}
use Rattle.dh_meaning.specs.Sites.{Around, in_arm, in_loop, loop_of}
use Rattle.dh_meets.specs.SourceEvents.{Site, SourceEvent, assigned, source_term_events, maybe_events, write_events, events, command_events, other_events, groups_events, part_events}
use Rattle.dh_sound.proofs.BanksReached.{first_none, second_none}
use Rattle.dh_sound.proofs.FactsGrow.{Extends, appended, added_last, grows, form_grows, other_grows, part_grows, groups_grow, InStep, next_in_step, past_in_step, in_step, part_in_step}
use Rattle.dh_sound.proofs.IteratorsKnown.{AreKnownIterators}
use Rattle.dh_sound.proofs.KindsOfTerms.{no_breach, IsGood, IsKnownName, Knows, IsNamed, name_known, fact_is, for_numbers_sized, number_kind_sized, EventsHave, both_have, write_has, HasKind, kind_sized, term_kinds}
use Rattle.dh_tree.specs.Breaches as names
use Rattle.dh_tree.specs.Kinds.{typed_plan}
use Rattle.dh_tree.specs.Resolved.{resolved_plan}
use Rattle.dh_tree.specs.Seen.{terms}
use Rattle.dh_tree.specs.ViewOffsets.{offsets_of}
use Rattle.dh_sound.proofs.Offsets.{offsets_named, offsets_typed, offsets_visible, offsets_kinds, offsets_sized}
use Rattle.dh_sound.proofs.KindsOfTerms.{terms_kinds}

-- What is known of names.

-- names that are visible before are known behind
pub still_known : (facts later : Facts) (bs : List ScopeEntry) → Extends later facts → Knows facts bs → Knows later bs
still_known facts later bs x k name n e = let h = k name n e in record { fact = h.fact; is = x n h.fact h.is; good = h.good }

last_found : (b : Bool) (m n : ℕ) → (if b then Some m else None) ≡ Some n → m ≡ n
last_found true m n e = cc
last_found false m n e = absurd cc

later_found : (b : Bool) (k m n : ℕ) (old new : Option ℕ) → (if b then Some k else new) ≡ Some n → (new ≡ Some n → (old ≡ Some n) ⊎ (m ≡ n)) → ((if b then Some k else old) ≡ Some n) ⊎ (m ≡ n)
later_found true k m n old new e h = inl e
later_found false k m n old new e h = h e

pub added_found : (bs : List ScopeEntry) (name other : List ℕ) (m n : ℕ) → entity_of (bs ++ binding name m ∷ []) other ≡ Some n → (entity_of bs other ≡ Some n) ⊎ (m ≡ n)
added_found [] name other m n e = inr (last_found (bytes_eq other name) m n e)
added_found (b ∷ bs) name other m n e =
    later_found (bytes_eq other b.name) b.entity m n (entity_of bs other) (entity_of (bs ++ binding name m ∷ []) other) e (added_found bs name other m n)

-- a name that is bound to an entity of which something is known
pub bind_known : (facts : Facts) (bs : List ScopeEntry) (name : List ℕ) (m : ℕ) → Knows facts bs → IsKnownName facts m → Knows facts (bind bs name m)
bind_known facts bs name m k h other n e = either (is_visible bs name) e
  where
    either : (b : Bool) → entity_of (if b then bs else bs ++ binding name m ∷ []) other ≡ Some n → IsKnownName facts n
    either true f = k other n f
    either false f = elim (added_found bs name other m n f) [ inl g ↦ k other n g | inr g ↦ subst (λ (x : ℕ). IsKnownName facts x) g h ]

-- behind a declaration
declared_known : (facts : Facts) (s : Scope) (r : Ref) (k : Sort) (f : Fact) → InStep s facts → Knows facts s.visible → IsGood f → Knows (facts ++ f ∷ []) (declare s r k).visible
declared_known facts s r k f l h g =
    bind_known (facts ++ f ∷ []) s.visible r.name (length s.entities) (still_known facts (facts ++ f ∷ []) s.visible (appended facts (f ∷ [])) h)
    (subst (λ (n : ℕ). IsKnownName (facts ++ f ∷ []) n) (sym l) (record { fact = f; is = added_last facts f; good = g }))

-- behind a command of a list
past_known : (facts : Facts) (s : Scope) (a : Action) → Knows facts s.visible → Knows (facts_after facts a) (at_end s a).visible → Knows (facts_after facts a) (past s a (at_end s a)).visible
past_known facts s (action id place (blocks body)) h i = still_known facts (facts_after facts (action id place (blocks body))) s.visible (groups_grow facts body) h
past_known facts s (action id place (lets name declared value)) h i = i
past_known facts s (action id place (lets_memory name shape shape_places value)) h i = i
past_known facts s (action id place (views name parent form)) h i = i
past_known facts s (action id place (assigns target value)) h i = i
past_known facts s (action id place (stores target value)) h i = i
past_known facts s (action id place (reduces target o value)) h i = i
past_known facts s (action id place (calls function arguments)) h i = i
past_known facts s (action id place (decides test chosen other)) h i = i
past_known facts s (action id place (repeats test body)) h i = i
past_known facts s (action id place (counts iterator declared low high factor body combine combine_place)) h i = i

-- Good facts.

bool_sized : IsKind kind.Bool
bool_sized = (omega arith, omega arith)

iterator_sized : (declared : Option Kind) → IsSized declared → IsKind (iterator_kind declared)
iterator_sized None z = number_kind_sized None tt
iterator_sized (Some k) z = z

good_sized : (f : Fact) → IsGood f → IsSized (value_kind (Some f))
good_sized (of_variable None) g = tt
good_sized (of_variable (Some k)) g = g
good_sized (of_iterator k) g = g
good_sized (of_memory k dims) g = tt
good_sized (of_function parameters) g = tt

target_sized : (facts : Facts) (r : Ref) → IsNamed facts r → IsSized (target_kind (fact_of facts r))
target_sized facts r n = subst (λ (o : Option Fact). IsSized (value_kind o)) (sym (fact_is facts r n)) (good_sized n.known.fact n.known.good)

plain_view_good : (form : ViewPlan) (k : Option Kind) (m n : ℕ) → IsGood (of_memory k m) → IsGood (of_memory k n)
plain_view_good form None m n g = g
plain_view_good form (Some k) m n g = g

-- a view of a memory
view_good : (o : Option Fact) (f : Fact) (place : Place) (form : ViewPlan) → o ≡ Some f → IsGood f → bank_breaches o place ≡ [] → IsGood (view_fact o form)
view_good o f place form at g e = subst (λ (x : Option Fact). IsGood (view_fact x form)) (sym at) (cases f g (ap (λ x. bank_breaches x place) (sym at) ∙ e))
  where
    cases : (f : Fact) → IsGood f → bank_breaches (Some f) place ≡ [] → IsGood (view_fact (Some f) form)
    cases (of_variable k) g e = no_breach _ _ e
    cases (of_iterator k) g e = no_breach _ _ e
    cases (of_function parameters) g e = no_breach _ _ e
    cases (of_memory k dims) g e = plain_view_good form k dims _ g

-- Commands.

-- commands lead from one point of the text to another: names are known there, and indices on the way have their kinds
pub record Leads (cs : List Counter) (later : Facts) (end : Scope) (es : List SourceEvent) : Type 0 where
  pub knows : Knows later end.visible
  pub events : EventsHave cs es

-- a command that breaks no rule on names or kinds
pub record IsSound (facts : Facts) (s : Scope) (f : ActionForm) : Type 0 where
  pub typed : typed_action_form facts f ≡ f
  pub named : resolved_form s f ≡ f
  pub visible : form_breaches s f ≡ []
  pub kinds : action_form_kind_breaches facts f ≡ []
  pub sized : FormSized f

pub record ActionSound (facts : Facts) (s : Scope) (a : Action) : Type 0 where
  pub typed : typed_action facts a ≡ a
  pub named : resolved_action s a ≡ a
  pub visible : breaches s a ≡ []
  pub kinds : action_kind_breaches facts a ≡ []
  pub sized : ActionSized a

pub record OtherSound (facts : Facts) (s : Scope) (m : MaybeAction) : Type 0 where
  pub typed : typed_other facts m ≡ m
  pub named : resolved_other s m ≡ m
  pub visible : other_breaches s m ≡ []
  pub kinds : other_kind_breaches facts m ≡ []
  pub sized : OtherSized m

pub record PartSound (facts : Facts) (s : Scope) (p : Actions) : Type 0 where
  pub typed : typed_actions facts p ≡ p
  pub named : resolved_actions s p ≡ p
  pub visible : actions_breaches s p ≡ []
  pub kinds : actions_kind_breaches facts p ≡ []
  pub sized : ActionsSized p

pub record GroupsSound (facts : Facts) (s : Scope) (g : Groups) : Type 0 where
  pub typed : typed_groups facts g ≡ g
  pub named : resolved_groups s g ≡ g
  pub visible : groups_breaches s g ≡ []
  pub kinds : groups_kind_breaches facts g ≡ []
  pub sized : GroupsSized g

module _ (all : Facts) (cs : List Counter) (iterators : AreKnownIterators all cs) where
  -- a `let`
  record IsLet (site : Site) (declared : Option Kind) (value : Option Term) : Type 0 where
    good : IsGood (variable_fact declared value)
    events : EventsHave cs (maybe_events site value)

  let_known : (site : Site) (facts : Facts) (s : Scope) (declared : Option Kind) (value : Option Term) → Extends all facts → Knows facts s.visible → IsSized declared → typed_maybe facts declared value ≡ value → option_map (resolved_term s.visible) value ≡ value → maybe_value_breaches s.visible value ≡ [] → maybe_breaches facts declared value ≡ [] → MaybeSized value → IsLet site declared value
  let_known site facts s None None x k d e n v b z = record { good = bool_sized; events = tt }
  let_known site facts s (Some j) None x k d e n v b z = record { good = d; events = tt }
  let_known site facts s declared (Some t) x k d e n v b z =
      let typed : typed_term facts (for_numbers declared) t ≡ t = cc in
      let same : resolved_term s.visible t ≡ t = cc in
      let h = term_kinds all cs iterators site facts s.visible x k (for_numbers declared) (for_numbers_sized declared d) t typed (record { named = same; visible = v; kinds = second_none (assigned_breaches declared (found t) (place_of t)) _ b; sized = z }) in
      record { good = by declared d h; events = h.events }
    where
      by : (declared : Option Kind) → IsSized declared → HasKind cs site t → IsGood (variable_fact declared (Some t))
      by None d h = subst (λ (k : Option Kind). IsGood (of_variable k)) (sym h.is) h.sized
      by (Some j) d h = d

  mutual
    pub leads : (facts : Facts) (s : Scope) (r : Around) (a : Action) → InStep s facts → Knows facts s.visible → Extends all (facts_after facts a) → ActionSound facts s a → Leads cs (facts_after facts a) (at_end s a) (events r a)
    leads facts s r (action id place form) l k x h =
        let typed : typed_action_form facts form ≡ form = let eq = h.typed in cc in
        let named : resolved_form s form ≡ form = let eq = h.named in cc in
        form_leads facts s r _ form l k x (record { typed = typed; named = named; visible = h.visible; kinds = h.kinds; sized = h.sized })

    pub form_leads : (facts : Facts) (s : Scope) (r : Around) (site : Site) (f : ActionForm) → InStep s facts → Knows facts s.visible → Extends all (facts_after_form facts f) → IsSound facts s f → Leads cs (facts_after_form facts f) (form_at_end s f) (command_events r site f)
    form_leads facts s r site (lets name declared value) l k x h =
        let typed : typed_maybe facts declared value ≡ value = let eq = h.typed in cc in
        let same : option_map (resolved_term s.visible) value ≡ value = let eq = h.named in cc in
        let v = let_known site facts s declared value (λ n f e. x n f (appended facts (variable_fact declared value ∷ []) n f e)) k h.sized.0 typed same (first_none (maybe_value_breaches s.visible value) _ h.visible) h.kinds h.sized.1 in
        record {
          knows = declared_known facts s name sort.Variable (variable_fact declared value) l k v.good;
          events = both_have cs (maybe_events site value) (assigned name.entity ∷ []) v.events tt;
        }
    form_leads facts s r site (lets_memory name shape shape_places value) l k x h =
        record { knows = declared_known facts s name sort.Memory (of_memory (Some shape.kind) (length shape.dims)) l k h.sized.0; events = tt }
    form_leads facts s r site (views name parent form) l k x h =
        let same : used s.visible parent ≡ parent = let eq = h.named in cc in
        let named = name_known facts s.visible parent k same (first_none (unknown s.visible parent) _ h.visible) in
        let typed : typed_plan facts form ≡ form = let eq = h.typed in cc in
        let plan : resolved_plan s.visible form ≡ form = let eq = h.named in cc in
        let inner = terms_kinds all cs iterators site facts s.visible (λ n f e. x n f (appended facts (view_fact (fact_of facts parent) form ∷ []) n f e)) k (terms (offsets_of form)) (offsets_typed facts form typed) (record {
          named = offsets_named s.visible form plan;
          visible = offsets_visible s.visible form ∙ first_none (names.plan_name_breaches s.visible form) _ (second_none (unknown s.visible parent) _ h.visible);
          kinds = offsets_kinds facts form ∙ second_none (parent_breaches (fact_of facts parent) parent.place) _ h.kinds;
          sized = offsets_sized form h.sized;
        }) in
        record {
          knows = declared_known facts s name sort.View (view_fact (fact_of facts parent) form) l k
              (view_good (fact_of facts parent) named.known.fact parent.place form (fact_is facts parent named) named.known.good (first_none (parent_breaches (fact_of facts parent) parent.place) _ h.kinds));
          events = inner.events;
        }
    form_leads facts s r site (assigns target value) l k x h =
        let typed : typed_term facts (for_numbers (target_kind (fact_of facts target))) value ≡ value = let eq = h.typed in cc in
        let same : resolved_term s.visible value ≡ value = let eq = h.named in cc in
        let name : used s.visible target ≡ target = let eq = h.named in cc in
        let named = name_known facts s.visible target k name (first_none (unknown s.visible target) _ h.visible) in
        let v = term_kinds all cs iterators site facts s.visible x k (for_numbers (target_kind (fact_of facts target))) (for_numbers_sized _ (target_sized facts target named)) value typed (record {
          named = same;
          visible = second_none (unknown s.visible target) _ h.visible;
          kinds = second_none (assigned_breaches (target_kind (fact_of facts target)) (found value) (place_of value)) _ (second_none (target_breaches (fact_of facts target) target.place) _ h.kinds);
          sized = h.sized;
        }) in
        record { knows = k; events = both_have cs (source_term_events site value) (assigned target.entity ∷ []) v.events tt }
    form_leads facts s r site (stores target value) l k x h =
        let first : typed_term facts None target ≡ target = let eq = h.typed in cc in
        let second : typed_term facts (for_numbers (found (typed_term facts None target))) value ≡ value = let eq = h.typed in cc in
        let first_same : resolved_term s.visible target ≡ target = let eq = h.named in cc in
        let second_same : resolved_term s.visible value ≡ value = let eq = h.named in cc in
        let t = term_kinds all cs iterators site facts s.visible x k None tt target first (record {
          named = first_same;
          visible = first_none (term_breaches s.visible target) _ h.visible;
          kinds = first_none (term_kind_breaches facts target) _ h.kinds;
          sized = h.sized.0;
        }) in
        let sized : IsSized (found (typed_term facts None target)) = subst (λ (t : Term). IsSized (found t)) (sym first) (kind_sized cs site target t) in
        let v = term_kinds all cs iterators site facts s.visible x k (for_numbers (found (typed_term facts None target))) (for_numbers_sized _ sized) value second (record {
          named = second_same;
          visible = second_none (term_breaches s.visible target) _ h.visible;
          kinds = second_none (assigned_breaches (found target) (found value) (place_of value)) _ (second_none (term_kind_breaches facts target) _ h.kinds);
          sized = h.sized.1;
        }) in
        record { knows = k; events = both_have cs (source_term_events site value) (write_events site target) v.events (write_has cs site target t.events) }
    form_leads facts s r site (reduces target o value) l k x h =
        let typed : typed_term facts (for_numbers (target_kind (fact_of facts target))) value ≡ value = let eq = h.typed in cc in
        let same : resolved_term s.visible value ≡ value = let eq = h.named in cc in
        let name : used s.visible target ≡ target = let eq = h.named in cc in
        let named = name_known facts s.visible target k name (first_none (unknown s.visible target) _ h.visible) in
        let below = second_none (target_breaches (fact_of facts target) target.place) _ h.kinds in
        let v = term_kinds all cs iterators site facts s.visible x k (for_numbers (target_kind (fact_of facts target))) (for_numbers_sized _ (target_sized facts target named)) value typed (record {
          named = same;
          visible = second_none (unknown s.visible target) _ h.visible;
          kinds = second_none (assigned_breaches (target_kind (fact_of facts target)) (found value) (place_of value)) _ (second_none (reducer_kind_breaches (target_kind (fact_of facts target)) (found value) target.place) _ below);
          sized = h.sized;
        }) in
        record { knows = k; events = both_have cs (source_term_events site value) (assigned target.entity ∷ []) v.events tt }
    form_leads facts s r site (calls function arguments) l k x h = record { knows = k; events = tt }
    form_leads facts s r site (blocks body) l k x h =
        groups_lead facts s r body l k x (record { typed = let eq = h.typed in cc; named = let eq = h.named in cc; visible = h.visible; kinds = h.kinds; sized = h.sized })
    form_leads facts s r site (decides test chosen other) l k x h =
        let test_typed : typed_term facts None test ≡ test = let eq = h.typed in cc in
        let test_named : resolved_term s.visible test ≡ test = let eq = h.named in cc in
        let chosen_typed : typed_action facts chosen ≡ chosen = let eq = h.typed in cc in
        let chosen_named : resolved_action s chosen ≡ chosen = let eq = h.named in cc in
        let other_typed : typed_other (facts_after facts (typed_action facts chosen)) other ≡ other = let eq = h.typed in cc in
        let other_named : resolved_other (leave s (at_end s chosen)) other ≡ other = let eq = h.named in cc in
        let visible = second_none (term_breaches s.visible test) _ h.visible in
        let kinds = second_none (condition_breaches facts test) _ h.kinds in
        let truth = first_none (condition_breaches facts test) _ h.kinds in
        let between : Extends all (facts_after facts chosen) = λ n f e. x n f (other_grows (facts_after facts chosen) other n f e) in
        let t = term_kinds all cs iterators site facts s.visible (λ n f e. between n f (grows facts chosen n f e)) k None tt test test_typed (record {
          named = test_named;
          visible = first_none (term_breaches s.visible test) _ h.visible;
          kinds = second_none (truth_breaches (found test) (place_of test)) _ truth;
          sized = h.sized.0;
        }) in
        let first = leads facts s (in_arm r site.command true) chosen l k between (record {
          typed = chosen_typed;
          named = chosen_named;
          visible = first_none (breaches s chosen) _ visible;
          kinds = first_none (action_kind_breaches facts chosen) _ kinds;
          sized = h.sized.1.0;
        }) in
        let second = other_leads (facts_after facts chosen) (leave s (at_end s chosen)) (in_arm r site.command false) other (in_step s facts chosen l)
        (still_known facts (facts_after facts chosen) s.visible (grows facts chosen) k) x (record {
          typed = subst (λ (a : Action). typed_other (facts_after facts a) other ≡ other) chosen_typed other_typed;
          named = other_named;
          visible = second_none (breaches s chosen) _ visible;
          kinds = second_none (action_kind_breaches facts chosen) _ kinds;
          sized = h.sized.1.1;
        }) in
        record {
          knows = still_known facts (facts_after_other (facts_after facts chosen) other) s.visible (form_grows facts (decides test chosen other)) k;
          events = both_have cs (source_term_events site test) _ t.events (both_have cs (events (in_arm r site.command true) chosen) _ first.events second.events);
        }
    form_leads facts s r site (repeats test body) l k x h =
        let test_typed : typed_term facts None test ≡ test = let eq = h.typed in cc in
        let test_named : resolved_term s.visible test ≡ test = let eq = h.named in cc in
        let body_typed : typed_action facts body ≡ body = let eq = h.typed in cc in
        let body_named : resolved_action s body ≡ body = let eq = h.named in cc in
        let truth = first_none (condition_breaches facts test) _ h.kinds in
        let t = term_kinds all cs iterators site facts s.visible (λ n f e. x n f (grows facts body n f e)) k None tt test test_typed (record {
          named = test_named;
          visible = first_none (term_breaches s.visible test) _ h.visible;
          kinds = second_none (truth_breaches (found test) (place_of test)) _ truth;
          sized = h.sized.0;
        }) in
        let inner = leads facts s r body l k x (record {
          typed = body_typed;
          named = body_named;
          visible = second_none (term_breaches s.visible test) _ h.visible;
          kinds = second_none (condition_breaches facts test) _ h.kinds;
          sized = h.sized.1;
        }) in
        record {
          knows = still_known facts (facts_after facts body) s.visible (grows facts body) k;
          events = both_have cs (source_term_events site test) (events r body) t.events inner.events;
        }
    form_leads facts s r site (counts iterator declared low high factor body combine combine_place) l k x h =
        let j : Kind = iterator_kind declared in
        let more : Facts = facts ++ of_iterator (iterator_kind declared) ∷ [] in
        let inside : Scope = declare s iterator sort.Iterator in
        let body_typed : typed_action (facts ++ of_iterator (iterator_kind declared) ∷ []) body ≡ body = let eq = h.typed in cc in
        let body_named : resolved_action (declare s iterator sort.Iterator) body ≡ body = let eq = h.named in cc in
        let combine_typed : typed_other (facts_after (facts ++ of_iterator (iterator_kind declared) ∷ []) (typed_action (facts ++ of_iterator (iterator_kind declared) ∷ []) body)) combine ≡ combine = let eq = h.typed in cc in
        let combine_named : resolved_other (at_end (declare s iterator sort.Iterator) body) combine ≡ combine = let eq = h.named in cc in
        let visible = second_none (twice s.visible iterator) _ h.visible in
        let kinds = second_none (high_breaches j low high) _ (second_none (low_breaches j low) _ (second_none (iterator_breaches iterator j) _ h.kinds)) in
        let step = next_in_step s facts iterator sort.Iterator (of_iterator (iterator_kind declared)) l in
        let first = leads (facts ++ of_iterator (iterator_kind declared) ∷ []) (declare s iterator sort.Iterator) (in_loop r (loop_of iterator low high factor)) body step
        (declared_known facts s iterator sort.Iterator (of_iterator (iterator_kind declared)) l k (iterator_sized declared h.sized.0))
        (λ n f e. x n f (other_grows (facts_after (facts ++ of_iterator (iterator_kind declared) ∷ []) body) combine n f e)) (record {
          typed = body_typed;
          named = body_named;
          visible = first_none (breaches inside body) _ visible;
          kinds = first_none (action_kind_breaches more body) _ kinds;
          sized = h.sized.1.0;
        }) in
        let second = other_leads (facts_after (facts ++ of_iterator (iterator_kind declared) ∷ []) body) (at_end (declare s iterator sort.Iterator) body) (in_loop r (loop_of iterator low high factor)) combine
        (in_step (declare s iterator sort.Iterator) (facts ++ of_iterator (iterator_kind declared) ∷ []) body step) first.knows x (record {
          typed = subst (λ (a : Action). typed_other (facts_after (facts ++ of_iterator (iterator_kind declared) ∷ []) a) combine ≡ combine) body_typed combine_typed;
          named = combine_named;
          visible = second_none (breaches inside body) _ visible;
          kinds = second_none (action_kind_breaches more body) _ kinds;
          sized = h.sized.1.1;
        }) in
        record {
          knows = still_known facts (facts_after_other (facts_after (facts ++ of_iterator (iterator_kind declared) ∷ []) body) combine) s.visible (form_grows facts (counts iterator declared low high factor body combine combine_place)) k;
          events = both_have cs (events (in_loop r (loop_of iterator low high factor)) body) _ first.events second.events;
        }

    pub other_leads : (facts : Facts) (s : Scope) (r : Around) (m : MaybeAction) → InStep s facts → Knows facts s.visible → Extends all (facts_after_other facts m) → OtherSound facts s m → Leads cs (facts_after_other facts m) (other_at_end s m) (other_events r m)
    other_leads facts s r no_action l k x h = record { knows = k; events = tt }
    other_leads facts s r (one_action a) l k x h =
        let typed : typed_action facts a ≡ a = let eq = h.typed in cc in
        let named : resolved_action s a ≡ a = let eq = h.named in cc in
        leads facts s r a l k x (record { typed = typed; named = named; visible = h.visible; kinds = h.kinds; sized = h.sized })

    pub part_leads : (facts : Facts) (s : Scope) (r : Around) (p : Actions) → InStep s facts → Knows facts s.visible → Extends all (facts_after_actions facts p) → PartSound facts s p → Leads cs (facts_after_actions facts p) (actions_at_end s p) (part_events r p)
    part_leads facts s r no_actions l k x h = record { knows = k; events = tt }
    part_leads facts s r (action_then a rest) l k x h =
        let typed : typed_action facts a ≡ a = let eq = h.typed in cc in
        let named : resolved_action s a ≡ a = let eq = h.named in cc in
        let behind : typed_actions (facts_after facts (typed_action facts a)) rest ≡ rest = let eq = h.typed in cc in
        let behind_named : resolved_actions (past s a (at_end s a)) rest ≡ rest = let eq = h.named in cc in
        let first = leads facts s r a l k (λ n f e. x n f (part_grows (facts_after facts a) rest n f e)) (record {
          typed = typed;
          named = named;
          visible = first_none (breaches s a) _ h.visible;
          kinds = first_none (action_kind_breaches facts a) _ h.kinds;
          sized = h.sized.0;
        }) in
        let second = part_leads (facts_after facts a) (past s a (at_end s a)) r rest (past_in_step s (at_end s a) (facts_after facts a) a (in_step s facts a l)) (past_known facts s a k first.knows) x (record {
          typed = subst (λ (b : Action). typed_actions (facts_after facts b) rest ≡ rest) typed behind;
          named = behind_named;
          visible = second_none (breaches s a) _ h.visible;
          kinds = second_none (action_kind_breaches facts a) _ h.kinds;
          sized = h.sized.1;
        }) in
        record { knows = second.knows; events = both_have cs (events r a) (part_events r rest) first.events second.events }

    pub groups_lead : (facts : Facts) (s : Scope) (r : Around) (g : Groups) → InStep s facts → Knows facts s.visible → Extends all (facts_after_groups facts g) → GroupsSound facts s g → Leads cs (facts_after_groups facts g) (groups_at_end s g) (groups_events r g)
    groups_lead facts s r no_groups l k x h = record { knows = k; events = tt }
    groups_lead facts s r (group_then part rest) l k x h =
        let typed : typed_actions facts part ≡ part = let eq = h.typed in cc in
        let named : resolved_actions s part ≡ part = let eq = h.named in cc in
        let behind : typed_groups (facts_after_actions facts (typed_actions facts part)) rest ≡ rest = let eq = h.typed in cc in
        let behind_named : resolved_groups (actions_at_end s part) rest ≡ rest = let eq = h.named in cc in
        let first = part_leads facts s r part l k (λ n f e. x n f (groups_grow (facts_after_actions facts part) rest n f e)) (record {
          typed = typed;
          named = named;
          visible = first_none (actions_breaches s part) _ h.visible;
          kinds = first_none (actions_kind_breaches facts part) _ h.kinds;
          sized = h.sized.0;
        }) in
        let second = groups_lead (facts_after_actions facts part) (actions_at_end s part) r rest (part_in_step s facts part l) first.knows x (record {
          typed = subst (λ (p : Actions). typed_groups (facts_after_actions facts p) rest ≡ rest) typed behind;
          named = behind_named;
          visible = second_none (actions_breaches s part) _ h.visible;
          kinds = second_none (actions_kind_breaches facts part) _ h.kinds;
          sized = h.sized.1;
        }) in
        record { knows = second.knows; events = both_have cs (part_events r part) (groups_events r rest) first.events second.events }
