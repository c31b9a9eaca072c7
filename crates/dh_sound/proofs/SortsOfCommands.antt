-- In a command of a checked program each access is of a memory, and each assignment goes to a variable that is declared
-- inside all the unrolled loops round it. By recursion over commands, with what each visible name stands for at each
-- point of the text: a declaration of a variable has the depth of the point; inside a loop of several copies only
-- what is declared there is numbered from its iterator on, and the rule on outer writes lets nothing else be assigned
-- to. A view keeps its offsets as deep as it stands. Reducers join copies alone, and make no access. Calls are not built.
use Rattle.std.proofs.Common.{◌≡◌, ℕ, ◌≤◌, nat_lt, true, false, List, [], ◌∷◌, ◌++◌, length, Option, Some, refl, sym, ◌∙◌, ap, subst, arith, inl}
use Rattle.std.specs.Option.{option_map}
use Rattle.dh_value.specs.declared.kinds.Kind.{Kind}
use Rattle.dh_tree.specs.declared.trees.programs.Sort.TheVariants as sort
use Rattle.dh_tree.specs.Breaches.{unknown, twice, term_breaches, maybe_value_breaches, breaches, form_breaches, other_breaches, actions_breaches, groups_breaches}
use Rattle.dh_tree.specs.KindBreaches.{term_kind_breaches, assigned_breaches, parent_breaches, truth_breaches, condition_breaches, target_breaches, iterator_breaches, low_breaches, high_breaches, action_kind_breaches, action_form_kind_breaches, other_kind_breaches, actions_kind_breaches, groups_kind_breaches}
use Rattle.dh_tree.specs.Kinds.{of_iterator, of_memory, Facts, fact_of, found, place_of, target_kind, variable_fact, view_dims, view_fact, iterator_kind, facts_after, facts_after_form, facts_after_other, facts_after_actions, facts_after_groups}
use Rattle.dh_tree.specs.Memories.{Memory, memories_of, locals, form_locals, other_locals, part_locals, groups_locals}
use Rattle.dh_tree.specs.PlainTrees.{converted, applied, in_bank, accessed, named, truth_value, number, term, Term, Action, action, ActionForm, lets, lets_memory, views, assigns, stores, reduces, calls, blocks, decides, repeats, counts, MaybeAction, no_action, one_action, Actions, no_actions, action_then, Groups, no_groups, group_then, Program}
use Rattle.dh_tree.specs.Ready.{IsReady}
use Rattle.dh_tree.specs.Seen.{terms}
use Rattle.dh_tree.specs.ViewOffsets.{offsets_of}
use Rattle.dh_tree.specs.Breaches as names
use Rattle.dh_tree.specs.Resolved.{resolved_plan, resolved_term, resolved_action, resolved_form, resolved_other, resolved_actions, resolved_groups}
use Rattle.dh_tree.specs.Scopes.{entity_of, bind, Scope, declare, leave, past, at_end, form_at_end, other_at_end, actions_at_end, groups_at_end}
use Rattle.dh_tree.proofs.EmptyLists.{first_none, second_none}
use Rattle.dh_meaning.specs.Bindings.{depth_inside, binding_in, depth_bound}
use Rattle.dh_meaning.specs.CoreOf.{known_of, entity_number}
use Rattle.dh_meaning.specs.Sites.{Around, in_arm, in_loop, loop_of}
use Rattle.dh_meets.specs.SourceEvents.{Site, SourceEvent, site_of, source_term_events, maybe_events, events, command_events, other_events, groups_events, part_events}
use Rattle.dh_sound.specs.AssignsInside.{KeepsInside, AssignsInside, FormAssignsInside, OtherAssignsInside, GroupsAssignInside, PartAssignsInside}
use Rattle.dh_sound.specs.BlockTold.{IsOfMemory}
use Rattle.dh_tree.specs.Placements.{first_inside}
use Rattle.dh_sound.specs.OuterWrites.{SparesOuter, FormSparesOuter, OtherSparesOuter, PartSparesOuter, GroupsSpareOuter}
use Rattle.dh_sound.specs.SimpleForms.{IsVariable, FoldsOnly, FormFoldsOnly, GroupsFoldOnly, PartFoldsOnly, JoinsFolds, FoldsInJoins, FormFoldsInJoins, OtherFoldsInJoins, GroupsFoldInJoins, PartFoldsInJoins}
use Rattle.dh_sound.specs.Trails.{EachAccess}
use Rattle.dh_sound.proofs.DepthsNamed.{size, Deep, FormDeep, OtherDeep, GroupsDeep, PartDeep}
use Rattle.dh_sound.proofs.FactsGrow.{appended, grows, form_grows, InStep, next_in_step, past_in_step, in_step, part_in_step}
use Rattle.dh_sound.proofs.NamedPrograms.{used_stands}
use Rattle.dh_carried.proofs.Pigeons.{Has, has_left, has_right}
use Rattle.dh_sound.proofs.Sites.{each_both}
use Rattle.dh_sound.proofs.SortsOfNames.{memory_found, IsDeepFrom, memory_is, variable_is, iterator_is, AreSorted, later_sorted, all_later, inner_sorted, bind_sorted, next_fact, declared_sorted, past_sorted, let_is, target_inside, term_told, write_told, maybe_told, fact_there, parent_of, terms_told, view_is}
use Rattle.std.proofs.lemmas.Option.{slice_get_within}
use Rattle.dh_meaning.specs.Ways.{ViewSite, Way, all_bindings_of, form_standings, groups_standings, hidden_in, other_standings, part_standings, standings, way_to}
use Rattle.dh_ways.specs.Leading.{LeadsTo}
use Rattle.dh_sound.proofs.Offsets.{offsets_kinds, offsets_named, offsets_visible}
use Rattle.dh_sound.proofs.ViewedWays.{kept_ways_lead}
use Rattle.dh_sound.proofs.ViewsBound.{views_bound}
use Rattle.dh_sound.proofs.ViewsLed.{is_led, keeps_inside}

-- commands lead to a point of the text where names are sorted, with accesses of memories and assignments inside
pub record CommandTold (p : Program) (facts : Facts) (first depth : ℕ) (end : Scope) (es : List SourceEvent) (Inside : Type 0) : Type 0 where
  pub names : AreSorted p facts first depth end.visible
  pub events : EachAccess (IsOfMemory p) es
  pub inside : Inside

module _ (p : Program) (ready : IsReady p) where
  abbrev leads : (entity : Option ℕ) (w : Way) → way_to p entity ≡ Some w → LeadsTo (memories_of p) w
  leads = kept_ways_lead p ready

  -- a variable that is declared has the depth of the point
  let_deep : (r : Option ℕ) (n first d : ℕ) → Some n ≡ r → depth_bound (binding_in (all_bindings_of p) (entity_number r)) ≡ d → IsDeepFrom p first d n
  let_deep r n first d own q l =
      let e : depth_bound (binding_in (all_bindings_of p) n) ≡ d = ap (λ (o : Option ℕ). depth_bound (binding_in (all_bindings_of p) (entity_number o))) own ∙ q in
      omega (arith, e)

  no_less : (x d : ℕ) → x ≡ d → d ≤ x
  no_less x d e = omega (arith, e)

  -- inside a loop
  enters : (facts : Facts) (s : Scope) (first d factor : ℕ) (k : Kind) (name : List ℕ) → InStep s facts → AreSorted p facts first d s.visible
      → depth_bound (binding_in (all_bindings_of p) (size s)) ≡ depth_inside d factor
      → AreSorted p (facts ++ of_iterator k ∷ []) (first_inside first factor (Some (size s))) (depth_inside d factor) (bind s.visible name (size s))
  enters facts s first d factor k name l h q =
      bind_sorted p (facts ++ of_iterator k ∷ []) (first_inside first factor (Some (size s))) (depth_inside d factor) s.visible name (size s)
      (λ other n e. later_sorted p facts (facts ++ of_iterator k ∷ []) (first_inside first factor (Some (size s))) (depth_inside d factor) n (appended facts (of_iterator k ∷ []))
      (inner_sorted (nat_lt 1 factor) p facts first d n (size s) l (h other n e)))
      (iterator_is k (next_fact facts s (of_iterator k) l) (λ m. no_less _ (depth_inside d factor) q))

  -- reducers that join copies make no access
  value_told : (t : Term) (site : Site) → IsVariable t → EachAccess (IsOfMemory p) (source_term_events site t)
  value_told (term place k (named r)) site h = tt
  value_told (term place k (number negative y)) site h = elim h [ ]
  value_told (term place k (truth_value y)) site h = elim h [ ]
  value_told (term place k (accessed r ts)) site h = elim h [ ]
  value_told (term place k (in_bank r bank at t)) site h = elim h [ ]
  value_told (term place k (applied o left right)) site h = elim h [ ]
  value_told (term place k (converted t to)) site h = elim h [ ]

  mutual
    folds_told : (a : Action) (r : Around) → FoldsOnly a → EachAccess (IsOfMemory p) (events r a)
    folds_told (action id place form) r h = form_folds_told form r id h

    form_folds_told : (f : ActionForm) (r : Around) (id : ℕ) → FormFoldsOnly f → EachAccess (IsOfMemory p) (command_events r (site_of r id) f)
    form_folds_told (reduces target o value) r id h = each_both _ (source_term_events (site_of r id) value) _ (value_told value (site_of r id) h) tt
    form_folds_told (blocks body) r id h = groups_folds_told body r h
    form_folds_told (lets name declared value) r id h = elim h [ ]
    form_folds_told (lets_memory name shape shape_places value) r id h = elim h [ ]
    form_folds_told (views name parent form) r id h = elim h [ ]
    form_folds_told (assigns target value) r id h = elim h [ ]
    form_folds_told (stores target value) r id h = elim h [ ]
    form_folds_told (calls function arguments) r id h = elim h [ ]
    form_folds_told (decides test chosen other) r id h = elim h [ ]
    form_folds_told (repeats test body) r id h = elim h [ ]
    form_folds_told (counts iterator declared low high factor body combine combine_place) r id h = elim h [ ]

    groups_folds_told : (gs : Groups) (r : Around) → GroupsFoldOnly gs → EachAccess (IsOfMemory p) (groups_events r gs)
    groups_folds_told no_groups r h = tt
    groups_folds_told (group_then part rest) r h = each_both _ (part_events r part) _ (part_folds_told part r h.0) (groups_folds_told rest r h.1)

    part_folds_told : (part : Actions) (r : Around) → PartFoldsOnly part → EachAccess (IsOfMemory p) (part_events r part)
    part_folds_told no_actions r h = tt
    part_folds_told (action_then a rest) r h = each_both _ (events r a) _ (folds_told a r h.0) (part_folds_told rest r h.1)

  join_told : (m : MaybeAction) (r : Around) → JoinsFolds m → EachAccess (IsOfMemory p) (other_events r m)
  join_told no_action r h = tt
  join_told (one_action a) r h = folds_told a r h

  mutual
    pub told : (a : Action) (facts : Facts) (s : Scope) (r : Around) (first d : ℕ) → InStep s facts → AreSorted p facts first d s.visible
        → resolved_action s a ≡ a → breaches s a ≡ [] → action_kind_breaches facts a ≡ [] → FoldsInJoins a → SparesOuter first a → Deep (all_bindings_of p) d a → ((m : Memory) → Has m (locals a) → Has m (memories_of p))
        → ((y : ViewSite) → Has y (standings d a) → Has y (standings 0 p.body)) → CommandTold p (facts_after facts a) first d (at_end s a) (events r a) (AssignsInside (known_of p) d a)
    told (action id place form) facts s r first d l k e v b x o q w z =
        let same : resolved_form s form ≡ form = cc in
        form_told form facts s r id first d l k same v b x o q w z

    form_told : (f : ActionForm) (facts : Facts) (s : Scope) (r : Around) (id first d : ℕ) → InStep s facts → AreSorted p facts first d s.visible
        → resolved_form s f ≡ f → form_breaches s f ≡ [] → action_form_kind_breaches facts f ≡ [] → FormFoldsInJoins f → FormSparesOuter first f → FormDeep (all_bindings_of p) d f → ((m : Memory) → Has m (form_locals f) → Has m (memories_of p))
        → ((y : ViewSite) → Has y (form_standings d f) → Has y (standings 0 p.body)) → CommandTold p (facts_after_form facts f) first d (form_at_end s f) (command_events r (site_of r id) f) (FormAssignsInside (known_of p) d f)
    form_told (lets name declared value) facts s r id first d l k e v b x o q w z =
        let own : Some (size s) ≡ name.entity = cc in
        let right : option_map (resolved_term s.visible) value ≡ value = cc in
        let fact = let_is declared value in
        record {
          names = declared_sorted p facts s name sort.Variable (variable_fact declared value) first d k
              (variable_is fact.0 (next_fact facts s (variable_fact declared value) l ∙ ap Some fact.1) (let_deep name.entity (size s) first d own q));
          events = each_both _ (maybe_events (site_of r id) value) _ (maybe_told p leads facts first d s.visible k (site_of r id) declared value right (first_none (maybe_value_breaches s.visible value) _ v) b) tt;
          inside = no_less _ d q;
        }
    form_told (lets_memory name shape shape_places value) facts s r id first d l k e v b x o q w z =
        let own : Some (size s) ≡ name.entity = cc in
        record {
          names = declared_sorted p facts s name sort.Memory (of_memory (Some shape.kind) (length shape.dims)) first d k
              (memory_is (Some shape.kind) (length shape.dims) (next_fact facts s (of_memory (Some shape.kind) (length shape.dims)) l)
              (memory_found (memories_of p) (record { name = name; shape = shape; shape_places = shape_places; outside = false }) (size s) (w _ (inl refl)) (sym own)));
          events = tt;
          inside = tt;
        }
    form_told (views name parent form) facts s r id first d l k e v b x o q w z =
        let own : Some (size s) ≡ name.entity = cc in
        let plan : resolved_plan s.visible form ≡ form = cc in
        let above : entity_of s.visible parent.name ≡ parent.entity = cc in
        let seen = second_none (unknown s.visible parent) _ v in
        let stands = used_stands s.visible parent above (first_none (unknown s.visible parent) _ v) in
        let of = parent_of p leads facts first d parent stands.0 parent.place stands.1 (k parent.name stands.0 (above ∙ stands.1)) (first_none (parent_breaches (fact_of facts parent) parent.place) _ b) in
        let fact : view_fact (fact_of facts parent) form ≡ of_memory of.kind (view_dims form of.dims) = ap (λ o. view_fact o form) (sym (fact_there p leads facts first d parent stands.0 (of_memory of.kind of.dims) stands.1 of.at)) in
        let one : ViewSite = record { name = name; parent = parent; form = form; depth = d } in
        let step : size s ≡ length facts = l in
        let below = slice_get_within facts stands.0 (of_memory of.kind of.dims) of.at in
        let led = is_led p ready one (z one (inl refl)) (size s) stands.0 (sym own) stands.1 (omega (arith, below, step)) of.named in
        let way : way_to p name.entity ≡ Some led.way = ap (λ o. way_to p o) (sym own) ∙ led.found in
        record {
          names = declared_sorted p facts s name sort.View (view_fact (fact_of facts parent) form) first d k
              (view_is of.kind (view_dims form of.dims) (next_fact facts s (view_fact (fact_of facts parent) form) l ∙ ap Some fact) (led.way, led.found));
          events = terms_told p leads facts first d s.visible k (site_of r id) (terms (offsets_of form)) (offsets_named s.visible form plan) (offsets_visible s.visible form ∙ first_none (names.plan_name_breaches s.visible form) _ seen)
              (offsets_kinds facts form ∙ second_none (parent_breaches (fact_of facts parent) parent.place) _ b);
          inside = subst (λ (o : Option Way). KeepsInside (known_of p) d (hidden_in o) (length (offsets_of form))) (sym way)
              (keeps_inside p d led.first (offsets_of form) led.rest led.way.hidden led.hidden ((views_bound p ready).kept name.entity led.way way));
        }
    form_told (assigns target value) facts s r id first d l k e v b x o q w z =
        let left : entity_of s.visible target.name ≡ target.entity = cc in
        let right : resolved_term s.visible value ≡ value = cc in
        let stands = used_stands s.visible target left (first_none (unknown s.visible target) _ v) in
        record {
          names = k;
          events = each_both _ (source_term_events (site_of r id) value) _
              (term_told p leads facts first d s.visible k (site_of r id) value right (second_none (unknown s.visible target) _ v)
              (second_none (assigned_breaches (target_kind (fact_of facts target)) (found value) (place_of value)) _ (second_none (target_breaches (fact_of facts target) target.place) _ b))) tt;
          inside = target_inside p leads facts first d target stands.0 stands.1 (k target.name stands.0 (left ∙ stands.1)) (first_none (target_breaches (fact_of facts target) target.place) _ b) o;
        }
    form_told (stores target value) facts s r id first d l k e v b x o q w z =
        let left : resolved_term s.visible target ≡ target = cc in
        let right : resolved_term s.visible value ≡ value = cc in
        record {
          names = k;
          events = each_both _ (source_term_events (site_of r id) value) _
              (term_told p leads facts first d s.visible k (site_of r id) value right (second_none (term_breaches s.visible target) _ v)
              (second_none (assigned_breaches (found target) (found value) (place_of value)) _ (second_none (term_kind_breaches facts target) _ b)))
              (write_told p leads facts first d s.visible k (site_of r id) target left (first_none (term_breaches s.visible target) _ v) (first_none (term_kind_breaches facts target) _ b));
          inside = tt;
        }
    form_told (reduces target op value) facts s r id first d l k e v b x o q w z = elim x [ ]
    form_told (calls function arguments) facts s r id first d l k e v b x o q w z = elim x [ ]
    form_told (blocks body) facts s r id first d l k e v b x o q w z = groups_told body facts s r first d l k (let f = e in cc) v b x o q w z
    form_told (decides test chosen other) facts s r id first d l k e v b x o q w z =
        let inner : Scope = leave s (at_end s chosen) in
        let test_same : resolved_term s.visible test ≡ test = cc in
        let first_same : resolved_action s chosen ≡ chosen = cc in
        let second_same : resolved_other inner other ≡ other = cc in
        let seen = second_none (term_breaches s.visible test) _ v in
        let kinds = second_none (condition_breaches facts test) _ b in
        let one = told chosen facts s (in_arm r id true) first d l k first_same (first_none (breaches s chosen) _ seen) (first_none (action_kind_breaches facts chosen) _ kinds) x.0
        o.0 q.0 (λ m h. w m (has_left m (locals chosen) (other_locals other) h)) (λ y h. z y (has_left y (standings d chosen) (other_standings d other) h)) in
        let two = other_told other (facts_after facts chosen) inner (in_arm r id false) first d (in_step s facts chosen l) (all_later p facts (facts_after facts chosen) first d s.visible (grows facts chosen) k)
        second_same (second_none (breaches s chosen) _ seen) (second_none (action_kind_breaches facts chosen) _ kinds) x.1
        o.1 q.1 (λ m h. w m (has_right m (locals chosen) (other_locals other) h)) (λ y h. z y (has_right y (standings d chosen) (other_standings d other) h)) in
        record {
          names = all_later p facts (facts_after_other (facts_after facts chosen) other) first d s.visible (form_grows facts (decides test chosen other)) k;
          events = each_both _ (source_term_events (site_of r id) test) _
              (term_told p leads facts first d s.visible k (site_of r id) test test_same (first_none (term_breaches s.visible test) _ v)
              (second_none (truth_breaches (found test) (place_of test)) _ (first_none (condition_breaches facts test) _ b)))
              (each_both _ (events (in_arm r id true) chosen) _ one.events two.events);
          inside = (one.inside, two.inside);
        }
    form_told (repeats test body) facts s r id first d l k e v b x o q w z =
        let test_same : resolved_term s.visible test ≡ test = cc in
        let body_same : resolved_action s body ≡ body = cc in
        let one = told body facts s r first d l k body_same (second_none (term_breaches s.visible test) _ v) (second_none (condition_breaches facts test) _ b) x o q w z in
        record {
          names = all_later p facts (facts_after facts body) first d s.visible (grows facts body) k;
          events = each_both _ (source_term_events (site_of r id) test) _
              (term_told p leads facts first d s.visible k (site_of r id) test test_same (first_none (term_breaches s.visible test) _ v)
              (second_none (truth_breaches (found test) (place_of test)) _ (first_none (condition_breaches facts test) _ b)))
              one.events;
          inside = one.inside;
        }
    form_told (counts iterator declared low high factor body combine combine_place) facts s r id first d l k e v b x o q w z =
        let j : Kind = iterator_kind declared in
        let more : Facts = facts ++ of_iterator (iterator_kind declared) ∷ [] in
        let inner : Scope = declare s iterator sort.Iterator in
        let own : Some (size s) ≡ iterator.entity = cc in
        let same : resolved_action (declare s iterator sort.Iterator) body ≡ body = cc in
        let seen = second_none (twice s.visible iterator) _ v in
        let kinds = second_none (high_breaches j low high) _ (second_none (low_breaches j low) _ (second_none (iterator_breaches iterator j) _ b)) in
        let deep : depth_bound (binding_in (all_bindings_of p) (size s)) ≡ depth_inside d factor.value =
        ap (λ (o : Option ℕ). depth_bound (binding_in (all_bindings_of p) (entity_number o))) own ∙ (ap depth_bound q.0.bound ∙ q.0.depth_is) in
        let sorted : AreSorted p (facts ++ of_iterator (iterator_kind declared) ∷ []) (first_inside first factor.value iterator.entity) (depth_inside d factor.value) (declare s iterator sort.Iterator).visible =
        subst (λ (i : Option ℕ). AreSorted p (facts ++ of_iterator (iterator_kind declared) ∷ []) (first_inside first factor.value i) (depth_inside d factor.value) (declare s iterator sort.Iterator).visible) own
        (enters facts s first d factor.value (iterator_kind declared) iterator.name l k deep) in
        let one = told body (facts ++ of_iterator (iterator_kind declared) ∷ []) (declare s iterator sort.Iterator) (in_loop r (loop_of iterator low high factor)) (first_inside first factor.value iterator.entity) (depth_inside d factor.value)
        (next_in_step s facts iterator sort.Iterator (of_iterator (iterator_kind declared)) l) sorted same (first_none (breaches inner body) _ seen) (first_none (action_kind_breaches more body) _ kinds) x.0 o.0 q.1.0
        (λ m h. w m (has_left m (locals body) (other_locals combine) h))
        (λ y h. z y (has_left y (standings (depth_inside d factor.value) body) (other_standings (depth_inside d factor.value) combine) h)) in
        record {
          names = all_later p facts (facts_after_other (facts_after (facts ++ of_iterator (iterator_kind declared) ∷ []) body) combine) first d s.visible (form_grows facts (counts iterator declared low high factor body combine combine_place)) k;
          events = each_both _ (events (in_loop r (loop_of iterator low high factor)) body) _ one.events (join_told combine (in_loop r (loop_of iterator low high factor)) x.1);
          inside = (one.inside, x.1);
        }

    other_told : (m : MaybeAction) (facts : Facts) (s : Scope) (r : Around) (first d : ℕ) → InStep s facts → AreSorted p facts first d s.visible
        → resolved_other s m ≡ m → other_breaches s m ≡ [] → other_kind_breaches facts m ≡ [] → OtherFoldsInJoins m → OtherSparesOuter first m → OtherDeep (all_bindings_of p) d m → ((x : Memory) → Has x (other_locals m) → Has x (memories_of p))
        → ((y : ViewSite) → Has y (other_standings d m) → Has y (standings 0 p.body)) → CommandTold p (facts_after_other facts m) first d (other_at_end s m) (other_events r m) (OtherAssignsInside (known_of p) d m)
    other_told no_action facts s r first d l k e v b x o q w z = record { names = k; events = tt; inside = tt }
    other_told (one_action a) facts s r first d l k e v b x o q w z = let same : resolved_action s a ≡ a = cc in told a facts s r first d l k same v b x o q w z

    part_told : (part : Actions) (facts : Facts) (s : Scope) (r : Around) (first d : ℕ) → InStep s facts → AreSorted p facts first d s.visible
        → resolved_actions s part ≡ part → actions_breaches s part ≡ [] → actions_kind_breaches facts part ≡ [] → PartFoldsInJoins part → PartSparesOuter first part → PartDeep (all_bindings_of p) d part
        → ((m : Memory) → Has m (part_locals part) → Has m (memories_of p))
        → ((y : ViewSite) → Has y (part_standings d part) → Has y (standings 0 p.body)) → CommandTold p (facts_after_actions facts part) first d (actions_at_end s part) (part_events r part) (PartAssignsInside (known_of p) d part)
    part_told no_actions facts s r first d l k e v b x o q w z = record { names = k; events = tt; inside = tt }
    part_told (action_then a rest) facts s r first d l k e v b x o q w z =
        let after : Scope = past s a (at_end s a) in
        let first_same : resolved_action s a ≡ a = cc in
        let second_same : resolved_actions after rest ≡ rest = cc in
        let one = told a facts s r first d l k first_same (first_none (breaches s a) _ v) (first_none (action_kind_breaches facts a) _ b) x.0 o.0 q.0
        (λ m h. w m (has_left m (locals a) (part_locals rest) h)) (λ y h. z y (has_left y (standings d a) (part_standings d rest) h)) in
        let two = part_told rest (facts_after facts a) (past s a (at_end s a)) r first d (past_in_step s (at_end s a) (facts_after facts a) a (in_step s facts a l))
        (past_sorted p (facts_after facts a) first d s a (all_later p facts (facts_after facts a) first d s.visible (grows facts a) k) one.names)
        second_same (second_none (breaches s a) _ v) (second_none (action_kind_breaches facts a) _ b) x.1 o.1 q.1
        (λ m h. w m (has_right m (locals a) (part_locals rest) h)) (λ y h. z y (has_right y (standings d a) (part_standings d rest) h)) in
        record { names = two.names; events = each_both _ (events r a) _ one.events two.events; inside = (one.inside, two.inside) }

    groups_told : (gs : Groups) (facts : Facts) (s : Scope) (r : Around) (first d : ℕ) → InStep s facts → AreSorted p facts first d s.visible
        → resolved_groups s gs ≡ gs → groups_breaches s gs ≡ [] → groups_kind_breaches facts gs ≡ [] → GroupsFoldInJoins gs → GroupsSpareOuter first gs → GroupsDeep (all_bindings_of p) d gs
        → ((m : Memory) → Has m (groups_locals gs) → Has m (memories_of p))
        → ((y : ViewSite) → Has y (groups_standings d gs) → Has y (standings 0 p.body)) → CommandTold p (facts_after_groups facts gs) first d (groups_at_end s gs) (groups_events r gs) (GroupsAssignInside (known_of p) d gs)
    groups_told no_groups facts s r first d l k e v b x o q w z = record { names = k; events = tt; inside = tt }
    groups_told (group_then part rest) facts s r first d l k e v b x o q w z =
        let first_same : resolved_actions s part ≡ part = cc in
        let second_same : resolved_groups (actions_at_end s part) rest ≡ rest = cc in
        let one = part_told part facts s r first d l k first_same (first_none (actions_breaches s part) _ v) (first_none (actions_kind_breaches facts part) _ b) x.0 o.0 q.0
        (λ m h. w m (has_left m (part_locals part) (groups_locals rest) h)) (λ y h. z y (has_left y (part_standings d part) (groups_standings d rest) h)) in
        let two = groups_told rest (facts_after_actions facts part) (actions_at_end s part) r first d (part_in_step s facts part l) one.names
        second_same (second_none (actions_breaches s part) _ v) (second_none (actions_kind_breaches facts part) _ b) x.1 o.1 q.1
        (λ m h. w m (has_right m (part_locals part) (groups_locals rest) h)) (λ y h. z y (has_right y (part_standings d part) (groups_standings d rest) h)) in
        record { names = two.names; events = each_both _ (part_events r part) _ one.events two.events; inside = (one.inside, two.inside) }
