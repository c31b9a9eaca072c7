-- The iterators of unrolled loops that the indices of any access of a program name are those of loops round it: the
-- walk over commands, with the loops that are still to come behind each.
use Rattle.std.proofs.Common.{◌≡◌, ℕ, ◌+◌, ◌≤◌, true, false, List, [], ◌∷◌, ◌++◌, length, Option, Some, None, option_map, refl, ap, sym, ◌∙◌, subst, arith, length-append, append_assoc}
use Rattle.std.specs.Prelude.{slice_get}
use Rattle.dh_value.specs.declared.kinds.Kind.{Kind}
use Rattle.dh_tree.specs.declared.trees.counters.Counter.{Counter}
use Rattle.dh_tree.specs.declared.trees.expressions.Ref.{Ref}
use Rattle.dh_tree.specs.declared.trees.programs.Entity.{Entity}
use Rattle.dh_tree.specs.declared.trees.programs.Sort.{Sort}
use Rattle.dh_tree.specs.declared.trees.programs.Sort.TheVariants as sort
use Rattle.dh_tree.specs.Counters.{counters, form_counters, other_counters, groups_counters, part_counters}
use Rattle.dh_tree.specs.Kinds.{Fact, of_variable, of_iterator, of_memory, of_function, Facts, fact_of, variable_fact, view_fact, iterator_kind, facts_after, facts_after_form, facts_after_other, facts_after_actions, facts_after_groups}
use Rattle.dh_tree.specs.PlainTrees.{Term, ViewPlan, Action, action, ActionForm, lets, lets_memory, views, assigns, stores, reduces, calls, blocks, decides, repeats, counts, MaybeAction, no_action, one_action, Actions, no_actions, action_then, Groups, no_groups, group_then}
use Rattle.dh_tree.specs.Resolved.{declares, resolved_term, resolved_action, resolved_form, resolved_other, resolved_actions, resolved_groups}
use Rattle.dh_tree.specs.Scopes.{Scope, entity, declare, leave, past, at_end, form_at_end, other_at_end, actions_at_end, groups_at_end}
use Rattle.dh_meaning.specs.Sites.{Around, in_arm, in_loop, loop_of}
use Rattle.dh_meets.specs.SourceEvents.{SourceEvent, assigned, site_of, source_term_events, maybe_events, write_events, events, command_events, other_events, groups_events, part_events}
use Rattle.dh_sound.proofs.FactsGrow.{Extends, added_last, other_grows, part_grows, groups_grow, InStep, next_in_step, past_in_step, in_step, part_in_step}
use Rattle.dh_sound.proofs.IteratorsKnown.{AreKnownIterators}
use Rattle.dh_sound.proofs.RoundLevels.{AreBelow, raised, first_counter, later_counter, Sees, sees_later, NamesRound, IsOther, declared_round, inside_round, inside_below, EventsRound, both_round, term_round, write_round, maybe_round}
use Rattle.dh_tree.specs.Resolved.{resolved_plan}
use Rattle.dh_tree.specs.Seen.{terms}
use Rattle.dh_tree.specs.ViewOffsets.{offsets_of}
use Rattle.dh_sound.proofs.Offsets.{offsets_named}
use Rattle.dh_sound.proofs.RoundLevels.{terms_round}

-- commands lead from one point of the text to another: names stand for iterators of the loops round them or of none,
-- the loops of later entities are those behind, and so it is of the accesses on the way
pub record Tells (cs loops after : List Counter) (s end : Scope) (es : List SourceEvent) : Type 0 where
  pub names : NamesRound cs loops end.visible
  pub sees : Sees cs (length end.entities) after
  pub longer : length s.entities ≤ length end.entities
  pub events : EventsRound cs es

variable_other : (declared : Option Kind) (value : Option Term) → IsOther (variable_fact declared value)
variable_other (Some k) value = tt
variable_other None None = tt
variable_other None (Some t) = tt

view_other : (o : Option Fact) (form : ViewPlan) → IsOther (view_fact o form)
view_other None form = tt
view_other (Some (of_variable k)) form = tt
view_other (Some (of_iterator k)) form = tt
view_other (Some (of_memory k dims)) form = tt
view_other (Some (of_function parameters)) form = tt

past_round : (cs loops : List Counter) (s : Scope) (a : Action) → NamesRound cs loops s.visible → NamesRound cs loops (at_end s a).visible → NamesRound cs loops (past s a (at_end s a)).visible
past_round cs loops s (action id place (blocks body)) h i = h
past_round cs loops s (action id place (lets name declared value)) h i = i
past_round cs loops s (action id place (lets_memory name shape shape_places value)) h i = i
past_round cs loops s (action id place (views name parent form)) h i = i
past_round cs loops s (action id place (assigns target value)) h i = i
past_round cs loops s (action id place (stores target value)) h i = i
past_round cs loops s (action id place (reduces target o value)) h i = i
past_round cs loops s (action id place (calls function arguments)) h i = i
past_round cs loops s (action id place (decides test chosen other)) h i = i
past_round cs loops s (action id place (repeats test body)) h i = i
past_round cs loops s (action id place (counts iterator declared low high factor body combine combine_place)) h i = i

past_entities : (s : Scope) (a : Action) (inside : Scope) → (past s a inside).entities ≡ inside.entities
past_entities s (action id place (blocks body)) inside = refl
past_entities s (action id place (lets name declared value)) inside = refl
past_entities s (action id place (lets_memory name shape shape_places value)) inside = refl
past_entities s (action id place (views name parent form)) inside = refl
past_entities s (action id place (assigns target value)) inside = refl
past_entities s (action id place (stores target value)) inside = refl
past_entities s (action id place (reduces target o value)) inside = refl
past_entities s (action id place (calls function arguments)) inside = refl
past_entities s (action id place (decides test chosen other)) inside = refl
past_entities s (action id place (repeats test body)) inside = refl
past_entities s (action id place (counts iterator declared low high factor body combine combine_place)) inside = refl

regrouped : (cs : List Counter) (k : ℕ) (xs ys after : List Counter) → Sees cs k ((xs ++ ys) ++ after) → Sees cs k (xs ++ (ys ++ after))
regrouped cs k xs ys after h = subst (λ (l : List Counter). Sees cs k l) (append_assoc xs ys after) h

-- it was added at the place of the next number
at_number : (all facts : Facts) (s : Scope) (f : Fact) → InStep s facts → Extends all (facts ++ f ∷ []) → slice_get all (length s.entities) ≡ Some f
at_number all facts s f l x = ap (slice_get all) l ∙ x (length facts) f (added_last facts f)

module _ (all : Facts) (cs : List Counter) (iterators : AreKnownIterators all cs) where
  -- a declaration of what is no iterator
  declaration : (facts : Facts) (s : Scope) (r : Around) (after : List Counter) (name : Ref) (k : Sort) (f : Fact) (es : List SourceEvent) → InStep s facts → Extends all (facts ++ f ∷ []) → IsOther f → NamesRound cs r.loops s.visible → Sees cs (length s.entities) after → EventsRound cs es → Tells cs r.loops after s (declare s name k) es
  declaration facts s r after name k f es l x o h sees e =
      let next : length (s.entities ++ entity name k ∷ []) ≡ length s.entities + 1 = length-append s.entities (entity name k ∷ []) in
      let longer : length s.entities ≤ length (s.entities ++ entity name k ∷ []) = omega (arith, next) in
      record {
        names = declared_round all cs r.loops s name k f iterators (at_number all facts s f l x) o h;
        sees = sees_later cs (length s.entities) (length (s.entities ++ entity name k ∷ [])) after longer sees;
        longer = longer;
        events = e;
      }

  -- a command that declares nothing
  nothing : (s : Scope) (r : Around) (after : List Counter) (es : List SourceEvent) → NamesRound cs r.loops s.visible → Sees cs (length s.entities) after → EventsRound cs es → Tells cs r.loops after s s es
  nothing s r after es h sees e = record { names = h; sees = sees; longer = omega arith; events = e }

  mutual
    pub tells : (facts : Facts) (s : Scope) (r : Around) (after : List Counter) (a : Action) → InStep s facts → Extends all (facts_after facts a) → resolved_action s a ≡ a → NamesRound cs r.loops s.visible → AreBelow (length s.entities) r.loops → Sees cs (length s.entities) (counters a ++ after) → Tells cs r.loops after s (at_end s a) (events r a)
    tells facts s r after (action id place form) l x e h b sees = let named : resolved_form s form ≡ form = cc in form_tells facts s r id after form l x named h b sees

    pub form_tells : (facts : Facts) (s : Scope) (r : Around) (id : ℕ) (after : List Counter) (f : ActionForm) → InStep s facts → Extends all (facts_after_form facts f) → resolved_form s f ≡ f → NamesRound cs r.loops s.visible → AreBelow (length s.entities) r.loops → Sees cs (length s.entities) (form_counters f ++ after) → Tells cs r.loops after s (form_at_end s f) (command_events r (site_of r id) f)
    form_tells facts s r id after (lets name declared value) l x e h b sees =
        let named : option_map (resolved_term s.visible) value ≡ value = cc in
        declaration facts s r after name sort.Variable (variable_fact declared value) _ l x (variable_other declared value) h sees
        (both_round cs (maybe_events (site_of r id) value) (assigned name.entity ∷ []) (maybe_round cs (site_of r id) s.visible h value named) tt)
    form_tells facts s r id after (lets_memory name shape shape_places value) l x e h b sees =
        declaration facts s r after name sort.Memory (of_memory (Some shape.kind) (length shape.dims)) [] l x tt h sees tt
    form_tells facts s r id after (views name parent form) l x e h b sees =
        let plan : resolved_plan s.visible form ≡ form = cc in
        declaration facts s r after name sort.View (view_fact (fact_of facts parent) form) _ l x (view_other (fact_of facts parent) form) h sees
        (terms_round cs (site_of r id) s.visible h (terms (offsets_of form)) (offsets_named s.visible form plan))
    form_tells facts s r id after (assigns target value) l x e h b sees =
        let named : resolved_term s.visible value ≡ value = cc in
        nothing s r after _ h sees (both_round cs (source_term_events (site_of r id) value) (assigned target.entity ∷ []) (term_round cs (site_of r id) s.visible h value named) tt)
    form_tells facts s r id after (stores target value) l x e h b sees =
        let first : resolved_term s.visible target ≡ target = cc in
        let second : resolved_term s.visible value ≡ value = cc in
        nothing s r after _ h sees
        (both_round cs (source_term_events (site_of r id) value) (write_events (site_of r id) target) (term_round cs (site_of r id) s.visible h value second) (write_round cs (site_of r id) s.visible h target first))
    form_tells facts s r id after (reduces target o value) l x e h b sees =
        let named : resolved_term s.visible value ≡ value = cc in
        nothing s r after _ h sees (both_round cs (source_term_events (site_of r id) value) (assigned target.entity ∷ []) (term_round cs (site_of r id) s.visible h value named) tt)
    form_tells facts s r id after (calls function arguments) l x e h b sees = nothing s r after [] h sees tt
    form_tells facts s r id after (blocks body) l x e h b sees = let named : resolved_groups s body ≡ body = cc in groups_tell facts s r after body l x named h b sees
    form_tells facts s r id after (decides test chosen other) l x e h b sees =
        let test_named : resolved_term s.visible test ≡ test = cc in
        let first_named : resolved_action s chosen ≡ chosen = cc in
        let second_named : resolved_other (leave s (at_end s chosen)) other ≡ other = cc in
        let first = tells facts s (in_arm r id true) (other_counters other ++ after) chosen l (λ n f g. x n f (other_grows (facts_after facts chosen) other n f g)) first_named h b
        (regrouped cs (length s.entities) (counters chosen) (other_counters other) after sees) in
        let second = other_tells (facts_after facts chosen) (leave s (at_end s chosen)) (in_arm r id false) after other (in_step s facts chosen l) x second_named h (raised _ _ r.loops first.longer b) first.sees in
        record {
          names = h;
          sees = second.sees;
          longer = let i = first.longer in let j = second.longer in omega (arith, i, j);
          events = both_round cs (source_term_events (site_of r id) test) _ (term_round cs (site_of r id) s.visible h test test_named) (both_round cs (events (in_arm r id true) chosen) _ first.events second.events);
        }
    form_tells facts s r id after (repeats test body) l x e h b sees =
        let test_named : resolved_term s.visible test ≡ test = cc in
        let named : resolved_action s body ≡ body = cc in
        let inner = tells facts s r after body l x named h b sees in
        record {
          names = h;
          sees = inner.sees;
          longer = inner.longer;
          events = both_round cs (source_term_events (site_of r id) test) (events r body) (term_round cs (site_of r id) s.visible h test test_named) inner.events;
        }
    form_tells facts s r id after (counts iterator declared low high factor body combine combine_place) l x e h b sees =
        let c : Counter = loop_of iterator low high factor in
        let name : declares s iterator ≡ iterator = cc in
        let first_named : resolved_action (declare s iterator sort.Iterator) body ≡ body = cc in
        let second_named : resolved_other (at_end (declare s iterator sort.Iterator) body) combine ≡ combine = cc in
        let number : iterator.entity ≡ Some (length s.entities) = sym (ap (λ (q : Ref). q.entity) name) in
        let here : List Counter = (counters body ++ other_counters combine) ++ after in
        let next : length (s.entities ++ entity iterator sort.Iterator ∷ []) ≡ length s.entities + 1 = length-append s.entities (entity iterator sort.Iterator ∷ []) in
        let found = sees (length s.entities) (omega arith) ∙ first_counter (loop_of iterator low high factor) ((counters body ++ other_counters combine) ++ after) (length s.entities) number in
        let behind : Sees cs (length (s.entities ++ entity iterator sort.Iterator ∷ [])) ((counters body ++ other_counters combine) ++ after) =
        λ n i. sees n (omega (arith, next, i)) ∙ later_counter (loop_of iterator low high factor) ((counters body ++ other_counters combine) ++ after) (length s.entities) n number (omega (arith, next, i)) in
        let step = next_in_step s facts iterator sort.Iterator (of_iterator (iterator_kind declared)) l in
        let below = inside_below s r iterator (loop_of iterator low high factor) number b in
        let first = tells (facts ++ of_iterator (iterator_kind declared) ∷ []) (declare s iterator sort.Iterator) (in_loop r (loop_of iterator low high factor)) (other_counters combine ++ after) body step
        (λ n f g. x n f (other_grows (facts_after (facts ++ of_iterator (iterator_kind declared) ∷ []) body) combine n f g)) first_named
        (inside_round cs s r iterator (loop_of iterator low high factor) found number b h) below
        (regrouped cs _ (counters body) (other_counters combine) after behind) in
        let second = other_tells (facts_after (facts ++ of_iterator (iterator_kind declared) ∷ []) body) (at_end (declare s iterator sort.Iterator) body) (in_loop r (loop_of iterator low high factor)) after combine
        (in_step (declare s iterator sort.Iterator) (facts ++ of_iterator (iterator_kind declared) ∷ []) body step) x second_named first.names (raised _ _ (in_loop r (loop_of iterator low high factor)).loops first.longer below) first.sees in
        record {
          names = h;
          sees = second.sees;
          longer = let i = first.longer in let j = second.longer in omega (arith, i, j, next);
          events = both_round cs (events (in_loop r (loop_of iterator low high factor)) body) _ first.events second.events;
        }

    pub other_tells : (facts : Facts) (s : Scope) (r : Around) (after : List Counter) (m : MaybeAction) → InStep s facts → Extends all (facts_after_other facts m) → resolved_other s m ≡ m → NamesRound cs r.loops s.visible → AreBelow (length s.entities) r.loops → Sees cs (length s.entities) (other_counters m ++ after) → Tells cs r.loops after s (other_at_end s m) (other_events r m)
    other_tells facts s r after no_action l x e h b sees = nothing s r after [] h sees tt
    other_tells facts s r after (one_action a) l x e h b sees = let named : resolved_action s a ≡ a = cc in tells facts s r after a l x named h b sees

    pub part_tells : (facts : Facts) (s : Scope) (r : Around) (after : List Counter) (p : Actions) → InStep s facts → Extends all (facts_after_actions facts p) → resolved_actions s p ≡ p → NamesRound cs r.loops s.visible → AreBelow (length s.entities) r.loops → Sees cs (length s.entities) (part_counters p ++ after) → Tells cs r.loops after s (actions_at_end s p) (part_events r p)
    part_tells facts s r after no_actions l x e h b sees = nothing s r after [] h sees tt
    part_tells facts s r after (action_then a rest) l x e h b sees =
        let first_named : resolved_action s a ≡ a = cc in
        let second_named : resolved_actions (past s a (at_end s a)) rest ≡ rest = cc in
        let first = tells facts s r (part_counters rest ++ after) a l (λ n f g. x n f (part_grows (facts_after facts a) rest n f g)) first_named h b
        (regrouped cs (length s.entities) (counters a) (part_counters rest) after sees) in
        let same : length (past s a (at_end s a)).entities ≡ length (at_end s a).entities = ap (λ (es : List Entity). length es) (past_entities s a (at_end s a)) in
        let longer : length s.entities ≤ length (past s a (at_end s a)).entities = (let i = first.longer in omega (arith, i, same)) in
        let second = part_tells (facts_after facts a) (past s a (at_end s a)) r after rest (past_in_step s (at_end s a) (facts_after facts a) a (in_step s facts a l)) x second_named
        (past_round cs r.loops s a h first.names) (raised _ _ r.loops longer b) (subst (λ (k : ℕ). Sees cs k (part_counters rest ++ after)) (sym same) first.sees) in
        record {
          names = second.names;
          sees = second.sees;
          longer = let j = second.longer in omega (arith, longer, j);
          events = both_round cs (events r a) (part_events r rest) first.events second.events;
        }

    pub groups_tell : (facts : Facts) (s : Scope) (r : Around) (after : List Counter) (g : Groups) → InStep s facts → Extends all (facts_after_groups facts g) → resolved_groups s g ≡ g → NamesRound cs r.loops s.visible → AreBelow (length s.entities) r.loops → Sees cs (length s.entities) (groups_counters g ++ after) → Tells cs r.loops after s (groups_at_end s g) (groups_events r g)
    groups_tell facts s r after no_groups l x e h b sees = nothing s r after [] h sees tt
    groups_tell facts s r after (group_then part rest) l x e h b sees =
        let first_named : resolved_actions s part ≡ part = cc in
        let second_named : resolved_groups (actions_at_end s part) rest ≡ rest = cc in
        let first = part_tells facts s r (groups_counters rest ++ after) part l (λ n f g. x n f (groups_grow (facts_after_actions facts part) rest n f g)) first_named h b
        (regrouped cs (length s.entities) (part_counters part) (groups_counters rest) after sees) in
        let second = groups_tell (facts_after_actions facts part) (actions_at_end s part) r after rest (part_in_step s facts part l) x second_named first.names (raised _ _ r.loops first.longer b) first.sees in
        record {
          names = second.names;
          sees = second.sees;
          longer = let i = first.longer in let j = second.longer in omega (arith, i, j);
          events = both_round cs (part_events r part) (groups_events r rest) first.events second.events;
        }
