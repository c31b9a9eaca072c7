-- In a program that keeps the rules on views no access names a bank and a row of a view. By recursion over the tree: the
-- breaches of a command are those of its accesses, one behind the other.
use Rattle.std.proofs.Common.{◌≡◌, ℕ, zero, suc, Bool, true, false, if◌then◌else◌, List, [], ◌∷◌, ◌++◌, map, refl, ap, ◌∙◌, subst}
use Rattle.std.specs.Prelude.{Option, Some, None, slice_get}
use Rattle.dh_tree.specs.declared.trees.expressions.Ref.{Ref}
use Rattle.dh_tree.specs.declared.viewing.Viewed.{Viewed}
use Rattle.dh_tree.specs.declared.viewing.ViewMap.{ViewMap}
use Rattle.dh_tree.specs.Indices.{access_index_breaches, term_index_breaches}
use Rattle.dh_tree.specs.Memories.{same_entity}
use Rattle.dh_tree.specs.PlainTrees.{Term, term, number, truth_value, named, accessed, in_bank, applied, converted, Terms, no_terms, term_then, Action, action, ActionForm, lets, lets_memory, views, assigns, stores, reduces, calls, blocks, decides, repeats, counts, MaybeAction, no_action, one_action, Actions, no_actions, action_then, Groups, no_groups, group_then, Program}
use Rattle.dh_tree.specs.Seen.{terms}
use Rattle.dh_tree.specs.ViewBreaches.{KnownViews, known_views, dims_through, physical_broken, view_breaches_of, term_view_breaches, terms_view_breaches, maybe_view_breaches, offsets_view_breaches, action_view_breaches, action_form_view_breaches, other_view_breaches, groups_view_breaches, part_view_breaches}
use Rattle.dh_tree.specs.ViewFactors.{factor_breaches_of}
use Rattle.dh_tree.specs.ViewOffsets.{offsets_of}
use Rattle.dh_tree.specs.Views.{view_in}
use Rattle.dh_viewing.proofs.KeptViews.{first_none, second_none}
use Rattle.dh_meaning.specs.Sites.{Around, nothing_around, in_arm, in_loop, loop_of}
use Rattle.dh_meaning.specs.Ways.{Led, way_in, ways_of}
use Rattle.dh_ways.specs.Leading.{viewed_of_led}
use Rattle.dh_ways.proofs.WaysLead.{ways_are_views}
use Rattle.dh_meets.specs.SourceEvents.{Element, with_indices, in_row, Site, SourceAccess, SourceEvent, accesses, assigned, one_access, source_term_events, source_terms_events, maybe_events, write_events, site_of, events, command_events, other_events, groups_events, part_events, accesses_in, trace}

-- a row is of no view
abbrev IsOfNone : List Viewed → (entity : Option ℕ) → Element → Type 0
IsOfNone known entity (with_indices indices) = Unit {0}
IsOfNone known entity (in_row bank row) = view_in known entity ≡ None

abbrev EventsKeep : List Viewed → List SourceEvent → Type 0
EventsKeep known [] = Unit {0}
EventsKeep known (accesses a ∷ es) = IsOfNone known a.entity a.element × EventsKeep known es
EventsKeep known (assigned entity ∷ es) = EventsKeep known es

not_broken : (o : Option ViewMap) (r : Ref) → physical_broken o r ≡ [] → o ≡ None
not_broken None r e = refl
not_broken (Some v) r e = cc

both_keep : (known : List Viewed) (xs ys : List SourceEvent) → EventsKeep known xs → EventsKeep known ys → EventsKeep known (xs ++ ys)
both_keep known [] ys h i = i
both_keep known (accesses a ∷ xs) ys h i = (h.0, both_keep known xs ys h.1 i)
both_keep known (assigned entity ∷ xs) ys h i = both_keep known xs ys h i

module _ (kv : KnownViews) where
  mutual
    term_keeps : (site : Site) (t : Term) → term_view_breaches kv t ≡ [] → EventsKeep kv.views (source_term_events site t)
    term_keeps site (term place k (number negative n)) e = tt
    term_keeps site (term place k (truth_value value)) e = tt
    term_keeps site (term place k (named r)) e = tt
    term_keeps site (term place k (accessed r indices)) e =
        both_keep kv.views (source_terms_events site indices) (one_access place r.entity (with_indices indices) false site)
        (terms_keep site indices (second_none (access_index_breaches kv.names.counters (dims_through (view_in kv.kept r.entity)) indices) (terms_view_breaches kv indices) e)) (tt, tt)
    term_keeps site (term place k (in_bank r bank bank_place row)) e =
        both_keep kv.views (source_term_events site row) (one_access place r.entity (in_row bank row) false site)
        (term_keeps site row (second_none (physical_broken (view_in kv.views r.entity) r) (term_view_breaches kv row) e))
        (not_broken (view_in kv.views r.entity) r (first_none (physical_broken (view_in kv.views r.entity) r) (term_view_breaches kv row) e), tt)
    term_keeps site (term place k (applied o left right)) e =
        both_keep kv.views (source_term_events site left) (source_term_events site right) (term_keeps site left (first_none (term_view_breaches kv left) (term_view_breaches kv right) e))
        (term_keeps site right (second_none (term_view_breaches kv left) (term_view_breaches kv right) e))
    term_keeps site (term place k (converted inner to)) e = term_keeps site inner e

    terms_keep : (site : Site) (ts : Terms) → terms_view_breaches kv ts ≡ [] → EventsKeep kv.views (source_terms_events site ts)
    terms_keep site no_terms e = tt
    terms_keep site (term_then t rest) e =
        both_keep kv.views (source_term_events site t) (source_terms_events site rest) (term_keeps site t (first_none (term_view_breaches kv t) (terms_view_breaches kv rest) e))
        (terms_keep site rest (second_none (term_view_breaches kv t) (terms_view_breaches kv rest) e))

  write_keeps : (site : Site) (t : Term) → term_view_breaches kv t ≡ [] → EventsKeep kv.views (write_events site t)
  write_keeps site (term place k (number negative n)) e = tt
  write_keeps site (term place k (truth_value value)) e = tt
  write_keeps site (term place k (named r)) e = tt
  write_keeps site (term place k (accessed r indices)) e =
      both_keep kv.views (source_terms_events site indices) (one_access place r.entity (with_indices indices) true site)
      (terms_keep site indices (second_none (access_index_breaches kv.names.counters (dims_through (view_in kv.kept r.entity)) indices) (terms_view_breaches kv indices) e)) (tt, tt)
  write_keeps site (term place k (in_bank r bank bank_place row)) e =
      both_keep kv.views (source_term_events site row) (one_access place r.entity (in_row bank row) true site)
      (term_keeps site row (second_none (physical_broken (view_in kv.views r.entity) r) (term_view_breaches kv row) e))
      (not_broken (view_in kv.views r.entity) r (first_none (physical_broken (view_in kv.views r.entity) r) (term_view_breaches kv row) e), tt)
  write_keeps site (term place k (applied o left right)) e = term_keeps site (term place k (applied o left right)) e
  write_keeps site (term place k (converted inner to)) e = term_keeps site inner e

  maybe_keeps : (site : Site) (t : Option Term) → maybe_view_breaches kv t ≡ [] → EventsKeep kv.views (maybe_events site t)
  maybe_keeps site None e = tt
  maybe_keeps site (Some t) e = term_keeps site t e

  offsets_keep : (site : Site) (ts : List Term) → offsets_view_breaches kv ts ≡ [] → EventsKeep kv.views (source_terms_events site (terms ts))
  offsets_keep site [] e = tt
  offsets_keep site (t ∷ ts) e =
      both_keep kv.views (source_term_events site t) (source_terms_events site (terms ts))
      (term_keeps site t (second_none (term_index_breaches kv.names t) (term_view_breaches kv t) (first_none (term_index_breaches kv.names t ++ term_view_breaches kv t) (offsets_view_breaches kv ts) e)))
      (offsets_keep site ts (second_none (term_index_breaches kv.names t ++ term_view_breaches kv t) (offsets_view_breaches kv ts) e))

  mutual
    events_keep : (r : Around) (a : Action) → action_view_breaches kv a ≡ [] → EventsKeep kv.views (events r a)
    events_keep r (action id place form) e = form_keeps r (site_of r id) form e

    form_keeps : (r : Around) (site : Site) (f : ActionForm) → action_form_view_breaches kv f ≡ [] → EventsKeep kv.views (command_events r site f)
    form_keeps r site (lets name declared value) e = both_keep kv.views (maybe_events site value) (assigned name.entity ∷ []) (maybe_keeps site value e) tt
    form_keeps r site (lets_memory name shape shape_places value) e = tt
    form_keeps r site (views name parent form) e = offsets_keep site (offsets_of form) e
    form_keeps r site (assigns target value) e = both_keep kv.views (source_term_events site value) (assigned target.entity ∷ []) (term_keeps site value e) tt
    form_keeps r site (stores target value) e =
        both_keep kv.views (source_term_events site value) (write_events site target) (term_keeps site value (second_none (term_view_breaches kv target) (term_view_breaches kv value) e))
        (write_keeps site target (first_none (term_view_breaches kv target) (term_view_breaches kv value) e))
    form_keeps r site (reduces target o value) e = both_keep kv.views (source_term_events site value) (assigned target.entity ∷ []) (term_keeps site value e) tt
    form_keeps r site (calls function arguments) e = tt
    form_keeps r site (blocks body) e = groups_keep r body e
    form_keeps r site (decides test chosen other) e =
        let below = second_none (term_view_breaches kv test) (action_view_breaches kv chosen ++ other_view_breaches kv other) e in
        both_keep kv.views (source_term_events site test) (events (in_arm r site.command true) chosen ++ other_events (in_arm r site.command false) other)
        (term_keeps site test (first_none (term_view_breaches kv test) (action_view_breaches kv chosen ++ other_view_breaches kv other) e))
        (both_keep kv.views (events (in_arm r site.command true) chosen) (other_events (in_arm r site.command false) other)
        (events_keep (in_arm r site.command true) chosen (first_none (action_view_breaches kv chosen) (other_view_breaches kv other) below))
        (other_keep (in_arm r site.command false) other (second_none (action_view_breaches kv chosen) (other_view_breaches kv other) below)))
    form_keeps r site (repeats test body) e =
        both_keep kv.views (source_term_events site test) (events r body) (term_keeps site test (first_none (term_view_breaches kv test) (action_view_breaches kv body) e))
        (events_keep r body (second_none (term_view_breaches kv test) (action_view_breaches kv body) e))
    form_keeps r site (counts iterator declared low high factor body combine combine_place) e =
        both_keep kv.views (events (in_loop r (loop_of iterator low high factor)) body) (other_events (in_loop r (loop_of iterator low high factor)) combine)
        (events_keep (in_loop r (loop_of iterator low high factor)) body (first_none (action_view_breaches kv body) (other_view_breaches kv combine) e))
        (other_keep (in_loop r (loop_of iterator low high factor)) combine (second_none (action_view_breaches kv body) (other_view_breaches kv combine) e))

    other_keep : (r : Around) (m : MaybeAction) → other_view_breaches kv m ≡ [] → EventsKeep kv.views (other_events r m)
    other_keep r no_action e = tt
    other_keep r (one_action a) e = events_keep r a e

    part_keeps : (r : Around) (p : Actions) → part_view_breaches kv p ≡ [] → EventsKeep kv.views (part_events r p)
    part_keeps r no_actions e = tt
    part_keeps r (action_then a rest) e =
        both_keep kv.views (events r a) (part_events r rest) (events_keep r a (first_none (action_view_breaches kv a) (part_view_breaches kv rest) e))
        (part_keeps r rest (second_none (action_view_breaches kv a) (part_view_breaches kv rest) e))

    groups_keep : (r : Around) (g : Groups) → groups_view_breaches kv g ≡ [] → EventsKeep kv.views (groups_events r g)
    groups_keep r no_groups e = tt
    groups_keep r (group_then part rest) e =
        both_keep kv.views (part_events r part) (groups_events r rest) (part_keeps r part (first_none (part_view_breaches kv part) (groups_view_breaches kv rest) e))
        (groups_keep r rest (second_none (part_view_breaches kv part) (groups_view_breaches kv rest) e))

keeps_at : (known : List Viewed) (es : List SourceEvent) (k : ℕ) (a : SourceAccess) → EventsKeep known es → slice_get (accesses_in es) k ≡ Some a → IsOfNone known a.entity a.element
keeps_at known [] k a h e = cc
keeps_at known (accesses x ∷ es) zero a h e = let same : x ≡ a = cc in subst (λ (y : SourceAccess). IsOfNone known y.entity y.element) same h.0
keeps_at known (accesses x ∷ es) (suc k) a h e = keeps_at known es k a h.1 e
keeps_at known (assigned entity ∷ es) k a h e = keeps_at known es k a h e

-- what is no view has no way
looked : (ls : List Led) (entity : Option ℕ) → view_in (map viewed_of_led ls) entity ≡ None → way_in ls entity ≡ None
looked [] entity e = refl
looked (l ∷ ls) entity e = by (same_entity l.entity entity) e (looked ls entity)
  where
    by : (b : Bool) → (if b then Some l.way.is else view_in (map viewed_of_led ls) entity) ≡ None → (view_in (map viewed_of_led ls) entity ≡ None → way_in ls entity ≡ None) → (if b then Some l.way else way_in ls entity) ≡ None
    by true e rest = cc
    by false e rest = rest e

pub row_unviewed : (p : Program) → view_breaches_of p ≡ [] → (k : ℕ) (a : SourceAccess) → slice_get (accesses_in (trace p)) k ≡ Some a → (bank : ℕ) (row : Term) → a.element ≡ in_row bank row → way_in (ways_of p) a.entity ≡ None
row_unviewed p e k a at bank row is =
    looked (ways_of p) a.entity
    (ap (λ vs. view_in vs a.entity) (ways_are_views p)
    ∙ subst (λ (x : Element). IsOfNone (known_views p).views a.entity x) is
    (keeps_at (known_views p).views (trace p) k a (events_keep (known_views p) nothing_around p.body (second_none (factor_breaches_of p) (action_view_breaches (known_views p) p.body) e)) at))
