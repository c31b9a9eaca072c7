-- Accesses through views keep the rules on indices in the dimensions of the view that is named, where no rule on views is
-- broken, and none of them is physical. By recursion over the tree, as the breaches of a command are those of its
-- accesses.
use Rattle.std.proofs.Common.{◌≡◌, ℕ, zero, suc, true, false, List, [], ◌∷◌, ◌++◌, Option, Some, None, ap, sym, ◌∙◌, subst}
use Rattle.std.specs.Prelude.{slice_get}
use Rattle.std.specs.Option.{is_some}
use Rattle.dh_base.specs.declared.rules.Rule.TheVariants.{ViewFactor}
use Rattle.dh_tree.specs.declared.viewing.Viewed.{Viewed}
use Rattle.dh_tree.specs.Indices.{access_index_breaches, index_breaches_of, index_context_of, term_index_breaches}
use Rattle.dh_tree.specs.LeastBreach.{breach}
use Rattle.dh_tree.specs.PlainTrees.{Term, term, number, truth_value, named, accessed, in_bank, applied, converted, Terms, no_terms, term_then, Action, action, ActionForm, lets, lets_memory, views, assigns, stores, reduces, calls, blocks, decides, repeats, counts, MaybeAction, no_action, one_action, Actions, no_actions, action_then, Groups, no_groups, group_then, Program}
use Rattle.dh_tree.specs.Seen.{terms}
use Rattle.dh_tree.specs.ViewBreaches.{KnownViews, action_form_view_breaches, action_view_breaches, dims_through, groups_view_breaches, kept_views, known_views, maybe_view_breaches, offsets_view_breaches, other_view_breaches, part_view_breaches, physical_broken, term_view_breaches, terms_view_breaches, view_breaches_of}
use Rattle.dh_tree.specs.ViewFactors.{factor_breaches_of}
use Rattle.dh_tree.specs.ViewOffsets.{offsets_of}
use Rattle.dh_tree.specs.Views.{view_in, viewed_in}
use Rattle.dh_tree.proofs.EmptyLists.{first_none, second_none}
use Rattle.dh_meaning.specs.Sites.{Around, nothing_around, in_arm, in_loop, loop_of}
use Rattle.dh_meaning.specs.Ways.{Way, way_to}
use Rattle.dh_meets.specs.SourceEvents.{Element, with_indices, in_row, Site, SourceAccess, SourceEvent, accesses, assigned, accesses_in, command_events, events, groups_events, maybe_events, other_events, part_events, site_of, source_term_events, source_terms_events, trace, write_events}
use Rattle.dh_sound.specs.IndexValues.{IsByIndices, element_breaches}
use Rattle.dh_sound.specs.Trails.{EachAccess}
use Rattle.dh_sound.proofs.IteratorsNamed.{none_when}
use Rattle.dh_sound.proofs.Sites.{each_both}
use Rattle.dh_sound.proofs.ViewedWays.{views_kept, way_view}

-- an element keeps the rules in the dimensions of the view that is named, where one is
abbrev pub ThroughKeeps : KnownViews → (entity : Option ℕ) → Element → Type 0
ThroughKeeps kv entity (with_indices indices) = access_index_breaches kv.names.counters (dims_through (view_in kv.kept entity)) indices ≡ []
ThroughKeeps kv entity (in_row bank row) = is_some (view_in kv.views entity) ≡ false

module _ (kv : KnownViews) where
  abbrev Through : List SourceEvent → Type 0
  Through es = EachAccess (λ a. ThroughKeeps kv a.entity a.element) es

  mutual
    term_through : (site : Site) (t : Term) → term_view_breaches kv t ≡ [] → Through (source_term_events site t)
    term_through site (term place k (number negative n)) e = tt
    term_through site (term place k (truth_value value)) e = tt
    term_through site (term place k (named r)) e = tt
    term_through site (term place k (accessed r indices)) e =
        let own = access_index_breaches kv.names.counters (dims_through (view_in kv.kept r.entity)) indices in
        each_both _ (source_terms_events site indices) _ (terms_through site indices (second_none own _ e)) (first_none own _ e, tt)
    term_through site (term place k (in_bank r bank bank_place row)) e =
        let own = physical_broken (view_in kv.views r.entity) r in
        each_both _ (source_term_events site row) _ (term_through site row (second_none own _ e)) (none_when (is_some (view_in kv.views r.entity)) (breach ViewFactor r.place) (first_none own _ e), tt)
    term_through site (term place k (applied o left right)) e =
        each_both _ (source_term_events site left) _ (term_through site left (first_none (term_view_breaches kv left) _ e)) (term_through site right (second_none (term_view_breaches kv left) _ e))
    term_through site (term place k (converted inner to)) e = term_through site inner e

    terms_through : (site : Site) (ts : Terms) → terms_view_breaches kv ts ≡ [] → Through (source_terms_events site ts)
    terms_through site no_terms e = tt
    terms_through site (term_then t rest) e =
        each_both _ (source_term_events site t) _ (term_through site t (first_none (term_view_breaches kv t) _ e)) (terms_through site rest (second_none (term_view_breaches kv t) _ e))

  write_through : (site : Site) (t : Term) → term_view_breaches kv t ≡ [] → Through (write_events site t)
  write_through site (term place k (number negative n)) e = tt
  write_through site (term place k (truth_value value)) e = tt
  write_through site (term place k (named r)) e = tt
  write_through site (term place k (accessed r indices)) e =
      let own = access_index_breaches kv.names.counters (dims_through (view_in kv.kept r.entity)) indices in
      each_both _ (source_terms_events site indices) _ (terms_through site indices (second_none own _ e)) (first_none own _ e, tt)
  write_through site (term place k (in_bank r bank bank_place row)) e =
      let own = physical_broken (view_in kv.views r.entity) r in
      each_both _ (source_term_events site row) _ (term_through site row (second_none own _ e)) (none_when (is_some (view_in kv.views r.entity)) (breach ViewFactor r.place) (first_none own _ e), tt)
  write_through site (term place k (applied o left right)) e = term_through site (term place k (applied o left right)) e
  write_through site (term place k (converted inner to)) e = term_through site (term place k (converted inner to)) e

  maybe_through : (site : Site) (m : Option Term) → maybe_view_breaches kv m ≡ [] → Through (maybe_events site m)
  maybe_through site None e = tt
  maybe_through site (Some t) e = term_through site t e

  offsets_through : (site : Site) (ts : List Term) → offsets_view_breaches kv ts ≡ [] → Through (source_terms_events site (terms ts))
  offsets_through site [] e = tt
  offsets_through site (t ∷ ts) e =
      let own = first_none (term_index_breaches kv.names t ++ term_view_breaches kv t) _ e in
      each_both _ (source_term_events site t) _ (term_through site t (second_none (term_index_breaches kv.names t) _ own))
      (offsets_through site ts (second_none (term_index_breaches kv.names t ++ term_view_breaches kv t) _ e))

  mutual
    action_through : (r : Around) (a : Action) → action_view_breaches kv a ≡ [] → Through (events r a)
    action_through r (action id place form) e = form_through r (site_of r id) form e

    form_through : (r : Around) (site : Site) (f : ActionForm) → action_form_view_breaches kv f ≡ [] → Through (command_events r site f)
    form_through r site (lets name declared value) e = each_both _ (maybe_events site value) _ (maybe_through site value e) tt
    form_through r site (lets_memory name shape shape_places value) e = tt
    form_through r site (views name parent form) e = offsets_through site (offsets_of form) e
    form_through r site (assigns target value) e = each_both _ (source_term_events site value) _ (term_through site value e) tt
    form_through r site (stores target value) e =
        each_both _ (source_term_events site value) _ (term_through site value (second_none (term_view_breaches kv target) _ e)) (write_through site target (first_none (term_view_breaches kv target) _ e))
    form_through r site (reduces target o value) e = each_both _ (source_term_events site value) _ (term_through site value e) tt
    form_through r site (calls function arguments) e = tt
    form_through r site (blocks body) e = groups_through r body e
    form_through r site (decides test chosen other) e =
        let below = second_none (term_view_breaches kv test) _ e in
        each_both _ (source_term_events site test) _ (term_through site test (first_none (term_view_breaches kv test) _ e))
        (each_both _ (events (in_arm r site.command true) chosen) _ (action_through (in_arm r site.command true) chosen (first_none (action_view_breaches kv chosen) _ below))
        (other_through (in_arm r site.command false) other (second_none (action_view_breaches kv chosen) _ below)))
    form_through r site (repeats test body) e =
        each_both _ (source_term_events site test) _ (term_through site test (first_none (term_view_breaches kv test) _ e)) (action_through r body (second_none (term_view_breaches kv test) _ e))
    form_through r site (counts iterator declared low high factor body combine combine_place) e =
        each_both _ (events (in_loop r (loop_of iterator low high factor)) body) _
        (action_through (in_loop r (loop_of iterator low high factor)) body (first_none (action_view_breaches kv body) _ e))
        (other_through (in_loop r (loop_of iterator low high factor)) combine (second_none (action_view_breaches kv body) _ e))

    other_through : (r : Around) (m : MaybeAction) → other_view_breaches kv m ≡ [] → Through (other_events r m)
    other_through r no_action e = tt
    other_through r (one_action a) e = action_through r a e

    groups_through : (r : Around) (gs : Groups) → groups_view_breaches kv gs ≡ [] → Through (groups_events r gs)
    groups_through r no_groups e = tt
    groups_through r (group_then part rest) e =
        each_both _ (part_events r part) _ (part_through r part (first_none (part_view_breaches kv part) _ e)) (groups_through r rest (second_none (part_view_breaches kv part) _ e))

    part_through : (r : Around) (part : Actions) → part_view_breaches kv part ≡ [] → Through (part_events r part)
    part_through r no_actions e = tt
    part_through r (action_then a rest) e =
        each_both _ (events r a) _ (action_through r a (first_none (action_view_breaches kv a) _ e)) (part_through r rest (second_none (action_view_breaches kv a) _ e))

-- the access of a number
each_there : (P : SourceAccess → Type 0) (es : List SourceEvent) (k : ℕ) (a : SourceAccess) → EachAccess P es → slice_get (accesses_in es) k ≡ Some a → P a
each_there P [] k a h e = absurd cc
each_there P (accesses x ∷ es) zero a h e = let same : x ≡ a = cc in subst (λ (y : SourceAccess). P y) same h.0
each_there P (accesses x ∷ es) (suc k) a h e = each_there P es k a h.1 e
each_there P (assigned entity ∷ es) k a h e = each_there P es k a h e

-- an access through a way keeps the rules in the dimensions of the view that is named
pub record KeepsThrough (p : Program) (w : Way) (element : Element) : Type 0 where
  pub none : element_breaches (index_context_of p).counters w.is.shape.dims element ≡ []
  pub indices : IsByIndices element

through_of : (p : Program) (entity : Option ℕ) (w : Way) (element : Element) → view_in (kept_views p) entity ≡ Some w.is → view_in (viewed_in p) entity ≡ Some w.is → ThroughKeeps (known_views p) entity element → KeepsThrough p w element
through_of p entity w (with_indices indices) kept seen h = record { none = sym (ap (λ o. access_index_breaches (index_context_of p).counters (dims_through o) indices) kept) ∙ h; indices = tt }
through_of p entity w (in_row bank row) kept seen h = absurd (wrong (sym (ap is_some seen) ∙ h))
  where
    wrong : true ≡ false → ⊥
    wrong e = cc

pub keeps_through : (p : Program) → index_breaches_of p ≡ [] → view_breaches_of p ≡ [] → (k : ℕ) (a : SourceAccess) → slice_get (accesses_in (trace p)) k ≡ Some a → (w : Way) → way_to p a.entity ≡ Some w → KeepsThrough p w a.element
keeps_through p e v k a listed w is =
    let seen = way_view p a.entity w is in
    let same = views_kept p e (first_none (factor_breaches_of p) _ v) in
    through_of p a.entity w a.element (ap (λ (vs : List Viewed). view_in vs a.entity) same ∙ seen) seen
    (each_there (λ x. ThroughKeeps (known_views p) x.entity x.element) (trace p) k a (action_through (known_views p) nothing_around p.body (second_none (factor_breaches_of p) _ v)) listed)
