-- The unrolled loops that the incidents of a command name are those round its accesses.
use Rattle.std.proofs.Common.{◌≡◌, ℕ, nat_lt, Bool, true, false, if◌then◌else◌, List, [], ◌∷◌, ◌++◌, map, refl, ap, sym, ◌∙◌, subst}
use Rattle.std.specs.Prelude.{Option, Some, None}
use Rattle.dh_base.specs.declared.places.Place.{Place}
use Rattle.dh_value.specs.declared.kinds.Kind.{Kind}
use Rattle.dh_tree.specs.PlainTrees.{Term, term, TermForm, number, truth_value, named, accessed, in_bank, applied, converted, Terms, no_terms, term_then, Action, action, ActionForm, lets, lets_memory, views, assigns, stores, reduces, calls, blocks, decides, repeats, counts, MaybeAction, no_action, one_action, Actions, no_actions, action_then, Groups, no_groups, group_then}
use Rattle.dh_tree.specs.Seen.{terms}
use Rattle.dh_tree.specs.ViewOffsets.{offsets_of}
use Rattle.dh_meaning.specs.Sites.{Around, in_arm, in_loop, loop_of}
use Rattle.dh_meets.specs.SourceEvents as source
use Rattle.dh_meets.specs.SourceEvents.{SourceEvent, accesses_in, site_of, source_term_events, form_events, source_terms_events, maybe_events, write_events, events, command_events, other_events, groups_events, part_events}
use Rattle.dh_events.specs.declared.events.Site.{Site}
use Rattle.dh_events.specs.declared.noting.Open.{Open}
use Rattle.dh_events.specs.Incidents.{PortEvent, touches, assigned, arm_begins, arm_ends, begins, next, ends, site_at, term_incidents, form_incidents, terms_incidents, maybe_incidents, target_incidents, is_stepped, closed, released, phase_of, tested, inside_choice, round_inside, when_parted, arms_part, are_parts, open_after, part_open, open_combine, incidents, command_incidents, other_incidents, combine_incidents, groups_incidents, part_incidents}
use Rattle.dh_tree.specs.declared.trees.counters.Counter.{Counter}
use Rattle.dh_events.specs.Rounds.{inside_loop}
use Rattle.dh_ports.specs.Wholes.{sites_in}
use Rattle.dh_ports.proofs.LoopsKnown.{LoopKnown, LoopsKnown, FormKnown, OtherKnown, GroupsKnown, PartKnown}

-- the loops inside which something stands, by the innermost one
abbrev pub loops_at : (ℕ → List Counter) → Option ℕ → List Counter
loops_at l None = []
loops_at l (Some id) = l id

-- those of each access
abbrev pub looped : (ℕ → List Counter) → List PortEvent → List (List Counter)
looped ls xs = map (λ s. loops_at ls s.round) (sites_in xs)

-- the same of events
abbrev pub seen_in : List SourceEvent → List (List Counter)
seen_in es = map (λ a. a.site.loops) (accesses_in es)

nothing_more : {X : Type 0} (xs : List X) → xs ++ [] ≡ xs
nothing_more [] = refl
nothing_more (x ∷ xs) = ap (λ l. x ∷ l) (nothing_more xs)

seen_append : (xs ys : List SourceEvent) → seen_in (xs ++ ys) ≡ seen_in xs ++ seen_in ys
seen_append [] ys = refl
seen_append (source.accesses a ∷ xs) ys = ap (λ l. a.site.loops ∷ l) (seen_append xs ys)
seen_append (source.assigned e ∷ xs) ys = seen_append xs ys

-- inside a loop
inside_is : (ls : ℕ → List Counter) (round : Option ℕ) (r : Around) (id : ℕ) (c : Counter) → loops_at ls round ≡ r.loops → LoopKnown ls r.loops id c → loops_at ls (round_inside round id c.factor) ≡ (in_loop r c).loops
inside_is ls round r id c e h = by (nat_lt 1 c.factor) refl
  where
    by : (b : Bool) → nat_lt 1 c.factor ≡ b → loops_at ls (if b then Some id else round) ≡ (if b then record { arms = r.arms; loops = r.loops ++ c ∷ [] } else r).loops
    by true many = h many
    by false many = e

inside_loops : (r : Around) (c : Counter) → inside_loop r.loops c ≡ (in_loop r c).loops
inside_loops r c = by (nat_lt 1 c.factor)
  where
    by : (b : Bool) → (if b then r.loops ++ c ∷ [] else r.loops) ≡ (if b then record { arms = r.arms; loops = r.loops ++ c ∷ [] } else r).loops
    by true = refl
    by false = refl

module _ (ls : ℕ → List Counter) where
  looped_append : (xs ys : List PortEvent) → looped ls (xs ++ ys) ≡ looped ls xs ++ looped ls ys
  looped_append [] ys = refl
  looped_append (touches t w s ∷ xs) ys = ap (λ l. loops_at ls s.round ∷ l) (looped_append xs ys)
  looped_append (assigned e ∷ xs) ys = looped_append xs ys
  looped_append (arm_begins ∷ xs) ys = looped_append xs ys
  looped_append (arm_ends ∷ xs) ys = looped_append xs ys
  looped_append (begins ∷ xs) ys = looped_append xs ys
  looped_append (next ∷ xs) ys = looped_append xs ys
  looped_append (ends ∷ xs) ys = looped_append xs ys

  both : (xs ys : List PortEvent) (es fs : List SourceEvent) → looped ls xs ≡ seen_in es → looped ls ys ≡ seen_in fs → looped ls (xs ++ ys) ≡ seen_in (es ++ fs)
  both xs ys es fs e f = looped_append xs ys ∙ (ap (λ l. l ++ looped ls ys) e ∙ (ap (λ l. seen_in es ++ l) f ∙ sym (seen_append es fs)))

  -- marks are no accesses
  none_more : (xs : List PortEvent) (y : PortEvent) (es : List SourceEvent) → looped ls (y ∷ []) ≡ [] → looped ls xs ≡ seen_in es → looped ls (xs ++ y ∷ []) ≡ seen_in es
  none_more xs y es e f = looped_append xs (y ∷ []) ∙ (ap (λ l. looped ls xs ++ l) e ∙ (nothing_more (looped ls xs) ∙ f))

  parted_first : (b : Bool) (y : PortEvent) (xs : List PortEvent) → looped ls (y ∷ xs) ≡ looped ls xs → looped ls (when_parted b y ++ xs) ≡ looped ls xs
  parted_first true y xs e = e
  parted_first false y xs e = refl

  parted_last : (b : Bool) (y : PortEvent) (xs : List PortEvent) → looped ls (y ∷ []) ≡ [] → looped ls (xs ++ when_parted b y) ≡ looped ls xs
  parted_last true y xs e = looped_append xs (y ∷ []) ∙ (ap (λ l. looped ls xs ++ l) e ∙ nothing_more (looped ls xs))
  parted_last false y xs e = ap (looped ls) (nothing_more xs)

  mutual
    term_same : (s : Site) (z : source.Site) (t : Term) → loops_at ls s.round ≡ z.loops → looped ls (term_incidents s t) ≡ seen_in (source_term_events z t)
    term_same s z (term place kind form) h = form_same s z place kind form h

    form_same : (s : Site) (z : source.Site) (place : Place) (kind : Option Kind) (form : TermForm) → loops_at ls s.round ≡ z.loops → looped ls (form_incidents s place kind form) ≡ seen_in (form_events z place form)
    form_same s z place kind (number negative n) h = refl
    form_same s z place kind (truth_value value) h = refl
    form_same s z place kind (named r) h = refl
    form_same s z place kind (accessed r indices) h = both (terms_incidents s indices) _ (source_terms_events z indices) _ (terms_same s z indices h) (ap (λ l. l ∷ []) h)
    form_same s z place kind (in_bank r bank bank_place row) h = both (term_incidents s row) _ (source_term_events z row) _ (term_same s z row h) (ap (λ l. l ∷ []) h)
    form_same s z place kind (applied op left right) h = both (term_incidents s left) (term_incidents s right) (source_term_events z left) (source_term_events z right) (term_same s z left h) (term_same s z right h)
    form_same s z place kind (converted inner to) h = term_same s z inner h

    terms_same : (s : Site) (z : source.Site) (ts : Terms) → loops_at ls s.round ≡ z.loops → looped ls (terms_incidents s ts) ≡ seen_in (source_terms_events z ts)
    terms_same s z no_terms h = refl
    terms_same s z (term_then t rest) h = both (term_incidents s t) (terms_incidents s rest) (source_term_events z t) (source_terms_events z rest) (term_same s z t h) (terms_same s z rest h)

  maybe_same : (s : Site) (z : source.Site) (t : Option Term) → loops_at ls s.round ≡ z.loops → looped ls (maybe_incidents s t) ≡ seen_in (maybe_events z t)
  maybe_same s z None h = refl
  maybe_same s z (Some t) h = term_same s z t h

  target_same : (s : Site) (z : source.Site) (t : Term) → loops_at ls s.round ≡ z.loops → looped ls (target_incidents s t) ≡ seen_in (write_events z t)
  target_same s z (term place kind (accessed r indices)) h = both (terms_incidents s indices) _ (source_terms_events z indices) _ (terms_same s z indices h) (ap (λ l. l ∷ []) h)
  target_same s z (term place kind (in_bank r bank bank_place row)) h = both (term_incidents s row) _ (source_term_events z row) _ (term_same s z row h) (ap (λ l. l ∷ []) h)
  target_same s z (term place kind (number negative n)) h = refl
  target_same s z (term place kind (truth_value value)) h = refl
  target_same s z (term place kind (named r)) h = refl
  target_same s z (term place kind (applied op left right)) h = both (term_incidents s left) (term_incidents s right) (source_term_events z left) (source_term_events z right) (term_same s z left h) (term_same s z right h)
  target_same s z (term place kind (converted inner to)) h = term_same s z inner h

  -- a value and an assignment behind it
  assigned_same : (xs : List PortEvent) (es : List SourceEvent) (e : Option ℕ) → looped ls xs ≡ seen_in es → looped ls (xs ++ assigned e ∷ []) ≡ seen_in (es ++ source.assigned e ∷ [])
  assigned_same xs es e f = both xs (assigned e ∷ []) es (source.assigned e ∷ []) f refl

  mutual
    pub action_same : (f : ℕ → ℕ) (round : Option ℕ) (g : Open) (r : Around) (a : Action) → loops_at ls round ≡ r.loops → LoopsKnown ls r.loops a → looped ls (incidents f round g a) ≡ seen_in (events r a)
    action_same f round g r (action id place form) e h = command_same f round g r id form e h

    command_same : (f : ℕ → ℕ) (round : Option ℕ) (g : Open) (r : Around) (id : ℕ) (form : ActionForm) → loops_at ls round ≡ r.loops → FormKnown ls r.loops id form → looped ls (command_incidents f round g id form) ≡ seen_in (command_events r (site_of r id) form)
    command_same f round g r id (lets name declared value) e h = assigned_same (maybe_incidents (site_at (phase_of g id) round) value) (maybe_events (site_of r id) value) name.entity (maybe_same (site_at (phase_of g id) round) (site_of r id) value e)
    command_same f round g r id (lets_memory name shape shape_places value) e h = refl
    command_same f round g r id (views name parent form) e h = terms_same (site_at (phase_of g id) round) (site_of r id) (terms (offsets_of form)) e
    command_same f round g r id (assigns target value) e h = assigned_same (term_incidents (site_at (phase_of g id) round) value) (source_term_events (site_of r id) value) target.entity (term_same (site_at (phase_of g id) round) (site_of r id) value e)
    command_same f round g r id (stores target value) e h =
        both (term_incidents (site_at (phase_of g id) round) value) (target_incidents (site_at (phase_of g id) round) target) (source_term_events (site_of r id) value) (write_events (site_of r id) target)
        (term_same (site_at (phase_of g id) round) (site_of r id) value e) (target_same (site_at (phase_of g id) round) (site_of r id) target e)
    command_same f round g r id (reduces target op value) e h = assigned_same (term_incidents (site_at (phase_of g id) round) value) (source_term_events (site_of r id) value) target.entity (term_same (site_at (phase_of g id) round) (site_of r id) value e)
    command_same f round g r id (calls function arguments) e h = refl
    command_same f round g r id (blocks body) e h =
        parted_first (are_parts body) begins _ refl
        ∙ (parted_last (are_parts body) ends (groups_incidents f round (is_stepped f id) (are_parts body) (released (is_stepped f id) g) body) refl
        ∙ groups_same f round (is_stepped f id) (are_parts body) (released (is_stepped f id) g) r body e h)
    command_same f round g r id (decides test chosen other) e h =
        both (term_incidents (site_at (tested (is_stepped f id) g id) round) test) _ (source_term_events (site_of r id) test) _ (term_same (site_at (tested (is_stepped f id) g id) round) (site_of r id) test e)
        (parted_first (arms_part round other) begins _ refl
        ∙ both (incidents f round (inside_choice (is_stepped f id) (tested (is_stepped f id) g id)) chosen) (arm_ends ∷ (when_parted (arms_part round other) next ++ (other_incidents f round (inside_choice (is_stepped f id) (tested (is_stepped f id) g id)) other ++ when_parted (arms_part round other) ends)))
        (events (in_arm r id true) chosen) (other_events (in_arm r id false) other)
        (action_same f round (inside_choice (is_stepped f id) (tested (is_stepped f id) g id)) (in_arm r id true) chosen e h.0)
        (parted_first (arms_part round other) next _ refl
        ∙ (parted_last (arms_part round other) ends (other_incidents f round (inside_choice (is_stepped f id) (tested (is_stepped f id) g id)) other) refl
        ∙ other_same f round (inside_choice (is_stepped f id) (tested (is_stepped f id) g id)) (in_arm r id false) other e h.1)))
    command_same f round g r id (repeats test body) e h =
        both (term_incidents (site_at id round) test) _ (source_term_events (site_of r id) test) (events r body) (term_same (site_at id round) (site_of r id) test e)
        (none_more (incidents f round closed body) ends (events r body) refl (action_same f round closed r body e h))
    command_same f round g r id (counts iterator declared low high factor body combine combine_place) e h =
        both (incidents f (round_inside round id factor.value) closed body) _ (events (in_loop r (loop_of iterator low high factor)) body) _ (action_same f (round_inside round id factor.value) closed (in_loop r (loop_of iterator low high factor)) body (inside_is ls round r id (loop_of iterator low high factor) e h.0) (subst (λ (o : List Counter). LoopsKnown ls o body) (inside_loops r (loop_of iterator low high factor)) h.1.0))
        (combine_same f (round_inside round id factor.value) (open_combine f (open_after f closed body) combine) (in_loop r (loop_of iterator low high factor)) combine (inside_is ls round r id (loop_of iterator low high factor) e h.0) (subst (λ (o : List Counter). OtherKnown ls o combine) (inside_loops r (loop_of iterator low high factor)) h.1.1))

    other_same : (f : ℕ → ℕ) (round : Option ℕ) (g : Open) (r : Around) (o : MaybeAction) → loops_at ls round ≡ r.loops → OtherKnown ls r.loops o → looped ls (other_incidents f round g o) ≡ seen_in (other_events r o)
    other_same f round g r no_action e h = refl
    other_same f round g r (one_action a) e h = none_more (incidents f round g a) arm_ends (events r a) refl (action_same f round g r a e h)

    combine_same : (f : ℕ → ℕ) (round : Option ℕ) (g : Open) (r : Around) (o : MaybeAction) → loops_at ls round ≡ r.loops → OtherKnown ls r.loops o → looped ls (combine_incidents f round g o) ≡ seen_in (other_events r o)
    combine_same f round g r no_action e h = refl
    combine_same f round g r (one_action a) e h = action_same f round g r a e h

    groups_same : (f : ℕ → ℕ) (round : Option ℕ) (stepped parted : Bool) (g : Open) (r : Around) (body : Groups) → loops_at ls round ≡ r.loops → GroupsKnown ls r.loops body → looped ls (groups_incidents f round stepped parted g body) ≡ seen_in (groups_events r body)
    groups_same f round stepped parted g r no_groups e h = refl
    groups_same f round stepped parted g r (group_then part rest) e h =
        both (part_incidents f round (released stepped g) part) _ (part_events r part) (groups_events r rest) (part_same f round (released stepped g) r part e h.0)
        (parted_first parted next _ refl ∙ groups_same f round stepped parted (part_open f (released stepped g) part) r rest e h.1)

    part_same : (f : ℕ → ℕ) (round : Option ℕ) (g : Open) (r : Around) (part : Actions) → loops_at ls round ≡ r.loops → PartKnown ls r.loops part → looped ls (part_incidents f round g part) ≡ seen_in (part_events r part)
    part_same f round g r no_actions e h = refl
    part_same f round g r (action_then a rest) e h = both (incidents f round g a) (part_incidents f round (open_after f g a) rest) (events r a) (part_events r rest) (action_same f round g r a e h.0) (part_same f round (open_after f g a) r rest e h.1)
