-- The accesses of what happens in a command are those of its events, in order.
use Rattle.std.proofs.Common.{◌≡◌, ℕ, Bool, true, false, List, [], ◌∷◌, ◌++◌, map, refl, ap, sym, ◌∙◌}
use Rattle.std.specs.Prelude.{Option, Some, None}
use Rattle.dh_base.specs.declared.places.Place.{Place}
use Rattle.dh_value.specs.declared.kinds.Kind.{Kind}
use Rattle.dh_tree.specs.PlainTrees.{Term, term, TermForm, number, truth_value, named, accessed, in_bank, applied, converted, Terms, no_terms, term_then, Action, action, ActionForm, lets, lets_memory, views, assigns, stores, reduces, calls, blocks, decides, repeats, counts, MaybeAction, no_action, one_action, Actions, no_actions, action_then, Groups, no_groups, group_then}
use Rattle.dh_tree.specs.Seen.{terms}
use Rattle.dh_tree.specs.ViewOffsets.{offsets_of}
use Rattle.dh_meaning.specs.Sites.{Around, in_arm, in_loop, loop_of}
use Rattle.dh_meets.specs.SourceEvents as source
use Rattle.dh_meets.specs.SourceEvents.{SourceEvent, accesses_in, site_of, source_term_events, form_events, source_terms_events, maybe_events, write_events, events, command_events, other_events, groups_events, part_events}
use Rattle.dh_events.specs.declared.events.Site.{Site}
use Rattle.dh_events.specs.declared.noting.Open.{Open}
use Rattle.dh_events.specs.Incidents.{PortEvent, touches, assigned, arm_begins, arm_ends, begins, next, ends, site_at, term_incidents, form_incidents, terms_incidents, maybe_incidents, target_incidents, is_stepped, closed, released, phase_of, tested, inside_choice, round_inside, when_parted, arms_part, are_parts, open_after, part_open, open_combine, incidents, command_incidents, other_incidents, combine_incidents, groups_incidents, part_incidents}
use Rattle.dh_ports.specs.Wholes.{Touched, touched, touched_by, of_access}

-- the same of events
abbrev seen_in : List SourceEvent → List Touched
seen_in es = map of_access (accesses_in es)

nothing_more : {X : Type 0} (xs : List X) → xs ++ [] ≡ xs
nothing_more [] = refl
nothing_more (x ∷ xs) = ap (λ l. x ∷ l) (nothing_more xs)

touched_append : (xs ys : List PortEvent) → touched (xs ++ ys) ≡ touched xs ++ touched ys
touched_append [] ys = refl
touched_append (touches t w s ∷ xs) ys = ap (λ l. touched_by t w ∷ l) (touched_append xs ys)
touched_append (assigned e ∷ xs) ys = touched_append xs ys
touched_append (arm_begins ∷ xs) ys = touched_append xs ys
touched_append (arm_ends ∷ xs) ys = touched_append xs ys
touched_append (begins ∷ xs) ys = touched_append xs ys
touched_append (next ∷ xs) ys = touched_append xs ys
touched_append (ends ∷ xs) ys = touched_append xs ys

seen_append : (xs ys : List SourceEvent) → seen_in (xs ++ ys) ≡ seen_in xs ++ seen_in ys
seen_append [] ys = refl
seen_append (source.accesses a ∷ xs) ys = ap (λ l. of_access a ∷ l) (seen_append xs ys)
seen_append (source.assigned e ∷ xs) ys = seen_append xs ys

both : (xs ys : List PortEvent) (es fs : List SourceEvent) → touched xs ≡ seen_in es → touched ys ≡ seen_in fs → touched (xs ++ ys) ≡ seen_in (es ++ fs)
both xs ys es fs e f = touched_append xs ys ∙ (ap (λ l. l ++ touched ys) e ∙ (ap (λ l. seen_in es ++ l) f ∙ sym (seen_append es fs)))

-- marks are no accesses
none_more : (xs : List PortEvent) (y : PortEvent) (es : List SourceEvent) → touched (y ∷ []) ≡ [] → touched xs ≡ seen_in es → touched (xs ++ y ∷ []) ≡ seen_in es
none_more xs y es e f = touched_append xs (y ∷ []) ∙ (ap (λ l. touched xs ++ l) e ∙ (nothing_more (touched xs) ∙ f))

parted_first : (b : Bool) (y : PortEvent) (xs : List PortEvent) → touched (y ∷ xs) ≡ touched xs → touched (when_parted b y ++ xs) ≡ touched xs
parted_first true y xs e = e
parted_first false y xs e = refl

parted_last : (b : Bool) (y : PortEvent) (xs : List PortEvent) → touched (y ∷ []) ≡ [] → touched (xs ++ when_parted b y) ≡ touched xs
parted_last true y xs e = touched_append xs (y ∷ []) ∙ (ap (λ l. touched xs ++ l) e ∙ nothing_more (touched xs))
parted_last false y xs e = ap touched (nothing_more xs)

mutual
  term_same : (s : Site) (z : source.Site) (t : Term) → touched (term_incidents s t) ≡ seen_in (source_term_events z t)
  term_same s z (term place kind form) = form_same s z place kind form

  form_same : (s : Site) (z : source.Site) (place : Place) (kind : Option Kind) (form : TermForm) → touched (form_incidents s place kind form) ≡ seen_in (form_events z place form)
  form_same s z place kind (number negative n) = refl
  form_same s z place kind (truth_value value) = refl
  form_same s z place kind (named r) = refl
  form_same s z place kind (accessed r indices) = both (terms_incidents s indices) _ (source_terms_events z indices) _ (terms_same s z indices) refl
  form_same s z place kind (in_bank r bank bank_place row) = both (term_incidents s row) _ (source_term_events z row) _ (term_same s z row) refl
  form_same s z place kind (applied op left right) = both (term_incidents s left) (term_incidents s right) (source_term_events z left) (source_term_events z right) (term_same s z left) (term_same s z right)
  form_same s z place kind (converted inner to) = term_same s z inner

  terms_same : (s : Site) (z : source.Site) (ts : Terms) → touched (terms_incidents s ts) ≡ seen_in (source_terms_events z ts)
  terms_same s z no_terms = refl
  terms_same s z (term_then t rest) = both (term_incidents s t) (terms_incidents s rest) (source_term_events z t) (source_terms_events z rest) (term_same s z t) (terms_same s z rest)

maybe_same : (s : Site) (z : source.Site) (t : Option Term) → touched (maybe_incidents s t) ≡ seen_in (maybe_events z t)
maybe_same s z None = refl
maybe_same s z (Some t) = term_same s z t

target_same : (s : Site) (z : source.Site) (t : Term) → touched (target_incidents s t) ≡ seen_in (write_events z t)
target_same s z (term place kind (accessed r indices)) = both (terms_incidents s indices) _ (source_terms_events z indices) _ (terms_same s z indices) refl
target_same s z (term place kind (in_bank r bank bank_place row)) = both (term_incidents s row) _ (source_term_events z row) _ (term_same s z row) refl
target_same s z (term place kind (number negative n)) = refl
target_same s z (term place kind (truth_value value)) = refl
target_same s z (term place kind (named r)) = refl
target_same s z (term place kind (applied op left right)) = both (term_incidents s left) (term_incidents s right) (source_term_events z left) (source_term_events z right) (term_same s z left) (term_same s z right)
target_same s z (term place kind (converted inner to)) = term_same s z inner

-- a value and an assignment behind it
assigned_same : (xs : List PortEvent) (es : List SourceEvent) (e : Option ℕ) → touched xs ≡ seen_in es → touched (xs ++ assigned e ∷ []) ≡ seen_in (es ++ source.assigned e ∷ [])
assigned_same xs es e f = both xs (assigned e ∷ []) es (source.assigned e ∷ []) f refl

mutual
  pub action_same : (f : ℕ → ℕ) (round : Option ℕ) (g : Open) (r : Around) (a : Action) → touched (incidents f round g a) ≡ seen_in (events r a)
  action_same f round g r (action id place form) = command_same f round g r id form

  command_same : (f : ℕ → ℕ) (round : Option ℕ) (g : Open) (r : Around) (id : ℕ) (form : ActionForm) → touched (command_incidents f round g id form) ≡ seen_in (command_events r (site_of r id) form)
  command_same f round g r id (lets name declared value) = assigned_same (maybe_incidents (site_at (phase_of g id) round) value) (maybe_events (site_of r id) value) name.entity (maybe_same (site_at (phase_of g id) round) (site_of r id) value)
  command_same f round g r id (lets_memory name shape shape_places value) = refl
  command_same f round g r id (views name parent form) = terms_same (site_at (phase_of g id) round) (site_of r id) (terms (offsets_of form))
  command_same f round g r id (assigns target value) = assigned_same (term_incidents (site_at (phase_of g id) round) value) (source_term_events (site_of r id) value) target.entity (term_same (site_at (phase_of g id) round) (site_of r id) value)
  command_same f round g r id (stores target value) =
      both (term_incidents (site_at (phase_of g id) round) value) (target_incidents (site_at (phase_of g id) round) target) (source_term_events (site_of r id) value) (write_events (site_of r id) target)
      (term_same (site_at (phase_of g id) round) (site_of r id) value) (target_same (site_at (phase_of g id) round) (site_of r id) target)
  command_same f round g r id (reduces target op value) = assigned_same (term_incidents (site_at (phase_of g id) round) value) (source_term_events (site_of r id) value) target.entity (term_same (site_at (phase_of g id) round) (site_of r id) value)
  command_same f round g r id (calls function arguments) = refl
  command_same f round g r id (blocks body) =
      parted_first (are_parts body) begins _ refl
      ∙ (parted_last (are_parts body) ends (groups_incidents f round (is_stepped f id) (are_parts body) (released (is_stepped f id) g) body) refl
      ∙ groups_same f round (is_stepped f id) (are_parts body) (released (is_stepped f id) g) r body)
  command_same f round g r id (decides test chosen other) =
      both (term_incidents (site_at (tested (is_stepped f id) g id) round) test) _ (source_term_events (site_of r id) test) _ (term_same (site_at (tested (is_stepped f id) g id) round) (site_of r id) test)
      (parted_first (arms_part round other) begins _ refl
      ∙ both (incidents f round (inside_choice (is_stepped f id) (tested (is_stepped f id) g id)) chosen) (arm_ends ∷ (when_parted (arms_part round other) next ++ (other_incidents f round (inside_choice (is_stepped f id) (tested (is_stepped f id) g id)) other ++ when_parted (arms_part round other) ends)))
      (events (in_arm r id true) chosen) (other_events (in_arm r id false) other)
      (action_same f round (inside_choice (is_stepped f id) (tested (is_stepped f id) g id)) (in_arm r id true) chosen)
      (parted_first (arms_part round other) next _ refl
      ∙ (parted_last (arms_part round other) ends (other_incidents f round (inside_choice (is_stepped f id) (tested (is_stepped f id) g id)) other) refl
      ∙ other_same f round (inside_choice (is_stepped f id) (tested (is_stepped f id) g id)) (in_arm r id false) other)))
  command_same f round g r id (repeats test body) =
      both (term_incidents (site_at id round) test) _ (source_term_events (site_of r id) test) (events r body) (term_same (site_at id round) (site_of r id) test)
      (none_more (incidents f round closed body) ends (events r body) refl (action_same f round closed r body))
  command_same f round g r id (counts iterator declared low high factor body combine combine_place) =
      both (incidents f (round_inside round id factor.value) closed body) _ (events (in_loop r (loop_of iterator low high factor)) body) _ (action_same f (round_inside round id factor.value) closed (in_loop r (loop_of iterator low high factor)) body)
      (combine_same f (round_inside round id factor.value) (open_combine f (open_after f closed body) combine) (in_loop r (loop_of iterator low high factor)) combine)

  other_same : (f : ℕ → ℕ) (round : Option ℕ) (g : Open) (r : Around) (o : MaybeAction) → touched (other_incidents f round g o) ≡ seen_in (other_events r o)
  other_same f round g r no_action = refl
  other_same f round g r (one_action a) = none_more (incidents f round g a) arm_ends (events r a) refl (action_same f round g r a)

  combine_same : (f : ℕ → ℕ) (round : Option ℕ) (g : Open) (r : Around) (o : MaybeAction) → touched (combine_incidents f round g o) ≡ seen_in (other_events r o)
  combine_same f round g r no_action = refl
  combine_same f round g r (one_action a) = action_same f round g r a

  groups_same : (f : ℕ → ℕ) (round : Option ℕ) (stepped parted : Bool) (g : Open) (r : Around) (body : Groups) → touched (groups_incidents f round stepped parted g body) ≡ seen_in (groups_events r body)
  groups_same f round stepped parted g r no_groups = refl
  groups_same f round stepped parted g r (group_then part rest) =
      both (part_incidents f round (released stepped g) part) _ (part_events r part) (groups_events r rest) (part_same f round (released stepped g) r part)
      (parted_first parted next _ refl ∙ groups_same f round stepped parted (part_open f (released stepped g) part) r rest)

  part_same : (f : ℕ → ℕ) (round : Option ℕ) (g : Open) (r : Around) (part : Actions) → touched (part_incidents f round g part) ≡ seen_in (part_events r part)
  part_same f round g r no_actions = refl
  part_same f round g r (action_then a rest) = both (incidents f round g a) (part_incidents f round (open_after f g a) rest) (events r a) (part_events r rest) (action_same f round g r a) (part_same f round (open_after f g a) r rest)
