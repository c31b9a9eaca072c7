-- The events of a command hold as many accesses as it is said to make. By induction on the command; an assignment
-- among the events is no access.
use Rattle.std.proofs.Common.{◌≡◌, ℕ, suc, ◌+◌, true, false, Option, Some, None, List, [], ◌∷◌, ◌++◌, length, refl, ◌∙◌, ap, arith}
use Rattle.std.proofs.lemmas.List.{length-append}
use Rattle.dh_tree.specs.PlainTrees.{Term, term, TermForm, number, truth_value, named, accessed, in_bank, applied, converted, Terms, no_terms, term_then, Action, action, ActionForm, lets, lets_memory, views, assigns, stores, reduces, calls, blocks, decides, repeats, counts, MaybeAction, no_action, one_action, Actions, no_actions, action_then, Groups, no_groups, group_then}
use Rattle.dh_meaning.specs.AccessNumbers.{term_accesses, form_accesses, terms_accesses, maybe_accesses, own_accesses, accesses_of, inner_accesses, other_accesses, part_accesses, groups_accesses}
use Rattle.dh_meaning.specs.Sites.{Around, in_arm, in_loop, loop_of}
use Rattle.dh_meets.specs.SourceEvents.{Site, SourceEvent, accesses, assigned, accesses_in, source_term_events, form_events, source_terms_events, maybe_events, write_events, site_of, events, command_events, other_events, groups_events, part_events}
use Rattle.dh_tree.specs.Seen.{terms}
use Rattle.dh_tree.specs.ViewOffsets.{offsets_of}

-- how many accesses stand among events
abbrev pub count_in : List SourceEvent → ℕ
count_in es = length (accesses_in es)

pub accesses_joined : (es fs : List SourceEvent) → accesses_in (es ++ fs) ≡ accesses_in es ++ accesses_in fs
accesses_joined [] fs = refl
accesses_joined (accesses a ∷ es) fs = ap (λ s. a ∷ s) (accesses_joined es fs)
accesses_joined (assigned entity ∷ es) fs = accesses_joined es fs

pub count_joined : (es fs : List SourceEvent) → count_in (es ++ fs) ≡ count_in es + count_in fs
count_joined es fs = ap length (accesses_joined es fs) ∙ length-append (accesses_in es) (accesses_in fs)

both : (es fs : List SourceEvent) (a b : ℕ) → count_in es ≡ a → count_in fs ≡ b → count_in (es ++ fs) ≡ a + b
both es fs a b e f = let j = count_joined es fs in omega (arith, j, e, f)

one_more : (es : List SourceEvent) (e : SourceEvent) (a : ℕ) → count_in es ≡ a → count_in (e ∷ []) ≡ 1 → count_in (es ++ e ∷ []) ≡ suc a
one_more es e a h one = let j = count_joined es (e ∷ []) in omega (arith, j, h, one)

no_more : (es : List SourceEvent) (entity : Option ℕ) (a : ℕ) → count_in es ≡ a → count_in (es ++ assigned entity ∷ []) ≡ a
no_more es entity a h =
    let j = count_joined es (assigned entity ∷ []) in
    let z : count_in (assigned entity ∷ []) ≡ 0 = refl in
    omega (arith, j, h, z)

mutual
  pub term_counted : (site : Site) (t : Term) → count_in (source_term_events site t) ≡ term_accesses t
  term_counted site (term place kind form) = form_counted site place form

  form_counted : (site : Site) (place : _) (f : TermForm) → count_in (form_events site place f) ≡ form_accesses f
  form_counted site place (number negative n) = refl
  form_counted site place (truth_value value) = refl
  form_counted site place (named r) = refl
  form_counted site place (accessed r indices) = one_more (source_terms_events site indices) _ (terms_accesses indices) (terms_counted site indices) refl
  form_counted site place (in_bank r bank bank_place row) = one_more (source_term_events site row) _ (term_accesses row) (term_counted site row) refl
  form_counted site place (applied op left right) =
      both (source_term_events site left) (source_term_events site right) (term_accesses left) (term_accesses right) (term_counted site left) (term_counted site right)
  form_counted site place (converted inner to) = term_counted site inner

  pub terms_counted : (site : Site) (ts : Terms) → count_in (source_terms_events site ts) ≡ terms_accesses ts
  terms_counted site no_terms = refl
  terms_counted site (term_then t rest) =
      both (source_term_events site t) (source_terms_events site rest) (term_accesses t) (terms_accesses rest) (term_counted site t) (terms_counted site rest)

maybe_counted : (site : Site) (o : Option Term) → count_in (maybe_events site o) ≡ maybe_accesses o
maybe_counted site None = refl
maybe_counted site (Some t) = term_counted site t

write_counted : (site : Site) (t : Term) → count_in (write_events site t) ≡ term_accesses t
write_counted site (term place kind (accessed r indices)) = one_more (source_terms_events site indices) _ (terms_accesses indices) (terms_counted site indices) refl
write_counted site (term place kind (in_bank r bank bank_place row)) = one_more (source_term_events site row) _ (term_accesses row) (term_counted site row) refl
write_counted site (term place kind (number negative n)) = refl
write_counted site (term place kind (truth_value value)) = refl
write_counted site (term place kind (named r)) = refl
write_counted site (term place kind (applied op left right)) =
    both (source_term_events site left) (source_term_events site right) (term_accesses left) (term_accesses right) (term_counted site left) (term_counted site right)
write_counted site (term place kind (converted inner to)) = term_counted site inner

right_end : (x a : ℕ) → x ≡ a → x ≡ a + 0
right_end x a e = omega (arith, e)

left_end : (x a : ℕ) → x ≡ a → x ≡ 0 + a
left_end x a e = omega (arith, e)

mutual
  pub events_counted : (r : Around) (a : Action) → count_in (events r a) ≡ accesses_of a
  events_counted r (action id place form) = command_counted r id form

  pub command_counted : (r : Around) (id : ℕ) (f : ActionForm) → count_in (command_events r (site_of r id) f) ≡ own_accesses f + inner_accesses f
  command_counted r id (lets name declared value) =
      right_end _ (maybe_accesses value) (no_more (maybe_events (site_of r id) value) name.entity _ (maybe_counted (site_of r id) value))
  command_counted r id (lets_memory name shape shape_places value) = refl
  command_counted r id (views name parent form) = right_end _ (own_accesses (views name parent form)) (terms_counted (site_of r id) (terms (offsets_of form)))
  command_counted r id (assigns target value) =
      right_end _ (term_accesses value) (no_more (source_term_events (site_of r id) value) target.entity _ (term_counted (site_of r id) value))
  command_counted r id (stores target value) =
      right_end _ (term_accesses value + term_accesses target)
      (both (source_term_events (site_of r id) value) (write_events (site_of r id) target) _ _ (term_counted (site_of r id) value) (write_counted (site_of r id) target))
  command_counted r id (reduces target op value) =
      right_end _ (term_accesses value) (no_more (source_term_events (site_of r id) value) target.entity _ (term_counted (site_of r id) value))
  command_counted r id (calls function arguments) = refl
  command_counted r id (blocks body) = left_end _ (groups_accesses body) (groups_counted r body)
  command_counted r id (decides test arm other) =
      both (source_term_events (site_of r id) test) (events (in_arm r id true) arm ++ other_events (in_arm r id false) other) _ _
      (term_counted (site_of r id) test)
      (both (events (in_arm r id true) arm) (other_events (in_arm r id false) other) _ _ (events_counted (in_arm r id true) arm) (other_counted (in_arm r id false) other))
  command_counted r id (repeats test body) =
      both (source_term_events (site_of r id) test) (events r body) _ _ (term_counted (site_of r id) test) (events_counted r body)
  command_counted r id (counts iterator declared low high factor body combine combine_place) =
      left_end _ (accesses_of body + other_accesses combine)
      (both (events (in_loop r (loop_of iterator low high factor)) body) (other_events (in_loop r (loop_of iterator low high factor)) combine) _ _
      (events_counted (in_loop r (loop_of iterator low high factor)) body) (other_counted (in_loop r (loop_of iterator low high factor)) combine))

  pub other_counted : (r : Around) (o : MaybeAction) → count_in (other_events r o) ≡ other_accesses o
  other_counted r no_action = refl
  other_counted r (one_action a) = events_counted r a

  pub groups_counted : (r : Around) (gs : Groups) → count_in (groups_events r gs) ≡ groups_accesses gs
  groups_counted r no_groups = refl
  groups_counted r (group_then part rest) = both (part_events r part) (groups_events r rest) _ _ (part_counted r part) (groups_counted r rest)

  pub part_counted : (r : Around) (xs : Actions) → count_in (part_events r xs) ≡ part_accesses xs
  part_counted r no_actions = refl
  part_counted r (action_then a rest) = both (events r a) (part_events r rest) _ _ (events_counted r a) (part_counted r rest)
