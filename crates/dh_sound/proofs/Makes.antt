-- The numbers of the accesses that a command makes lie among its own: from its first on, as many as it has. And the
-- trace has as many accesses for a command as it has. Both by induction over the command.
use Rattle.std.proofs.Common.{◌≡◌, ◌⊎◌, inl, inr, ℕ, ◌+◌, ◌<◌, ◌≤◌, ◌&&◌, ◌||◌, nat_lt, nat_le, Bool, true, false, [], ◌∷◌, ◌++◌, Option, Some, None, refl, ◌∙◌, ap, arith}
use Rattle.std.proofs.lemmas.Bool.Decides.{nat_tests}
use Rattle.dh_tree.specs.PlainTrees.{Term, term, number, truth_value, named, accessed, in_bank, applied, converted, Action, action, ActionForm, lets, lets_memory, views, assigns, stores, reduces, calls, blocks, decides, repeats, counts, MaybeAction, no_action, one_action, Actions, no_actions, action_then, Groups, no_groups, group_then}
use Rattle.dh_meaning.specs.AccessNumbers.{term_accesses, maybe_accesses, own_accesses, accesses_of, inner_accesses, other_accesses, groups_accesses, part_accesses}
use Rattle.dh_meaning.specs.OnePhase.{is_between, makes, form_makes, other_makes, groups_make, part_makes}
use Rattle.dh_meaning.specs.Sites.{Around, in_arm, in_loop, loop_of}
use Rattle.dh_meets.specs.SourceEvents.{Site, assigned, site_of, source_term_events, source_terms_events, maybe_events, write_events, events, command_events, other_events, groups_events, part_events, one_access, with_indices, in_row}
use Rattle.dh_sound.specs.Straight.{IsTarget, IsNamedAction, IsNamedForm, IsNamedOther, AreNamedGroups, AreNamedActions}
use Rattle.dh_sound.proofs.KnownReads.{count_joined}
use Rattle.dh_sound.proofs.TermWalks.{term_counted, terms_counted}
use Rattle.dh_sound.specs.Trails.{count}
use Rattle.dh_tree.specs.Seen.{terms}
use Rattle.dh_tree.specs.ViewOffsets.{offsets_of}

either : (x y : Bool) → (x || y) ≡ true → (x ≡ true) ⊎ (y ≡ true)
either true y e = inl refl
either false y e = inr e

-- k is one of so many numbers from n on
abbrev pub Within : (k n count : ℕ) → Type 0
Within k n c = (n ≤ k) × (k < n + c)

pub within_is : (k n c : ℕ) → is_between k n c ≡ true → Within k n c
within_is k n c e = by (nat_le n k) (nat_lt k (n + c)) refl refl e
  where
    by : (x y : Bool) → nat_le n k ≡ x → nat_lt k (n + c) ≡ y → (x && y) ≡ true → Within k n c
    by true true f g e = (grind (arith, nat_tests), grind (arith, nat_tests))
    by true false f g e = cc
    by false y f g e = cc

pub is_within_so : (k n c : ℕ) → Within k n c → is_between k n c ≡ true
is_within_so k n c w = let l = w.0 in let u = w.1 in ap (λ x. x && nat_lt k (n + c)) (le_so n k l) ∙ lt_so k (n + c) u
  where
    le_so : (a b : ℕ) → a ≤ b → nat_le a b ≡ true
    le_so a b l = grind (arith, nat_tests)

    lt_so : (a b : ℕ) → a < b → nat_lt a b ≡ true
    lt_so a b l = grind (arith, nat_tests)

pub not_within : (k n c : ℕ) → (Within k n c → ⊥) → is_between k n c ≡ false
not_within k n c out = by (is_between k n c) refl
  where
    by : (x : Bool) → is_between k n c ≡ x → is_between k n c ≡ false
    by true e = elim (out (within_is k n c e)) [ ]
    by false e = e

pub two_within : (k n a c : ℕ) (x y : Bool) → (x || y) ≡ true → (x ≡ true → Within k n a) → (y ≡ true → Within k (n + a) c) → Within k n (a + c)
two_within k n a c true y e f g = let w = f refl in let u = w.1 in (w.0, omega (arith, u))
two_within k n a c false y e f g = let w = g e in let l = w.0 in let u = w.1 in (omega (arith, l), omega (arith, u))

arms_within : (k n t c o : ℕ) (x y : Bool) → (is_between k n t || (x || y)) ≡ true → (x ≡ true → Within k (n + t) c) → (y ≡ true → Within k (n + t + c) o) → Within k n (t + (c + o))
arms_within k n t c o x y e f g = two_within k n t (c + o) (is_between k n t) (x || y) e (within_is k n t) (λ h. two_within k (n + t) c o x y h f g)

mutual
  pub makes_within : (k n : ℕ) (a : Action) → makes k n a ≡ true → Within k n (accesses_of a)
  makes_within k n (action id place f) e = form_within k n f e

  form_within : (k n : ℕ) (f : ActionForm) → form_makes k n f ≡ true → Within k n (own_accesses f + inner_accesses f)
  form_within k n (lets name declared value) e = let w = within_is k n (maybe_accesses value) e in let u = w.1 in (w.0, omega (arith, u))
  form_within k n (lets_memory name shape shape_places value) e = cc
  form_within k n (views name parent form) e = let w = within_is k n (own_accesses (views name parent form)) e in let u = w.1 in (w.0, omega (arith, u))
  form_within k n (assigns target value) e = let w = within_is k n (term_accesses value) e in let u = w.1 in (w.0, omega (arith, u))
  form_within k n (stores target value) e = let w = within_is k n (term_accesses value + term_accesses target) e in let u = w.1 in (w.0, omega (arith, u))
  form_within k n (reduces target op value) e = let w = within_is k n (term_accesses value) e in let u = w.1 in (w.0, omega (arith, u))
  form_within k n (calls function arguments) e = cc
  form_within k n (blocks body) e = let w = groups_within k n body e in let u = w.1 in (w.0, omega (arith, u))
  form_within k n (repeats test body) e = cc
  form_within k n (counts iterator declared low high factor body combine combine_place) e = cc
  form_within k n (decides test chosen other) e =
      arms_within k n (term_accesses test) (accesses_of chosen) (other_accesses other) _ _ e (makes_within k (n + term_accesses test) chosen) (other_within k (n + term_accesses test + accesses_of chosen) other)

  pub other_within : (k n : ℕ) (o : MaybeAction) → other_makes k n o ≡ true → Within k n (other_accesses o)
  other_within k n no_action e = cc
  other_within k n (one_action a) e = makes_within k n a e

  pub groups_within : (k n : ℕ) (gs : Groups) → groups_make k n gs ≡ true → Within k n (groups_accesses gs)
  groups_within k n no_groups e = cc
  groups_within k n (group_then part rest) e = two_within k n (part_accesses part) (groups_accesses rest) _ _ e (part_within k n part) (groups_within k (n + part_accesses part) rest)

  pub part_within : (k n : ℕ) (p : Actions) → part_makes k n p ≡ true → Within k n (part_accesses p)
  part_within k n no_actions e = cc
  part_within k n (action_then a rest) e = two_within k n (accesses_of a) (part_accesses rest) _ _ e (makes_within k n a) (part_within k (n + accesses_of a) rest)

-- How many accesses the trace has.
maybe_counted : (site : Site) (t : Option Term) → count (maybe_events site t) ≡ maybe_accesses t
maybe_counted site None = refl
maybe_counted site (Some t) = term_counted site t

target_counted : (site : Site) (t : Term) → IsTarget t → count (write_events site t) ≡ term_accesses t
target_counted site (term place k (accessed r ts)) h = let c = count_joined (source_terms_events site ts) (one_access place r.entity (with_indices ts) true site) in let d = terms_counted site ts in omega (arith, c, d)
target_counted site (term place k (in_bank r bank at t)) h = let c = count_joined (source_term_events site t) (one_access place r.entity (in_row bank t) true site) in let d = term_counted site t in omega (arith, c, d)
target_counted site (term place k (number negative x)) h = elim h [ ]
target_counted site (term place k (truth_value x)) h = elim h [ ]
target_counted site (term place k (named r)) h = elim h [ ]
target_counted site (term place k (applied o l m)) h = elim h [ ]
target_counted site (term place k (converted t to)) h = elim h [ ]

mutual
  pub action_counted : (r : Around) (a : Action) → IsNamedAction a → count (events r a) ≡ accesses_of a
  action_counted r (action id place f) h = form_counted r (site_of r id) id f h refl

  pub form_counted : (r : Around) (site : Site) (id : ℕ) (f : ActionForm) → IsNamedForm f → site ≡ site_of r id → count (command_events r site f) ≡ own_accesses f + inner_accesses f
  form_counted r site id (lets name declared value) h e = let c = count_joined (maybe_events site value) (assigned name.entity ∷ []) in let d = maybe_counted site value in omega (arith, c, d)
  form_counted r site id (lets_memory name shape shape_places value) h e = refl
  form_counted r site id (views name parent form) h e = let d = terms_counted site (terms (offsets_of form)) in omega (arith, d)
  form_counted r site id (assigns target value) h e = let c = count_joined (source_term_events site value) (assigned target.entity ∷ []) in let d = term_counted site value in omega (arith, c, d)
  form_counted r site id (stores target value) h e =
      let c = count_joined (source_term_events site value) (write_events site target) in let d = term_counted site value in let t = target_counted site target h.0 in omega (arith, c, d, t)
  form_counted r site id (reduces target op value) h e = let c = count_joined (source_term_events site value) (assigned target.entity ∷ []) in let d = term_counted site value in omega (arith, c, d)
  form_counted r site id (calls function arguments) h e = refl
  form_counted r site id (blocks body) h e = let x = groups_counted r body h in omega (arith, x)
  form_counted r site id (decides test chosen other) h e =
      let c = count_joined (source_term_events site test) (events (in_arm r site.command true) chosen ++ other_events (in_arm r site.command false) other) in
      let d = count_joined (events (in_arm r site.command true) chosen) (other_events (in_arm r site.command false) other) in
      let t = term_counted site test in
      let x = action_counted (in_arm r site.command true) chosen h.1.0 in
      let y = other_counted (in_arm r site.command false) other h.1.1 in
      omega (arith, c, d, t, x, y)
  form_counted r site id (repeats test body) h e =
      let c = count_joined (source_term_events site test) (events r body) in let t = term_counted site test in let x = action_counted r body h.1 in omega (arith, c, t, x)
  form_counted r site id (counts iterator declared low high factor body combine combine_place) h e =
      let c = count_joined (events (in_loop r (loop_of iterator low high factor)) body) (other_events (in_loop r (loop_of iterator low high factor)) combine) in
      let x = action_counted (in_loop r (loop_of iterator low high factor)) body h.1.0 in
      let y = other_counted (in_loop r (loop_of iterator low high factor)) combine h.1.1 in
      omega (arith, c, x, y)

  pub other_counted : (r : Around) (o : MaybeAction) → IsNamedOther o → count (other_events r o) ≡ other_accesses o
  other_counted r no_action h = refl
  other_counted r (one_action a) h = action_counted r a h

  pub groups_counted : (r : Around) (gs : Groups) → AreNamedGroups gs → count (groups_events r gs) ≡ groups_accesses gs
  groups_counted r no_groups h = refl
  groups_counted r (group_then part rest) h =
      let c = count_joined (part_events r part) (groups_events r rest) in let x = part_counted r part h.0 in let y = groups_counted r rest h.1 in omega (arith, c, x, y)

  pub part_counted : (r : Around) (p : Actions) → AreNamedActions p → count (part_events r p) ≡ part_accesses p
  part_counted r no_actions h = refl
  part_counted r (action_then a rest) h =
      let c = count_joined (events r a) (part_events r rest) in let x = action_counted r a h.0 in let y = part_counted r rest h.1 in omega (arith, c, x, y)
