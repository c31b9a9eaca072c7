-- Where accesses stand: an access of a command stands in all arms that stand round the command, and one that a
-- straight command makes, itself or in an arm, stands in just the unrolled loops that the command stands in.
-- By induction on the command; the access of a number is found in the part that has this number.
use Rattle.std.proofs.Common.{◌≡◌, ℕ, zero, suc, ◌+◌, ◌<◌, ◌≤◌, ◌||◌, nat_lt, ◌⊎◌, inl, inr, Bool, true, false, if◌then◌else◌, List, [], ◌∷◌, ◌++◌, Option, Some, None, slice_get, refl, sym, ◌∙◌, ap, subst, arith}
use Rattle.std.proofs.lemmas.Bool.Decides.{nat_tests}
use Rattle.dh_tree.specs.PlainTrees.{Term, term, TermForm, number, truth_value, named, accessed, in_bank, applied, converted, Terms, no_terms, term_then, Action, action, ActionForm, lets, lets_memory, views, assigns, stores, reduces, calls, blocks, decides, repeats, counts, MaybeAction, no_action, one_action, Actions, no_actions, action_then, Groups, no_groups, group_then}
use Rattle.dh_tree.specs.declared.trees.counters.Counter.{Counter}
use Rattle.dh_meaning.specs.AccessNumbers.{term_accesses, accesses_of, other_accesses, part_accesses, groups_accesses}
use Rattle.dh_meaning.specs.Sites.{Arm, Around, nothing_around, in_arm, in_loop, loop_of}
use Rattle.dh_meaning.specs.Phases.{phases, groups_phases, parts_phases}
use Rattle.dh_meaning.specs.OnePhase.{is_between, makes, form_makes, other_makes, groups_make, part_makes}
use Rattle.dh_meets.specs.SourceEvents.{Site, SourceAccess, SourceEvent, accesses, assigned, accesses_in, source_term_events, form_events, source_terms_events, maybe_events, write_events, site_of, events, command_events, other_events, groups_events, part_events}
use Rattle.dh_sound.specs.PhaseFacts.{HasArm}
use Rattle.dh_sound.proofs.EventCounts.{count_in, term_counted, events_counted, part_counted}
use Rattle.dh_sound.proofs.SamePhase.{either, bit_true}
use Rattle.dh_sound.proofs.Sums.{Within}
use Rattle.dh_sound.proofs.Times.{span, times, times_parts, makes_times, groups_times, part_times, times_within, groups_within, part_within}
use Rattle.dh_tree.specs.Seen.{terms}
use Rattle.dh_tree.specs.ViewOffsets.{offsets_of}

-- the access of a number, among events whose accesses are numbered from n on
abbrev pub At : (n k : ℕ) → List SourceEvent → SourceAccess → Type 0
At n k [] a = ⊥
At n k (accesses b ∷ es) a = ((k ≡ n) × (b ≡ a)) ⊎ At (suc n) k es a
At n k (assigned entity ∷ es) a = At n k es a

module _ (k : ℕ) (a : SourceAccess) where
  at_number : (n m : ℕ) (es : List SourceEvent) → n ≡ m → At n k es a → At m k es a
  at_number n m es e h = subst (λ (i : ℕ). At i k es a) e h

  pub at_either : (n : ℕ) (es fs : List SourceEvent) → At n k (es ++ fs) a → At n k es a ⊎ At (n + count_in es) k fs a
  at_either n [] fs h = inr (at_number n (n + count_in []) fs (omega arith) h)
  at_either n (accesses b ∷ es) fs (inl h) = inl (inl h)
  at_either n (accesses b ∷ es) fs (inr h) = side (at_either (suc n) es fs h)
    where
      side : At (suc n) k es a ⊎ At (suc n + count_in es) k fs a → (((k ≡ n) × (b ≡ a)) ⊎ At (suc n) k es a) ⊎ At (n + count_in (accesses b ∷ es)) k fs a
      side (inl g) = inl (inr g)
      side (inr g) = inr (at_number (suc n + count_in es) (n + count_in (accesses b ∷ es)) fs (omega arith) g)
  at_either n (assigned entity ∷ es) fs h = at_either n es fs h

  pub at_within : (n : ℕ) (es : List SourceEvent) → At n k es a → Within k n (count_in es)
  at_within n [] h = elim h [ ]
  at_within n (accesses b ∷ es) (inl h) = let e = h.0 in (omega (arith, e), omega (arith, e))
  at_within n (accesses b ∷ es) (inr h) = let (l, s) = at_within (suc n) es h in (omega (arith, l), omega (arith, s))
  at_within n (assigned entity ∷ es) h = at_within n es h

  -- by where the number lies
  pub at_left : (n m : ℕ) (es fs : List SourceEvent) → n + count_in es ≡ m → k < m → At n k (es ++ fs) a → At n k es a
  at_left n m es fs e l h = side (at_either n es fs h)
    where
      side : At n k es a ⊎ At (n + count_in es) k fs a → At n k es a
      side (inl g) = g
      side (inr g) = let w = (at_within (n + count_in es) fs g).0 in let none : ⊥ = omega (arith, e, l, w) in elim none [ ]

  pub at_right : (n m : ℕ) (es fs : List SourceEvent) → n + count_in es ≡ m → m ≤ k → At n k (es ++ fs) a → At m k fs a
  at_right n m es fs e l h = side (at_either n es fs h)
    where
      side : At n k es a ⊎ At (n + count_in es) k fs a → At m k fs a
      side (inl g) = let w = (at_within n es g).1 in let none : ⊥ = omega (arith, e, l, w) in elim none [ ]
      side (inr g) = at_number (n + count_in es) m fs e g

  pub at_slice : (n i : ℕ) (es : List SourceEvent) → n + i ≡ k → slice_get (accesses_in es) i ≡ Some a → At n k es a
  at_slice n i [] e h = cc
  at_slice n zero (accesses b ∷ es) e h = let same : b ≡ a = cc in inl (omega (arith, e), same)
  at_slice n (suc i) (accesses b ∷ es) e h = inr (at_slice (suc n) i es (omega (arith, e)) h)
  at_slice n i (assigned entity ∷ es) e h = at_slice n i es e h

  -- accesses of an expression, and of a command itself, stand where the command stands
  one_site : (n : ℕ) (site : Site) (b : SourceAccess) (es : List SourceEvent) → b.site ≡ site → (At n k es a → a.site ≡ site) → At n k (es ++ accesses b ∷ []) a → a.site ≡ site
  one_site n site b es e more h = side (at_either n es (accesses b ∷ []) h)
    where
      side : At n k es a ⊎ At (n + count_in es) k (accesses b ∷ []) a → a.site ≡ site
      side (inl g) = more g
      side (inr (inl g)) = sym (ap (λ (x : SourceAccess). x.site) g.1) ∙ e
      side (inr (inr g)) = elim g [ ]

  two_sites : (n : ℕ) (site : Site) (es fs : List SourceEvent) → ((m : ℕ) → At m k es a → a.site ≡ site) → ((m : ℕ) → At m k fs a → a.site ≡ site) → At n k (es ++ fs) a → a.site ≡ site
  two_sites n site es fs f g h = elim (at_either n es fs h) [ inl x ↦ f _ x | inr y ↦ g _ y ]

  no_site : (n : ℕ) (entity : Option ℕ) (site : Site) → At n k (assigned entity ∷ []) a → a.site ≡ site
  no_site n entity site h = elim h [ ]

  mutual
    pub term_site : (site : Site) (t : Term) (n : ℕ) → At n k (source_term_events site t) a → a.site ≡ site
    term_site site (term place kind form) n h = form_site site place form n h

    form_site : (site : Site) (place : _) (f : TermForm) (n : ℕ) → At n k (form_events site place f) a → a.site ≡ site
    form_site site place (number negative v) n h = elim h [ ]
    form_site site place (truth_value value) n h = elim h [ ]
    form_site site place (named r) n h = elim h [ ]
    form_site site place (accessed r indices) n h = one_site n site _ (source_terms_events site indices) refl (terms_site site indices n) h
    form_site site place (in_bank r bank bank_place row) n h = one_site n site _ (source_term_events site row) refl (term_site site row n) h
    form_site site place (applied op left right) n h = two_sites n site (source_term_events site left) (source_term_events site right) (term_site site left) (term_site site right) h
    form_site site place (converted inner to) n h = term_site site inner n h

    terms_site : (site : Site) (ts : Terms) (n : ℕ) → At n k (source_terms_events site ts) a → a.site ≡ site
    terms_site site no_terms n h = elim h [ ]
    terms_site site (term_then t rest) n h = two_sites n site (source_term_events site t) (source_terms_events site rest) (term_site site t) (terms_site site rest) h

  maybe_site : (site : Site) (o : Option Term) (n : ℕ) → At n k (maybe_events site o) a → a.site ≡ site
  maybe_site site None n h = elim h [ ]
  maybe_site site (Some t) n h = term_site site t n h

  write_site : (site : Site) (t : Term) (n : ℕ) → At n k (write_events site t) a → a.site ≡ site
  write_site site (term place kind (accessed r indices)) n h = one_site n site _ (source_terms_events site indices) refl (terms_site site indices n) h
  write_site site (term place kind (in_bank r bank bank_place row)) n h = one_site n site _ (source_term_events site row) refl (term_site site row n) h
  write_site site (term place kind (number negative v)) n h = elim h [ ]
  write_site site (term place kind (truth_value value)) n h = elim h [ ]
  write_site site (term place kind (named r)) n h = elim h [ ]
  write_site site (term place kind (applied op left right)) n h = two_sites n site (source_term_events site left) (source_term_events site right) (term_site site left) (term_site site right) h
  write_site site (term place kind (converted inner to)) n h = term_site site inner n h

  let_site : (site : Site) (o : Option Term) (entity : Option ℕ) (n : ℕ) → At n k (maybe_events site o ++ assigned entity ∷ []) a → a.site ≡ site
  let_site site o entity n h = two_sites n site (maybe_events site o) (assigned entity ∷ []) (maybe_site site o) (λ m g. no_site m entity site g) h

  assign_site : (site : Site) (t : Term) (entity : Option ℕ) (n : ℕ) → At n k (source_term_events site t ++ assigned entity ∷ []) a → a.site ≡ site
  assign_site site t entity n h = two_sites n site (source_term_events site t) (assigned entity ∷ []) (term_site site t) (λ m g. no_site m entity site g) h

  store_site : (site : Site) (t u : Term) (n : ℕ) → At n k (source_term_events site t ++ write_events site u) a → a.site ≡ site
  store_site site t u n h = two_sites n site (source_term_events site t) (write_events site u) (term_site site t) (write_site site u) h

  -- arms
  module _ (arm : Arm) where
    has_front : (xs ys : List Arm) → HasArm arm xs → HasArm arm (xs ++ ys)
    has_front [] ys h = elim h [ ]
    has_front (x ∷ xs) ys (inl e) = inl e
    has_front (x ∷ xs) ys (inr h) = inr (has_front xs ys h)

    of_site : (r : Around) (id : ℕ) → HasArm arm r.arms → a.site ≡ site_of r id → HasArm arm a.site.arms
    of_site r id h e = subst (λ (s : Site). HasArm arm s.arms) (sym e) h

    of_loop : (r : Around) (c : Counter) → HasArm arm r.arms → HasArm arm (in_loop r c).arms
    of_loop r c h = by (nat_lt 1 c.factor)
      where
        by : (b : Bool) → HasArm arm (if b then record { arms = r.arms; loops = r.loops ++ c ∷ [] } else r).arms
        by true = h
        by false = h

    two_arms : (n : ℕ) (es fs : List SourceEvent) → ((m : ℕ) → At m k es a → HasArm arm a.site.arms) → ((m : ℕ) → At m k fs a → HasArm arm a.site.arms) → At n k (es ++ fs) a → HasArm arm a.site.arms
    two_arms n es fs f g h = elim (at_either n es fs h) [ inl x ↦ f _ x | inr y ↦ g _ y ]

    mutual
      pub arms_kept : (r : Around) → HasArm arm r.arms → (x : Action) (n : ℕ) → At n k (events r x) a → HasArm arm a.site.arms
      arms_kept r h (action id place form) n g = form_kept r h id form n g

      form_kept : (r : Around) → HasArm arm r.arms → (id : ℕ) (f : ActionForm) (n : ℕ) → At n k (command_events r (site_of r id) f) a → HasArm arm a.site.arms
      form_kept r h id (lets name declared value) n g = of_site r id h (let_site (site_of r id) value name.entity n g)
      form_kept r h id (lets_memory name shape shape_places value) n g = elim g [ ]
      form_kept r h id (views name parent form) n g = of_site r id h (terms_site (site_of r id) (terms (offsets_of form)) n g)
      form_kept r h id (assigns target value) n g = of_site r id h (assign_site (site_of r id) value target.entity n g)
      form_kept r h id (stores target value) n g = of_site r id h (store_site (site_of r id) value target n g)
      form_kept r h id (reduces target op value) n g = of_site r id h (assign_site (site_of r id) value target.entity n g)
      form_kept r h id (calls function arguments) n g = elim g [ ]
      form_kept r h id (blocks body) n g = groups_kept r h body n g
      form_kept r h id (decides test yes_arm other) n g =
          two_arms n (source_term_events (site_of r id) test) (events (in_arm r id true) yes_arm ++ other_events (in_arm r id false) other) (λ m x. of_site r id h (term_site (site_of r id) test m x))
          (λ m x. two_arms m (events (in_arm r id true) yes_arm) (other_events (in_arm r id false) other) (arms_kept (in_arm r id true) (has_front r.arms _ h) yes_arm) (other_kept (in_arm r id false) (has_front r.arms _ h) other) x) g
      form_kept r h id (repeats test body) n g =
          two_arms n (source_term_events (site_of r id) test) (events r body) (λ m x. of_site r id h (term_site (site_of r id) test m x)) (arms_kept r h body) g
      form_kept r h id (counts iterator declared low high factor body combine combine_place) n g =
          two_arms n (events (in_loop r (loop_of iterator low high factor)) body) (other_events (in_loop r (loop_of iterator low high factor)) combine)
          (arms_kept (in_loop r (loop_of iterator low high factor)) (of_loop r (loop_of iterator low high factor) h) body)
          (other_kept (in_loop r (loop_of iterator low high factor)) (of_loop r (loop_of iterator low high factor) h) combine) g

      pub other_kept : (r : Around) → HasArm arm r.arms → (o : MaybeAction) (n : ℕ) → At n k (other_events r o) a → HasArm arm a.site.arms
      other_kept r h no_action n g = elim g [ ]
      other_kept r h (one_action x) n g = arms_kept r h x n g

      groups_kept : (r : Around) → HasArm arm r.arms → (gs : Groups) (n : ℕ) → At n k (groups_events r gs) a → HasArm arm a.site.arms
      groups_kept r h no_groups n g = elim g [ ]
      groups_kept r h (group_then part rest) n g = two_arms n (part_events r part) (groups_events r rest) (part_kept r h part) (groups_kept r h rest) g

      part_kept : (r : Around) → HasArm arm r.arms → (xs : Actions) (n : ℕ) → At n k (part_events r xs) a → HasArm arm a.site.arms
      part_kept r h no_actions n g = elim g [ ]
      part_kept r h (action_then x rest) n g = two_arms n (events r x) (part_events r rest) (arms_kept r h x) (part_kept r h rest) g

-- an access that a straight command makes has one of its numbers
span_true : (k n c : ℕ) → 1 ≤ span k n c → Within k n c
span_true k n c h = grind (arith, nat_tests)

pub within_span : (k n c : ℕ) → is_between k n c ≡ true → Within k n c
within_span k n c e = grind (arith, nat_tests)

pub within_times : (k n c x y : ℕ) → x + y ≤ span k n c → 1 ≤ x → Within k n c
within_times k n c x y h l = span_true k n c (omega (arith, h, l))

pub makes_within : (k n : ℕ) (x : Action) → makes k n x ≡ true → Within k n (accesses_of x)
makes_within k n x e =
    let b = bit_true (makes k n x) e in
    let m = makes_times k nothing_around n x in
    within_times k n (accesses_of x) (times k (phases nothing_around n x)) _ (times_within k nothing_around n x) (omega (arith, b, m))

pub other_makes_within : (k n : ℕ) (o : MaybeAction) → other_makes k n o ≡ true → Within k n (other_accesses o)
other_makes_within k n no_action e = cc
other_makes_within k n (one_action x) e = makes_within k n x e

pub part_makes_within : (k n : ℕ) (xs : Actions) → part_makes k n xs ≡ true → Within k n (part_accesses xs)
part_makes_within k n xs e =
    let b = bit_true (part_makes k n xs) e in
    let m = part_times k nothing_around n xs in
    within_times k n (part_accesses xs) (times_parts k (parts_phases nothing_around n xs)) _ (part_within k nothing_around n xs) (omega (arith, b, m))

pub groups_make_within : (k n : ℕ) (gs : Groups) → groups_make k n gs ≡ true → Within k n (groups_accesses gs)
groups_make_within k n gs e =
    let b = bit_true (groups_make k n gs) e in
    let m = groups_times k nothing_around n gs in
    within_times k n (groups_accesses gs) (times k (groups_phases nothing_around n gs)) _ (groups_within k nothing_around n gs) (omega (arith, b, m))

module _ (k : ℕ) (a : SourceAccess) where
  pub first_of : (n c : ℕ) (es fs : List SourceEvent) → count_in es ≡ c → Within k n c → At n k (es ++ fs) a → At n k es a
  first_of n c es fs e w h = at_left k a n (n + c) es fs (ap (λ x. n + x) e) w.1 h

  pub second_of : (n c : ℕ) (es fs : List SourceEvent) → count_in es ≡ c → n + c ≤ k → At n k (es ++ fs) a → At (n + c) k fs a
  second_of n c es fs e l h = at_right k a n (n + c) es fs (ap (λ x. n + x) e) l h

  site_loops : (r : Around) (id : ℕ) → a.site ≡ site_of r id → a.site.loops ≡ r.loops
  site_loops r id e = ap (λ (s : Site). s.loops) e

  mutual
    pub made_loops : (r : Around) (n : ℕ) (x : Action) → makes k n x ≡ true → At n k (events r x) a → a.site.loops ≡ r.loops
    made_loops r n (action id place form) m h = form_loops r n id form m h

    form_loops : (r : Around) (n id : ℕ) (f : ActionForm) → form_makes k n f ≡ true → At n k (command_events r (site_of r id) f) a → a.site.loops ≡ r.loops
    form_loops r n id (lets name declared value) m h = site_loops r id (let_site k a (site_of r id) value name.entity n h)
    form_loops r n id (lets_memory name shape shape_places value) m h = elim h [ ]
    form_loops r n id (views name parent form) m h = site_loops r id (terms_site k a (site_of r id) (terms (offsets_of form)) n h)
    form_loops r n id (assigns target value) m h = site_loops r id (assign_site k a (site_of r id) value target.entity n h)
    form_loops r n id (stores target value) m h = site_loops r id (store_site k a (site_of r id) value target n h)
    form_loops r n id (reduces target op value) m h = site_loops r id (assign_site k a (site_of r id) value target.entity n h)
    form_loops r n id (calls function arguments) m h = elim h [ ]
    form_loops r n id (blocks body) m h = groups_loops r n body m h
    form_loops r n id (decides test arm other) m h =
        by (either (is_between k n (term_accesses test)) _ m) (made_loops (in_arm r id true) (n + term_accesses test) arm) (other_loops (in_arm r id false) (n + term_accesses test + accesses_of arm) other)
      where
        by : (is_between k n (term_accesses test) ≡ true) ⊎ ((makes k (n + term_accesses test) arm || other_makes k (n + term_accesses test + accesses_of arm) other) ≡ true)
            → (makes k (n + term_accesses test) arm ≡ true → At (n + term_accesses test) k (events (in_arm r id true) arm) a → a.site.loops ≡ r.loops)
            → (other_makes k (n + term_accesses test + accesses_of arm) other ≡ true → At (n + term_accesses test + accesses_of arm) k (other_events (in_arm r id false) other) a → a.site.loops ≡ r.loops)
            → a.site.loops ≡ r.loops
        by (inl e) f g =
            site_loops r id (term_site k a (site_of r id) test n (first_of n (term_accesses test) (source_term_events (site_of r id) test) _ (term_counted (site_of r id) test) (within_span k n (term_accesses test) e) h))
        by (inr e) f g = side (either (makes k (n + term_accesses test) arm) _ e)
          where
            side : (makes k (n + term_accesses test) arm ≡ true) ⊎ (other_makes k (n + term_accesses test + accesses_of arm) other ≡ true) → a.site.loops ≡ r.loops
            side (inl d) =
                let w = makes_within k (n + term_accesses test) arm d in
                f d (first_of (n + term_accesses test) (accesses_of arm) (events (in_arm r id true) arm) _ (events_counted (in_arm r id true) arm) w
                (second_of n (term_accesses test) (source_term_events (site_of r id) test) (events (in_arm r id true) arm ++ other_events (in_arm r id false) other) (term_counted (site_of r id) test) w.0 h))
            side (inr d) =
                let w = other_makes_within k (n + term_accesses test + accesses_of arm) other d in
                let v = w.0 in
                g d (second_of (n + term_accesses test) (accesses_of arm) (events (in_arm r id true) arm) (other_events (in_arm r id false) other) (events_counted (in_arm r id true) arm) w.0
                (second_of n (term_accesses test) (source_term_events (site_of r id) test) (events (in_arm r id true) arm ++ other_events (in_arm r id false) other) (term_counted (site_of r id) test) (omega (arith, v)) h))
    form_loops r n id (repeats test body) m h = cc
    form_loops r n id (counts iterator declared low high factor body combine combine_place) m h = cc

    other_loops : (r : Around) (n : ℕ) (o : MaybeAction) → other_makes k n o ≡ true → At n k (other_events r o) a → a.site.loops ≡ r.loops
    other_loops r n no_action m h = elim h [ ]
    other_loops r n (one_action x) m h = made_loops r n x m h

    groups_loops : (r : Around) (n : ℕ) (gs : Groups) → groups_make k n gs ≡ true → At n k (groups_events r gs) a → a.site.loops ≡ r.loops
    groups_loops r n no_groups m h = elim h [ ]
    groups_loops r n (group_then part rest) m h =
        elim (either (part_makes k n part) (groups_make k (n + part_accesses part) rest) m) [
          | inl e ↦ part_loops r n part e (first_of n (part_accesses part) (part_events r part) (groups_events r rest) (part_counted r part) (part_makes_within k n part e) h)
          | inr e ↦ groups_loops r (n + part_accesses part) rest e (second_of n (part_accesses part) (part_events r part) (groups_events r rest) (part_counted r part) (groups_make_within k (n + part_accesses part) rest e).0 h)
        ]

    part_loops : (r : Around) (n : ℕ) (xs : Actions) → part_makes k n xs ≡ true → At n k (part_events r xs) a → a.site.loops ≡ r.loops
    part_loops r n no_actions m h = elim h [ ]
    part_loops r n (action_then x rest) m h =
        elim (either (makes k n x) (part_makes k (n + accesses_of x) rest) m) [
          | inl e ↦ made_loops r n x e (first_of n (accesses_of x) (events r x) (part_events r rest) (events_counted r x) (makes_within k n x e) h)
          | inr e ↦ part_loops r (n + accesses_of x) rest e (second_of n (accesses_of x) (events r x) (part_events r rest) (events_counted r x) (part_makes_within k (n + accesses_of x) rest e).0 h)
        ]
