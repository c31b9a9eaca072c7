-- The claims of each access, by its number, among those of all that happens.
use Rattle.std.proofs.Common.{◌≡◌, ℕ, zero, suc, ◌+◌, ◌<◌, ◌≤◌, ◌==◌, Bool, List, [], ◌∷◌, ◌++◌, length, map, refl, ap, sym, ◌∙◌, arith, ◌&&◌, take}
use mathlib.Core.Path.{fun_ext}
use Rattle.std.specs.Prelude.{Option, Some, None, slice_get}
use Rattle.std.specs.List.{filter}
use Rattle.std.specs.Set.{distinct_count}
use Rattle.dh_tree.specs.declared.tables.Dim.{Dim}
use Rattle.dh_tree.specs.declared.tables.MemEntry.{MemEntry}
use Rattle.dh_tree.specs.declared.trees.counters.Counter.{Counter}
use Rattle.dh_tree.specs.Counters.{counters_of}
use Rattle.dh_tree.specs.Elements.{banks_of}
use Rattle.dh_tree.specs.Memories.{memories_of, number_in, table_of}
use Rattle.dh_tree.specs.PlainTrees.{Term, term, Program}
use Rattle.dh_meaning.specs.Ways.{Way, all_bindings_of, way_to}
use Rattle.dh_viewing.specs.Carried.{carried_by}
use Rattle.dh_meaning.specs.Paths.{Path, same_path}
use Rattle.dh_meets.specs.Charges.{bank_reached, key_of, paths_of, groups_of, sum_over}
use Rattle.dh_meets.specs.SourceEvents.{Element, with_indices, in_row, SourceAccess}
use Rattle.dh_events.specs.declared.events.Site.{Site}
use Rattle.dh_ports.specs.declared.moves.Move.{Move}
use Rattle.dh_ports.specs.Claims.{access_of, first_bank_of, keys_on, counts_to, claims_from, claims_in, claims_at, claims_of, count_on, owner_of}
use Rattle.dh_ports.specs.Courses.{access_count}
use Rattle.dh_events.specs.Incidents.{PortEvent, touches, assigned, arm_begins, arm_ends, begins, next, ends}
use Rattle.dh_ports.specs.Wholes.{Touched, touched, touched_by, of_access, sites_in, at_touches}

absurd : {A : Type 0} → ⊥ → A
absurd e = elim e [ ]

-- Lists that note something of each incident, at the incident of an access.

less : (m n : ℕ) → suc m ≡ suc n → m ≡ n
less m n e = omega (arith, e)

fewer : (m n : ℕ) → suc m < suc n → m < n
fewer m n e = omega (arith, e)

none_more : (n : ℕ) → 0 ≡ suc n → ⊥
none_more n e = omega (arith, e)

more_none : (n : ℕ) → suc n ≡ 0 → ⊥
more_none n e = omega (arith, e)

none_below : (n : ℕ) → n < 0 → ⊥
none_below n e = omega (arith, e)

-- the place among all of the incident that is the access of this number
abbrev pub event_of : List PortEvent → ℕ → ℕ
event_of [] k = 0
event_of (touches access writes site ∷ xs) zero = 0
event_of (touches access writes site ∷ xs) (suc k) = suc (event_of xs k)
event_of (assigned entity ∷ xs) k = suc (event_of xs k)
event_of (arm_begins ∷ xs) k = suc (event_of xs k)
event_of (arm_ends ∷ xs) k = suc (event_of xs k)
event_of (begins ∷ xs) k = suc (event_of xs k)
event_of (next ∷ xs) k = suc (event_of xs k)
event_of (ends ∷ xs) k = suc (event_of xs k)

pub at_event : {A : Type 0} (xs : List PortEvent) (zs : List A) (k : ℕ) → length zs ≡ length xs → k < access_count xs → slice_get (at_touches xs zs) k ≡ slice_get zs (event_of xs k)
at_event [] [] k l h = refl
at_event (x ∷ xs) [] k l h = absurd (none_more (length xs) l)
at_event [] (a ∷ zs) k l h = absurd (none_below k h)
at_event (touches t w f ∷ xs) (a ∷ zs) zero l h = refl
at_event (touches t w f ∷ xs) (a ∷ zs) (suc k) l h = at_event xs zs k (less _ _ l) (fewer _ _ h)
at_event (assigned e ∷ xs) (a ∷ zs) k l h = at_event xs zs k (less _ _ l) h
at_event (arm_begins ∷ xs) (a ∷ zs) k l h = at_event xs zs k (less _ _ l) h
at_event (arm_ends ∷ xs) (a ∷ zs) k l h = at_event xs zs k (less _ _ l) h
at_event (begins ∷ xs) (a ∷ zs) k l h = at_event xs zs k (less _ _ l) h
at_event (next ∷ xs) (a ∷ zs) k l h = at_event xs zs k (less _ _ l) h
at_event (ends ∷ xs) (a ∷ zs) k l h = at_event xs zs k (less _ _ l) h

-- an element within a list
pub there_is : {A : Type 0} (zs : List A) (k : ℕ) → k < length zs → (a : A) × (slice_get zs k ≡ Some a)
there_is [] k h = absurd (none_below k h)
there_is (a ∷ zs) zero h = (a, refl)
there_is (a ∷ zs) (suc k) h = there_is zs k (fewer _ _ h)

pub touched_long : (xs : List PortEvent) → length (touched xs) ≡ access_count xs
touched_long [] = refl
touched_long (touches t w f ∷ xs) = ap suc (touched_long xs)
touched_long (assigned e ∷ xs) = touched_long xs
touched_long (arm_begins ∷ xs) = touched_long xs
touched_long (arm_ends ∷ xs) = touched_long xs
touched_long (begins ∷ xs) = touched_long xs
touched_long (next ∷ xs) = touched_long xs
touched_long (ends ∷ xs) = touched_long xs

-- a list is what is left of another from a place on
abbrev pub Follows : {A : Type 0} → (rest whole : List A) → ℕ → Type 0
Follows rest whole n = (j : ℕ) → slice_get rest j ≡ slice_get whole (n + j)

pub follow_here : {A : Type 0} (x : A) (xs whole : List A) (n : ℕ) → Follows (x ∷ xs) whole n → slice_get whole n ≡ Some x
follow_here x xs whole n f = sym (f 0 ∙ ap (λ m. slice_get whole m) (none n))
  where
    none : (n : ℕ) → n + 0 ≡ n
    none n = omega arith

pub follow_next : {A : Type 0} (x : A) (xs whole : List A) (n : ℕ) → Follows (x ∷ xs) whole n → Follows xs whole (n + 1)
follow_next x xs whole n f j = f (suc j) ∙ ap (λ m. slice_get whole m) (shift n j)
  where
    shift : (n j : ℕ) → n + suc j ≡ n + 1 + j
    shift n j = omega arith

pub follow_all : {A : Type 0} (xs : List A) → Follows xs xs 0
follow_all xs j = ap (λ m. slice_get xs m) (from_none j)
  where
    from_none : (j : ℕ) → j ≡ 0 + j
    from_none j = omega arith

-- The claims of each access.

abbrev pub nth_claims : List (List Move) → ℕ → List Move
nth_claims [] k = []
nth_claims (c ∷ cs) zero = c
nth_claims (c ∷ cs) (suc k) = nth_claims cs k

abbrev pub claim_lists : Program → (Option ℕ → List Counter) → (event : ℕ) → List PortEvent → List (List Move)
claim_lists p loops event [] = []
claim_lists p loops event (touches access writes site ∷ xs) = claims_of p event (access_of (loops site.round) writes access) ∷ claim_lists p loops (event + 1) xs
claim_lists p loops event (assigned entity ∷ xs) = claim_lists p loops (event + 1) xs
claim_lists p loops event (arm_begins ∷ xs) = claim_lists p loops (event + 1) xs
claim_lists p loops event (arm_ends ∷ xs) = claim_lists p loops (event + 1) xs
claim_lists p loops event (begins ∷ xs) = claim_lists p loops (event + 1) xs
claim_lists p loops event (next ∷ xs) = claim_lists p loops (event + 1) xs
claim_lists p loops event (ends ∷ xs) = claim_lists p loops (event + 1) xs

module _ (p : Program) (loops : Option ℕ → List Counter) where
  -- an access among incidents
  pub record TouchAt (event : ℕ) (xs : List PortEvent) (k : ℕ) : Type 0 where
    pub access : Term
    pub writes : Bool
    pub site : Site
    pub touch : slice_get (touched xs) k ≡ Some (touched_by access writes)
    pub sited : slice_get (sites_in xs) k ≡ Some site
    pub stands : slice_get xs (event_of xs k) ≡ Some (touches access writes site)
    pub claims : nth_claims (claim_lists p loops event xs) k ≡ claims_of p (event + event_of xs k) (access_of (loops site.round) writes access)

  -- behind one incident more that is no access
  next_claims : (event m : ℕ) (a : SourceAccess) (xs : List PortEvent) (k : ℕ) → nth_claims (claim_lists p loops (event + 1) xs) k ≡ claims_of p (event + 1 + m) a → nth_claims (claim_lists p loops (event + 1) xs) k ≡ claims_of p (event + suc m) a
  next_claims event m a xs k e = e ∙ ap (λ n. claims_of p n a) (shift event m)
    where
      shift : (n j : ℕ) → n + 1 + j ≡ n + suc j
      shift n j = omega arith

  pub touch_at : (event : ℕ) (xs : List PortEvent) (k : ℕ) → k < access_count xs → TouchAt event xs k
  touch_at event [] k h = absurd (none_below k h)
  touch_at event (touches t w s ∷ xs) zero h = record { access = t; writes = w; site = s; touch = refl; sited = refl; stands = refl; claims = ap (λ n. claims_of p n (access_of (loops s.round) w t)) (plus_none event) }
    where
      plus_none : (n : ℕ) → n ≡ n + 0
      plus_none n = omega arith
  touch_at event (touches t w s ∷ xs) (suc k) h =
      let r = touch_at (event + 1) xs k (fewer _ _ h) in
      record { access = r.access; writes = r.writes; site = r.site; touch = r.touch; sited = r.sited; stands = r.stands; claims = next_claims event (event_of xs k) (access_of (loops r.site.round) r.writes r.access) xs k r.claims }
  touch_at event (assigned entity ∷ xs) k h =
      let r = touch_at (event + 1) xs k h in
      record { access = r.access; writes = r.writes; site = r.site; touch = r.touch; sited = r.sited; stands = r.stands; claims = next_claims event (event_of xs k) (access_of (loops r.site.round) r.writes r.access) xs k r.claims }
  touch_at event (arm_begins ∷ xs) k h =
      let r = touch_at (event + 1) xs k h in
      record { access = r.access; writes = r.writes; site = r.site; touch = r.touch; sited = r.sited; stands = r.stands; claims = next_claims event (event_of xs k) (access_of (loops r.site.round) r.writes r.access) xs k r.claims }
  touch_at event (arm_ends ∷ xs) k h =
      let r = touch_at (event + 1) xs k h in
      record { access = r.access; writes = r.writes; site = r.site; touch = r.touch; sited = r.sited; stands = r.stands; claims = next_claims event (event_of xs k) (access_of (loops r.site.round) r.writes r.access) xs k r.claims }
  touch_at event (begins ∷ xs) k h =
      let r = touch_at (event + 1) xs k h in
      record { access = r.access; writes = r.writes; site = r.site; touch = r.touch; sited = r.sited; stands = r.stands; claims = next_claims event (event_of xs k) (access_of (loops r.site.round) r.writes r.access) xs k r.claims }
  touch_at event (next ∷ xs) k h =
      let r = touch_at (event + 1) xs k h in
      record { access = r.access; writes = r.writes; site = r.site; touch = r.touch; sited = r.sited; stands = r.stands; claims = next_claims event (event_of xs k) (access_of (loops r.site.round) r.writes r.access) xs k r.claims }
  touch_at event (ends ∷ xs) k h =
      let r = touch_at (event + 1) xs k h in
      record { access = r.access; writes = r.writes; site = r.site; touch = r.touch; sited = r.sited; stands = r.stands; claims = next_claims event (event_of xs k) (access_of (loops r.site.round) r.writes r.access) xs k r.claims }

  -- no access has a number beyond
  pub none_claims : (event : ℕ) (xs : List PortEvent) (k : ℕ) → access_count xs ≤ k → nth_claims (claim_lists p loops event xs) k ≡ []
  none_claims event [] k h = refl
  none_claims event (touches t w s ∷ xs) zero h = absurd (none (access_count xs) h)
    where
      none : (n : ℕ) → suc n ≤ 0 → ⊥
      none n e = omega (arith, e)
  none_claims event (touches t w s ∷ xs) (suc k) h = none_claims (event + 1) xs k (one_less (access_count xs) k h)
    where
      one_less : (m n : ℕ) → suc m ≤ suc n → m ≤ n
      one_less m n e = omega (arith, e)
  none_claims event (assigned entity ∷ xs) k h = none_claims (event + 1) xs k h
  none_claims event (arm_begins ∷ xs) k h = none_claims (event + 1) xs k h
  none_claims event (arm_ends ∷ xs) k h = none_claims (event + 1) xs k h
  none_claims event (begins ∷ xs) k h = none_claims (event + 1) xs k h
  none_claims event (next ∷ xs) k h = none_claims (event + 1) xs k h
  none_claims event (ends ∷ xs) k h = none_claims (event + 1) xs k h

-- Claims go by what an access names, its element, whether it writes and the loops round it.

-- an access with no more of its site than its loops
abbrev pub stripped : SourceAccess → SourceAccess
stripped a = record { place = a.place; entity = a.entity; element = a.element; writes = a.writes; site = record { command = 0; arms = []; loops = a.site.loops } }

module _ (p : Program) (a : SourceAccess) where
  bank_same : (dims : List Dim) (path : Path) (e : Element) → bank_reached (counters_of p) dims (stripped a) path e ≡ bank_reached (counters_of p) dims a path e
  bank_same dims path (with_indices indices) = refl
  bank_same dims path (in_row bank row) = refl

  keys_same : (dims : List Dim) (bank : ℕ) → keys_on p dims (stripped a) bank ≡ keys_on p dims a bank
  keys_same dims bank = ap (λ (t : Path → Bool). distinct_count same_path (map (key_of (all_bindings_of p) a) (filter t (paths_of a)))) (fun_ext (λ path. ap (λ n. n == bank) (bank_same dims path a.element)))

  count_same : (w : Option Way) (dims : List Dim) (bank : ℕ) → count_on p w dims (stripped a) bank ≡ count_on p w dims a bank
  count_same None dims bank = keys_same dims bank
  count_same (Some w) dims bank =
      ap (λ (named : Path → ℕ). sum_over (groups_of w a) (λ g. carried_by (map (λ s. s.is) w.steps) (λ c. distinct_count same_path (map (key_of (all_bindings_of p) a) (filter (λ path. same_path (take w.shifts path) g && (named path == c)) (paths_of a)))) bank))
      (fun_ext (λ path. bank_same w.is.shape.dims path a.element))

  counts_same : (dims : List Dim) (banks : ℕ) → counts_to p dims (stripped a) banks ≡ counts_to p dims a banks
  counts_same dims zero = refl
  counts_same dims (suc bank) = ap (λ l. l ++ count_on p (way_to p a.entity) dims (stripped a) bank ∷ []) (counts_same dims bank) ∙ ap (λ n. counts_to p dims a bank ++ n ∷ []) (count_same (way_to p a.entity) dims bank)

  pub claims_same : (event : ℕ) → claims_of p event (stripped a) ≡ claims_of p event a
  claims_same event = by_number (number_in (memories_of p) (owner_of p a))
    where
      by_entry : (base : ℕ) (o : Option MemEntry) → claims_in p event base o (stripped a) ≡ claims_in p event base o a
      by_entry base None = refl
      by_entry base (Some e) = ap (λ l. claims_from event base l) (counts_same e.shape.dims (banks_of e.shape.dims))

      by_number : (o : Option ℕ) → claims_at p event o (stripped a) ≡ claims_at p event o a
      by_number None = refl
      by_number (Some m) = by_entry (first_bank_of (table_of p) m) (slice_get (table_of p) m)

-- an access of the code is one of the program, by what both say
abbrev with_parts : Touched → List Counter → SourceAccess
with_parts t loops = record { place = t.place; entity = t.entity; element = t.element; writes = t.writes; site = record { command = 0; arms = []; loops = loops } }

as_parts : (loops : List Counter) (writes : Bool) (t : Term) → access_of loops writes t ≡ with_parts (touched_by t writes) loops
as_parts loops writes (term place kind form) = refl

pub access_is : (loops : List Counter) (writes : Bool) (t : Term) (a : SourceAccess) → touched_by t writes ≡ of_access a → loops ≡ a.site.loops → access_of loops writes t ≡ stripped a
access_is loops writes t a e f = as_parts loops writes t ∙ (ap (λ x. with_parts x loops) e ∙ ap (λ l. with_parts (of_access a) l) f)
