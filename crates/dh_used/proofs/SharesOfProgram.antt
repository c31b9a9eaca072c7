-- What the sharing table of a program tells of the accesses of a block: a read shares an earlier read of the block, and a
-- write shares none and is shared by none.
use Rattle.std.proofs.Common.{◌≡◌, ◌<◌, ◌≤◌, ◌+◌, ◌-◌, ◌&&◌, ◌||◌, not, ℕ, zero, suc, List, Some, None, ap, sym, ◌∙◌, subst, length, arith, refl}
use Rattle.std.specs.Prelude.{Bool as Truth, true, false, [], ◌∷◌, ◌++◌, Option, slice_get}
use Rattle.std.specs.List.{AllByRecursion}
use Rattle.std.specs.Option.{is_some}
use Rattle.dh_tree.specs.Indices as indices
use Rattle.dh_tree.specs.PlainTrees as plain
use Rattle.dh_tree.specs.PlainTrees.{Program, Term, Action, action, ActionForm, lets, lets_memory, views, assigns, stores, reduces, calls, blocks, decides, repeats, counts, MaybeAction, no_action, one_action, Actions, no_actions, action_then, Groups, no_groups, group_then}
use Rattle.dh_tree.specs.Seen.{program_seen}
use Rattle.dh_meaning.specs.AccessNumbers.{accesses_of, part_accesses, term_accesses}
use Rattle.dh_meaning.specs.OnePhase.{any_makes, in_one_phase, makes, test_makes}
use Rattle.dh_meaning.specs.Phases.{Located}
use Rattle.dh_meaning.specs.Sites as source
use Rattle.dh_meaning.specs.Sites.{in_arm, nothing_around}
use Rattle.dh_meets.specs.Sharing.{shared}
use Rattle.dh_meets.specs.SourceEvents.{with_indices, SourceAccess, SourceEvent, accesses, assigned, accesses_in, events, groups_events, other_events, part_events, site_of, source_term_events, source_terms_events, trace, write_events}
use Rattle.dh_used.proofs.SharedReads.{shared_before, shared_there}
use Rattle.dh_sound.specs.PhaseFacts.{StandsAmong}
use Rattle.dh_sound.specs.ToldEvents.{access_at}
use Rattle.dh_sound.specs.Trails.{count}
use Rattle.dh_sound.proofs.EventCounts.{accesses_joined, events_counted, part_counted, term_counted, terms_counted}
use Rattle.dh_sound.proofs.KnownReads.{Shares, shared_found}
use Rattle.dh_sound.proofs.LocatedSites.{test_first}
use Rattle.dh_sound.proofs.Makes.{makes_within}
use Rattle.dh_lengths.specs.SharedReads.{TellsShares, share_told}
use Rattle.dh_expressions.specs.declared.scenes.Scene.{Scene}
use Rattle.dh_expressions.proofs.ListPlaces.{place_within, there}
use Rattle.dh_formed.specs.Formed.{BlockSite}
use Rattle.dh_laid.specs.Laid.{aim_accesses}
use Rattle.dh_laid.specs.LaidNumbers.{IsAccessForm, StoresReach, StoresReachGroups, StoresReachOther, StoresReachPart}
use Rattle.dh_laid.specs.LaidUses.{EachWrite, EachWriteActions, EachWriteGroups, EachWriteOther, IsUnshared, SharesInside, WritesAlone}
use Rattle.dh_used.specs.SourceSites.{AllStand}

-- Lists.

in_front : (xs ys : List SourceAccess) (i : ℕ) (a : SourceAccess) → slice_get xs i ≡ Some a → slice_get (xs ++ ys) i ≡ Some a
in_front [] ys i a e = absurd (cc)
in_front (x ∷ xs) ys zero a e = e
in_front (x ∷ xs) ys (suc i) a e = in_front xs ys i a e

pub behind : (xs ys : List SourceAccess) (i : ℕ) (a : SourceAccess) → slice_get ys i ≡ Some a → slice_get (xs ++ ys) (length xs + i) ≡ Some a
behind [] ys i a e = ap (λ j. slice_get ys j) (none i) ∙ e
  where
    none : (i : ℕ) → 0 + i ≡ i
    none i = omega arith
behind (x ∷ xs) ys i a e = ap (λ j. slice_get (x ∷ (xs ++ ys)) j) (more (length xs) i) ∙ behind xs ys i a e
  where
    more : (n i : ℕ) → suc n + i ≡ suc (n + i)
    more n i = omega arith

first_of : (es fs : List SourceEvent) (i : ℕ) (a : SourceAccess) → slice_get (accesses_in es) i ≡ Some a → slice_get (accesses_in (es ++ fs)) i ≡ Some a
first_of es fs i a e = ap (λ (l : List SourceAccess). slice_get l i) (accesses_joined es fs) ∙ in_front (accesses_in es) (accesses_in fs) i a e

-- behind events with so many accesses
then_of : (es fs : List SourceEvent) (n i : ℕ) (a : SourceAccess) → length (accesses_in es) ≡ n → slice_get (accesses_in fs) i ≡ Some a → slice_get (accesses_in (es ++ fs)) (n + i) ≡ Some a
then_of es fs n i a long e =
    ap (λ (l : List SourceAccess). slice_get l (n + i)) (accesses_joined es fs)
    ∙ (ap (λ m. slice_get (accesses_in es ++ accesses_in fs) (m + i)) (sym long) ∙ behind (accesses_in es) (accesses_in fs) i a e)

-- where an access stands among events
pub record CutAt (es : List SourceEvent) (k : ℕ) (a : SourceAccess) : Type 0 where
  pub before : List SourceEvent
  pub after : List SourceEvent
  pub cut : es ≡ before ++ accesses a ∷ after
  pub counted : count before ≡ k

pub cut_at : (es : List SourceEvent) (k : ℕ) (a : SourceAccess) → slice_get (accesses_in es) k ≡ Some a → CutAt es k a
cut_at [] k a e = absurd (cc)
cut_at (assigned entity ∷ es) k a e = let c = cut_at es k a e in record { before = assigned entity ∷ c.before; after = c.after; cut = ap (λ (l : List SourceEvent). assigned entity ∷ l) c.cut; counted = c.counted }
cut_at (accesses b ∷ es) zero a e = let same : b ≡ a = cc in record { before = []; after = es; cut = ap (λ (x : SourceAccess). accesses x ∷ es) same; counted = refl }
cut_at (accesses b ∷ es) (suc k) a e =
    let c = cut_at es k a e in
    let n = c.counted in
    record { before = accesses b ∷ c.before; after = c.after; cut = ap (λ (l : List SourceEvent). accesses b ∷ l) c.cut; counted = omega (arith, n) }

-- Of a read that shares another both are reads.

pub sharer_reads : (p : Program) (k j : ℕ) (a : SourceAccess) → access_at p k ≡ Some a → shared p k ≡ Some j → a.writes ≡ false
sharer_reads p k j a at e =
    let c = cut_at (trace p) k a at in
    let s : Shares p c.before (count c.before) a j = shared_found p c.before c.after a j c.cut (ap (λ n. shared p n) c.counted ∙ e) in
    second s.of.writes a.writes _ _ _ s.so
  where
    second : (aw cw rest one arms : Truth) → ((((not aw && not cw) && rest) && one) && arms) ≡ true → cw ≡ false
    second aw false rest one arms e = refl
    second true true rest one arms e = cc
    second false true rest one arms e = cc

-- Writes of a command.

module _ (P : (number : ℕ) → Type 0) where
  abbrev Holds : (n : ℕ) → List SourceEvent → Type 0
  Holds n es = (i : ℕ) (a : SourceAccess) → slice_get (accesses_in es) i ≡ Some a → a.writes ≡ true → P (n + i)

  holds_first : (n : ℕ) (es fs : List SourceEvent) → Holds n (es ++ fs) → Holds n es
  holds_first n es fs h i a e w = h i a (first_of es fs i a e) w

  holds_then : (n own : ℕ) (es fs : List SourceEvent) (m : ℕ) → length (accesses_in es) ≡ m → own ≡ n + m → Holds n (es ++ fs) → Holds own fs
  holds_then n own es fs m long is h i a e w = subst P (moved n own m i is) (h (m + i) a (then_of es fs m i a long e) w)
    where
      moved : (n own m i : ℕ) → own ≡ n + m → n + (m + i) ≡ own + i
      moved n own m i e = omega (arith, e)

  target_written : (site : _) (n : ℕ) (t : Term) → IsAccessForm (indices.form_of t) → Holds n (write_events site t) → P (n + aim_accesses (indices.form_of t))
  target_written site n (plain.term place k (plain.accessed r ts)) is h = h (aim_accesses (plain.accessed r ts)) _ (ap (λ m. slice_get (accesses_in (write_events site (plain.term place k (plain.accessed r ts)))) m) (none (aim_accesses (plain.accessed r ts))) ∙ then_of (source_terms_events site ts) _ (aim_accesses (plain.accessed r ts)) 0 _ (terms_counted site ts) refl) refl
    where
      none : (m : ℕ) → m ≡ m + 0
      none m = omega arith
  target_written site n (plain.term place k (plain.in_bank r bank at row)) is h = h (aim_accesses (plain.in_bank r bank at row)) _ (ap (λ m. slice_get (accesses_in (write_events site (plain.term place k (plain.in_bank r bank at row)))) m) (none (aim_accesses (plain.in_bank r bank at row))) ∙ then_of (source_term_events site row) _ (aim_accesses (plain.in_bank r bank at row)) 0 _ (term_counted site row) refl) refl
    where
      none : (m : ℕ) → m ≡ m + 0
      none m = omega arith
  target_written site n (plain.term place k (plain.number negative z)) is h = absurd is
  target_written site n (plain.term place k (plain.truth_value b)) is h = absurd is
  target_written site n (plain.term place k (plain.named r)) is h = absurd is
  target_written site n (plain.term place k (plain.applied op l r)) is h = absurd is
  target_written site n (plain.term place k (plain.converted inner to)) is h = absurd is

  mutual
    pub writes_told : (a : Action) (r : source.Around) (n : ℕ) → StoresReach a → Holds n (events r a) → EachWrite P n a
    writes_told (action id place (lets name declared value)) r n is h = tt
    writes_told (action id place (assigns target value)) r n is h = tt
    writes_told (action id place (stores target value)) r n is h =
        target_written (site_of r id) (n + term_accesses value) target is
        (holds_then n (n + term_accesses value) (source_term_events (site_of r id) value) (write_events (site_of r id) target) (term_accesses value) (term_counted (site_of r id) value) refl h)
    writes_told (action id place (reduces target op value)) r n is h = tt
    writes_told (action id place (decides test chosen other)) r n is h =
        let arms : Holds (n + term_accesses test) (events (in_arm r id true) chosen ++ other_events (in_arm r id false) other) =
        holds_then n (n + term_accesses test) (source_term_events (site_of r id) test) (events (in_arm r id true) chosen ++ other_events (in_arm r id false) other) (term_accesses test) (term_counted (site_of r id) test) refl h in (
          writes_told chosen (in_arm r id true) (n + term_accesses test) is.0 (holds_first (n + term_accesses test) (events (in_arm r id true) chosen) (other_events (in_arm r id false) other) arms),
          other_told other (in_arm r id false) (n + term_accesses test + accesses_of chosen) is.1
              (holds_then (n + term_accesses test) (n + term_accesses test + accesses_of chosen) (events (in_arm r id true) chosen) (other_events (in_arm r id false) other) (accesses_of chosen) (events_counted (in_arm r id true) chosen) refl arms),
        )
    writes_told (action id place (blocks body)) r n is h = groups_told body r n is h
    writes_told (action id place (lets_memory name shape shape_places value)) r n is h = tt
    writes_told (action id place (views name parent form)) r n is h = tt
    writes_told (action id place (calls function arguments)) r n is h = tt
    writes_told (action id place (repeats test body)) r n is h = tt
    writes_told (action id place (counts iterator declared low high factor body combine combine_place)) r n is h = tt

    other_told : (other : MaybeAction) (r : source.Around) (n : ℕ) → StoresReachOther other → Holds n (other_events r other) → EachWriteOther P n other
    other_told no_action r n is h = tt
    other_told (one_action a) r n is h = writes_told a r n is h

    actions_told : (part : Actions) (r : source.Around) (n : ℕ) → StoresReachPart part → Holds n (part_events r part) → EachWriteActions P n part
    actions_told no_actions r n is h = tt
    actions_told (action_then a rest) r n is h = (
      writes_told a r n is.0 (holds_first n (events r a) (part_events r rest) h),
      actions_told rest r (n + accesses_of a) is.1 (holds_then n (n + accesses_of a) (events r a) (part_events r rest) (accesses_of a) (events_counted r a) refl h),
    )

    groups_told : (body : Groups) (r : source.Around) (n : ℕ) → StoresReachGroups body → Holds n (groups_events r body) → EachWriteGroups P n body
    groups_told no_groups r n is h = tt
    groups_told (group_then part rest) r n is h = (
      actions_told part r n is.0 (holds_first n (part_events r part) (groups_events r rest) h),
      groups_told rest r (n + part_accesses part) is.1 (holds_then n (n + part_accesses part) (part_events r part) (groups_events r rest) (part_accesses part) (part_counted r part) refl h),
    )

-- an event of a command is one of the program, at its number
pub access_among : (es : List SourceEvent) (c : Located) → StandsAmong 0 es c → (i : ℕ) (a : SourceAccess) → slice_get (accesses_in (events c.around c.command)) i ≡ Some a → slice_get (accesses_in es) (c.first + i) ≡ Some a
access_among es c s i a e =
    ap (λ (l : List SourceEvent). slice_get (accesses_in l) (c.first + i)) s.all
    ∙ then_of s.before (events c.around c.command ++ s.after) c.first i a (let n = s.counted in omega (arith, n)) (first_of (events c.around c.command) s.after i a e)

-- what a command makes is one of the program's accesses
pub made_below : (es : List SourceEvent) (c : Located) (k : ℕ) → StandsAmong 0 es c → makes k c.first c.command ≡ true → k < length (accesses_in es)
made_below es c k s m =
    let w = makes_within k c.first c.command m in
    let h = w.0 in
    let l = w.1 in
    let a = there (accesses_in (events c.around c.command)) (k - c.first) (subst (λ (n : ℕ). k - c.first < n) (sym (events_counted c.around c.command)) (omega (arith, h, l))) in
    subst (λ (n : ℕ). n < length (accesses_in es)) (again c.first k h) (place_within (accesses_in es) (c.first + (k - c.first)) a.0 (access_among es c s (k - c.first) a.0 a.1))
  where
    again : (f k : ℕ) → f ≤ k → f + (k - f) ≡ k
    again f k h = omega (arith, h)

nothing_at : SourceAccess
nothing_at = record { place = record { line = 0; column = 0 }; entity = None; element = with_indices plain.no_terms; writes = false; site = record { command = 0; arms = []; loops = [] } }

-- and so is what a test makes
pub test_below : (es : List SourceEvent) (c : Located) (k : ℕ) → StandsAmong 0 es c → test_makes k c ≡ true → k < length (accesses_in es)
test_below es c k s m =
    let w = test_first k nothing_at c.first c.command m in
    let h = w.0 in
    let l = w.1 in
    let a = there (accesses_in (events c.around c.command)) (k - c.first) (subst (λ (n : ℕ). k - c.first < n) (sym (events_counted c.around c.command)) (omega (arith, h, l))) in
    subst (λ (n : ℕ). n < length (accesses_in es)) (again c.first k h) (place_within (accesses_in es) (c.first + (k - c.first)) a.0 (access_among es c s (k - c.first) a.0 a.1))
  where
    again : (f k : ℕ) → f ≤ k → f + (k - f) ≡ k
    again f k h = omega (arith, h)

pub any_below : (es : List SourceEvent) (cs : List Located) (k : ℕ) → AllByRecursion (λ (c : Located). StandsAmong 0 es c) cs → any_makes k cs ≡ true → k < length (accesses_in es)
any_below es [] k s m = absurd (cc)
any_below es (c ∷ cs) k s m = by (makes k c.first c.command) refl m (λ h. any_below es cs k s.1 h)
  where
    by : (b : Truth) → makes k c.first c.command ≡ b → (b || any_makes k cs) ≡ true → (any_makes k cs ≡ true → k < length (accesses_in es)) → k < length (accesses_in es)
    by true e h more = made_below es c k s.0 e
    by false e h more = more h

-- The table.

module _ (scene : Scene) (tells : TellsShares (program_seen scene.program.now) scene.shares.now) where
  abbrev p : Program
  p = program_seen scene.program.now

  pub as_many : length scene.shares.now ≡ length (accesses_in (trace p))
  as_many = tells.long ∙ sym (events_counted nothing_around p.body)

  -- what the table says
  shared_is : (k j : ℕ) → slice_get scene.shares.now k ≡ Some (Some j) → shared p k ≡ Some j
  shared_is k j e = sym (tells.all k) ∙ ap share_told e

  the_same : (a b : SourceAccess) → Some a ≡ Some b → a ≡ b
  the_same a b e = cc

  clash : (b : Truth) → b ≡ true → b ≡ false → ⊥
  clash b e g = cc

  pub unshared : (number : ℕ) (a : SourceAccess) → access_at p number ≡ Some a → a.writes ≡ true → IsUnshared scene number
  unshared number a at writes = record {
    own = λ j e. clash a.writes writes (sharer_reads p number j a at (shared_is number j e));
    other = λ reader e.
        let s = shared_there p number reader (shared_is reader number e) in
        clash a.writes writes (ap (λ (b : SourceAccess). b.writes) (the_same a s.read (sym at ∙ s.there)) ∙ s.reads);
  }

  pub shares_inside : (makes : ℕ → Truth) (sites : ℕ → Option BlockSite) → ((k : ℕ) → is_some (sites k) ≡ makes k) → ((k : ℕ) → makes k ≡ true → k < length (accesses_in (trace p)))
      → ((j k : ℕ) → in_one_phase p j k ≡ true → makes k ≡ true → makes j ≡ true) → SharesInside scene sites
  shares_inside makes sites made below one_phase = record {
    known = λ k s at. subst (λ (n : ℕ). k < n) (sym as_many) (below k (is_made k s at));
    earlier = λ k j s at e. shared_before p j k (shared_is k j e);
    inside = λ k j s at e. has j (sites j) refl (made j ∙ one_phase j k (shared_there p j k (shared_is k j e)).phase (is_made k s at));
  }
    where
      is_made : (k : ℕ) (s : BlockSite) → sites k ≡ Some s → makes k ≡ true
      is_made k s at = sym (made k) ∙ ap is_some at

      has : (j : ℕ) (o : Option BlockSite) → sites j ≡ o → is_some (sites j) ≡ true → (t : BlockSite) × (sites j ≡ Some t)
      has j None e h = let q : is_some {T = BlockSite} None ≡ true = sym (ap is_some e) ∙ h in absurd (never q)
        where
          never : false ≡ true → ⊥
          never q = cc
      has j (Some t) e h = (t, e)

  pub writes_alone : (cs : List Located) → AllByRecursion (λ (c : Located). StoresReach c.command) cs → AllStand scene cs → WritesAlone scene cs
  writes_alone [] is s = tt
  writes_alone (c ∷ cs) is s = (
    writes_told (λ number. IsUnshared scene number) c.command c.around c.first is.0 (λ i a e w. unshared (c.first + i) a (access_among (trace p) c s.0 i a e) w),
    writes_alone cs is.1 s.1,
  )
