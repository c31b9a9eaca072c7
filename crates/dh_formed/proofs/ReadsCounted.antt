-- Reads and writes count one probe each; a write is one use of its access, and so is a read at a path that leads and
-- shares no earlier one. What a read gives is noted behind what it gave at the paths before.
use Rattle.std.proofs.Common.{◌≡◌, ℕ, ◌+◌, ◌^◌, ◌<◌, ◌≤◌, ◌⊎◌, inl, inr, ⊎_elim, true, false, List, Some, None, refl, sym, ap, ◌∙◌, subst, arith, length}
use Rattle.std.specs.Prelude.{Bool as Truth, [], ◌∷◌, ◌++◌, ◌==◌, if◌then◌else◌, slice_get, slice_index_or, Option}
use Rattle.std.proofs.lemmas.Bool.{cases_eq}
use Rattle.std.proofs.lemmas.Bool.Decides.{nat_tests}
use Rattle.std.proofs.lemmas.List.{append-nil, length-append}
use Rattle.std.proofs.lemmas.Option.{get_or_from_slice_get, slice_get_past}
use Rattle.dh_tree.specs.Indices.{form_of}
use Rattle.dh_tree.specs.PlainTrees as plain
use Rattle.dh_plan.specs.declared.operations.OperationForm.{OperationForm}
use Rattle.dh_plan.specs.declared.operations.OperationForm.TheVariants.{Probe, Read}
use Rattle.dh_plan.specs.declared.operations.Reach.{Reach}
use Rattle.dh_expressions.specs.declared.accesses.Accesses.{Accesses}
use Rattle.dh_expressions.specs.declared.accesses.Touched.{Touched}
use Rattle.dh_expressions.specs.declared.copies.AccessAt.{AccessAt}
use Rattle.dh_expressions.specs.declared.drafts.Draft.{Draft}
use Rattle.dh_expressions.specs.declared.elements.Aim.{Aim}
use Rattle.dh_expressions.specs.declared.scenes.Around.{Around}
use Rattle.dh_expressions.specs.declared.scenes.Lane.{Lane}
use Rattle.dh_expressions.specs.declared.scenes.Scene.{Scene}
use Rattle.dh_formed.specs.Counted.{Counts, FormIs, HaveGiven, IsBlockAccess, IsLedUse, IsUse, ExpressionBegins, given_at_paths, length_given, nothing, one_each, ranged, use_of, use_shared}
use Rattle.dh_expressions.specs.Drafted.{Extends, Pushes}
use Rattle.dh_expressions.specs.Evaluated.{lane_guard, source_at}
use Rattle.dh_formed.specs.Formed.{AccessSuits, Agrees, FormedBlock, IsLaidAccess, AreNotedReads, IsScope, BlockSite, Started}
use Rattle.dh_expressions.specs.MadeTerms.{MadeRead, MadeWrite}
use Rattle.dh_expressions.specs.Noted.{Notes, copied_in, copied_of, copy_or_alone, fault_in, given_by, given_in, given_then, given_to, noted_in, touched_in, touched_of}
use Rattle.dh_expressions.specs.Named.{banks_told}
use Rattle.dh_expressions.specs.Reaching.{Finds, copy_banks, place_written, reach_told}
use Rattle.dh_expressions.specs.Standings.{AccessStanding, copy_places, standing_at}
use Rattle.dh_expressions.specs.Touching.{AddsTouched, TouchesAt}
use Rattle.dh_formed.proofs.AccessesFormed.{FormsTouch, laid_later, touch_notes}
use Rattle.dh_expressions.proofs.AccessesKept.{place_noted}
use Rattle.dh_formed.proofs.ElementsFormed.{found_extends}
use Rattle.dh_expressions.proofs.ListPlaces.{set_here, there}
use Rattle.dh_formed.proofs.PartsCounted.{counts_again, counts_none, counts_pushed, counts_same, ranged_one}
use Rattle.dh_expressions.proofs.Pushing.{extends_again, pushed_extends}
use Rattle.dh_formed.proofs.ValuesCounted.{Still, copies_counts}
use Rattle.dh_formed.proofs.ValuesFormed.{agrees_before}

abbrev one_if : Truth → ℕ
one_if t = if t then 1 else 0

-- What was given.

pub given_here : (a : Accesses) (number path : ℕ) → path < given_at_paths a number → (v : ℕ) × (given_in a number path ≡ Some v)
given_here a number path less = by (touched_in a number) less
  where
    none : path < 0 → ⊥
    none h = omega (arith, h)

    by : (o : Option Touched) → path < length_given o → (v : ℕ) × (given_to o path ≡ Some v)
    by None less = absurd (none less)
    by (Some t) less = there t.given path less

pub given_past : (a : Accesses) (number path : ℕ) → given_at_paths a number ≤ path → given_in a number path ≡ None
given_past a number path past = by (touched_in a number) past
  where
    by : (o : Option Touched) → length_given o ≤ path → given_to o path ≡ None
    by None past = refl
    by (Some t) past = slice_get_past t.given path past

-- an access that gets its copies gives what it gave
pub touch_gives : (scene : Scene) (around : Around) (s : AccessStanding) (old new : Draft) (before after : Accesses) (number m : ℕ) → TouchesAt scene around s old new before after number
    → given_at_paths after m ≡ given_at_paths before m
touch_gives scene around s old new before after number m t = by (touched_in before m) refl
  where
    fresh : (o : Option Touched) → touched_in after m ≡ o → touched_in before m ≡ None → length_given o ≡ 0
    fresh None e none = refl
    fresh (Some u) e none = ⊎_elim (λ old_one. absurd (lost u (sym none ∙ old_one))) (λ own. ap length own.none) (t.known m u e)
      where
        lost : (u : Touched) → None ≡ Some u → ⊥
        lost u e = cc

    by : (o : Option Touched) → touched_in before m ≡ o → given_at_paths after m ≡ length_given o
    by None e = fresh (touched_in after m) refl e
    by (Some u) e = ap length_given (t.kept m u e)

-- what a read gives is noted behind what it gave
module _ (before after : Accesses) (number path value : ℕ) (h : Notes before after number path value) where
  pub notes_other : (m : ℕ) → (m ≡ number → ⊥) → given_at_paths after m ≡ given_at_paths before m
  notes_other m other = by (place_noted before after number path value h m)
    where
      by : (touched_in after m ≡ touched_in before m) ⊎ ((m ≡ number) × (touched_in after m ≡ noted_in (touched_in before m) path value)) → given_at_paths after m ≡ given_at_paths before m
      by (inl same) = ap length_given same
      by (inr p) = absurd (other p.0)

  noted_own : number < length before.touched.items → touched_in after number ≡ noted_in (touched_in before number) path value
  noted_own within =
      let found = there before.touched.items number within in
      ap (λ os. touched_of (slice_get os number)) h.touched
      ∙ (ap touched_of (set_here before.touched.items number (noted_in (slice_index_or before.touched.items number None) path value) within)
      ∙ (ap (λ o. noted_in o path value) (get_or_from_slice_get before.touched.items number found.0 None found.1)
      ∙ ap (λ o. noted_in (touched_of o) path value) (sym found.1)))

  given_more : (given : List ℕ) → length given ≡ path → length (given_then given path value) ≡ path + 1
  given_more given all = by (length given == path) (here (length given) path all)
    where
      here : (l p : ℕ) → l ≡ p → (l == p) ≡ true
      here l p e = grind (arith, nat_tests, e)

      by : (b : Truth) → b ≡ true → length (if b then given ++ value ∷ [] else given) ≡ path + 1
      by true e = length-append given _ ∙ ap (λ n. n + 1) all
      by false e = absurd (cc)

  pub notes_own : (t : Touched) → number < length before.touched.items → touched_in before number ≡ Some t → given_at_paths before number ≡ path → given_at_paths after number ≡ path + 1
  notes_own t within is all = ap length_given (noted_own within ∙ ap (λ o. noted_in o path value) is) ∙ given_more t.given (sym (ap length_given is) ∙ all)

-- The parts of a read or a write.

abbrev pub IsOne : FormedBlock → (path own : ℕ) → (Sees : ℕ → Type 0) → OperationForm → Type 0
IsOne x path own Sees = FormIs Sees (λ r. IsBlockAccess x own 1 r) (λ r. IsLedUse x path own 1 r) (λ r. ⊥)

abbrev pub IsOneWrite : FormedBlock → (path own : ℕ) → (Sees : ℕ → Type 0) → OperationForm → Type 0
IsOneWrite x path own Sees = FormIs Sees (λ r. IsBlockAccess x own 1 r) (λ r. ⊥) (λ r. IsUse x path own 1 r)

module _ (x : FormedBlock) (scene : Scene) (lane : Lane) (current : List (Option ℕ)) (access : plain.Term) (memory : ℕ) (aim : Aim) (Sees : ℕ → Type 0) where
  abbrev stands : (writes : Truth) → AccessStanding
  stands writes = standing_at scene lane.around memory (place_written access) (form_of access) writes

  abbrev site : (writes : Truth) → BlockSite
  site writes = record { memory = memory; standing = stands writes }

  low : (writes : Truth) (p : ℕ) → (stands writes).leader p ≤ p
  low writes p = omega arith

  abbrev is_access : (writes : Truth) (banks : List (ℕ × ℕ)) → memory < 2 ^ 32 → x.sites aim.number ≡ Some (site writes) → IsBlockAccess x aim.number 1 (reach_told memory aim banks)
  is_access writes banks small at = record { from = omega arith; below = omega arith; site = site writes; there = at; memory_is = omega (arith, small) }

  touch_counts : (Probes Reads Writes : Reach → Type 0) (writes : Truth) (old new : Draft) (before after : Accesses) → length lane.around.guards.now < 2 ^ 64 → IsScope x old scene lane current
      → TouchesAt scene lane.around (stands writes) old new before after aim.number → Still Sees Probes Reads Writes old new
  touch_counts Probes Reads Writes writes old new before after few scope t = by t.adds
    where
      by : (new ≡ old) ⊎ ((u : Touched) × AddsTouched old new scene lane.around (stands writes) u) → Still Sees Probes Reads Writes old new
      by (inl same) = counts_none old new _ same
      by (inr (u, a)) =
          counts_again old a.middle new _ 0 0 nothing nothing nothing nothing
          (record { more = []; adds = a.names.operations ∙ sym (append-nil old.operations.items); each = tt; products_few = omega arith; probes_are = λ m. refl; uses_are = λ m. refl })
          (copies_counts Sees Probes Reads Writes (stands writes).leader (stands writes).bank (copy_places (stands writes)) (stands writes).guards (low writes) (length (stands writes).guards) a.middle new u.copies (a.copies scope.scopes scope.low))

  probe_counts : (Reads Writes : Reach → Type 0) (writes : Truth) (d e : Draft) (n fault : ℕ) (guard : Option ℕ) → memory < 2 ^ 32 → x.sites aim.number ≡ Some (site writes)
      → Pushes d e n guard (Probe (reach_told memory aim []) fault) → Counts d e (FormIs Sees (λ r. IsBlockAccess x aim.number 1 r) Reads Writes) 0 (ranged aim.number 1 one_each) nothing
  probe_counts Reads Writes writes d e n fault guard small at p =
      counts_pushed d e n guard (Probe (reach_told memory aim []) fault) _ 0 (ranged aim.number 1 one_each) nothing p (is_access writes [] small at) (omega arith) (λ m. ranged_one aim.number one_each m) (λ m. refl)

  -- the access at this path, where it is laid
  module _ (writes : Truth) (d : Draft) (a : Accesses) (t : Touched) (is : touched_in a aim.number ≡ Some t) (laid : IsLaidAccess x d (stands writes) t) (within : lane.number < length lane.around.guards.now) where
    found_copy : (c : AccessAt) × (slice_get t.copies lane.number ≡ Some c)
    found_copy = there t.copies lane.number (subst (λ (l : ℕ). lane.number < l) (sym laid.long) within)

    copy_is : copied_in a aim.number lane.number ≡ found_copy.0
    copy_is = ap (λ o. copied_of o lane.number) is ∙ ap (λ o. copy_or_alone lane.number o) found_copy.1

    leader_is : (copied_in a aim.number lane.number).leader ≡ (stands writes).leader lane.number
    leader_is = ap (λ (c : AccessAt). c.leader) copy_is ∙ (laid.each lane.number found_copy.0 found_copy.1).leader_is

    abbrev is_use : memory < 2 ^ 32 → x.sites aim.number ≡ Some (site writes)
        → IsUse x lane.number aim.number 1 (reach_told memory aim (copy_banks scene (form_of access) (copied_in a aim.number lane.number)))
    is_use small at = record {
      access = is_access writes (copy_banks scene (form_of access) (copied_in a aim.number lane.number)) small at;
      banks_are =
          ap (λ (b : ℕ). banks_told scene (form_of access) b (copied_in a aim.number lane.number).place) (ap (λ (c : AccessAt). c.bank) copy_is ∙ (laid.each lane.number found_copy.0 found_copy.1).bank_is)
          ∙ ap (λ (p : ℕ). banks_told scene (form_of access) ((stands writes).bank lane.number) p) (ap (λ (c : AccessAt). c.place) copy_is ∙ (laid.each lane.number found_copy.0 found_copy.1).place_is);
    }

  -- What a find counts.

  uses_one : (m : ℕ) → use_of x scene lane.number aim.number ≡ 1 → (if aim.number == m then 1 else 0) ≡ ranged aim.number 1 (use_of x scene lane.number) m
  uses_one m one = ap (λ (n : ℕ). if aim.number == m then n else 0) (sym one) ∙ ranged_one aim.number (use_of x scene lane.number) m

  uses_none : (m : ℕ) → use_of x scene lane.number aim.number ≡ 0 → 0 ≡ ranged aim.number 1 (use_of x scene lane.number) m
  uses_none m none = both (aim.number == m) ∙ (ap (λ (n : ℕ). if aim.number == m then n else 0) (sym none) ∙ ranged_one aim.number (use_of x scene lane.number) m)
    where
      both : (t : Truth) → ◌≡◌ {A = ℕ} 0 (if t then 0 else 0)
      both true = refl
      both false = refl

  find_none : (d e : Draft) (copy : AccessAt) (v n : ℕ) (found : Option ℕ) → found ≡ Some n → use_of x scene lane.number aim.number ≡ 0 → Finds scene (form_of access) d e memory aim copy found v
      → Counts d e (IsOne x lane.number aim.number Sees) 0 nothing (ranged aim.number 1 (use_of x scene lane.number))
  find_none d e copy v n found is none h =
      counts_same d e _ _ 0 0 nothing nothing nothing (ranged aim.number 1 (use_of x scene lane.number)) (λ o w. w) (omega arith) (λ m. refl) (λ m. uses_none m none)
      (counts_none d e (IsOne x lane.number aim.number Sees) (subst (λ (o : Option ℕ). Finds scene (form_of access) d e memory aim copy o v) is h).0)

  find_one : (d e : Draft) (copy : AccessAt) (v : ℕ) (found : Option ℕ) → found ≡ None → use_of x scene lane.number aim.number ≡ 1 → IsLedUse x lane.number aim.number 1 (reach_told memory aim (copy_banks scene (form_of access) copy))
      → Finds scene (form_of access) d e memory aim copy found v → Counts d e (IsOne x lane.number aim.number Sees) 0 nothing (ranged aim.number 1 (use_of x scene lane.number))
  find_one d e copy v found is one led h =
      counts_pushed d e v copy.guard (Read (reach_told memory aim (copy_banks scene (form_of access) copy))) (IsOne x lane.number aim.number Sees) 0 nothing (ranged aim.number 1 (use_of x scene lane.number))
      (subst (λ (o : Option ℕ). Finds scene (form_of access) d e memory aim copy o v) is h) led (omega arith) (λ m. refl) (λ m. uses_one m one)

  module _ (d e : Draft) (a : Accesses) (v : ℕ) (t : Touched) (is : touched_in a aim.number ≡ Some t) (at : x.sites aim.number ≡ Some (site false)) (small : memory < 2 ^ 32)
      (laid : IsLaidAccess x d (stands false) t) (within : lane.number < length lane.around.guards.now)
      (own : given_at_paths a aim.number ≡ lane.number) (known : aim.number < length scene.shares.now)
      (shares : (earlier : ℕ) → slice_get scene.shares.now aim.number ≡ Some (Some earlier) → lane.number < given_at_paths a earlier) where
    abbrev copy : AccessAt
    copy = copied_in a aim.number lane.number

    abbrev leader : ℕ
    leader = (stands false).leader lane.number

    copy_leads : copy.leader ≡ leader
    copy_leads = leader_is false d a t is laid within

    share_told : (o : Option (Option ℕ)) → slice_get scene.shares.now aim.number ≡ o → use_of x scene lane.number aim.number ≡ use_shared o (Some (site false)) lane.number
    share_told o e = ap (λ s. use_shared s (x.sites aim.number) lane.number) e ∙ ap (λ s. use_shared o s lane.number) at

    abbrev Found : (share : Option (Option ℕ)) → Type 0
    Found share = Finds scene (form_of access) d e memory aim copy (given_by a (source_at share aim.number lane.number copy.leader)) v

    not_shared : slice_get scene.shares.now aim.number ≡ Some None → Found (Some None) → Counts d e (IsOne x lane.number aim.number Sees) 0 nothing (ranged aim.number 1 (use_of x scene lane.number))
    not_shared told h = ⊎_elim leads led (cases_eq leader lane.number)
      where
        tested : (l p : ℕ) → l ≡ p → ◌≡◌ {A = ℕ} (if l == p then 1 else 0) 1
        tested l p same = ap (λ t. one_if t) (test l p same)
          where
            test : (l p : ℕ) → l ≡ p → (l == p) ≡ true
            test l p same = grind (arith, nat_tests, same)

        untested : (l p : ℕ) → (l ≡ p → ⊥) → ◌≡◌ {A = ℕ} (if l == p then 1 else 0) 0
        untested l p other = ap (λ t. one_if t) (test l p other)
          where
            test : (l p : ℕ) → (l ≡ p → ⊥) → (l == p) ≡ false
            test l p other = grind (arith, nat_tests)

        leads : leader ≡ lane.number → Counts d e (IsOne x lane.number aim.number Sees) 0 nothing (ranged aim.number 1 (use_of x scene lane.number))
        leads same =
            find_one d e copy v (given_in a aim.number copy.leader) (given_past a aim.number copy.leader (omega (arith, own, copy_leads, same)))
            (share_told (Some None) told ∙ tested leader lane.number same)
            (record { reaches = is_use false d a t is laid within small at; leads = same }) h

        led : (leader ≡ lane.number → ⊥) → Counts d e (IsOne x lane.number aim.number Sees) 0 nothing (ranged aim.number 1 (use_of x scene lane.number))
        led other =
            let few = low false lane.number in
            let found = given_here a aim.number copy.leader (less copy.leader leader (given_at_paths a aim.number) copy_leads own few other) in
            find_none d e copy v found.0 (given_in a aim.number copy.leader) found.1 (share_told (Some None) told ∙ untested leader lane.number other) h
          where
            less : (c l g : ℕ) → c ≡ l → g ≡ lane.number → l ≤ lane.number → (l ≡ lane.number → ⊥) → c < g
            less c l g same all few other = omega (arith, same, all, few, other)

    find_counts : Finds scene (form_of access) d e memory aim copy (given_by a (source_at (slice_get scene.shares.now aim.number) aim.number lane.number copy.leader)) v
        → Counts d e (IsOne x lane.number aim.number Sees) 0 nothing (ranged aim.number 1 (use_of x scene lane.number))
    find_counts h = by (slice_get scene.shares.now aim.number) refl h
      where
        lost : (o : Option ℕ) × (slice_get scene.shares.now aim.number ≡ Some o) → slice_get scene.shares.now aim.number ≡ None → ⊥
        lost p e = let q : Some p.0 ≡ None = sym p.1 ∙ e in cc

        by : (o : Option (Option ℕ)) → slice_get scene.shares.now aim.number ≡ o → Found o → Counts d e (IsOne x lane.number aim.number Sees) 0 nothing (ranged aim.number 1 (use_of x scene lane.number))
        by None at_none h = absurd (lost (there scene.shares.now aim.number known) at_none)
        by (Some None) e h = not_shared e h
        by (Some (Some earlier)) e h =
            let found = given_here a earlier lane.number (shares earlier e) in
            find_none d _ copy v found.0 (given_in a earlier lane.number) found.1 (share_told (Some (Some earlier)) e) h

  -- One part behind the other.

  sum_probes : (v : ℕ) → 0 + v + 0 ≡ v
  sum_probes v = omega arith

  sum_uses : (v : ℕ) → 0 + 0 + v ≡ v
  sum_uses v = omega arith

  three : (a b c d : Draft) (Are : OperationForm → Type 0) (f u : ℕ → ℕ) → Counts a b Are 0 nothing nothing → Counts b c Are 0 f nothing → Counts c d Are 0 nothing u → Counts a d Are 0 f u
  three a b c d Are f u h k l =
      counts_same a d Are Are (0 + 0 + 0) 0 (λ m. nothing m + f m + nothing m) f (λ m. nothing m + nothing m + u m) u (λ o w. w) (omega arith) (λ m. sum_probes (f m)) (λ m. sum_uses (u m))
      (counts_again a c d Are (0 + 0) 0 (λ m. nothing m + f m) nothing (λ m. nothing m + nothing m) u (counts_again a b c Are 0 0 nothing f nothing nothing h k) l)

  module _ (old new : Draft) (before after : Accesses) (v : ℕ) (m : MadeRead scene lane access memory aim old new before after v)
      (st : ExpressionBegins x old new scene lane current before aim.number 1) (suits : AccessSuits x scene lane memory aim.number (place_written access) (form_of access) false) where
    pushed : Extends m.first m.second
    pushed = pushed_extends m.first m.second _ _ _ m.probes

    found : Extends m.second new
    found = found_extends scene (form_of access) m.second new memory aim (copied_in m.middle aim.number lane.number) (given_by m.middle (source_at (slice_get scene.shares.now aim.number) aim.number lane.number (copied_in m.middle aim.number lane.number).leader)) v m.finds

    touch : FormsTouch x old m.first m.middle (stands false) aim.number
    touch =
        touch_notes x scene lane.around (stands false) old m.first before m.middle aim.number (low false) st.scope.few st.scope.scopes st.scope.low m.touches
        (agrees_before x m.first new (extends_again m.first m.second new pushed found) st.agrees) st.started st.scope.guards memory suits.site st.noted

    own_given : given_at_paths m.middle aim.number ≡ lane.number
    own_given = touch_gives scene lane.around (stands false) old m.first before m.middle aim.number aim.number m.touches ∙ st.next.each aim.number (omega arith) (omega arith)

    pub read_counts : Counts old new (IsOne x lane.number aim.number Sees) 0 (ranged aim.number 1 one_each) (ranged aim.number 1 (use_of x scene lane.number))
    read_counts =
        three old m.first m.second new (IsOne x lane.number aim.number Sees) (ranged aim.number 1 one_each) (ranged aim.number 1 (use_of x scene lane.number))
        (touch_counts (λ r. IsBlockAccess x aim.number 1 r) (λ r. IsLedUse x lane.number aim.number 1 r) (λ r. ⊥) false old m.first before m.middle st.scope.few st.scope m.touches)
        (probe_counts (λ r. IsLedUse x lane.number aim.number 1 r) (λ r. ⊥) false m.first m.second _ (fault_in m.middle aim.number) (lane_guard lane) suits.small suits.site m.probes)
        (find_counts m.second new m.middle v touch.touched touch.there suits.site suits.small
        (laid_later x m.first m.second (stands false) touch.touched pushed (touch.notes.laid aim.number touch.touched (site false) suits.site touch.there)) st.scope.within own_given
        (st.next.known aim.number (omega arith) (omega arith))
        (λ earlier e. shared earlier (st.next.earlier aim.number earlier (omega arith) (omega arith) e) (st.next.shares aim.number earlier (omega arith) (omega arith) e (st.next.earlier aim.number earlier (omega arith) (omega arith) e)))
        m.finds)
      where
        shared : (earlier : ℕ) → earlier < aim.number → lane.number < given_at_paths before earlier → lane.number < given_at_paths m.middle earlier
        shared earlier less h = subst (λ (n : ℕ). lane.number < n) (sym (touch_gives scene lane.around (stands false) old m.first before m.middle aim.number earlier m.touches)) h

    pub read_gives : HaveGiven lane before after aim.number 1
    read_gives = record {
      own = λ k from below. subst (λ (i : ℕ). given_at_paths after i ≡ lane.number + 1) (one k from below)
          (notes_own m.middle after aim.number lane.number v m.notes touch.touched (touch.notes.there aim.number (site false) suits.site) touch.there own_given);
      before_them = λ k less. other k (λ same. differs k same less);
      behind_them = λ k more. other k (λ same. differ k same more);
    }
      where
        one : (k : ℕ) → aim.number ≤ k → k < aim.number + 1 → aim.number ≡ k
        one k from below = omega (arith, from, below)

        differs : (k : ℕ) → k ≡ aim.number → k < aim.number → ⊥
        differs k same less = omega (arith, same, less)

        differ : (k : ℕ) → k ≡ aim.number → aim.number + 1 ≤ k → ⊥
        differ k same more = omega (arith, same, more)

        other : (k : ℕ) → (k ≡ aim.number → ⊥) → given_at_paths after k ≡ given_at_paths before k
        other k apart = notes_other m.middle after aim.number lane.number v m.notes k apart ∙ touch_gives scene lane.around (stands false) old m.first before m.middle aim.number k m.touches

  module _ (old new : Draft) (before after : Accesses) (value : ℕ) (m : MadeWrite scene lane access memory aim value old new before after)
      (agrees : Agrees x new) (started : Started x old) (scope : IsScope x old scene lane current) (noted : AreNotedReads x old before) (suits : AccessSuits x scene lane memory aim.number (place_written access) (form_of access) true) where
    write_touch : FormsTouch x old m.first after (stands true) aim.number
    write_touch =
        touch_notes x scene lane.around (stands true) old m.first before after aim.number (low true) scope.few scope.scopes scope.low m.touches
        (agrees_before x m.first new (extends_again m.first m.second new (pushed_extends m.first m.second _ _ _ m.probes) (pushed_extends m.second new m.number _ _ m.writes)) agrees) started scope.guards memory suits.site noted

    pub write_counts : Counts old new (IsOneWrite x lane.number aim.number Sees) 0 (ranged aim.number 1 one_each) (ranged aim.number 1 one_each)
    write_counts =
        three old m.first m.second new (IsOneWrite x lane.number aim.number Sees) (ranged aim.number 1 one_each) (ranged aim.number 1 one_each)
        (touch_counts (λ r. IsBlockAccess x aim.number 1 r) (λ r. ⊥) (λ r. IsUse x lane.number aim.number 1 r) true old m.first before after scope.few scope m.touches)
        (probe_counts (λ r. ⊥) (λ r. IsUse x lane.number aim.number 1 r) true m.first m.second _ (fault_in after aim.number) (lane_guard lane) suits.small suits.site m.probes)
        (counts_pushed m.second new m.number (lane_guard lane) _ (IsOneWrite x lane.number aim.number Sees) 0 nothing (ranged aim.number 1 one_each) m.writes
        (is_use true m.first after write_touch.touched write_touch.there (write_touch.notes.laid aim.number write_touch.touched (site true) suits.site write_touch.there) scope.within suits.small suits.site)
        (omega arith) (λ k. refl) (λ k. ranged_one aim.number one_each k))

    pub write_gives : (k : ℕ) → given_at_paths after k ≡ given_at_paths before k
    write_gives k = touch_gives scene lane.around (stands true) old m.first before after aim.number k m.touches
