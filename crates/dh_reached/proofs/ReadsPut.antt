-- A read or a write that is put down at a path: it is of an access as that stands, by a path that leads.
use Rattle.std.proofs.Common.{◌≡◌, ℕ, ◌+◌, ◌<◌, ◌≤◌, ◌⊎◌, inl, inr, ⊎_elim, true, false, List, Some, None, refl, sym, ap, ◌∙◌, subst, arith, length}
use Rattle.std.specs.Prelude.{Bool as Truth, [], ◌∷◌, if◌then◌else◌, slice_get, Option}
use Rattle.std.proofs.lemmas.Bool.{cases_eq}
use Rattle.dh_base.specs.declared.outcomes.FaultKind.TheVariants.{OutOfRange}
use Rattle.dh_tree.specs.Elements.{Spot}
use Rattle.dh_tree.specs.Indices.{form_of}
use Rattle.dh_tree.specs.PlainTrees as plain
use Rattle.dh_meaning.specs.Paths.{Path, copies_in}
use Rattle.dh_plan.specs.Blocks.{spot_of_reach}
use Rattle.dh_plan.specs.declared.operations.OperationForm.TheVariants.{Read, Write}
use Rattle.dh_plan.specs.declared.operations.Reach.{Reach}
use Rattle.dh_plan.specs.SoundPlans.{IsListed}
use Rattle.dh_expressions.specs.declared.accesses.Accesses.{Accesses}
use Rattle.dh_expressions.specs.declared.accesses.Touched.{Touched}
use Rattle.dh_expressions.specs.declared.copies.AccessAt.{AccessAt}
use Rattle.dh_expressions.specs.declared.drafts.Draft.{Draft}
use Rattle.dh_expressions.specs.declared.elements.Aim.{Aim}
use Rattle.dh_expressions.specs.declared.paths.Level.{Level}
use Rattle.dh_expressions.specs.declared.scenes.Around.{Around}
use Rattle.dh_expressions.specs.declared.scenes.Lane.{Lane}
use Rattle.dh_expressions.specs.declared.scenes.Scene.{Scene}
use Rattle.dh_expressions.specs.Copying.{AreCopies, AreNone, DoneBy, IsCopy, depends_at}
use Rattle.dh_expressions.specs.Drafted.{BlockBegun, Extends, FitsStep, Pushes, BlockStep, holds}
use Rattle.dh_expressions.specs.Evaluated.{lane_guard, source_at}
use Rattle.dh_expressions.specs.Levels.{leader_number, path_at}
use Rattle.dh_expressions.specs.MadeTerms.{MadeRead, MadeWrite}
use Rattle.dh_expressions.specs.Noted.{Notes, copied_in, copied_of, copy_or_alone, given_by, given_in, noted_in, touched_in}
use Rattle.dh_expressions.specs.Named.{banks_told}
use Rattle.dh_expressions.specs.Reaching.{Finds, copy_banks, place_written, reach_told}
use Rattle.dh_expressions.specs.Standings.{IsTouched, AccessStanding, banks_at, copy_places, standing_at}
use Rattle.dh_expressions.specs.Touching.{AddsTouched, IsNew, TouchesAt}
use Rattle.dh_expressions.proofs.AccessesKept.{noted_touched, place_noted}
use Rattle.dh_expressions.proofs.ListPlaces.{set_long, some_same, there}
use Rattle.dh_expressions.proofs.Pushing.{extends_again, fits_before, pushed_extends}
use Rattle.dh_formed.specs.Counted.{AreNext, HaveGiven, given_at_paths}
use Rattle.dh_formed.specs.Formed.{BlockSite}
use Rattle.dh_formed.proofs.ElementsFormed.{found_extends}
use Rattle.dh_formed.proofs.ReadsCounted.{given_here, given_past, notes_other, notes_own, touch_gives}
use Rattle.dh_formed.proofs.ValuesCounted.{copies_counts}
use Rattle.dh_commands.specs.ShownVariables.{level_factors}
use Rattle.dh_blocks.specs.PathsOfLevels.{AreSpread}
use Rattle.dh_blocks.proofs.PathNumbers.{kept, leader_within, leads, number_is}
use Rattle.dh_laid.specs.LaidQuiet.{BlockStandsIn}
use Rattle.dh_reached.specs.Puts.{AreSitedAccesses, IsSitedUse, OperationAtPath, PutsAt}
use Rattle.dh_reached.specs.ReachedBlocks.{StandsSpread}
use Rattle.dh_reached.proofs.NoUses.{AddsNone, behind_none, none_again, none_counted, none_pushed, none_same, none_still, puts_added, puts_one}

-- A write leads at each path.

kept_all : (counts : ℕ → Truth) → ((l : ℕ) → counts l ≡ true) → (level : ℕ) (p : Path) → kept counts level p ≡ p
kept_all counts all level [] = refl
kept_all counts all level (c ∷ p) = ap (λ (b : Truth). (if b then c else 0) ∷ kept counts (level + 1) p) (all level) ∙ ap (λ (q : Path). c ∷ q) (kept_all counts all (level + 1) p)

all_lead : (levels : List Level) → AreSpread levels → (counts : ℕ → Truth) → ((l : ℕ) → counts l ≡ true) → (n : ℕ) → n < copies_in (level_factors levels) → leader_number levels counts n ≡ n
all_lead levels spread counts all n below =
    number_is levels spread (leader_number levels counts n) n (leader_within levels spread counts n below) below ((leads levels spread counts n below).path_is ∙ kept_all counts all 0 (path_at levels n))

-- Accesses as they stand.

module _ (x : BlockStep) (sites : ℕ → Option BlockSite) (scene : Scene) (around : Around) (stands : BlockStandsIn scene around) where
  -- one that gets its operations
  touch_sited : (memory : ℕ) (s : AccessStanding) (old new : Draft) (before after : Accesses) (number : ℕ) → TouchesAt scene around s old new before after number → sites number ≡ Some (record { memory = memory; standing = s })
      → FitsStep x new → BlockBegun x old → AreSitedAccesses x sites before → AreSitedAccesses x sites after
  touch_sited memory s old new before after number t site f b h = record {
    touched = λ m u o at is.
        ⊎_elim (λ was. h.touched m u o was is)
        (λ (fresh : IsNew old new scene around s number m u).
        let own : record { memory = memory; standing = s } ≡ o = some_same (record { memory = memory; standing = s }) o (sym site ∙ (ap sites (sym fresh.own) ∙ is)) in
        subst (λ (w : BlockSite). IsTouched x w.standing u) own (fresh.is stands.scopes stands.low x f b))
        (t.known m u at);
    there = λ m o is. subst (λ (l : ℕ). m < l) (sym t.long) (h.there m o is);
    none = t.none h.none;
  }

  -- what a read gave is noted
  notes_sited : (before after : Accesses) (number path value : ℕ) → Notes before after number path value → AreSitedAccesses x sites before → AreSitedAccesses x sites after
  notes_sited before after number path value n h = record {
    touched = λ m u o at is. by m u o at is (place_noted before after number path value n m);
    there = λ m o is. subst (λ (l : ℕ). m < l) (sym (ap (λ (os : List (Option Touched)). length os) n.touched ∙ set_long before.touched.items number _)) (h.there m o is);
    none = subst (λ (ns : List ℕ). AreNone ns) (sym n.counts) h.none;
  }
    where
      by : (m : ℕ) (u : Touched) (o : BlockSite) → touched_in after m ≡ Some u → sites m ≡ Some o
          → (touched_in after m ≡ touched_in before m) ⊎ ((m ≡ number) × (touched_in after m ≡ noted_in (touched_in before m) path value)) → IsTouched x o.standing u
      by m u o at is (inl same) = h.touched m u o (sym same ∙ at) is
      by m u o at is (inr p) =
          let old = noted_touched (touched_in before m) path value u (sym p.1 ∙ at) in
          let stood = h.touched m old.0 o old.1.0 is in
          record {
            fault = subst (λ (k : ℕ). slice_get x.named k ≡ Some (OutOfRange, o.standing.place)) old.1.1.0 stood.fault;
            copies = subst (λ (cs : List AccessAt). AreCopies x o.standing.leader o.standing.bank (copy_places o.standing) o.standing.guards (length o.standing.guards) cs) old.1.1.1 stood.copies;
          }

-- At a path.

module _ (x : BlockStep) (sites : ℕ → Option BlockSite) (scene : Scene) (lane : Lane) (stands : StandsSpread scene lane.around) (within : lane.number < length lane.around.guards.now) (Led : OperationAtPath → Reach → Type 0) where
  -- at this path, where uses lead so
  abbrev pub AtLane : OperationAtPath → Reach → Type 0
  AtLane u r = (u.path ≡ lane.number) × Led u r

  -- what is put down at the path for accesses from a first one on, so many
  pub record PutsHere (first count : ℕ) (Written : ℕ → Type 0) (old new : Draft) (before after : Accesses) : Type 0 where
    pub puts : PutsAt x sites first count AtLane Written old new
    pub sited : AreSitedAccesses x sites after

  -- the reach of an access by its values, with the banks of this path
  abbrev pub own_reach : (memory : ℕ) → Aim → AccessStanding → Reach
  own_reach memory aim s = reach_told memory aim (banks_at s lane.number)

  -- where the values of an access lead in this step: to a bank that is listed, each with the place of this path
  pub record ReachesAt (memory : ℕ) (aim : Aim) (s : AccessStanding) : Type 0 where
    pub listed : (spot : Spot) → spot_of_reach x.start x.first x.words (own_reach memory aim s) ≡ Some spot → IsListed spot.bank (s.places lane.number) (banks_at s lane.number)
    pub placed : (bank place : ℕ) → IsListed bank place (banks_at s lane.number) → place ≡ s.places lane.number
    pub led : (u : OperationAtPath) → u.path ≡ lane.number → Led u (own_reach memory aim s)

  module _ (access : plain.Term) (memory : ℕ) (aim : Aim) (writes : Truth) where
    abbrev stood : AccessStanding
    stood = standing_at scene lane.around memory (place_written access) (form_of access) writes

    abbrev site : BlockSite
    site = record { memory = memory; standing = stood }

    low : (p : ℕ) → stood.leader p ≤ p
    low p = omega arith

    touch_none : (old new : Draft) (before after : Accesses) → TouchesAt scene lane.around stood old new before after aim.number → AddsNone old new
    touch_none old new before after t = by t.adds
      where
        by : (new ≡ old) ⊎ ((u : Touched) × AddsTouched old new scene lane.around stood u) → AddsNone old new
        by (inl same) = none_still old new same
        by (inr (u, a)) =
            let copies = a.copies stands.stands.scopes stands.stands.low in
            none_again old a.middle new (none_same old a.middle a.names.operations)
            (none_counted a.middle new 0 _ _
            (copies_counts (λ register. Unit {0}) (λ r. Unit {0}) (λ r. ⊥) (λ r. ⊥) stood.leader stood.bank (copy_places stood) lane.around.guards.now low (length lane.around.guards.now) a.middle new u.copies copies))

    -- the access at this path
    module _ (a : Accesses) (t : Touched) (is : touched_in a aim.number ≡ Some t) (laid : IsTouched x stood t) where
      found_copy : (c : AccessAt) × (slice_get t.copies lane.number ≡ Some c)
      found_copy = there t.copies lane.number (subst (λ (l : ℕ). lane.number < l) (sym laid.copies.long) within)

      copy_is : copied_in a aim.number lane.number ≡ found_copy.0
      copy_is = ap (λ o. copied_of o lane.number) is ∙ ap (λ o. copy_or_alone lane.number o) found_copy.1

      told : IsCopy x stood.leader stood.bank (copy_places stood) lane.around.guards.now (length lane.around.guards.now) lane.number found_copy.0
      told = laid.copies.each lane.number found_copy.0 found_copy.1

      leader_is : (copied_in a aim.number lane.number).leader ≡ stood.leader lane.number
      leader_is = ap (λ (c : AccessAt). c.leader) copy_is ∙ told.leader_is

      bank_is : (copied_in a aim.number lane.number).bank ≡ stood.bank lane.number
      bank_is = ap (λ (c : AccessAt). c.bank) copy_is ∙ told.bank_is

      place_is : (copied_in a aim.number lane.number).place ≡ stood.places lane.number
      place_is = ap (λ (c : AccessAt). c.place) copy_is ∙ told.place_is

      banks_are : copy_banks scene (form_of access) (copied_in a aim.number lane.number) ≡ banks_at stood lane.number
      banks_are =
          ap (λ (b : ℕ). banks_told scene (form_of access) b (copied_in a aim.number lane.number).place) bank_is ∙ ap (λ (q : ℕ). banks_told scene (form_of access) (stood.bank lane.number) q) place_is

      guard_done : stood.leader lane.number ≡ lane.number → holds x (copied_in a aim.number lane.number).guard → DoneBy x stood.leader lane.around.guards.now (length lane.around.guards.now) lane.number
      guard_done same on = told.by same (subst (λ (c : AccessAt). holds x c.guard) copy_is on)

  own_within : (number : ℕ) → (number ≤ number) × (number < number + 1)
  own_within number = (omega arith, omega arith)

  -- A read.
  module _ (access : plain.Term) (memory : ℕ) (aim : Aim) (at : sites aim.number ≡ Some (site access memory aim false)) (reaches : ReachesAt memory aim (stood access memory aim false)) where
    abbrev own : AccessStanding
    own = stood access memory aim false

    -- the operation that reads, with a copy of the access
    read_pushed : (d e : Draft) (a : Accesses) (t : Touched) (v : ℕ) → touched_in a aim.number ≡ Some t → IsTouched x own t → own.leader lane.number ≡ lane.number
        → Pushes d e v (copied_in a aim.number lane.number).guard (Read (reach_told memory aim (copy_banks scene (form_of access) (copied_in a aim.number lane.number))))
        → PutsAt x sites aim.number 1 AtLane (λ n. ⊥) d e
    read_pushed d e a t v is laid leading p =
        puts_one x sites aim.number 1 AtLane (λ n. ⊥) d e v lane.number (copied_in a aim.number lane.number).guard (Read told_reach) p (λ r u. subst (λ (k : Reach). AtLane put k) (some_same told_reach r u) (refl, led_so))
        (λ r u. subst (λ (k : Reach). IsSitedUse x sites put k) (some_same told_reach r u) is_used)
        (λ r u. subst (λ (k : Reach). (aim.number ≤ k.access) × (k.access < aim.number + 1)) (some_same told_reach r u) (own_within aim.number)) (λ r u w. absurd w)
      where
        told_reach : Reach
        told_reach = reach_told memory aim (copy_banks scene (form_of access) (copied_in a aim.number lane.number))

        told_same : own_reach memory aim own ≡ told_reach
        told_same = ap (λ (bs : List (ℕ × ℕ)). reach_told memory aim bs) (sym (banks_are access memory aim false a t is laid))

        put : OperationAtPath
        put = record { operation = record { guard = (copied_in a aim.number lane.number).guard; form = Read told_reach }; path = lane.number }

        led_so : Led put told_reach
        led_so = subst (λ (k : Reach). Led put k) told_same (reaches.led put refl)

        is_used : IsSitedUse x sites put told_reach
        is_used = record {
          site = site access memory aim false;
          there = at;
          memory_is = refl;
          within = within;
          few = stands.few;
          leads = leading;
          placed = λ b q h. reaches.placed b q (subst (λ (bs : List (ℕ × ℕ)). IsListed b q bs) (banks_are access memory aim false a t is laid) h);
          done = guard_done access memory aim false a t is laid leading;
          reached = λ spot s.
              subst (λ (bs : List (ℕ × ℕ)). IsListed spot.bank (own.places lane.number) bs) (sym (banks_are access memory aim false a t is laid))
              (reaches.listed spot (subst (λ (k : Reach). spot_of_reach x.start x.first x.words k ≡ Some spot) (sym told_same) s));
        }

    abbrev Alone : Draft → Draft → Type 0
    Alone d e = PutsAt x sites aim.number 1 AtLane (λ n. ⊥) d e

    module _ (d e : Draft) (a : Accesses) (t : Touched) (v : ℕ) (is : touched_in a aim.number ≡ Some t) (laid : IsTouched x own t) (given : given_at_paths a aim.number ≡ lane.number)
        (known : aim.number < length scene.shares.now) (shares : (earlier : ℕ) → slice_get scene.shares.now aim.number ≡ Some (Some earlier) → lane.number < given_at_paths a earlier) where
      abbrev copy : AccessAt
      copy = copied_in a aim.number lane.number

      copy_leads : copy.leader ≡ own.leader lane.number
      copy_leads = leader_is access memory aim false a t is laid

      abbrev Found : (share : Option (Option ℕ)) → Type 0
      Found share = Finds scene (form_of access) d e memory aim copy (given_by a (source_at share aim.number lane.number copy.leader)) v

      found_puts : (found : Option ℕ) (n : ℕ) → found ≡ Some n → Finds scene (form_of access) d e memory aim copy found v → Alone d e
      found_puts found n e1 h = puts_added x sites aim.number 1 AtLane (λ n. ⊥) d e (none_still d e (subst (λ (o : Option ℕ). Finds scene (form_of access) d e memory aim copy o v) e1 h).0)

      not_shared : Found (Some None) → Alone d e
      not_shared h = ⊎_elim leading led (cases_eq (own.leader lane.number) lane.number)
        where
          leading : own.leader lane.number ≡ lane.number → Alone d e
          leading same =
              let past : given_in a aim.number copy.leader ≡ None = given_past a aim.number copy.leader (omega (arith, given, copy_leads, same)) in
              read_pushed d e a t v is laid same (subst (λ (o : Option ℕ). Finds scene (form_of access) d e memory aim copy o v) past h)

          led : (own.leader lane.number ≡ lane.number → ⊥) → Alone d e
          led other =
              let few = low access memory aim false lane.number in
              let found = given_here a aim.number copy.leader (less copy.leader (own.leader lane.number) (given_at_paths a aim.number) copy_leads given few other) in
              found_puts (given_in a aim.number copy.leader) found.0 found.1 h
            where
              less : (c l g : ℕ) → c ≡ l → g ≡ lane.number → l ≤ lane.number → (l ≡ lane.number → ⊥) → c < g
              less c l g same all few other = omega (arith, same, all, few, other)

      find_puts : Found (slice_get scene.shares.now aim.number) → Alone d e
      find_puts h = by (slice_get scene.shares.now aim.number) refl h
        where
          lost : (o : Option ℕ) × (slice_get scene.shares.now aim.number ≡ Some o) → slice_get scene.shares.now aim.number ≡ None → ⊥
          lost p e1 = let q : Some p.0 ≡ None = sym p.1 ∙ e1 in cc

          by : (o : Option (Option ℕ)) → slice_get scene.shares.now aim.number ≡ o → Found o → Alone d e
          by None at_none h = absurd (lost (there scene.shares.now aim.number known) at_none)
          by (Some None) e1 h = not_shared h
          by (Some (Some earlier)) e1 h =
              let found = given_here a earlier lane.number (shares earlier e1) in
              found_puts (given_in a earlier lane.number) found.0 found.1 h

    module _ (old new : Draft) (before after : Accesses) (v : ℕ) (m : MadeRead scene lane access memory aim old new before after v) (f : FitsStep x new) (b : BlockBegun x old) (h : AreSitedAccesses x sites before)
        (next : AreNext scene lane before aim.number 1) where
      pushed : Extends m.first m.second
      pushed = pushed_extends m.first m.second _ _ _ m.probes

      found : Extends m.second new
      found = found_extends scene (form_of access) m.second new memory aim (copied_in m.middle aim.number lane.number) (given_by m.middle (source_at (slice_get scene.shares.now aim.number) aim.number lane.number (copied_in m.middle aim.number lane.number).leader)) v m.finds

      middle_sited : AreSitedAccesses x sites m.middle
      middle_sited = touch_sited x sites scene lane.around stands.stands memory own old m.first before m.middle aim.number m.touches at (fits_before m.first new x (extends_again m.first m.second new pushed found) f) b h

      touched : (t : Touched) × (touched_in m.middle aim.number ≡ Some t)
      touched = m.touches.there (h.there aim.number (site access memory aim false) at)

      own_given : given_at_paths m.middle aim.number ≡ lane.number
      own_given = touch_gives scene lane.around own old m.first before m.middle aim.number aim.number m.touches ∙ next.each aim.number (omega arith) (omega arith)

      shared : (earlier : ℕ) → slice_get scene.shares.now aim.number ≡ Some (Some earlier) → lane.number < given_at_paths m.middle earlier
      shared earlier e =
          let less = next.earlier aim.number earlier (omega arith) (omega arith) e in
          subst (λ (n : ℕ). lane.number < n) (sym (touch_gives scene lane.around own old m.first before m.middle aim.number earlier m.touches)) (next.shares aim.number earlier (omega arith) (omega arith) e less)

      pub read_puts : PutsHere aim.number 1 (λ n. ⊥) old new before after
      read_puts = record {
        puts = behind_none x sites aim.number 1 AtLane (λ n. ⊥) old m.second new
            (none_again old m.first m.second (touch_none access memory aim false old m.first before m.middle m.touches) (none_pushed m.first m.second _ _ _ m.probes tt))
            (find_puts m.second new m.middle touched.0 v touched.1 (middle_sited.touched aim.number touched.0 (site access memory aim false) touched.1 at) own_given
            (next.known aim.number (omega arith) (omega arith)) shared m.finds);
        sited = notes_sited x sites scene lane.around stands.stands m.middle after aim.number lane.number v m.notes middle_sited;
      }

      pub read_given : HaveGiven lane before after aim.number 1
      read_given = record {
        own = λ k from below. subst (λ (i : ℕ). given_at_paths after i ≡ lane.number + 1) (one k from below)
            (notes_own m.middle after aim.number lane.number v m.notes touched.0 (middle_sited.there aim.number (site access memory aim false) at) touched.1 own_given);
        before_them = λ k less. other k (λ same. differs k same less);
        behind_them = λ k more. other k (λ same. differ k same more);
      }
        where
          one : (k : ℕ) → aim.number ≤ k → k < aim.number + 1 → aim.number ≡ k
          one k from below = omega (arith, from, below)

          differs : (k : ℕ) → k ≡ aim.number → k < aim.number → ⊥
          differs k same less = omega (arith, same, less)

          differ : (k : ℕ) → k ≡ aim.number → aim.number + 1 ≤ k → ⊥
          differ k same more = omega (arith, same, more)

          other : (k : ℕ) → (k ≡ aim.number → ⊥) → given_at_paths after k ≡ given_at_paths before k
          other k apart = notes_other m.middle after aim.number lane.number v m.notes k apart ∙ touch_gives scene lane.around own old m.first before m.middle aim.number k m.touches

  -- A write.
  module _ (access : plain.Term) (memory : ℕ) (aim : Aim) (at : sites aim.number ≡ Some (site access memory aim true)) (reaches : ReachesAt memory aim (stood access memory aim true)) (old new : Draft) (before after : Accesses) (value : ℕ)
      (m : MadeWrite scene lane access memory aim value old new before after) (f : FitsStep x new) (b : BlockBegun x old) (h : AreSitedAccesses x sites before) where
    abbrev put_own : AccessStanding
    put_own = stood access memory aim true

    write_probed : Extends m.first m.second
    write_probed = pushed_extends m.first m.second _ _ _ m.probes

    write_pushed : Extends m.second new
    write_pushed = pushed_extends m.second new m.number _ _ m.writes

    write_sited : AreSitedAccesses x sites after
    write_sited = touch_sited x sites scene lane.around stands.stands memory put_own old m.first before after aim.number m.touches at (fits_before m.first new x (extends_again m.first m.second new write_probed write_pushed) f) b h

    write_touched : (t : Touched) × (touched_in after aim.number ≡ Some t)
    write_touched = m.touches.there (h.there aim.number (site access memory aim true) at)

    write_laid : IsTouched x put_own write_touched.0
    write_laid = write_sited.touched aim.number write_touched.0 (site access memory aim true) write_touched.1 at

    write_leads : put_own.leader lane.number ≡ lane.number
    write_leads = all_lead lane.around.levels.now stands.spread (depends_at scene (form_of access) true) (λ l. refl) lane.number (subst (λ (n : ℕ). lane.number < n) stands.counted within)

    pub write_puts : PutsHere aim.number 1 (λ n. n ≡ aim.number) old new before after
    write_puts = record {
      puts = behind_none x sites aim.number 1 AtLane (λ n. n ≡ aim.number) old m.second new
          (none_again old m.first m.second (touch_none access memory aim true old m.first before after m.touches) (none_pushed m.first m.second _ _ _ m.probes tt))
          (puts_one x sites aim.number 1 AtLane (λ n. n ≡ aim.number) m.second new m.number lane.number (lane_guard lane) (Write told_reach value) m.writes
          (λ r u. subst (λ (k : Reach). AtLane put k) (some_same told_reach r u) (refl, led_so))
          (λ r u. subst (λ (k : Reach). IsSitedUse x sites put k) (some_same told_reach r u) is_used)
          (λ r u. subst (λ (k : Reach). (aim.number ≤ k.access) × (k.access < aim.number + 1)) (some_same told_reach r u) (own_within aim.number))
          (λ r u w. subst (λ (k : Reach). k.access ≡ aim.number) (some_same told_reach r u) refl));
      sited = write_sited;
    }
      where
        told_reach : Reach
        told_reach = reach_told memory aim (copy_banks scene (form_of access) (copied_in after aim.number lane.number))

        told_same : own_reach memory aim put_own ≡ told_reach
        told_same = ap (λ (bs : List (ℕ × ℕ)). reach_told memory aim bs) (sym (banks_are access memory aim true after write_touched.0 write_touched.1 write_laid))

        put : OperationAtPath
        put = record { operation = record { guard = lane_guard lane; form = Write told_reach value }; path = lane.number }

        led_so : Led put told_reach
        led_so = subst (λ (k : Reach). Led put k) told_same (reaches.led put refl)

        is_used : IsSitedUse x sites put told_reach
        is_used = record {
          site = site access memory aim true;
          there = at;
          memory_is = refl;
          within = within;
          few = stands.few;
          leads = write_leads;
          placed = λ b q h. reaches.placed b q (subst (λ (bs : List (ℕ × ℕ)). IsListed b q bs) (banks_are access memory aim true after write_touched.0 write_touched.1 write_laid) h);
          done = λ on. record { path = lane.number; within = within; leads = write_leads; on = on };
          reached = λ spot s.
              subst (λ (bs : List (ℕ × ℕ)). IsListed spot.bank (put_own.places lane.number) bs) (sym (banks_are access memory aim true after write_touched.0 write_touched.1 write_laid))
              (reaches.listed spot (subst (λ (k : Reach). spot_of_reach x.start x.first x.words k ≡ Some spot) (sym told_same) s));
        }

    pub write_given : (k : ℕ) → given_at_paths after k ≡ given_at_paths before k
    write_given k = touch_gives scene lane.around put_own old m.first before after aim.number k m.touches
