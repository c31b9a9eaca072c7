-- Reads and writes at one path: a read is done where the path leads and no earlier read is shared, a write always. What
-- is noted of accesses tells their leaders, and what was given.
use Rattle.std.proofs.Common.{◌≡◌, ◌⊎◌, inl, inr, ⊎_elim, ◌<◌, ◌≤◌, ◌+◌, ℕ, List, Some, None, ap, sym, ◌∙◌, subst, length, arith, refl}
use Rattle.std.specs.Prelude.{◌==◌, Bool as Truth, true, false, if◌then◌else◌, Option, slice_get}
use Rattle.std.proofs.lemmas.Bool.{cases_eq}
use Rattle.std.proofs.lemmas.Bool.Decides.{nat_tests}
use Rattle.dh_tree.specs.Indices.{form_of}
use Rattle.dh_tree.specs.PlainTrees.{Term}
use Rattle.dh_plan.specs.declared.operations.OperationForm.TheVariants.{Read}
use Rattle.dh_plan.specs.declared.operations.Reach.{Reach}
use Rattle.dh_expressions.specs.declared.accesses.Accesses.{Accesses}
use Rattle.dh_expressions.specs.declared.accesses.Touched.{Touched}
use Rattle.dh_expressions.specs.declared.copies.AccessAt.{AccessAt}
use Rattle.dh_expressions.specs.declared.drafts.Draft.{Draft}
use Rattle.dh_expressions.specs.declared.elements.Aim.{Aim}
use Rattle.dh_expressions.specs.declared.scenes.Around.{Around}
use Rattle.dh_expressions.specs.declared.scenes.Lane.{Lane}
use Rattle.dh_expressions.specs.declared.scenes.Scene.{Scene}
use Rattle.dh_expressions.specs.Copying.{AreNone}
use Rattle.dh_expressions.specs.Evaluated.{source_at}
use Rattle.dh_expressions.specs.MadeTerms.{MadeRead, MadeWrite}
use Rattle.dh_expressions.specs.Named.{banks_told}
use Rattle.dh_expressions.specs.Noted.{Notes, copied_in, copied_of, copy_or_alone, given_by, given_in, noted_in, touched_in}
use Rattle.dh_expressions.specs.Reaching.{Finds, copy_banks, place_written, reach_told}
use Rattle.dh_expressions.specs.Standings.{AccessStanding, copy_places, standing_at}
use Rattle.dh_expressions.specs.Touching.{AddsTouched, IsNew, TouchesAt}
use Rattle.dh_expressions.proofs.AccessesKept.{noted_touched, place_noted}
use Rattle.dh_expressions.proofs.ListPlaces.{set_long, some_same, there}
use Rattle.dh_formed.specs.Counted.{AreNext, HaveGiven, given_at_paths, ranged, use_shared}
use Rattle.dh_formed.specs.Formed.{BlockSite}
use Rattle.dh_formed.proofs.CopiesFormed.{FormsCopies, copies_forms}
use Rattle.dh_formed.proofs.PartsCounted.{ranged_one}
use Rattle.dh_formed.proofs.ReadsCounted.{given_here, given_past, notes_other, notes_own, touch_gives}
use Rattle.dh_formed.proofs.ValuesCounted.{copies_counts}
use Rattle.dh_commands.specs.LanesRun.{paths_counted}
use Rattle.dh_laid.specs.LaidQuiet.{BlockStandsIn}
use Rattle.dh_laid.specs.LaidUses.{AddsLedUses, IsLeadersUse, IsUnshared, PathsLead}
use Rattle.dh_laid.proofs.UsesAdded.{AddsNone, any_register, no_reach, none_again, none_none, none_same, none_then_uses, probe_pushed, use_pushed, uses_counted, uses_same}

-- The leaders of accesses.

-- its copies have the leaders of where it stands, the banks, and the places
pub record IsLed (s : AccessStanding) (t : Touched) : Type 0 where
  pub long : length t.copies ≡ length s.guards
  pub each : (path : ℕ) (c : AccessAt) → slice_get t.copies path ≡ Some c → c.leader ≡ s.leader path
  pub banks : (path : ℕ) (c : AccessAt) → slice_get t.copies path ≡ Some c → c.bank ≡ s.bank path
  pub places : (path : ℕ) (c : AccessAt) → slice_get t.copies path ≡ Some c → c.place ≡ copy_places s path

-- so has each access of the block that has operations; no bank is counted
pub record AreLed (sites : ℕ → Option BlockSite) (a : Accesses) : Type 0 where
  pub led : (number : ℕ) (t : Touched) (s : BlockSite) → sites number ≡ Some s → touched_in a number ≡ Some t → IsLed s.standing t
  pub there : (number : ℕ) (s : BlockSite) → sites number ≡ Some s → number < length a.touched.items
  pub none : AreNone a.counts.items

pub led_same : (sites : ℕ → Option BlockSite) (a b : Accesses) → b ≡ a → AreLed sites a → AreLed sites b
led_same sites a b same h = subst (λ (c : Accesses). AreLed sites c) (sym same) h

-- an access gets its copies
module _ (sites : ℕ → Option BlockSite) (scene : Scene) (around : Around) (stands : BlockStandsIn scene around) (site : BlockSite) (low : (p : ℕ) → site.standing.leader p ≤ p) (old new : Draft) (before after : Accesses) (number : ℕ) (at : sites number ≡ Some site) (t : TouchesAt scene around site.standing old new before after number) (h : AreLed sites before) where
  new_led : (u : Touched) → AddsTouched old new scene around site.standing u → IsLed site.standing u
  new_led u a =
      let f : FormsCopies site.standing.leader site.standing.bank (copy_places site.standing) site.standing.guards low (length site.standing.guards) a.middle new u.copies =
      copies_forms site.standing.leader site.standing.bank (copy_places site.standing) site.standing.guards low (length site.standing.guards) a.middle new u.copies (a.copies stands.scopes stands.low) in
      record { long = f.long; each = f.leaders; banks = f.banks; places = f.places }

  pub touch_led : AreLed sites after
  touch_led = record {
    led = λ m u o here is. ⊎_elim (λ before_it. h.led m u o here before_it) (λ fresh. laid m u o here fresh) (t.known m u is);
    there = λ m o here. subst (λ (l : ℕ). m < l) (sym t.long) (h.there m o here);
    none = t.none h.none;
  }
    where
      laid : (m : ℕ) (u : Touched) (o : BlockSite) → sites m ≡ Some o → IsNew old new scene around site.standing number m u → IsLed o.standing u
      laid m u o here fresh =
          let own : site ≡ o = some_same site o (sym at ∙ (ap sites (sym fresh.own) ∙ here)) in
          subst (λ (w : BlockSite). IsLed w.standing u) own (new_led u fresh.adds)

  -- it has copies now
  pub touch_there : (u : Touched) × (touched_in after number ≡ Some u)
  touch_there = t.there (h.there number site at)

-- a read has given a value
pub notes_led : (sites : ℕ → Option BlockSite) (before after : Accesses) (number path value : ℕ) → Notes before after number path value → AreLed sites before → AreLed sites after
notes_led sites before after number path value h k = record {
  led = λ m u o at is. led_now m u o at (place_noted before after number path value h m) is;
  there = λ m o at. subst (λ (l : ℕ). m < l) (sym (ap length h.touched ∙ set_long before.touched.items number _)) (k.there m o at);
  none = subst (λ (ns : List ℕ). AreNone ns) (sym h.counts) k.none;
}
  where
    led_now : (m : ℕ) (u : Touched) (o : BlockSite) → sites m ≡ Some o → (touched_in after m ≡ touched_in before m) ⊎ ((m ≡ number) × (touched_in after m ≡ noted_in (touched_in before m) path value))
        → touched_in after m ≡ Some u → IsLed o.standing u
    led_now m u o at (inl same) is = k.led m u o at (sym same ∙ is)
    led_now m u o at (inr p) is =
        let old = noted_touched (touched_in before m) path value u (sym p.1 ∙ is) in
        let stood = k.led m old.0 o at old.1.0 in
        record {
          long = subst (λ (cs : List AccessAt). length cs ≡ length o.standing.guards) old.1.1.1 stood.long;
          each = subst (λ (cs : List AccessAt). (q : ℕ) (c : AccessAt) → slice_get cs q ≡ Some c → c.leader ≡ o.standing.leader q) old.1.1.1 stood.each;
          banks = subst (λ (cs : List AccessAt). (q : ℕ) (c : AccessAt) → slice_get cs q ≡ Some c → c.bank ≡ o.standing.bank q) old.1.1.1 stood.banks;
          places = subst (λ (cs : List AccessAt). (q : ℕ) (c : AccessAt) → slice_get cs q ≡ Some c → c.place ≡ copy_places o.standing q) old.1.1.1 stood.places;
        }

-- One path.

led_reach : (scene : Scene) (sites : ℕ → Option BlockSite) (q r : Reach) → IsLeadersUse scene sites q → Some q ≡ Some r → IsLeadersUse scene sites r
led_reach scene sites q r led e = subst (λ (u : Reach). IsLeadersUse scene sites u) (the q r e) led
  where
    the : (x y : Reach) → Some x ≡ Some y → x ≡ y
    the x y e = cc

abbrev one_if : Truth → ℕ
one_if t = if t then 1 else 0

pub record UsesPart (scene : Scene) (sites : ℕ → Option BlockSite) (lane : Lane) (old new : Draft) (before after : Accesses) (n count : ℕ) : Type 0 where
  pub uses : AddsLedUses scene sites old new (ranged n count (λ access. use_shared (slice_get scene.shares.now access) (sites access) lane.number))
  pub given : HaveGiven lane before after n count
  pub led : AreLed sites after

module _ (scene : Scene) (sites : ℕ → Option BlockSite) (lane : Lane) (stands : BlockStandsIn scene lane.around) (within : lane.number < paths_counted lane.around) (access : Term) (memory : ℕ) (aim : Aim) where
  abbrev stood : (writes : Truth) → AccessStanding
  stood writes = standing_at scene lane.around memory (place_written access) (form_of access) writes

  abbrev site : (writes : Truth) → BlockSite
  site writes = record { memory = memory; standing = stood writes }

  low : (writes : Truth) (p : ℕ) → (stood writes).leader p ≤ p
  low writes p = omega arith

  touch_used : (writes : Truth) (old new : Draft) (before after : Accesses) → TouchesAt scene lane.around (stood writes) old new before after aim.number → AddsNone scene sites old new
  touch_used writes old new before after t = by t.adds
    where
      by : (new ≡ old) ⊎ ((u : Touched) × AddsTouched old new scene lane.around (stood writes) u) → AddsNone scene sites old new
      by (inl same) = none_none scene sites old new same
      by (inr (u, a)) =
          none_again scene sites old a.middle new (none_same scene sites old a.middle a.names.operations)
          (uses_counted scene sites a.middle new 0 _ _
          (copies_counts any_register no_reach no_reach no_reach (stood writes).leader (stood writes).bank (copy_places (stood writes)) (stood writes).guards (low writes) (length (stood writes).guards) a.middle new u.copies
          (a.copies stands.scopes stands.low)))

  -- the leader that is noted at this path
  leader_is : (writes : Truth) (a : Accesses) (u : Touched) → touched_in a aim.number ≡ Some u → IsLed (stood writes) u → (copied_in a aim.number lane.number).leader ≡ (stood writes).leader lane.number
  leader_is writes a u is led =
      let c = there u.copies lane.number (subst (λ (l : ℕ). lane.number < l) (sym led.long) within) in
      ap (λ (c : AccessAt). c.leader) (ap (λ o. copied_of o lane.number) is ∙ ap (λ o. copy_or_alone lane.number o) c.1) ∙ led.each lane.number c.0 c.1

  -- a read or a write at this path, where it leads
  led_use : (writes : Truth) (a : Accesses) (u : Touched) → touched_in a aim.number ≡ Some u → IsLed (stood writes) u → sites aim.number ≡ Some (site writes) → (stood writes).leader lane.number ≡ lane.number
      → ((earlier : ℕ) → slice_get scene.shares.now aim.number ≡ Some (Some earlier) → ⊥)
      → IsLeadersUse scene sites (reach_told memory aim (copy_banks scene (form_of access) (copied_in a aim.number lane.number)))
  led_use writes a u is led at leads alone = record {
    site = site writes;
    there = at;
    memory_is = refl;
    path = lane.number;
    within = within;
    leads = leads;
    banks_are =
        ap (λ (k : AccessAt). copy_banks scene (form_of access) k) (ap (λ o. copied_of o lane.number) is ∙ ap (λ o. copy_or_alone lane.number o) c.1)
        ∙ (ap (λ (b : ℕ). banks_told scene (form_of access) b (c.0).place) (led.banks lane.number c.0 c.1) ∙ ap (λ (q : ℕ). banks_told scene (form_of access) ((stood writes).bank lane.number) q) (led.places lane.number c.0 c.1));
    alone = alone;
  }
    where
      c : (k : AccessAt) × (slice_get u.copies lane.number ≡ Some k)
      c = there u.copies lane.number (subst (λ (l : ℕ). lane.number < l) (sym led.long) within)

  -- What the access uses.

  abbrev uses_here : (number : ℕ) → ℕ
  uses_here number = use_shared (slice_get scene.shares.now number) (sites number) lane.number

  abbrev own_use : (number : ℕ) → ℕ
  own_use = ranged aim.number 1 uses_here

  use_told : (writes : Truth) (o : Option (Option ℕ)) → sites aim.number ≡ Some (site writes) → slice_get scene.shares.now aim.number ≡ o → uses_here aim.number ≡ use_shared o (Some (site writes)) lane.number
  use_told writes o at e = ap (λ s. use_shared s (sites aim.number) lane.number) e ∙ ap (λ s. use_shared o s lane.number) at

  one_used : (k : ℕ) → uses_here aim.number ≡ 1 → (if aim.number == k then 1 else 0) ≡ own_use k
  one_used k one = ap (λ (n : ℕ). if aim.number == k then n else 0) (sym one) ∙ ranged_one aim.number uses_here k

  none_used : (k : ℕ) → uses_here aim.number ≡ 0 → 0 ≡ own_use k
  none_used k none = both (aim.number == k) ∙ (ap (λ (n : ℕ). if aim.number == k then n else 0) (sym none) ∙ ranged_one aim.number uses_here k)
    where
      both : (t : Truth) → ◌≡◌ {A = ℕ} 0 (if t then 0 else 0)
      both true = refl
      both false = refl

  find_none : (d e : Draft) (copy : AccessAt) (v n : ℕ) (found : Option ℕ) → found ≡ Some n → uses_here aim.number ≡ 0 → Finds scene (form_of access) d e memory aim copy found v → AddsLedUses scene sites d e own_use
  find_none d e copy v n found is none h = uses_same scene sites d e _ own_use (λ k. none_used k none) (none_none scene sites d e (subst (λ (o : Option ℕ). Finds scene (form_of access) d e memory aim copy o v) is h).0)

  find_one : (d e : Draft) (copy : AccessAt) (v : ℕ) (found : Option ℕ) → found ≡ None → uses_here aim.number ≡ 1 → IsLeadersUse scene sites (reach_told memory aim (copy_banks scene (form_of access) copy)) → Finds scene (form_of access) d e memory aim copy found v
      → AddsLedUses scene sites d e own_use
  find_one d e copy v found is one led h =
      use_pushed scene sites d e v copy.guard (Read (reach_told memory aim (copy_banks scene (form_of access) copy))) own_use (subst (λ (o : Option ℕ). Finds scene (form_of access) d e memory aim copy o v) is h) (λ k. one_used k one)
      (λ r told. led_reach scene sites (reach_told memory aim (copy_banks scene (form_of access) copy)) r led told) (λ r told. told)

  module _ (d e : Draft) (a : Accesses) (v : ℕ) (u : Touched) (is : touched_in a aim.number ≡ Some u) (led : IsLed (stood false) u) (at : sites aim.number ≡ Some (site false)) (own : given_at_paths a aim.number ≡ lane.number) (known : aim.number < length scene.shares.now) (shares : (earlier : ℕ) → slice_get scene.shares.now aim.number ≡ Some (Some earlier) → lane.number < given_at_paths a earlier) where
    abbrev copy : AccessAt
    copy = copied_in a aim.number lane.number

    abbrev leader : ℕ
    leader = (stood false).leader lane.number

    copy_leads : copy.leader ≡ leader
    copy_leads = leader_is false a u is led

    abbrev Found : (share : Option (Option ℕ)) → Type 0
    Found share = Finds scene (form_of access) d e memory aim copy (given_by a (source_at share aim.number lane.number copy.leader)) v

    not_shared : slice_get scene.shares.now aim.number ≡ Some None → Found (Some None) → AddsLedUses scene sites d e own_use
    not_shared told h = ⊎_elim leads follows (cases_eq leader lane.number)
      where
        lost : (earlier : ℕ) → Some None ≡ Some (Some earlier) → ⊥
        lost earlier e = cc

        tested : (l p : ℕ) → l ≡ p → ◌≡◌ {A = ℕ} (if l == p then 1 else 0) 1
        tested l p same = ap (λ t. one_if t) (test l p same)
          where
            test : (l p : ℕ) → l ≡ p → (l == p) ≡ true
            test l p same = grind (arith, nat_tests, same)

        untested : (l p : ℕ) → (l ≡ p → ⊥) → ◌≡◌ {A = ℕ} (if l == p then 1 else 0) 0
        untested l p other = ap (λ t. one_if t) (test l p other)
          where
            test : (l p : ℕ) → (l ≡ p → ⊥) → (l == p) ≡ false
            test l p other = grind (arith, nat_tests)

        leads : leader ≡ lane.number → AddsLedUses scene sites d e own_use
        leads same =
            find_one d e copy v (given_in a aim.number copy.leader) (given_past a aim.number copy.leader (omega (arith, own, copy_leads, same)))
            (use_told false (Some None) at told ∙ tested leader lane.number same)
            (led_use false a u is led at same (λ earlier share. lost earlier (sym told ∙ share))) h

        follows : (leader ≡ lane.number → ⊥) → AddsLedUses scene sites d e own_use
        follows other =
            let few = low false lane.number in
            let found = given_here a aim.number copy.leader (less copy.leader leader (given_at_paths a aim.number) copy_leads own few other) in
            find_none d e copy v found.0 (given_in a aim.number copy.leader) found.1 (use_told false (Some None) at told ∙ untested leader lane.number other) h
          where
            less : (c l g : ℕ) → c ≡ l → g ≡ lane.number → l ≤ lane.number → (l ≡ lane.number → ⊥) → c < g
            less c l g same all few other = omega (arith, same, all, few, other)

    find_used : Finds scene (form_of access) d e memory aim copy (given_by a (source_at (slice_get scene.shares.now aim.number) aim.number lane.number copy.leader)) v → AddsLedUses scene sites d e own_use
    find_used h = by (slice_get scene.shares.now aim.number) refl h
      where
        lost : (o : Option ℕ) × (slice_get scene.shares.now aim.number ≡ Some o) → slice_get scene.shares.now aim.number ≡ None → ⊥
        lost p e = let q : Some p.0 ≡ None = sym p.1 ∙ e in cc

        by : (o : Option (Option ℕ)) → slice_get scene.shares.now aim.number ≡ o → Found o → AddsLedUses scene sites d e own_use
        by None at_none h = absurd (lost (there scene.shares.now aim.number known) at_none)
        by (Some None) e h = not_shared e h
        by (Some (Some earlier)) told h =
            let found = given_here a earlier lane.number (shares earlier told) in
            find_none d e copy v found.0 (given_in a earlier lane.number) found.1 (use_told false (Some (Some earlier)) at told) h

  -- a read
  module _ (old new : Draft) (before after : Accesses) (v : ℕ) (m : MadeRead scene lane access memory aim old new before after v) (at : sites aim.number ≡ Some (site false)) (led : AreLed sites before) (next : AreNext scene lane before aim.number 1) where
    middle_led : AreLed sites m.middle
    middle_led = touch_led sites scene lane.around stands (site false) (low false) old m.first before m.middle aim.number at m.touches led

    touched : (u : Touched) × (touched_in m.middle aim.number ≡ Some u)
    touched = touch_there sites scene lane.around stands (site false) (low false) old m.first before m.middle aim.number at m.touches led

    own_given : given_at_paths m.middle aim.number ≡ lane.number
    own_given = touch_gives scene lane.around (stood false) old m.first before m.middle aim.number aim.number m.touches ∙ next.each aim.number (omega arith) (omega arith)

    found_used : AddsLedUses scene sites m.second new own_use
    found_used =
        find_used m.second new m.middle v touched.0 touched.1 (middle_led.led aim.number touched.0 (site false) at touched.1) at own_given (next.known aim.number (omega arith) (omega arith))
        (λ earlier e. shared earlier (next.shares aim.number earlier (omega arith) (omega arith) e (next.earlier aim.number earlier (omega arith) (omega arith) e)))
        m.finds
      where
        shared : (earlier : ℕ) → lane.number < given_at_paths before earlier → lane.number < given_at_paths m.middle earlier
        shared earlier h = subst (λ (n : ℕ). lane.number < n) (sym (touch_gives scene lane.around (stood false) old m.first before m.middle aim.number earlier m.touches)) h

    read_gives : HaveGiven lane before after aim.number 1
    read_gives = record {
      own = λ k from below. subst (λ (i : ℕ). given_at_paths after i ≡ lane.number + 1) (one k from below)
          (notes_own m.middle after aim.number lane.number v m.notes touched.0 (middle_led.there aim.number (site false) at) touched.1 own_given);
      before_them = λ k less. other k (λ same. differs k same less);
      behind_them = λ k more. other k (λ same. differ k same more);
    }
      where
        one : (k : ℕ) → aim.number ≤ k → k < aim.number + 1 → aim.number ≡ k
        one k from below = omega (arith, from, below)

        differs : (k : ℕ) → k ≡ aim.number → k < aim.number → ⊥
        differs k same less = omega (arith, same, less)

        differ : (k : ℕ) → k ≡ aim.number → aim.number + 1 ≤ k → ⊥
        differ k same more = omega (arith, same, more)

        other : (k : ℕ) → (k ≡ aim.number → ⊥) → given_at_paths after k ≡ given_at_paths before k
        other k apart = notes_other m.middle after aim.number lane.number v m.notes k apart ∙ touch_gives scene lane.around (stood false) old m.first before m.middle aim.number k m.touches

    pub read_used : UsesPart scene sites lane old new before after aim.number 1
    read_used = record {
      uses =
          none_then_uses scene sites old m.first new own_use (touch_used false old m.first before m.middle m.touches)
          (none_then_uses scene sites m.first m.second new own_use (probe_pushed scene sites m.first m.second _ _ _ _ m.probes (record { site = site false; there = at; memory_is = refl })) found_used);
      given = read_gives;
      led = notes_led sites m.middle after aim.number lane.number v m.notes middle_led;
    }

  -- a write
  module _ (old new : Draft) (before after : Accesses) (value : ℕ) (m : MadeWrite scene lane access memory aim value old new before after) (at : sites aim.number ≡ Some (site true)) (led : AreLed sites before) (leads : PathsLead lane.around) (alone : IsUnshared scene aim.number) where
    use_one : uses_here aim.number ≡ 1
    use_one = by (slice_get scene.shares.now aim.number) refl
      where
        test : (l p : ℕ) → l ≡ p → ◌≡◌ {A = ℕ} (if l == p then 1 else 0) 1
        test l p same = ap (λ t. one_if t) (tested l p same)
          where
            tested : (l p : ℕ) → l ≡ p → (l == p) ≡ true
            tested l p same = grind (arith, nat_tests, same)

        by : (o : Option (Option ℕ)) → slice_get scene.shares.now aim.number ≡ o → uses_here aim.number ≡ 1
        by None told = use_told true None at told ∙ test ((stood true).leader lane.number) lane.number (leads lane.number within)
        by (Some None) told = use_told true (Some None) at told ∙ test ((stood true).leader lane.number) lane.number (leads lane.number within)
        by (Some (Some shared)) told = absurd (alone.own shared told)

    pub write_led : AreLed sites after
    write_led = touch_led sites scene lane.around stands (site true) (low true) old m.first before after aim.number at m.touches led

    touched_there : (u : Touched) × (touched_in after aim.number ≡ Some u)
    touched_there = touch_there sites scene lane.around stands (site true) (low true) old m.first before after aim.number at m.touches led

    pub write_used : AddsLedUses scene sites old new own_use
    write_used =
        none_then_uses scene sites old m.first new own_use (touch_used true old m.first before after m.touches)
        (none_then_uses scene sites m.first m.second new own_use (probe_pushed scene sites m.first m.second _ _ _ _ m.probes (record { site = site true; there = at; memory_is = refl })) (use_pushed scene sites m.second new _ _ _ own_use m.writes (λ k. one_used k use_one)
        (λ r told. led_reach scene sites _ r (led_use true after touched_there.0 touched_there.1 (write_led.led aim.number touched_there.0 (site true) at touched_there.1) at (leads lane.number within) alone.own) told) (λ r told. told)))

    pub write_gives : (k : ℕ) → given_at_paths after k ≡ given_at_paths before k
    write_gives k = touch_gives scene lane.around (stood true) old m.first before after aim.number k m.touches
