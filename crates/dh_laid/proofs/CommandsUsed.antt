-- Commands at all paths, with their arms: by recursion on what was put down for them.
use Rattle.std.proofs.Common.{◌≡◌, ◌⊎◌, inl, inr, ◌<◌, ◌≤◌, ◌+◌, ◌-◌, ◌^◌, ℕ, zero, suc, List, Some, None, ap, sym, ◌∙◌, subst, length, arith, refl}
use Rattle.std.specs.Prelude.{Bool as Truth, true, false, [], ◌∷◌, ◌++◌, Option, slice_get}
use Rattle.std.proofs.lemmas.Bool.{cases_lt}
use Rattle.dh_value.specs.declared.operators.Op.{Op}
use Rattle.dh_tree.specs.Indices.{form_of}
use Rattle.dh_tree.specs.PlainTrees.{Term, Action, action, lets, lets_memory, views, assigns, stores, reduces, calls, blocks, decides, repeats, counts, MaybeAction, no_action, one_action, Actions, no_actions, action_then, Groups, no_groups, group_then, ViewPlan}
use Rattle.dh_tree.specs.Seen.{terms}
use Rattle.dh_tree.specs.ViewOffsets.{offsets_of}
use Rattle.dh_meaning.specs.AccessNumbers.{accesses_of, groups_accesses, other_accesses, part_accesses, plan_accesses, term_accesses, terms_accesses}
use Rattle.dh_meaning.specs.CoreOf.{entity_number, way_of}
use Rattle.dh_meaning.specs.Ways.{Hidden, hidden_in}
use Rattle.dh_code.specs.Slots.{held_at}
use Rattle.dh_expressions.specs.declared.accesses.Accesses.{Accesses}
use Rattle.dh_expressions.specs.declared.drafts.Draft.{Draft}
use Rattle.dh_expressions.specs.declared.paths.Level.{Level}
use Rattle.dh_expressions.specs.declared.scenes.Around.{Around}
use Rattle.dh_expressions.specs.declared.scenes.Scene.{Scene}
use Rattle.dh_expressions.specs.Evaluated.{known_in}
use Rattle.dh_expressions.specs.Levels.{leader_number}
use Rattle.dh_expressions.proofs.ListPlaces.{there}
use Rattle.dh_formed.specs.Counted.{AreNext, given_at_paths, length_given, ranged}
use Rattle.dh_formed.specs.Formed.{BlockSite}
use Rattle.dh_commands.specs.declared.buildings.Building.{Building}
use Rattle.dh_commands.specs.declared.choices.Left.{Left}
use Rattle.dh_commands.specs.LanesRun.{lane_of, paths_counted}
use Rattle.dh_commands.specs.MadeCommands.{Commanding, MadeActions, MadeArm, MadeAssigned, MadeCleared, MadeCommand, MadeGroups, MadeHolds, MadeKept, MadeLanes, MadeOther, MadeReduced, MadeStored, MadeTests, MadeView}
use Rattle.dh_laid.specs.BlockSites.{HasSites, actions_sites, all_there, command_sites, groups_sites, other_sites, target_sites, term_sites, terms_sites, view_sites}
use Rattle.dh_laid.specs.Laid.{aim_accesses}
use Rattle.dh_laid.specs.LaidCommands.{AreFewIn}
use Rattle.dh_laid.specs.LaidNumbers.{IsAccessForm, IsOutsideRange, NumbersLaid, StoresReach, StoresReachGroups, StoresReachOther, StoresReachPart}
use Rattle.dh_laid.specs.LaidQuiet.{BlockStandsIn}
use Rattle.dh_laid.specs.LaidUses.{AddsLedUses, used_by, EachWrite, EachWriteActions, EachWriteGroups, EachWriteOther, IsUnshared, PathsLead, SharesInside, used_to}
use Rattle.dh_laid.proofs.CommandsNumbered.{actions_reached, aims_within, arm_number, command_reached, groups_reached, numbers_then, other_reached, some_arm, tests_number}
use Rattle.dh_laid.proofs.ReadsUsed.{AreLed, UsesPart, led_same}
use Rattle.dh_laid.proofs.SitesLaid.{PlacesAgree, actions_sites_long, all_sites, command_sites_long, no_sites, places_behind, places_front, target_sites_long, term_sites_long, terms_sites_long, test_places_long, two_long}
use Rattle.dh_laid.proofs.TermsUsed.{UsesLane, assigned_used, cleared_used, long_is, reduced_used, stored_used, term_used, terms_used}
use Rattle.dh_laid.proofs.UsesAdded.{AddsNone, choices_used, guards_used, held_used, no_accesses, none_again, none_none, none_then_uses, ranged_more, ranged_nothing, ranged_then, ranged_without, used_nowhere, uses_then_none}
use Rattle.dh_laid.proofs.ValuesLogged.{arm_long, stands_arm, tests_same}

-- offsets as the variables hold them that keep them
holds_used : (scene : Scene) (sites : ℕ → Option BlockSite) (first : ℕ) (offsets : List Term) (values : List ℕ) (old new : Draft) (held : List ℕ) → MadeHolds scene first offsets values old new held → AddsNone scene sites old new
holds_used scene sites first [] values old new held m = none_none scene sites old new m.0
holds_used scene sites first (t ∷ ts) [] old new held m = none_none scene sites old new m.0
holds_used scene sites first (t ∷ ts) (v ∷ vs) old new held (d, (h, (more, (one, (rest, is))))) =
    none_again scene sites old d new (held_used scene sites t (held_at scene.held.now first).kind v old d h one) (holds_used scene sites (suc first) ts vs d new more rest)

-- What stands before and behind.

-- As a command begins its own reads gave nothing; each access of the block before it gave at all paths, where one shares it.
pub record Begins (scene : Scene) (sites : ℕ → Option BlockSite) (paths : ℕ) (a : Accesses) (first count : ℕ) : Type 0 where
  pub led : AreLed sites a
  pub fresh : (m : ℕ) (s : BlockSite) → sites m ≡ Some s → first ≤ m → m < first + count → given_at_paths a m ≡ 0
  pub before : (e reader : ℕ) (t : BlockSite) → sites e ≡ Some t → e < first → slice_get scene.shares.now reader ≡ Some (Some e) → paths ≤ given_at_paths a e

-- Behind it so have its own.
pub record Used (scene : Scene) (sites : ℕ → Option BlockSite) (paths : ℕ) (old new : Building) (first count : ℕ) : Type 0 where
  pub uses : AddsLedUses scene sites old.draft new.draft (ranged first count (used_to scene sites paths))
  pub led : AreLed sites new.accesses
  pub given : (m reader : ℕ) (t : BlockSite) → sites m ≡ Some t → first ≤ m → m < first + count → slice_get scene.shares.now reader ≡ Some (Some m) → paths ≤ given_at_paths new.accesses m

-- Of a command at its first paths: its reads gave at these, all others what they gave.
pub record UsedTo (scene : Scene) (sites : ℕ → Option BlockSite) (old new : Building) (paths first count all : ℕ) : Type 0 where
  pub uses : AddsLedUses scene sites old.draft new.draft (ranged first all (used_to scene sites paths))
  pub own : (m : ℕ) → first ≤ m → m < first + count → given_at_paths new.accesses m ≡ paths
  pub others : (m : ℕ) → IsOutsideRange first count m → given_at_paths new.accesses m ≡ given_at_paths old.accesses m
  pub led : AreLed sites new.accesses

-- accesses that have sites, so many from a first one on
abbrev pub AreSites : (sites : ℕ → Option BlockSite) → (first count : ℕ) → Type 0
AreSites sites first count = (m : ℕ) → first ≤ m → m < first + count → (s : BlockSite) × (sites m ≡ Some s)

pub sites_are : (sites : ℕ → Option BlockSite) (first count : ℕ) (ss : List BlockSite) → length ss ≡ count → HasSites sites first ss → AreSites sites first count
sites_are sites first count ss long has m from below =
    let s = there ss (m - first) (subst (λ (n : ℕ). m - first < n) (sym long) (omega (arith, from, below))) in
    (s.0, ap sites (again first m from) ∙ has (m - first) s.0 s.1)
  where
    again : (f m : ℕ) → f ≤ m → m ≡ f + (m - f)
    again f m h = omega (arith, h)

fewer_sites : (sites : ℕ → Option BlockSite) (first p q : ℕ) → p ≤ q → AreSites sites first q → AreSites sites first p
fewer_sites sites first p q few all m from below = all m from (omega (arith, few, below))

module _ (scene : Scene) (sites : ℕ → Option BlockSite) (inside : SharesInside scene sites) where
  -- One path after the other.

  module _ (around : Around) (old : Building) (first count all : ℕ) (are : AreSites sites first count) (begins : Begins scene sites (paths_counted around) old.accesses first all) where
    next_at : (n : ℕ) (b : Building) → n < paths_counted around → UsedTo scene sites old b n first count all → AreNext scene (lane_of around n) b.accesses first count
    next_at n b less u = record {
      each = λ m from below. u.own m from below;
      known = λ m from below. let s = are m from below in inside.known m s.0 s.1;
      earlier = λ m e from below share. let s = are m from below in inside.earlier m e s.0 s.1 share;
      shares = λ m e from below share low. let s = are m from below in let t = inside.inside m e s.0 s.1 share in enough e (u.others e (inl low)) (begins.before e m t.0 t.1 low share);
    }
      where
        enough : (e : ℕ) → given_at_paths b.accesses e ≡ given_at_paths old.accesses e → paths_counted around ≤ given_at_paths old.accesses e → n < given_at_paths b.accesses e
        enough e same many = omega (arith, same, many, less)

    used_none : count ≤ all → (new : Building) → new ≡ old → UsedTo scene sites old new 0 first count all
    used_none few new same = record {
      uses = ranged_nothing scene sites old.draft new.draft first all (used_to scene sites 0) (λ access. refl) (none_none scene sites old.draft new.draft (ap (λ (b : Building). b.draft) same));
      own = λ m from below. ap (λ (b : Building). given_at_paths b.accesses m) same ∙ (let s = are m from below in begins.fresh m s.0 s.1 from (omega (arith, below, few)));
      others = λ m out. ap (λ (b : Building). given_at_paths b.accesses m) same;
      led = led_same sites old.accesses new.accesses (ap (λ (b : Building). b.accesses) same) begins.led;
    }

    used_more : (n : ℕ) (b new : Building) → UsedTo scene sites old b n first count all → UsesLane scene sites (lane_of around n) b.draft new.draft b.accesses new.accesses first count all → UsedTo scene sites old new (suc n) first count all
    used_more n b new u h = record {
      uses = ranged_more scene sites old.draft b.draft new.draft first all (used_to scene sites n) _ (used_to scene sites (suc n)) (λ access. refl) u.uses h.uses;
      own = λ m from below. h.given.own m from below ∙ one n;
      others = λ m out. kept m out ∙ u.others m out;
      led = h.led;
    }
      where
        one : (n : ℕ) → n + 1 ≡ suc n
        one n = omega arith

        kept : (m : ℕ) → IsOutsideRange first count m → given_at_paths new.accesses m ≡ given_at_paths b.accesses m
        kept m (inl less) = h.given.before_them m less
        kept m (inr more) = h.given.behind_them m more

    module _ (One : ℕ → (b d : Building) → ℕ → Type 0)
        (each : (n : ℕ) (b d : Building) (k : ℕ) → n < paths_counted around → One n b d k → AreLed sites b.accesses → AreNext scene (lane_of around n) b.accesses first count → UsesLane scene sites (lane_of around n) b.draft d.draft b.accesses d.accesses first count all) where
      lanes_used : (paths : ℕ) (new : Building) (next : ℕ) → count ≤ all → paths ≤ paths_counted around → MadeLanes One paths first old new next → UsedTo scene sites old new paths first count all
      lanes_used zero new next few within m = used_none few new m.0
      lanes_used (suc n) new next few within m =
          let u = lanes_used n m.0 m.1.0 few (omega (arith, within)) m.1.1.0 in
          used_more n m.0 new u (each n m.0 new next (omega (arith, within)) m.1.1.1 u.led (next_at n m.0 (omega (arith, within)) u))

  -- tests
  tests_used_to : (around : Around) (first : ℕ) (t : Term) (old : Building) → BlockStandsIn scene around → AreFewIn first t → HasSites sites first (term_sites scene around t)
      → Begins scene sites (paths_counted around) old.accesses first (term_accesses t)
      → (paths : ℕ) (new : Building) (next : ℕ) (tests : List ℕ) → paths ≤ paths_counted around → MadeTests scene around first t paths old new next tests → UsedTo scene sites old new paths first (term_accesses t) (term_accesses t)
  tests_used_to around first t old stands few has begins zero new next tests within m =
      used_none around old first (term_accesses t) (term_accesses t) (sites_are sites first (term_accesses t) (term_sites scene around t) (term_sites_long scene around t) has) begins (omega arith) new m.0
  tests_used_to around first t old stands few has begins (suc n) new next tests within m =
      let are = sites_are sites first (term_accesses t) (term_sites scene around t) (term_sites_long scene around t) has in
      let u = tests_used_to around first t old stands few has begins n m.0 m.1.0 m.1.1.0 (omega (arith, within)) m.1.1.1.1.0 in
      let h : UsesPart scene sites (lane_of around n) (m.0).draft new.draft (m.0).accesses new.accesses first (term_accesses t) =
      term_used scene sites (lane_of around n) stands (omega (arith, within)) (m.0).values.current.items t (m.0).draft new.draft (m.0).accesses new.accesses first next m.1.1.1.0 (m.1.1.1.1.1.0).term few has u.led
      (next_at around old first (term_accesses t) (term_accesses t) are begins n m.0 (omega (arith, within)) u) in
      used_more around old first (term_accesses t) (term_accesses t) are begins n m.0 new u (record { uses = h.uses; given = h.given; led = h.led })

  -- at all paths
  used_all : (paths : ℕ) (old new : Building) (first count : ℕ) → UsedTo scene sites old new paths first count count → Used scene sites paths old new first count
  used_all paths old new first count u = record { uses = u.uses; led = u.led; given = λ m reader t at from below share. let e = u.own m from below in omega (arith, e) }

  -- the last access is a write, which no read shares
  used_write : (paths : ℕ) (old new : Building) (first count all : ℕ) → count + 1 ≡ all → IsUnshared scene (first + count) → UsedTo scene sites old new paths first count all → Used scene sites paths old new first all
  used_write paths old new first count all is alone u = record { uses = u.uses; led = u.led; given = λ m reader t at from below share. by m reader from below share (cases_lt m (first + count)) }
    where
      last : (m : ℕ) → m < first + all → first + count ≤ m → m ≡ first + count
      last m below more = omega (arith, is, below, more)

      by : (m reader : ℕ) → first ≤ m → m < first + all → slice_get scene.shares.now reader ≡ Some (Some m) → (m < first + count) ⊎ (first + count ≤ m) → paths ≤ given_at_paths new.accesses m
      by m reader from below share (inl less) = let e = u.own m from less in omega (arith, e)
      by m reader from below share (inr more) = absurd (alone.other reader (share ∙ ap (λ (i : ℕ). Some (Some i)) (last m below more)))

  -- Parts.

  begins_first : (paths : ℕ) (a : Accesses) (first p q : ℕ) → Begins scene sites paths a first (p + q) → Begins scene sites paths a first p
  begins_first paths a first p q b = record { led = b.led; fresh = λ m s at from below. b.fresh m s at from (omega (arith, below)); before = b.before }

  given_kept : (a b : Building) (first own count : ℕ) (m : ℕ) → NumbersLaid a b first count own → IsOutsideRange first count m → given_at_paths b.accesses m ≡ given_at_paths a.accesses m
  given_kept a b first own count m h out = ap length_given (h.only m out)

  begins_then : (paths : ℕ) (a b : Building) (first own p q : ℕ) → Begins scene sites paths a.accesses first (p + q) → Used scene sites paths a b first p → NumbersLaid a b first p own → Begins scene sites paths b.accesses own q
  begins_then paths a b first own p q begins u h = record {
    led = u.led;
    fresh = λ m s at from below. given_kept a b first own p m h (inr (behind m from)) ∙ begins.fresh m s at (later m from) (within m below);
    before = λ e reader t at low share. by e reader t at low share (cases_lt e first);
  }
    where
      is : own ≡ first + p
      is = h.next_is

      behind : (m : ℕ) → own ≤ m → first + p ≤ m
      behind m from = omega (arith, is, from)

      later : (m : ℕ) → own ≤ m → first ≤ m
      later m from = omega (arith, is, from)

      within : (m : ℕ) → m < own + q → m < first + (p + q)
      within m below = omega (arith, is, below)

      by : (e reader : ℕ) (t : BlockSite) → sites e ≡ Some t → e < own → slice_get scene.shares.now reader ≡ Some (Some e) → (e < first) ⊎ (first ≤ e) → paths ≤ given_at_paths b.accesses e
      by e reader t at low share (inl less) = let k = given_kept a b first own p e h (inl less) in let g = begins.before e reader t at less share in omega (arith, k, g)
      by e reader t at low share (inr from) = u.given e reader t at from (omega (arith, is, low)) share

  used_then : (paths : ℕ) (a b d : Building) (first own next p q : ℕ) → NumbersLaid a b first p own → NumbersLaid b d own q next → Used scene sites paths a b first p → Used scene sites paths b d own q → Used scene sites paths a d first (p + q)
  used_then paths a b d first own next p q h k u w = record {
    uses = ranged_then scene sites a.draft b.draft d.draft first own p q (used_to scene sites paths) h.next_is u.uses w.uses;
    led = w.led;
    given = λ m reader t at from below share. by m reader t at from below share (cases_lt m own);
  }
    where
      is : own ≡ first + p
      is = h.next_is

      by : (m reader : ℕ) (t : BlockSite) → sites m ≡ Some t → first ≤ m → m < first + (p + q) → slice_get scene.shares.now reader ≡ Some (Some m) → (m < own) ⊎ (own ≤ m) → paths ≤ given_at_paths d.accesses m
      by m reader t at from below share (inl less) = let e = given_kept b d own next q m k (inl less) in let g = u.given m reader t at from (omega (arith, is, less)) share in omega (arith, e, g)
      by m reader t at from below share (inr more) = w.given m reader t at more (omega (arith, is, below)) share

  used_count : (paths : ℕ) (a b : Building) (first p q : ℕ) → p ≡ q → Used scene sites paths a b first p → Used scene sites paths a b first q
  used_count paths a b first p q same u = subst (λ (n : ℕ). Used scene sites paths a b first n) same u

  begins_count : (paths : ℕ) (a : Accesses) (first p q : ℕ) → p ≡ q → Begins scene sites paths a first p → Begins scene sites paths a first q
  begins_count paths a first p q same b = subst (λ (n : ℕ). Begins scene sites paths a first n) same b

  still_used : (paths : ℕ) (old new : Building) (first : ℕ) → new ≡ old → Begins scene sites paths old.accesses first 0 → Used scene sites paths old new first 0
  still_used paths old new first still b = record {
    uses = no_accesses scene sites old.draft new.draft first (used_to scene sites paths) (none_none scene sites old.draft new.draft (ap (λ (b : Building). b.draft) still));
    led = led_same sites old.accesses new.accesses (ap (λ (b : Building). b.accesses) still) b.led;
    given = λ m reader t at from below share. absurd (never m from below);
  }
    where
      never : (m : ℕ) → first ≤ m → m < first + 0 → ⊥
      never m from below = omega (arith, from, below)

  -- a loop for which nothing is put down, whose accesses have no sites
  idle_used : (paths : ℕ) (old new : Building) (first count : ℕ) → new ≡ old → ((m : ℕ) → first ≤ m → m < first + count → sites m ≡ None) → Begins scene sites paths old.accesses first count → Used scene sites paths old new first count
  idle_used paths old new first count still none b = record {
    uses =
        ranged_without scene sites old.draft new.draft first count (used_to scene sites paths) (λ m from below. ap (λ (s : Option BlockSite). used_by (slice_get scene.shares.now m) s paths) (none m from below) ∙ used_nowhere (slice_get scene.shares.now m) paths)
        (none_none scene sites old.draft new.draft (ap (λ (b : Building). b.draft) still));
    led = led_same sites old.accesses new.accesses (ap (λ (b : Building). b.accesses) still) b.led;
    given = λ m reader t at from below share. absurd (lost t (sym (none m from below) ∙ at));
  }
    where
      lost : (t : BlockSite) → None ≡ Some t → ⊥
      lost t e = cc

  -- Arms.

  arm_begins : (Inner : Commanding) (around : Around) (holds : Truth) (tests : List ℕ) (old new : Building) (first next : ℕ) (lefts : List Left) (m : MadeArm Inner around holds tests old new first next lefts) (count : ℕ) → length tests ≡ paths_counted around
      → Begins scene sites (paths_counted around) old.accesses first count → Begins scene sites (paths_counted m.arm) m.begin.accesses first count
  arm_begins Inner around holds tests old new first next lefts m count many b =
      subst (λ (n : ℕ). Begins scene sites n m.begin.accesses first count) (sym (arm_long holds around.guards.now tests (length tests) old.draft m.guarded m.arm.guards.now m.guards ∙ many))
      (subst (λ (a : Accesses). Begins scene sites (paths_counted around) a first count) (sym m.begin_accesses) b)

  arm_used : (Inner : Commanding) (around : Around) (holds : Truth) (tests : List ℕ) (old new : Building) (first next : ℕ) (lefts : List Left) (m : MadeArm Inner around holds tests old new first next lefts) (count : ℕ) → length tests ≡ paths_counted around
      → Used scene sites (paths_counted m.arm) m.begin m.inside first count → Used scene sites (paths_counted around) old new first count
  arm_used Inner around holds tests old new first next lefts m count many u =
      outside (subst (λ (n : ℕ). Used scene sites n m.begin m.inside first count) (arm_long holds around.guards.now tests (length tests) old.draft m.guarded m.arm.guards.now m.guards ∙ many) u)
    where
      outside : Used scene sites (paths_counted around) m.begin m.inside first count → Used scene sites (paths_counted around) old new first count
      outside w = record {
        uses =
            subst (λ (d : Draft). AddsLedUses scene sites old.draft d (ranged first count (used_to scene sites (paths_counted around)))) (sym m.draft)
            (none_then_uses scene sites old.draft m.guarded m.inside.draft (ranged first count (used_to scene sites (paths_counted around)))
            (guards_used scene sites holds around.guards.now tests (length tests) old.draft m.guarded m.arm.guards.now m.guards)
            (subst (λ (d : Draft). AddsLedUses scene sites d m.inside.draft (ranged first count (used_to scene sites (paths_counted around)))) m.begin_draft w.uses));
        led = led_same sites m.inside.accesses new.accesses m.accesses w.led;
        given = λ i reader t at from below share. subst (λ (a : Accesses). paths_counted around ≤ given_at_paths a i) (sym m.accesses) (w.given i reader t at from below share);
      }

  arm_leads : (Inner : Commanding) (around : Around) (holds : Truth) (tests : List ℕ) (old new : Building) (first next : ℕ) (lefts : List Left) (m : MadeArm Inner around holds tests old new first next lefts) → length tests ≡ paths_counted around
      → PathsLead around → PathsLead m.arm
  arm_leads Inner around holds tests old new first next lefts m many leads path within =
      ap (λ (ls : List Level). leader_number ls (λ level. true) path) m.levels
      ∙ leads path (subst (λ (n : ℕ). path < n) (arm_long holds around.guards.now tests (length tests) old.draft m.guarded m.arm.guards.now m.guards ∙ many) within)

  joined_used : (paths : ℕ) (a b d : Building) (first count : ℕ) → AddsNone scene sites b.draft d.draft → d.accesses ≡ b.accesses → Used scene sites paths a b first count → Used scene sites paths a d first count
  joined_used paths a b d first count none same u = record {
    uses = uses_then_none scene sites a.draft b.draft d.draft (ranged first count (used_to scene sites paths)) u.uses none;
    led = led_same sites b.accesses d.accesses same u.led;
    given = λ m reader t at from below share. subst (λ (k : Accesses). paths ≤ given_at_paths k m) (sym same) (u.given m reader t at from below share);
  }

  -- Whole commands.

  abbrev OwnWrites : (first : ℕ) → Action → Type 0
  OwnWrites first a = EachWrite (λ number. IsUnshared scene number) first a

  no_more : (n : ℕ) → n ≡ n + 0
  no_more n = omega arith

  none_before : (n : ℕ) → n ≡ 0 + n
  none_before n = omega arith

  -- an expression at all paths
  module _ (around : Around) (old new : Building) (first next : ℕ) (stands : BlockStandsIn scene around) where
    assigned_all : (entity : ℕ) (t : Term) → AreFewIn first t → HasSites sites first (term_sites scene around t) → Begins scene sites (paths_counted around) old.accesses first (term_accesses t + 0)
        → MadeLanes (λ n b d k. MadeAssigned scene (lane_of around n) first entity t b d k) (paths_counted around) first old new next → Used scene sites (paths_counted around) old new first (term_accesses t + 0)
    assigned_all entity t few has begins m =
        used_count (paths_counted around) old new first (term_accesses t) (term_accesses t + 0) (no_more (term_accesses t))
        (used_all (paths_counted around) old new first (term_accesses t)
        (lanes_used around old first (term_accesses t) (term_accesses t) (sites_are sites first (term_accesses t) (term_sites scene around t) (term_sites_long scene around t) has)
        (begins_count (paths_counted around) old.accesses first (term_accesses t + 0) (term_accesses t) (sym (no_more (term_accesses t))) begins)
        (λ n b d k. MadeAssigned scene (lane_of around n) first entity t b d k)
        (λ n b d k less one led nx. assigned_used scene sites (lane_of around n) stands less first b d k led entity t few has nx one) (paths_counted around) new next (omega arith) (omega arith) m))

    reduced_all : (entity : ℕ) (op : Op) (t : Term) → AreFewIn first t → HasSites sites first (term_sites scene around t) → Begins scene sites (paths_counted around) old.accesses first (term_accesses t + 0)
        → MadeLanes (λ n b d k. MadeReduced scene (lane_of around n) first entity op t b d k) (paths_counted around) first old new next → Used scene sites (paths_counted around) old new first (term_accesses t + 0)
    reduced_all entity op t few has begins m =
        used_count (paths_counted around) old new first (term_accesses t) (term_accesses t + 0) (no_more (term_accesses t))
        (used_all (paths_counted around) old new first (term_accesses t)
        (lanes_used around old first (term_accesses t) (term_accesses t) (sites_are sites first (term_accesses t) (term_sites scene around t) (term_sites_long scene around t) has)
        (begins_count (paths_counted around) old.accesses first (term_accesses t + 0) (term_accesses t) (sym (no_more (term_accesses t))) begins)
        (λ n b d k. MadeReduced scene (lane_of around n) first entity op t b d k)
        (λ n b d k less one led nx. reduced_used scene sites (lane_of around n) stands less first b d k led entity op t few has nx one) (paths_counted around) new next (omega arith) (omega arith) m))

    -- the offsets of a view
    kept_here : (entity n : ℕ) (offsets : List Term) → n < paths_counted around → (b d : Building) (k : ℕ) → first + terms_accesses (terms offsets) < 2 ^ 32 → HasSites sites first (terms_sites scene around (terms offsets))
        → MadeKept scene (lane_of around n) first entity offsets b d k → AreLed sites b.accesses → AreNext scene (lane_of around n) b.accesses first (terms_accesses (terms offsets))
        → UsesLane scene sites (lane_of around n) b.draft d.draft b.accesses d.accesses first (terms_accesses (terms offsets)) (terms_accesses (terms offsets))
    kept_here entity n offsets less b d k few has m led nx =
        let h : UsesPart scene sites (lane_of around n) b.draft m.middle b.accesses d.accesses first (terms_accesses (terms offsets)) =
        terms_used scene sites (lane_of around n) stands less b.values.current.items (terms offsets) b.draft m.middle b.accesses d.accesses first k m.values m.offsets_made few has led nx in
        record { uses = uses_then_none scene sites b.draft m.middle d.draft _ h.uses (holds_used scene sites entity offsets m.values m.middle d.draft m.held m.holds); given = h.given; led = h.led }

    kept_all : (entity : ℕ) (offsets : List Term) → first + terms_accesses (terms offsets) < 2 ^ 32 → HasSites sites first (terms_sites scene around (terms offsets)) → Begins scene sites (paths_counted around) old.accesses first (terms_accesses (terms offsets) + 0)
        → MadeLanes (λ n b d k. MadeKept scene (lane_of around n) first entity offsets b d k) (paths_counted around) first old new next → Used scene sites (paths_counted around) old new first (terms_accesses (terms offsets) + 0)
    kept_all entity offsets few has begins m =
        used_count (paths_counted around) old new first (terms_accesses (terms offsets)) (terms_accesses (terms offsets) + 0) (no_more (terms_accesses (terms offsets)))
        (used_all (paths_counted around) old new first (terms_accesses (terms offsets))
        (lanes_used around old first (terms_accesses (terms offsets)) (terms_accesses (terms offsets))
        (sites_are sites first (terms_accesses (terms offsets)) (terms_sites scene around (terms offsets)) (terms_sites_long scene around (terms offsets)) has)
        (begins_count (paths_counted around) old.accesses first (terms_accesses (terms offsets) + 0) (terms_accesses (terms offsets)) (sym (no_more (terms_accesses (terms offsets)))) begins)
        (λ n b d k. MadeKept scene (lane_of around n) first entity offsets b d k)
        (λ n b d k less one led nx. kept_here entity n offsets less b d k few has one led nx) (paths_counted around) new next (omega arith) (omega arith) m))

    cleared_all : (entity : ℕ) → Begins scene sites (paths_counted around) old.accesses first 0 → MadeLanes (λ n b d k. MadeCleared scene (lane_of around n) entity b d × (k ≡ first)) (paths_counted around) first old new next
        → Used scene sites (paths_counted around) old new first 0
    cleared_all entity begins m =
        used_all (paths_counted around) old new first 0
        (lanes_used around old first 0 0 (λ i from below. absurd (never i from below)) begins (λ n b d k. MadeCleared scene (lane_of around n) entity b d × (k ≡ first))
        (λ n b d k less one led nx. cleared_used scene sites (lane_of around n) stands less first b d k led entity one.0) (paths_counted around) new next (omega arith) (omega arith) m)
      where
        never : (i : ℕ) → first ≤ i → i < first + 0 → ⊥
        never i from below = omega (arith, from, below)

    stored_all : (target t : Term) → IsAccessForm (form_of target) → first + (term_accesses t + term_accesses target) < 2 ^ 32 → HasSites sites first (term_sites scene around t ++ target_sites scene around target) → PathsLead around
        → IsUnshared scene (first + term_accesses t + aim_accesses (form_of target)) → Begins scene sites (paths_counted around) old.accesses first (term_accesses t + term_accesses target + 0)
        → MadeLanes (λ n b d k. MadeStored scene (lane_of around n) first target t b d k) (paths_counted around) first old new next
        → Used scene sites (paths_counted around) old new first (term_accesses t + term_accesses target + 0)
    stored_all target t is few has leads alone begins m =
        used_count (paths_counted around) old new first (term_accesses t + term_accesses target) (term_accesses t + term_accesses target + 0) (no_more (term_accesses t + term_accesses target))
        (used_write (paths_counted around) old new first (term_accesses t + aim_accesses (form_of target)) (term_accesses t + term_accesses target) whole
        (subst (λ (i : ℕ). IsUnshared scene i) (grouped first (term_accesses t) (aim_accesses (form_of target))) alone)
        (lanes_used around old first (term_accesses t + aim_accesses (form_of target)) (term_accesses t + term_accesses target)
        (fewer_sites sites first (term_accesses t + aim_accesses (form_of target)) (term_accesses t + term_accesses target) (omega (arith, whole)) (sites_are sites first (term_accesses t + term_accesses target) (term_sites scene around t ++ target_sites scene around target) long has))
        (begins_count (paths_counted around) old.accesses first (term_accesses t + term_accesses target + 0) (term_accesses t + term_accesses target) (sym (no_more (term_accesses t + term_accesses target))) begins)
        (λ n b d k. MadeStored scene (lane_of around n) first target t b d k)
        (λ n b d k less one led nx. stored_used scene sites (lane_of around n) stands less first b d k led target t is few has nx leads alone one) (paths_counted around) new next (omega (arith, whole)) (omega arith) m))
      where
        grouped : (f a b : ℕ) → f + a + b ≡ f + (a + b)
        grouped f a b = omega arith

        whole : term_accesses t + aim_accesses (form_of target) + 1 ≡ term_accesses t + term_accesses target
        whole = let e = aims_within target is in omega (arith, e)

        long : length (term_sites scene around t ++ target_sites scene around target) ≡ term_accesses t + term_accesses target
        long = two_long (term_sites scene around t) (target_sites scene around target) (term_accesses t) (term_accesses target) (term_sites_long scene around t) (target_sites_long scene around target is)

    pub tests_used : (t : Term) (tests : List ℕ) → AreFewIn first t → HasSites sites first (term_sites scene around t) → Begins scene sites (paths_counted around) old.accesses first (term_accesses t)
        → MadeTests scene around first t (paths_counted around) old new next tests → Used scene sites (paths_counted around) old new first (term_accesses t)
    tests_used t tests few has begins m =
        used_all (paths_counted around) old new first (term_accesses t) (tests_used_to around first t old stands few has begins (paths_counted around) new next tests (omega arith) m)

  view_used : (hidden : List Hidden) (form : ViewPlan) (around : Around) (old new : Building) (first next : ℕ) → BlockStandsIn scene around → MadeView scene hidden form around old new first next → first + plan_accesses form < 2 ^ 32
      → PlacesAgree sites first (view_sites scene around hidden form) → Begins scene sites (paths_counted around) old.accesses first (plan_accesses form + 0) → Used scene sites (paths_counted around) old new first (plan_accesses form + 0)
  view_used [] form around old new first next s m few has begins = idle_used (paths_counted around) old new first (plan_accesses form + 0) m.still (no_sites sites first (plan_accesses form + 0) has) begins
  view_used (h ∷ hs) form around old new first next s m few has begins =
      kept_all around old new first next s h.entity (offsets_of form) few (all_sites sites first (terms_sites scene around (terms (offsets_of form))) has) begins m

  mutual
    pub command_used : (a : Action) (around : Around) (old new : Building) (first next : ℕ) → BlockStandsIn scene around → PathsLead around → (m : MadeCommand scene a around old new first next) → StoresReach a → 0 < paths_counted around
        → first + accesses_of a < 2 ^ 32 → OwnWrites first a → PlacesAgree sites first (command_sites scene a around old new first next m) → Begins scene sites (paths_counted around) old.accesses first (accesses_of a)
        → Used scene sites (paths_counted around) old new first (accesses_of a)
    command_used (action id place (lets name declared (Some value))) around old new first next s leads m is some few writes has begins =
        assigned_all around old new first next s (entity_number name.entity) value (omega (arith, few)) (all_sites sites first (term_sites scene around value) has) begins m
    command_used (action id place (lets name declared None)) around old new first next s leads m is some few writes has begins = cleared_all around old new first next s (entity_number name.entity) begins m
    command_used (action id place (assigns target value)) around old new first next s leads m is some few writes has begins =
        assigned_all around old new first next s (entity_number target.entity) value (omega (arith, few)) (all_sites sites first (term_sites scene around value) has) begins m
    command_used (action id place (stores target value)) around old new first next s leads m is some few writes has begins =
        stored_all around old new first next s target value is (omega (arith, few)) (all_sites sites first (term_sites scene around value ++ target_sites scene around target) has) leads writes begins m
    command_used (action id place (reduces target op value)) around old new first next s leads m is some few writes has begins =
        reduced_all around old new first next s (entity_number target.entity) op value (omega (arith, few)) (all_sites sites first (term_sites scene around value) has) begins m
    command_used (action id place (decides test chosen other)) around old new first next s leads m is some few writes has begins =
        let less : AreFewIn first test = omega (arith, few) in
        let many : length m.tests ≡ paths_counted around = (tests_same scene around first test (paths_counted around) old m.tested m.own m.tests m.test).1 in
        let some_tests : 0 < length m.tests = subst (λ (n : ℕ). 0 < n) (sym many) some in
        let tested : NumbersLaid old m.tested first (term_accesses test) m.own = tests_number scene around first test less (paths_counted around) old m.tested m.own m.tests some m.test in
        let own = tested.next_is in
        let some_in : 0 < paths_counted m.chosen.arm = some_arm (MadeCommand scene chosen) around true m.tests m.tested m.after_chosen m.own m.behind m.chosen_left m.chosen some_tests in
        let few_in : m.own + accesses_of chosen < 2 ^ 32 = omega (arith, few, own) in
        let in_chosen : NumbersLaid m.tested m.after_chosen m.own (accesses_of chosen) m.behind =
        arm_number (MadeCommand scene chosen) around true m.tests m.tested m.after_chosen m.own m.behind m.chosen_left m.chosen (accesses_of chosen)
        (command_reached scene chosen m.chosen.arm m.chosen.begin m.chosen.inside m.own m.behind m.chosen.command is.0 some_in few_in).1 in
        let behind = in_chosen.next_is in
        let few_other : m.behind + other_accesses other < 2 ^ 32 = omega (arith, few, own, behind) in
        let in_other : NumbersLaid m.after_chosen m.after_other m.behind (other_accesses other) next =
        (other_reached scene other around m.tests m.after_chosen m.after_other m.behind next m.other_left m.other is.1 some_tests few_other).1 in
        let chosen_sites = command_sites scene chosen m.chosen.arm m.chosen.begin m.chosen.inside m.own m.behind m.chosen.command in
        let last_sites = other_sites scene other around m.tests m.after_chosen m.after_other m.behind next m.other_left m.other in
        let has_test = all_sites sites first (term_sites scene around test) (places_front sites first (all_there (term_sites scene around test)) (chosen_sites ++ last_sites) has) in
        let has_arms = places_behind sites first m.own (all_there (term_sites scene around test)) (chosen_sites ++ last_sites) (long_is first m.own (all_there (term_sites scene around test)) (term_accesses test) (test_places_long scene around test) own) has in
        let has_chosen = places_front sites m.own chosen_sites last_sites has_arms in
        let has_other =
        places_behind sites m.own m.behind chosen_sites last_sites
        (long_is m.own m.behind chosen_sites (accesses_of chosen) (command_sites_long scene chosen m.chosen.arm m.chosen.begin m.chosen.inside m.own m.behind m.chosen.command is.0) behind) has_arms in
        let one : Used scene sites (paths_counted around) old m.tested first (term_accesses test) =
        tests_used around old m.tested first m.own s test m.tests less has_test (begins_first (paths_counted around) old.accesses first (term_accesses test) (accesses_of chosen + other_accesses other) begins) m.test in
        let arms : Begins scene sites (paths_counted around) m.tested.accesses m.own (accesses_of chosen + other_accesses other) =
        begins_then (paths_counted around) old m.tested first m.own (term_accesses test) (accesses_of chosen + other_accesses other) begins one tested in
        let two : Used scene sites (paths_counted around) m.tested m.after_chosen m.own (accesses_of chosen) =
        arm_used (MadeCommand scene chosen) around true m.tests m.tested m.after_chosen m.own m.behind m.chosen_left m.chosen (accesses_of chosen) many
        (command_used chosen m.chosen.arm m.chosen.begin m.chosen.inside m.own m.behind
        (stands_arm scene (MadeCommand scene chosen) around true m.tests m.tested m.after_chosen m.own m.behind m.chosen_left m.chosen s many)
        (arm_leads (MadeCommand scene chosen) around true m.tests m.tested m.after_chosen m.own m.behind m.chosen_left m.chosen many leads) m.chosen.command is.0 some_in few_in
        (subst (λ (i : ℕ). OwnWrites i chosen) (sym own) writes.0) has_chosen
        (arm_begins (MadeCommand scene chosen) around true m.tests m.tested m.after_chosen m.own m.behind m.chosen_left m.chosen (accesses_of chosen) many
        (begins_first (paths_counted around) m.tested.accesses m.own (accesses_of chosen) (other_accesses other) arms))) in
        let three : Used scene sites (paths_counted around) m.after_chosen m.after_other m.behind (other_accesses other) =
        other_used other around m.tests m.after_chosen m.after_other m.behind next m.other_left s leads many m.other is.1 some_tests few_other
        (subst (λ (i : ℕ). EachWriteOther (λ number. IsUnshared scene number) i other) (sym (behind ∙ ap (λ i. i + accesses_of chosen) own)) writes.1) has_other
        (begins_then (paths_counted around) m.tested m.after_chosen m.own m.behind (accesses_of chosen) (other_accesses other) arms two in_chosen) in
        joined_used (paths_counted around) old m.after_other new first (term_accesses test + (accesses_of chosen + other_accesses other))
        (choices_used scene sites m.tests m.joined.choices (length m.joined.choices) m.after_other.draft new.draft m.joined.middle new.values m.joined.choose) m.joined.same
        (used_then (paths_counted around) old m.tested m.after_other first m.own next (term_accesses test) (accesses_of chosen + other_accesses other) tested
        (numbers_then m.tested m.after_chosen m.after_other m.own m.behind next (accesses_of chosen) (other_accesses other) in_chosen in_other) one
        (used_then (paths_counted around) m.tested m.after_chosen m.after_other m.own m.behind next (accesses_of chosen) (other_accesses other) in_chosen in_other two three))
    command_used (action id place (blocks body)) around old new first next s leads m is some few writes has begins =
        used_count (paths_counted around) old new first (groups_accesses body) (0 + groups_accesses body) (none_before (groups_accesses body))
        (groups_used body around old new first next s leads m is some (omega (arith, few)) writes has
        (begins_count (paths_counted around) old.accesses first (0 + groups_accesses body) (groups_accesses body) (sym (none_before (groups_accesses body))) begins))
    command_used (action id place (lets_memory name shape shape_places value)) around old new first next s leads m is some few writes has begins = still_used (paths_counted around) old new first m.still begins
    command_used (action id place (views name parent form)) around old new first next s leads m is some few writes has begins =
        view_used (hidden_in (way_of (known_in scene) name)) form around old new first next s m (omega (arith, few)) has begins
    command_used (action id place (calls function arguments)) around old new first next s leads m is some few writes has begins = still_used (paths_counted around) old new first m.still begins
    command_used (action id place (repeats test body)) around old new first next s leads m is some few writes has begins =
        idle_used (paths_counted around) old new first (term_accesses test + accesses_of body) m.still (no_sites sites first (term_accesses test + accesses_of body) has) begins
    command_used (action id place (counts iterator declared low high factor body combine combine_place)) around old new first next s leads m is some few writes has begins =
        used_count (paths_counted around) old new first (accesses_of body + other_accesses combine) (0 + (accesses_of body + other_accesses combine)) (none_before (accesses_of body + other_accesses combine))
        (idle_used (paths_counted around) old new first (accesses_of body + other_accesses combine) m.still (no_sites sites first (accesses_of body + other_accesses combine) has)
        (begins_count (paths_counted around) old.accesses first (0 + (accesses_of body + other_accesses combine)) (accesses_of body + other_accesses combine) (sym (none_before (accesses_of body + other_accesses combine))) begins))

    other_used : (other : MaybeAction) (around : Around) (tests : List ℕ) (old new : Building) (first next : ℕ) (lefts : List Left) → BlockStandsIn scene around → PathsLead around → length tests ≡ paths_counted around
        → (m : MadeOther scene other around tests old new first next lefts) → StoresReachOther other → 0 < length tests → first + other_accesses other < 2 ^ 32
        → EachWriteOther (λ number. IsUnshared scene number) first other → PlacesAgree sites first (other_sites scene other around tests old new first next lefts m) → Begins scene sites (paths_counted around) old.accesses first (other_accesses other)
        → Used scene sites (paths_counted around) old new first (other_accesses other)
    other_used no_action around tests old new first next lefts s leads many m is some few writes has begins = still_used (paths_counted around) old new first m.still begins
    other_used (one_action a) around tests old new first next lefts s leads many m is some few writes has begins =
        arm_used (MadeCommand scene a) around false tests old new first next lefts m (accesses_of a) many
        (command_used a m.arm m.begin m.inside first next (stands_arm scene (MadeCommand scene a) around false tests old new first next lefts m s many)
        (arm_leads (MadeCommand scene a) around false tests old new first next lefts m many leads) m.command is (some_arm (MadeCommand scene a) around false tests old new first next lefts m some) few writes has
        (arm_begins (MadeCommand scene a) around false tests old new first next lefts m (accesses_of a) many begins))

    pub actions_used : (part : Actions) (around : Around) (old new : Building) (first next : ℕ) → BlockStandsIn scene around → PathsLead around → (m : MadeActions scene part around old new first next) → StoresReachPart part → 0 < paths_counted around
        → first + part_accesses part < 2 ^ 32 → EachWriteActions (λ number. IsUnshared scene number) first part → PlacesAgree sites first (actions_sites scene part around old new first next m)
        → Begins scene sites (paths_counted around) old.accesses first (part_accesses part) → Used scene sites (paths_counted around) old new first (part_accesses part)
    actions_used no_actions around old new first next s leads m is some few writes has begins = still_used (paths_counted around) old new first m.still begins
    actions_used (action_then a rest) around old new first next s leads m is some few writes has begins =
        let less : first + accesses_of a < 2 ^ 32 = omega (arith, few) in
        let number : NumbersLaid old m.middle first (accesses_of a) m.own = (command_reached scene a around old m.middle first m.own m.one is.0 some less).1 in
        let own = number.next_is in
        let few_rest : m.own + part_accesses rest < 2 ^ 32 = omega (arith, few, own) in
        let own_sites = command_sites scene a around old m.middle first m.own m.one in
        let rest_sites = actions_sites scene rest around m.middle new m.own next m.rest in
        let one : Used scene sites (paths_counted around) old m.middle first (accesses_of a) =
        command_used a around old m.middle first m.own s leads m.one is.0 some less writes.0 (places_front sites first own_sites rest_sites has)
        (begins_first (paths_counted around) old.accesses first (accesses_of a) (part_accesses rest) begins) in
        used_then (paths_counted around) old m.middle new first m.own next (accesses_of a) (part_accesses rest) number (actions_reached scene rest around m.middle new m.own next m.rest is.1 some few_rest).1 one
        (actions_used rest around m.middle new m.own next s leads m.rest is.1 some few_rest (subst (λ (i : ℕ). EachWriteActions (λ n. IsUnshared scene n) i rest) (sym own) writes.1)
        (places_behind sites first m.own own_sites rest_sites (long_is first m.own own_sites (accesses_of a) (command_sites_long scene a around old m.middle first m.own m.one is.0) own) has)
        (begins_then (paths_counted around) old m.middle first m.own (accesses_of a) (part_accesses rest) begins one number))

    pub groups_used : (body : Groups) (around : Around) (old new : Building) (first next : ℕ) → BlockStandsIn scene around → PathsLead around → (m : MadeGroups scene body around old new first next) → StoresReachGroups body → 0 < paths_counted around
        → first + groups_accesses body < 2 ^ 32 → EachWriteGroups (λ number. IsUnshared scene number) first body → PlacesAgree sites first (groups_sites scene body around old new first next m)
        → Begins scene sites (paths_counted around) old.accesses first (groups_accesses body) → Used scene sites (paths_counted around) old new first (groups_accesses body)
    groups_used no_groups around old new first next s leads m is some few writes has begins = still_used (paths_counted around) old new first m.still begins
    groups_used (group_then part rest) around old new first next s leads m is some few writes has begins =
        let less : first + part_accesses part < 2 ^ 32 = omega (arith, few) in
        let number : NumbersLaid old m.middle first (part_accesses part) m.own = (actions_reached scene part around old m.middle first m.own m.one is.0 some less).1 in
        let own = number.next_is in
        let few_rest : m.own + groups_accesses rest < 2 ^ 32 = omega (arith, few, own) in
        let own_sites = actions_sites scene part around old m.middle first m.own m.one in
        let rest_sites = groups_sites scene rest around m.middle new m.own next m.rest in
        let one : Used scene sites (paths_counted around) old m.middle first (part_accesses part) =
        actions_used part around old m.middle first m.own s leads m.one is.0 some less writes.0 (places_front sites first own_sites rest_sites has)
        (begins_first (paths_counted around) old.accesses first (part_accesses part) (groups_accesses rest) begins) in
        used_then (paths_counted around) old m.middle new first m.own next (part_accesses part) (groups_accesses rest) number (groups_reached scene rest around m.middle new m.own next m.rest is.1 some few_rest).1 one
        (groups_used rest around m.middle new m.own next s leads m.rest is.1 some few_rest (subst (λ (i : ℕ). EachWriteGroups (λ n. IsUnshared scene n) i rest) (sym own) writes.1)
        (places_behind sites first m.own own_sites rest_sites (long_is first m.own own_sites (part_accesses part) (actions_sites_long scene part around old m.middle first m.own m.one is.0) own) has)
        (begins_then (paths_counted around) old m.middle first m.own (part_accesses part) (groups_accesses rest) begins one number))
