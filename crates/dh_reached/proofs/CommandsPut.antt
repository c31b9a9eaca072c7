-- What is put down for a whole command, by recursion on it and on what was put down for it.
use Rattle.std.proofs.Common.{◌≡◌, ◌⊎◌, inl, inr, ℕ, zero, suc, ◌+◌, ◌-◌, ◌^◌, ◌<◌, ◌≤◌, List, Some, None, refl, sym, ap, ◌∙◌, subst, arith, length, take}
use Rattle.std.specs.Prelude.{Bool as Truth, true, false, [], ◌∷◌, ◌++◌, min, slice_get, Option}
use Rattle.std.proofs.lemmas.Bool.{cases_lt}
use Rattle.dh_base.specs.declared.places.Place.{Place}
use Rattle.dh_value.specs.declared.kinds.Kind.{Kind}
use Rattle.dh_value.specs.declared.operators.Op.TheVariants.{Both}
use Rattle.dh_value.specs.Operations.{truth}
use Rattle.dh_tree.specs.Memories.{table_of}
use Rattle.dh_tree.specs.PlainTrees as plain
use Rattle.dh_tree.specs.PlainTrees.{Term, Action, action, ActionForm, lets, lets_memory, views, assigns, stores, reduces, calls, blocks, decides, repeats, counts, MaybeAction, no_action, one_action, Actions, no_actions, action_then, Groups, no_groups, group_then}
use Rattle.dh_tree.specs.Seen.{program_seen, terms}
use Rattle.dh_meaning.specs.AccessNumbers.{form_accesses, term_accesses, terms_accesses}
use Rattle.dh_meaning.specs.Paths.{copies_in}
use Rattle.dh_meaning.specs.Ways.{Way}
use Rattle.dh_code.specs.Slots.{held_at}
use Rattle.dh_plan.specs.declared.operations.OperationForm.TheVariants.{Compute, Constant, Select}
use Rattle.dh_plan.specs.declared.operations.Reach.{Reach}
use Rattle.dh_expressions.specs.declared.accesses.Accesses.{Accesses}
use Rattle.dh_expressions.specs.declared.drafts.Draft.{Draft}
use Rattle.dh_expressions.specs.declared.paths.Level.{Level}
use Rattle.dh_expressions.specs.declared.scenes.Around.{Around}
use Rattle.dh_expressions.specs.declared.scenes.Scene.{Scene}
use Rattle.dh_expressions.specs.Drafted.{BlockBegun, Extends, FitsStep, BlockStep}
use Rattle.dh_expressions.specs.Levels.{path_at, rank_number}
use Rattle.dh_expressions.specs.Shown.{guard_of}
use Rattle.dh_expressions.proofs.ListPlaces.{there}
use Rattle.dh_formed.specs.Counted.{AreNext, given_at_paths}
use Rattle.dh_formed.specs.Formed.{BlockSite}
use Rattle.dh_formed.proofs.ValuesCounted.{shown_counts}
use Rattle.dh_commands.specs.declared.assignments.Values.{Values}
use Rattle.dh_commands.specs.declared.buildings.Building.{Building}
use Rattle.dh_commands.specs.declared.choices.Choice.{Choice}
use Rattle.dh_commands.specs.declared.choices.Left.{Left}
use Rattle.dh_commands.specs.LanesRun.{lane_of, paths_counted}
use Rattle.dh_commands.specs.MadeCommands.{Commanding, MadeArm, MadeArmGuard, MadeArmGuards, MadeAssigned, MadeBehind, MadeChoiceBy, MadeChoices, MadeCleared, MadeGuard, MadeKept, MadeLanes, MadeOutcome, MadeReduced, MadeStored, MadeTested, MadeTests}
use Rattle.dh_commands.specs.Setting.{IsVariableAmong}
use Rattle.dh_commands.specs.ShownVariables.{ArePlaced, IsSeen, depth_in, level_factors, register_in, seen_path}
use Rattle.dh_blocks.specs.PathsOfLevels.{AreSpread}
use Rattle.dh_laid.specs.BlockSites.{target_sites, term_sites, terms_sites}
use Rattle.dh_laid.specs.Laid.{aim_accesses}
use Rattle.dh_laid.specs.LaidNumbers.{IsAccessForm}
use Rattle.dh_laid.proofs.AccessesLaid.{assigned_lays, cleared_lays, kept_lays, reduced_lays, stored_lays, term_lays}
use Rattle.dh_laid.proofs.ValuesLogged.{arm_long, stands_arm}
use Rattle.dh_reached.specs.IndicesKept.{AreSeenFrom, FormKeeps, TermKeeps, TermsKeep}
use Rattle.dh_reached.specs.Puts.{AreSitedAccesses, EachUse, IsSitedUse, PlacesRise, OperationAtPath, PutsAt, PutsDown, is_write}
use Rattle.dh_reached.specs.ReadsTold.{BlockShares, NoReadAmong}
use Rattle.dh_reached.proofs.LanesPut.{AllLanes, Behind, LaneDone, all_lanes, assigned_lane, cleared_lane, kept_lane, reduced_lane, tested_lane}
use Rattle.dh_reached.proofs.LedUses.{IsLed, led_rise}
use Rattle.dh_reached.proofs.NoUses.{AddsNone, before_none, behind_none, down_then, none_again, none_counted, none_pushed, none_still, puts_added}
use Rattle.dh_reached.specs.ReachedBlocks.{StandsSpread}
use Rattle.dh_reached.proofs.StoresPut.{IsLast, stored_lane}
use Rattle.dh_reached.proofs.Stays.{Stays, stays_same}
use Rattle.dh_reached.proofs.TermsPut.{SitesAt, all_sites_long, sites_long, target_ways, term_ways, terms_ways}

-- Parts that use nothing.

outcome_none : (holds : Truth) (test : ℕ) (old new : Draft) (v : ℕ) → MadeOutcome holds test old new v → AddsNone old new
outcome_none true test old new v m = none_still old new m.0
outcome_none false test old new v m =
    none_again old m.first new (none_pushed old m.first m.no_value None (Constant (truth false)) m.no_made tt)
    (none_again m.first m.second new (none_pushed m.first m.second m.yes_value None (Constant (truth true)) m.yes_made tt) (none_pushed m.second new v None (Select test m.no_value m.yes_value) m.pushes tt))

guard_none : (guard : Option ℕ) (t : ℕ) (old new : Draft) (v : ℕ) → MadeGuard guard t old new v → AddsNone old new
guard_none None t old new v m = none_still old new m.0
guard_none (Some g) t old new v m = none_pushed old new v None (Compute Both g t) m tt

pub guards_none : (holds : Truth) (guards : List (Option ℕ)) (tests : List ℕ) (count : ℕ) (old new : Draft) (arm : List (Option ℕ)) → MadeArmGuards holds guards tests count old new arm → AddsNone old new
guards_none holds guards tests zero old new arm m = none_still old new m.0
guards_none holds guards tests (suc n) old new arm m = none_again old m.0 new (guards_none holds guards tests n old m.0 m.1.0 m.1.1.1.1.0) (one m.0 m.1.1.0 m.1.1.1.0 m.1.1.1.1.1.1.0)
  where
    one : (d : Draft) (test v : ℕ) → MadeArmGuard holds (guard_of guards n) test d new v → AddsNone d new
    one d test v g = none_again d g.middle new (outcome_none holds test d g.middle g.outcome g.comes_out) (guard_none (guard_of guards n) g.outcome g.middle new v g.joins)

behind_shows : (current : List (Option ℕ)) (register : ℕ) (o : Option ℕ) (old new : Draft) (v : ℕ) → MadeBehind current register o old new v → AddsNone old new
behind_shows current register None old new v m = none_counted old new 0 _ _ (shown_counts (λ r. Unit {0}) (λ r. Unit {0}) (λ r. ⊥) (λ r. ⊥) current register tt old new v m)
behind_shows current register (Some value) old new v m = none_still old new m.0

choice_none : (o : Option ℕ) (c : Choice) (old new : Draft) (before after : Values) → MadeChoiceBy o c old new before after → AddsNone old new
choice_none None c old new before after m = none_still old new m.0
choice_none (Some test) c old new before after m =
    none_again old m.first new (behind_shows before.current.items c.register c.chosen old m.first m.yes_value m.chosen)
    (none_again m.first m.second new (behind_shows before.current.items c.register c.other m.first m.second m.no_value m.other) (none_pushed m.second new m.value None (Select test m.yes_value m.no_value) m.pushes tt))

pub choices_none : (tests : List ℕ) (choices : List Choice) (count : ℕ) (old new : Draft) (before after : Values) → MadeChoices tests choices count old new before after → AddsNone old new
choices_none tests choices zero old new before after m = none_still old new m.0
choices_none tests choices (suc n) old new before after m =
    none_again old m.0 new (choices_none tests choices n old m.0 before m.1.0 m.1.1.1.0) (choice_none (slice_get tests (m.1.1.0).path) m.1.1.0 m.0 new m.1.0 after m.1.1.1.1.1)

-- tests as what is done at paths
tests_lanes : (scene : Scene) (around : Around) (first : ℕ) (t : Term) (count : ℕ) (old new : Building) (next : ℕ) (tests : List ℕ) → MadeTests scene around first t count old new next tests
    → MadeLanes (λ n b d k. (v : ℕ) × MadeTested scene (lane_of around n) first t b d k v) count first old new next
tests_lanes scene around first t zero old new next tests m = (m.0, m.1.0)
tests_lanes scene around first t (suc n) old new next tests m = (m.0, (m.1.0, (tests_lanes scene around first t n old m.0 m.1.0 m.1.1.0 m.1.1.1.1.0, (m.1.1.1.0, m.1.1.1.1.1.0))))

-- registers are placed by the loops alone
registers_by : (scene : Scene) (arm around : Around) → arm.levels.now ≡ around.levels.now → (e j : ℕ) → register_in scene arm e j ≡ register_in scene around e j
registers_by scene arm around same e j = ap (λ (ls : List Level). min ((held_at scene.held.now e).first + rank_number ls (held_at scene.held.now e).depth j) (2 ^ 64 - 1)) same

placed_by : (scene : Scene) (arm around : Around) → arm.levels.now ≡ around.levels.now → paths_counted arm ≡ paths_counted around → ArePlaced scene around → ArePlaced scene arm
placed_by scene arm around same long placed = record {
  apart = λ e f i j te tf ii ij is.
      let a = placed.apart e f i j (up e te) (up f tf) (inside i ii) (inside j ij) (sym (register e i) ∙ (is ∙ register f j)) in
      (a.0, path e i ∙ (a.1 ∙ sym (path f j)));
  one = λ e i j te ii ij is. register e i ∙ (placed.one e i j (up e te) (inside i ii) (inside j ij) (sym (path e i) ∙ (is ∙ path e j)) ∙ sym (register e j));
}
  where
    up : (e : ℕ) → IsSeen scene arm.levels.now e → IsSeen scene around.levels.now e
    up e seen = subst (λ (ls : List Level). IsSeen scene ls e) same seen

    inside : (i : ℕ) → i < paths_counted arm → i < paths_counted around
    inside i l = subst (λ (n : ℕ). i < n) long l

    register : (e i : ℕ) → register_in scene arm e i ≡ register_in scene around e i
    register e i = registers_by scene arm around same e i

    path : (e i : ℕ) → seen_path scene arm e i ≡ seen_path scene around e i
    path e i = ap (λ (ls : List Level). take (depth_in scene e) (path_at ls i)) same

pub spread_arm : (scene : Scene) (Inner : Commanding) (around : Around) (holds : Truth) (tests : List ℕ) (old new : Building) (first next : ℕ) (lefts : List Left) (m : MadeArm Inner around holds tests old new first next lefts)
    → StandsSpread scene around → length tests ≡ paths_counted around → StandsSpread scene m.arm
spread_arm scene Inner around holds tests old new first next lefts m s many = record {
  stands = stands_arm scene Inner around holds tests old new first next lefts m s.stands many;
  some = subst (λ (n : ℕ). 0 < n) (sym (paths_same Inner around holds tests old new first next lefts m many)) s.some;
  few = subst (λ (n : ℕ). n < 2 ^ 32) (sym (paths_same Inner around holds tests old new first next lefts m many)) s.few;
  spread = subst (λ (ls : List Level). AreSpread ls) (sym m.levels) s.spread;
  counted = paths_same Inner around holds tests old new first next lefts m many ∙ (s.counted ∙ ap (λ (ls : List Level). copies_in (level_factors ls)) (sym m.levels));
  placed = placed_by scene m.arm around m.levels (paths_same Inner around holds tests old new first next lefts m many) s.placed;
}
  where
    paths_same : (Inner : Commanding) (around : Around) (holds : Truth) (tests : List ℕ) (old new : Building) (first next : ℕ) (lefts : List Left) (m : MadeArm Inner around holds tests old new first next lefts)
        → length tests ≡ paths_counted around → paths_counted m.arm ≡ paths_counted around
    paths_same Inner around holds tests old new first next lefts m many = arm_long holds around.guards.now tests (length tests) old.draft m.guarded m.arm.guards.now m.guards ∙ many

pub arm_paths : (Inner : Commanding) (around : Around) (holds : Truth) (tests : List ℕ) (old new : Building) (first next : ℕ) (lefts : List Left) (m : MadeArm Inner around holds tests old new first next lefts)
    → length tests ≡ paths_counted around → paths_counted m.arm ≡ paths_counted around
arm_paths Inner around holds tests old new first next lefts m many = arm_long holds around.guards.now tests (length tests) old.draft m.guarded m.arm.guards.now m.guards ∙ many

-- Whole commands.

module _ (x : BlockStep) (sites : ℕ → Option BlockSite) where
  each_any : (us : List OperationAtPath) → EachUse (λ u r. Unit {0}) us
  each_any [] = tt
  each_any (u ∷ us) = (λ r at. tt, each_any us)

  each_written : (us : List OperationAtPath) → EachUse (λ u r. is_write u → Unit {0}) us
  each_written [] = tt
  each_written (u ∷ us) = (λ r at w. tt, each_written us)

  loose : (first count : ℕ) (old new : Draft) → PutsDown x sites first count old new → PutsAt x sites first count (λ u r. Unit {0}) (λ n. Unit {0}) old new
  loose first count old new h = record { down = h; at = each_any h.puts; written = each_written h.puts }

  pub down_behind : (first count : ℕ) (a b c : Draft) → AddsNone a b → PutsDown x sites first count b c → PutsDown x sites first count a c
  down_behind first count a b c h k = (behind_none x sites first count (λ u r. Unit {0}) (λ n. Unit {0}) a b c h (loose first count b c k)).down

  pub down_before : (first count : ℕ) (a b c : Draft) → PutsDown x sites first count a b → AddsNone b c → PutsDown x sites first count a c
  down_before first count a b c h k = (before_none x sites first count (λ u r. Unit {0}) (λ n. Unit {0}) a b c (loose first count a b h) k).down

module _ (x : BlockStep) (sites : ℕ → Option BlockSite) (scene : Scene) (table : x.start.table ≡ table_of (program_seen scene.program.now)) (IsRead : ℕ → Type 0) (paths : ℕ) (some : 0 < paths) (shares : BlockShares IsRead scene sites) where
  abbrev pub Stood : Accesses → (upto : ℕ) → Type 0
  Stood a upto = Behind x sites scene table IsRead paths a upto

  -- what is put down for accesses from a first one on, so many
  pub record CommandPut (first count : ℕ) (old new : Building) : Type 0 where
    pub down : PutsDown x sites first count old.draft new.draft
    pub behind : Stood new.accesses (first + count)

  pub put_as : (first a b : ℕ) (old new : Building) → a ≡ b → CommandPut first a old new → CommandPut first b old new
  put_as first a b old new same h = subst (λ (c : ℕ). CommandPut first c old new) same h

  pub put_then : (first a b : ℕ) (old mid new : Building) → CommandPut first a old mid → CommandPut (first + a) b mid new → CommandPut first (a + b) old new
  put_then first a b old mid new h k = record {
    down = down_then x sites first a b old.draft mid.draft new.draft h.down k.down;
    behind = subst (λ (n : ℕ). Stood new.accesses n) (let e : first + a + b ≡ first + (a + b) = omega arith in e) k.behind;
  }

  -- a loop that has no turn, with accesses that have no operations; or nothing at all
  pub put_idle : (first count : ℕ) (old new : Building) → new ≡ old → NoReadAmong IsRead first count → Stood old.accesses first → CommandPut first count old new
  put_idle first count old new still none h = record {
    down = (puts_added x sites first count (λ u r. Unit {0}) (λ n. Unit {0}) old.draft new.draft (none_still old.draft new.draft (ap (λ (b : Building). b.draft) still))).down;
    behind = subst (λ (b : Building). Stood b.accesses (first + count)) (sym still) (record {
      sited = h.sited;
      given = λ e is below. by e is below (cases_lt e first);
      fresh = λ m s at more. h.fresh m s at (omega (arith, more));
    });
  }
    where
      by : (e : ℕ) → IsRead e → e < first + count → (e < first) ⊎ (first ≤ e) → paths ≤ given_at_paths old.accesses e
      by e is below (inl less) = h.given e is less
      by e is below (inr from) = absurd (none e from below is)

  pub put_none : (first : ℕ) (old new : Building) → new ≡ old → Stood old.accesses first → CommandPut first 0 old new
  put_none first old new still h = put_idle first 0 old new still (λ e from below is. absurd (never e from below)) h
    where
      never : (e : ℕ) → first ≤ e → e < first + 0 → ⊥
      never e from below = omega (arith, from, below)

  -- Commands without arms.

  module _ (around : Around) (stands : StandsSpread scene around) (same : paths_counted around ≡ paths) (first : ℕ) (old new : Building) (f : FitsStep x new.draft) (b : BlockBegun x old.draft) (h : Stood old.accesses first) where
    -- at each of so many numbers a site is
    sites_are : (ss : List BlockSite) (count : ℕ) → count ≤ length ss → SitesAt sites first ss → (m : ℕ) → first ≤ m → m < first + count → (s : BlockSite) × (sites m ≡ Some s)
    sites_are ss count few at m from below =
        let s = there ss (m - first) (omega (arith, few, from, below)) in
        (s.0, ap sites (let e : m ≡ first + (m - first) = omega (arith, from) in e) ∙ at (m - first) s.0 s.1)

    nothing_one : (i j : ℕ) → ⊥ → ⊥ → i ≡ j
    nothing_one i j w v = absurd w

    no_rest : (count : ℕ) (e : ℕ) → first + count ≤ e → e < first + count → IsRead e → ⊥
    no_rest count e more below is = omega (arith, more, below)

    -- what it began with
    abbrev begun : List (Option ℕ)
    begun = old.values.current.items

    -- the ways of accesses by their numbers
    abbrev ways_at : List (Option Way) → ℕ → Option (Option Way)
    ways_at ws number = slice_get ws (number - first)

    ways_are : (ws : List (Option Way)) → SitesAt (ways_at ws) first ws
    ways_are ws i w at = ap (λ k. slice_get ws k) (let e : first + i - first ≡ i = omega arith in e) ∙ at

    abbrev Rises : (ways : ℕ → Option (Option Way)) → Type 0
    Rises ways =
        (u v : OperationAtPath) (r t : Reach) → u.path < v.path → v.path < paths_counted around → r.access ≡ t.access → IsSitedUse x sites u r → IsLed x scene around begun sites ways u r → IsLed x scene around begun sites ways v t
        → PlacesRise x sites u v r t

    rises : (ways : ℕ → Option (Option Way)) → Rises ways
    rises ways u v r t less within = led_rise x scene around begun stands.placed stands.spread stands.counted sites ways u v r t less within stands.few

    module _ (Sets : ℕ → Type 0) where
      lanes_put : (ss : List BlockSite) (ws : List (Option Way)) (count : ℕ) → length ss ≡ count → (One : ℕ → (b d : Building) → ℕ → Type 0) → ((n : ℕ) (b d : Building) (k : ℕ) → One n b d k → Extends b.draft d.draft)
          → ((n : ℕ) (b d : Building) (k : ℕ) → n < paths_counted around → One n b d k → FitsStep x d.draft → BlockBegun x b.draft → Stays scene around Sets begun b.values.current.items → AreSitedAccesses x sites b.accesses
          → AreNext scene (lane_of around n) b.accesses first count → LaneDone x sites scene table IsRead paths (ways_at ws) begun Sets around n first count count (λ i. ⊥) b d)
          → SitesAt sites first ss → (next : ℕ) → MadeLanes One (paths_counted around) first old new next → CommandPut first count old new
      lanes_put ss ws count long One extends step at next m =
          let l = all_lanes x sites scene table IsRead paths (ways_at ws) begun Sets around same shares first count count (omega arith) (λ i. ⊥) nothing_one (rises (ways_at ws)) One extends step old refl h
          (sites_are ss count (omega (arith, long)) at) b new next m f (no_rest count) in
          record { down = l.down; behind = l.behind }

    pub assigned_put : (entity : ℕ) (t : Term) (next : ℕ) → MadeLanes (λ n b d k. MadeAssigned scene (lane_of around n) first entity t b d k) (paths_counted around) first old new next
        → first + term_accesses t < 2 ^ 32 → SitesAt sites first (term_sites scene around t) → TermKeeps x scene around.levels.now (λ e. e ≡ entity) t × IsSeen scene around.levels.now entity → CommandPut first (term_accesses t) old new
    assigned_put entity t next m few at keeps =
        lanes_put (λ e. e ≡ entity) (term_sites scene around t) (term_ways scene t) (term_accesses t) (sites_long scene around t) (λ n b d k. MadeAssigned scene (lane_of around n) first entity t b d k)
        (λ n b d k one. (assigned_lays scene (lane_of around n) stands.stands first entity t b d k one).extends)
        (λ n b d k less one fd bd stays sited next.
        assigned_lane x sites scene table IsRead paths (ways_at (term_ways scene t)) begun (λ e. e ≡ entity) around stands n less first entity t b d k keeps.1 refl one few at (ways_are (term_ways scene t)) keeps.0 fd bd stays sited next) at next m

    pub reduced_put : (entity : ℕ) (op : _) (t : Term) (next : ℕ) → MadeLanes (λ n b d k. MadeReduced scene (lane_of around n) first entity op t b d k) (paths_counted around) first old new next
        → first + term_accesses t < 2 ^ 32 → SitesAt sites first (term_sites scene around t) → TermKeeps x scene around.levels.now (λ e. e ≡ entity) t × IsSeen scene around.levels.now entity → CommandPut first (term_accesses t) old new
    reduced_put entity op t next m few at keeps =
        lanes_put (λ e. e ≡ entity) (term_sites scene around t) (term_ways scene t) (term_accesses t) (sites_long scene around t) (λ n b d k. MadeReduced scene (lane_of around n) first entity op t b d k)
        (λ n b d k one. (reduced_lays scene (lane_of around n) stands.stands first entity op t b d k one).extends)
        (λ n b d k less one fd bd stays sited next.
        reduced_lane x sites scene table IsRead paths (ways_at (term_ways scene t)) begun (λ e. e ≡ entity) around stands n less first entity op t b d k keeps.1 refl one few at (ways_are (term_ways scene t)) keeps.0 fd bd stays sited next) at next m

    pub tests_put : (t : Term) (next : ℕ) (tests : List ℕ) → MadeTests scene around first t (paths_counted around) old new next tests
        → first + term_accesses t < 2 ^ 32 → SitesAt sites first (term_sites scene around t) → TermKeeps x scene around.levels.now (λ e. ⊥) t → CommandPut first (term_accesses t) old new
    tests_put t next tests m few at keeps =
        lanes_put (λ e. ⊥) (term_sites scene around t) (term_ways scene t) (term_accesses t) (sites_long scene around t) (λ n b d k. (v : ℕ) × MadeTested scene (lane_of around n) first t b d k v)
        (λ n b d k one. (term_lays scene (lane_of around n) stands.stands b.values.current.items t b.draft d.draft b.accesses d.accesses first k one.0 (one.1).term).extends)
        (λ n b d k less one fd bd stays sited next.
        tested_lane x sites scene table IsRead paths (ways_at (term_ways scene t)) begun (λ e. ⊥) around stands n less first t b d k one.0 one.1 few at (ways_are (term_ways scene t)) keeps fd bd stays sited next) at next
        (tests_lanes scene around first t (paths_counted around) old new next tests m)

    -- the offsets that a view keeps
    pub kept_put : (entity : ℕ) (offsets : List Term) (next : ℕ) → MadeLanes (λ n b d k. MadeKept scene (lane_of around n) first entity offsets b d k) (paths_counted around) first old new next
        → first + terms_accesses (terms offsets) < 2 ^ 32 → SitesAt sites first (terms_sites scene around (terms offsets))
        → TermsKeep x scene around.levels.now (λ e. IsVariableAmong entity (length offsets) e) (terms offsets) × AreSeenFrom scene around.levels.now entity (length offsets) → CommandPut first (terms_accesses (terms offsets)) old new
    kept_put entity offsets next m few at keeps =
        lanes_put (λ e. IsVariableAmong entity (length offsets) e) (terms_sites scene around (terms offsets)) (terms_ways scene (terms offsets)) (terms_accesses (terms offsets)) (all_sites_long scene around (terms offsets))
        (λ n b d k. MadeKept scene (lane_of around n) first entity offsets b d k) (λ n b d k one. (kept_lays scene (lane_of around n) stands.stands first entity offsets b d k one).extends)
        (λ n b d k less one fd bd stays sited next.
        kept_lane x sites scene table IsRead paths (ways_at (terms_ways scene (terms offsets))) begun (λ e. IsVariableAmong entity (length offsets) e) around stands n less first entity offsets b d k keeps.1 (λ e among. among) one few at
        (ways_are (terms_ways scene (terms offsets))) keeps.0 fd bd stays sited next) at next m

    pub cleared_put : (entity : ℕ) (next : ℕ) → MadeLanes (λ n b d k. MadeCleared scene (lane_of around n) entity b d × (k ≡ first)) (paths_counted around) first old new next → CommandPut first 0 old new
    cleared_put entity next m =
        lanes_put (λ e. Unit {0}) [] [] 0 refl (λ n b d k. MadeCleared scene (lane_of around n) entity b d × (k ≡ first)) (λ n b d k one. (cleared_lays scene (lane_of around n) stands.stands entity b d one.0).extends)
        (λ n b d k less one fd bd stays sited next.
        cleared_lane x sites scene table IsRead paths (ways_at []) begun (λ e. Unit {0}) around stands n less first entity b d (λ e path seen free inside. absurd (free tt)) one.0 sited) (λ i s at. absurd (never at)) next m
      where
        never : {s : BlockSite} → None ≡ Some s → ⊥
        never e = cc

    pub stored_put : (place : Place) (j : Option Kind) (form : plain.TermForm) (t : Term) (next : ℕ) → MadeLanes (λ n b d k. MadeStored scene (lane_of around n) first (plain.term place j form) t b d k) (paths_counted around) first old new next
        → IsAccessForm form → first + (term_accesses t + form_accesses form) < 2 ^ 32 → SitesAt sites first (term_sites scene around t ++ target_sites scene around (plain.term place j form))
        → TermKeeps x scene around.levels.now (λ e. ⊥) t → FormKeeps x scene around.levels.now (λ e. ⊥) form → (IsRead (first + (term_accesses t + aim_accesses form)) → ⊥)
        → length (term_sites scene around t ++ target_sites scene around (plain.term place j form)) ≡ term_accesses t + form_accesses form → aim_accesses form + 1 ≡ form_accesses form
        → CommandPut first (term_accesses t + form_accesses form) old new
    stored_put place j form t next m is few at keeps target_keeps written long aims =
        put_as first (term_accesses t + aim_accesses form + 1) (term_accesses t + form_accesses form) old new (omega (arith, aims)) (record { down = l.down; behind = l.behind })
      where
        reads : ℕ
        reads = term_accesses t + aim_accesses form

        ways : ℕ → Option (Option Way)
        ways = ways_at (term_ways scene t ++ target_ways scene (plain.term place j form))

        one_last : (i k : ℕ) → IsLast first (term_accesses t + aim_accesses form) i → IsLast first (term_accesses t + aim_accesses form) k → i ≡ k
        one_last i k p q = p ∙ sym q

        rest : (e : ℕ) → first + (term_accesses t + aim_accesses form) ≤ e → e < first + (term_accesses t + aim_accesses form + 1) → IsRead e → ⊥
        rest e more below is_read = written (subst (λ (i : ℕ). IsRead i) (let s : e ≡ first + (term_accesses t + aim_accesses form) = omega (arith, more, below) in s) is_read)

        l : AllLanes x sites scene table IsRead paths ways begun (λ e. ⊥) around same shares first (term_accesses t + aim_accesses form + 1) (term_accesses t + aim_accesses form) (omega arith) (IsLast first (term_accesses t + aim_accesses form)) one_last (rises ways)
            (λ n b d k. MadeStored scene (lane_of around n) first (plain.term place j form) t b d k) (λ n b d k one. (stored_lays scene (lane_of around n) stands.stands first (plain.term place j form) t b d k one).extends)
            (λ n b d k less one fd bd stays sited next.
            stored_lane x sites scene table IsRead paths ways begun (λ e. ⊥) around stands n less t first b d place j stays
            (stays_same scene around (λ e. ⊥) b.values.current.items d.values.current.items (ap (λ (w : Values). w.current.items) one.same)) form k is one few at (ways_are (term_ways scene t ++ target_ways scene (plain.term place j form)))
            keeps target_keeps fd bd sited next) old refl h
            (sites_are (term_sites scene around t ++ target_sites scene around (plain.term place j form)) (term_accesses t + aim_accesses form) (omega (arith, long, aims)) at) b new
        l = all_lanes x sites scene table IsRead paths ways begun (λ e. ⊥) around same shares first (term_accesses t + aim_accesses form + 1) (term_accesses t + aim_accesses form) (omega arith) (IsLast first (term_accesses t + aim_accesses form)) one_last (rises ways)
            (λ n b d k. MadeStored scene (lane_of around n) first (plain.term place j form) t b d k) (λ n b d k one. (stored_lays scene (lane_of around n) stands.stands first (plain.term place j form) t b d k one).extends)
            (λ n b d k less one fd bd stays sited next.
            stored_lane x sites scene table IsRead paths ways begun (λ e. ⊥) around stands n less t first b d place j stays
            (stays_same scene around (λ e. ⊥) b.values.current.items d.values.current.items (ap (λ (w : Values). w.current.items) one.same)) form k is one few at (ways_are (term_ways scene t ++ target_ways scene (plain.term place j form)))
            keeps target_keeps fd bd sited next) old refl h
            (sites_are (term_sites scene around t ++ target_sites scene around (plain.term place j form)) (term_accesses t + aim_accesses form) (omega (arith, long, aims)) at) b new next m f rest
