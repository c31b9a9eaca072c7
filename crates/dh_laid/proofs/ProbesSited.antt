-- Each access of a command that has a site is probed once at each path, and no other is: by recursion on what was put
-- down for it.
use Rattle.std.proofs.Common.{◌≡◌, ◌⊎◌, inl, inr, ◌<◌, ◌≤◌, ◌+◌, ◌^◌, ℕ, List, Some, None, ap, sym, ◌∙◌, subst, length, arith, refl}
use Rattle.std.specs.Prelude.{◌&&◌, nat_le, nat_lt, Bool as Truth, true, false, if◌then◌else◌, [], ◌∷◌, ◌++◌, Option}
use Rattle.std.proofs.lemmas.Bool.{cases_lt}
use Rattle.std.proofs.lemmas.Bool.Decides.{nat_tests}
use Rattle.dh_tree.specs.PlainTrees.{Action, action, lets, lets_memory, views, assigns, stores, reduces, calls, blocks, decides, repeats, counts, MaybeAction, no_action, one_action, Actions, no_actions, action_then, Groups, no_groups, group_then, ViewPlan}
use Rattle.dh_tree.specs.Seen.{terms}
use Rattle.dh_tree.specs.ViewOffsets.{offsets_of}
use Rattle.dh_meaning.specs.AccessNumbers.{accesses_of, groups_accesses, other_accesses, part_accesses, plan_accesses, term_accesses}
use Rattle.dh_meaning.specs.CoreOf.{entity_number, way_of}
use Rattle.dh_meaning.specs.Ways.{Hidden, hidden_in}
use Rattle.dh_expressions.specs.declared.drafts.Draft.{Draft}
use Rattle.dh_expressions.specs.declared.scenes.Around.{Around}
use Rattle.dh_expressions.specs.declared.scenes.Scene.{Scene}
use Rattle.dh_expressions.specs.Evaluated.{known_in}
use Rattle.dh_formed.specs.Counted.{nothing, ranged}
use Rattle.dh_formed.specs.Formed.{BlockSite}
use Rattle.dh_formed.proofs.PartsCounted.{ranged_sum}
use Rattle.dh_commands.specs.declared.buildings.Building.{Building}
use Rattle.dh_commands.specs.declared.choices.Left.{Left}
use Rattle.dh_commands.specs.LanesRun.{lane_of, paths_counted}
use Rattle.dh_commands.specs.MadeCommands.{Commanding, MadeActions, MadeArm, MadeAssigned, MadeCleared, MadeCommand, MadeGroups, MadeKept, MadeOther, MadeReduced, MadeStored, MadeView}
use Rattle.dh_laid.specs.BlockSites.{actions_sites, all_there, command_sites, groups_sites, other_sites, target_sites, term_sites, terms_sites, view_sites}
use Rattle.dh_laid.specs.LaidCommands.{AreFewIn}
use Rattle.dh_laid.specs.LaidNumbers.{StoresReach, StoresReachGroups, StoresReachOther, StoresReachPart}
use Rattle.dh_laid.specs.LaidProbes.{AddsProbes}
use Rattle.dh_laid.specs.LaidQuiet.{BlockStandsIn}
use Rattle.dh_laid.specs.LaidUses.{probed_by}
use Rattle.dh_laid.proofs.CommandsNumbered.{actions_reached, command_reached, some_arm, tests_number}
use Rattle.dh_laid.proofs.CommandsProbe.{assigned_probed, choices_probed, cleared_probed, guards_probed, kept_probed, lanes_probed, none_none, none_then_probes, often, probes_again, probes_then_none, reduced_probed, stored_probed, tests_probed}
use Rattle.dh_laid.proofs.CommandsUsed.{AreSites, sites_are}
use Rattle.dh_laid.proofs.SitesLaid.{PlacesAgree, actions_sites_long, all_sites, command_sites_long, no_sites, places_behind, places_front, target_sites_long, term_sites_long, terms_sites_long, test_places_long, two_long}
use Rattle.dh_laid.proofs.TermsUsed.{long_is}
use Rattle.dh_laid.proofs.ValuesLogged.{arm_long, stands_arm, tests_same}

pub probes_same : (a b : Draft) (f g : ℕ → ℕ) → ((access : ℕ) → f access ≡ g access) → AddsProbes a b f → AddsProbes a b g
probes_same a b f g same h = record { more = h.more; adds = h.adds; probes_are = λ access. h.probes_are access ∙ same access }

-- two counts that are one within a range
pub same_within : (n p : ℕ) (f g : ℕ → ℕ) → ((access : ℕ) → n ≤ access → access < n + p → f access ≡ g access) → (access : ℕ) → ranged n p f access ≡ ranged n p g access
same_within n p f g same access = by (cases_lt access n) (cases_lt access (n + p))
  where
    low : access < n → (nat_le n access && nat_lt access (n + p)) ≡ false
    low l = grind (arith, nat_tests, l)

    far : n + p ≤ access → (nat_le n access && nat_lt access (n + p)) ≡ false
    far l = grind (arith, nat_tests, l)

    outside : (t : Truth) (x y : ℕ) → t ≡ false → (if t then x else 0) ≡ (if t then y else 0)
    outside true x y e = absurd (cc)
    outside false x y e = refl

    by : (access < n) ⊎ (n ≤ access) → (access < n + p) ⊎ (n + p ≤ access) → ranged n p f access ≡ ranged n p g access
    by (inl l) other = outside (nat_le n access && nat_lt access (n + p)) (f access) (g access) (low l)
    by (inr from) (inl below) = ap (λ (v : ℕ). if nat_le n access && nat_lt access (n + p) then v else 0) (same access from below)
    by (inr from) (inr l) = outside (nat_le n access && nat_lt access (n + p)) (f access) (g access) (far l)

module _ (scene : Scene) (sites : ℕ → Option BlockSite) where
  abbrev probed : (paths access : ℕ) → ℕ
  probed paths access = probed_by (sites access) paths

  abbrev Probed : (old new : Draft) → (first count paths : ℕ) → Type 0
  Probed old new first count paths = AddsProbes old new (ranged first count (probed paths))

  -- where all have sites
  probed_often : (old new : Draft) (first count paths : ℕ) → AreSites sites first count → AddsProbes old new (often first count paths) → Probed old new first count paths
  probed_often old new first count paths are h =
      probes_same old new (often first count paths) (ranged first count (probed paths)) (λ access. same_within first count (λ i. paths) (probed paths) (λ m from below. sym (ap (λ s. probed_by s paths) (are m from below).1)) access) h

  -- where none has
  probed_nowhere : (old new : Draft) (first count paths : ℕ) → ((m : ℕ) → first ≤ m → m < first + count → sites m ≡ None) → AddsProbes old new nothing → Probed old new first count paths
  probed_nowhere old new first count paths none h =
      probes_same old new nothing (ranged first count (probed paths))
      (λ access. empty access (nat_le first access && nat_lt access (first + count)) ∙ same_within first count nothing (probed paths) (λ m from below. sym (ap (λ s. probed_by s paths) (none m from below))) access) h
    where
      empty : (access : ℕ) (t : Truth) → 0 ≡ (if t then nothing access else 0)
      empty access true = refl
      empty access false = refl

  probed_none : (old new : Draft) (first paths : ℕ) → AddsProbes old new nothing → Probed old new first 0 paths
  probed_none old new first paths h = probed_nowhere old new first 0 paths (λ m from below. absurd (never m from below)) h
    where
      never : (m : ℕ) → first ≤ m → m < first + 0 → ⊥
      never m from below = omega (arith, from, below)

  probed_then : (a b c : Draft) (n own p q paths : ℕ) → own ≡ n + p → Probed a b n p paths → Probed b c own q paths → Probed a c n (p + q) paths
  probed_then a b c n own p q paths is h k =
      probes_again a b c (ranged n p (probed paths)) (ranged (n + p) q (probed paths)) (ranged n (p + q) (probed paths)) (λ access. ranged_sum n p q (probed paths) access) h (subst (λ (i : ℕ). Probed b c i q paths) is k)

  probed_count : (a b : Draft) (n p q paths : ℕ) → p ≡ q → Probed a b n p paths → Probed a b n q paths
  probed_count a b n p q paths same h = subst (λ (i : ℕ). Probed a b n i paths) same h

  no_more : (n : ℕ) → n ≡ n + 0
  no_more n = omega arith

  none_before : (n : ℕ) → n ≡ 0 + n
  none_before n = omega arith

  arm_sited : (Inner : Commanding) (around : Around) (holds : Truth) (tests : List ℕ) (old new : Building) (first next : ℕ) (lefts : List Left) (m : MadeArm Inner around holds tests old new first next lefts) (count : ℕ) → length tests ≡ paths_counted around
      → Probed m.begin.draft m.inside.draft first count (paths_counted m.arm) → Probed old.draft new.draft first count (paths_counted around)
  arm_sited Inner around holds tests old new first next lefts m count many inner =
      subst (λ (d : Draft). Probed old.draft d first count (paths_counted around)) (sym m.draft)
      (subst (λ (n : ℕ). Probed old.draft m.inside.draft first count n) (arm_long holds around.guards.now tests (length tests) old.draft m.guarded m.arm.guards.now m.guards ∙ many)
      (none_then_probes old.draft m.guarded m.inside.draft (ranged first count (probed (paths_counted m.arm))) (guards_probed holds around.guards.now tests (length tests) old.draft m.guarded m.arm.guards.now m.guards)
      (subst (λ (d : Draft). Probed d m.inside.draft first count (paths_counted m.arm)) m.begin_draft inner)))

  still_sited : (old new : Building) (first paths : ℕ) → new ≡ old → Probed old.draft new.draft first 0 paths
  still_sited old new first paths still = probed_none old.draft new.draft first paths (none_none old.draft new.draft (ap (λ (b : Building). b.draft) still))

  idle_sited : (old new : Building) (first count paths : ℕ) → new ≡ old → ((m : ℕ) → first ≤ m → m < first + count → sites m ≡ None) → Probed old.draft new.draft first count paths
  idle_sited old new first count paths still none = probed_nowhere old.draft new.draft first count paths none (none_none old.draft new.draft (ap (λ (b : Building). b.draft) still))

  -- an expression at all paths
  term_sited : (around : Around) (old new : Draft) (first count : ℕ) (ss : List BlockSite) → length ss ≡ count → PlacesAgree sites first (all_there ss) → AddsProbes old new (often first count (paths_counted around))
      → Probed old new first (count + 0) (paths_counted around)
  term_sited around old new first count ss long has h =
      probed_count old new first count (count + 0) (paths_counted around) (no_more count) (probed_often old new first count (paths_counted around) (sites_are sites first count ss long (all_sites sites first ss has)) h)

  view_sited : (hidden : List Hidden) (form : ViewPlan) (around : Around) (old new : Building) (first next : ℕ) → BlockStandsIn scene around → MadeView scene hidden form around old new first next → first + plan_accesses form < 2 ^ 32
      → PlacesAgree sites first (view_sites scene around hidden form) → Probed old.draft new.draft first (plan_accesses form + 0) (paths_counted around)
  view_sited [] form around old new first next s m few has = idle_sited old new first (plan_accesses form + 0) (paths_counted around) m.still (no_sites sites first (plan_accesses form + 0) has)
  view_sited (h ∷ hs) form around old new first next s m few has =
      term_sited around old.draft new.draft first (plan_accesses form) (terms_sites scene around (terms (offsets_of form))) (terms_sites_long scene around (terms (offsets_of form))) has
      (lanes_probed (λ n b d k. MadeKept scene (lane_of around n) first h.entity (offsets_of form) b d k) first (plan_accesses form)
      (λ n b d k one. kept_probed scene (lane_of around n) s first h.entity (offsets_of form) b d k few one) (paths_counted around) old new next m)

  mutual
    pub command_sited : (a : Action) (around : Around) (old new : Building) (first next : ℕ) → BlockStandsIn scene around → (m : MadeCommand scene a around old new first next) → StoresReach a → 0 < paths_counted around → first + accesses_of a < 2 ^ 32
        → PlacesAgree sites first (command_sites scene a around old new first next m) → Probed old.draft new.draft first (accesses_of a) (paths_counted around)
    command_sited (action id place (lets name declared (Some value))) around old new first next s m is some few has =
        term_sited around old.draft new.draft first (term_accesses value) (term_sites scene around value) (term_sites_long scene around value) has
        (lanes_probed (λ n b d k. MadeAssigned scene (lane_of around n) first (entity_number name.entity) value b d k) first (term_accesses value)
        (λ n b d k one. assigned_probed scene (lane_of around n) s first (entity_number name.entity) value b d k (omega (arith, few)) one) (paths_counted around) old new next m)
    command_sited (action id place (lets name declared None)) around old new first next s m is some few has =
        term_sited around old.draft new.draft first 0 [] refl has
        (lanes_probed (λ n b d k. MadeCleared scene (lane_of around n) (entity_number name.entity) b d × (k ≡ first)) first 0
        (λ n b d k one. cleared_probed scene (lane_of around n) s first (entity_number name.entity) b d one.0) (paths_counted around) old new next m)
    command_sited (action id place (assigns target value)) around old new first next s m is some few has =
        term_sited around old.draft new.draft first (term_accesses value) (term_sites scene around value) (term_sites_long scene around value) has
        (lanes_probed (λ n b d k. MadeAssigned scene (lane_of around n) first (entity_number target.entity) value b d k) first (term_accesses value)
        (λ n b d k one. assigned_probed scene (lane_of around n) s first (entity_number target.entity) value b d k (omega (arith, few)) one) (paths_counted around) old new next m)
    command_sited (action id place (stores target value)) around old new first next s m is some few has =
        term_sited around old.draft new.draft first (term_accesses value + term_accesses target) (term_sites scene around value ++ target_sites scene around target)
        (two_long (term_sites scene around value) (target_sites scene around target) (term_accesses value) (term_accesses target) (term_sites_long scene around value) (target_sites_long scene around target is)) has
        (lanes_probed (λ n b d k. MadeStored scene (lane_of around n) first target value b d k) first (term_accesses value + term_accesses target)
        (λ n b d k one. stored_probed scene (lane_of around n) s first target value b d k is (omega (arith, few)) one) (paths_counted around) old new next m)
    command_sited (action id place (reduces target op value)) around old new first next s m is some few has =
        term_sited around old.draft new.draft first (term_accesses value) (term_sites scene around value) (term_sites_long scene around value) has
        (lanes_probed (λ n b d k. MadeReduced scene (lane_of around n) first (entity_number target.entity) op value b d k) first (term_accesses value)
        (λ n b d k one. reduced_probed scene (lane_of around n) s first (entity_number target.entity) op value b d k (omega (arith, few)) one) (paths_counted around) old new next m)
    command_sited (action id place (decides test chosen other)) around old new first next s m is some few has =
        let less : AreFewIn first test = omega (arith, few) in
        let many : length m.tests ≡ paths_counted around = (tests_same scene around first test (paths_counted around) old m.tested m.own m.tests m.test).1 in
        let some_tests : 0 < length m.tests = subst (λ (n : ℕ). 0 < n) (sym many) some in
        let own = (tests_number scene around first test less (paths_counted around) old m.tested m.own m.tests some m.test).next_is in
        let some_in : 0 < paths_counted m.chosen.arm = some_arm (MadeCommand scene chosen) around true m.tests m.tested m.after_chosen m.own m.behind m.chosen_left m.chosen some_tests in
        let few_in : m.own + accesses_of chosen < 2 ^ 32 = omega (arith, few, own) in
        let behind = (command_reached scene chosen m.chosen.arm m.chosen.begin m.chosen.inside m.own m.behind m.chosen.command is.0 some_in few_in).1.next_is in
        let chosen_sites = command_sites scene chosen m.chosen.arm m.chosen.begin m.chosen.inside m.own m.behind m.chosen.command in
        let last_sites = other_sites scene other around m.tests m.after_chosen m.after_other m.behind next m.other_left m.other in
        let has_test = all_sites sites first (term_sites scene around test) (places_front sites first (all_there (term_sites scene around test)) (chosen_sites ++ last_sites) has) in
        let has_arms =
        places_behind sites first m.own (all_there (term_sites scene around test)) (chosen_sites ++ last_sites) (long_is first m.own (all_there (term_sites scene around test)) (term_accesses test) (test_places_long scene around test) own) has in
        let has_chosen = places_front sites m.own chosen_sites last_sites has_arms in
        let has_other =
        places_behind sites m.own m.behind chosen_sites last_sites
        (long_is m.own m.behind chosen_sites (accesses_of chosen) (command_sites_long scene chosen m.chosen.arm m.chosen.begin m.chosen.inside m.own m.behind m.chosen.command is.0) behind) has_arms in
        probed_then old.draft m.tested.draft new.draft first m.own (term_accesses test) (accesses_of chosen + other_accesses other) (paths_counted around) own
        (probed_often old.draft m.tested.draft first (term_accesses test) (paths_counted around) (sites_are sites first (term_accesses test) (term_sites scene around test) (term_sites_long scene around test) has_test)
        (tests_probed scene around s first test less (paths_counted around) old m.tested m.own m.tests m.test))
        (probed_then m.tested.draft m.after_chosen.draft new.draft m.own m.behind (accesses_of chosen) (other_accesses other) (paths_counted around) behind
        (arm_sited (MadeCommand scene chosen) around true m.tests m.tested m.after_chosen m.own m.behind m.chosen_left m.chosen (accesses_of chosen) many
        (command_sited chosen m.chosen.arm m.chosen.begin m.chosen.inside m.own m.behind
        (stands_arm scene (MadeCommand scene chosen) around true m.tests m.tested m.after_chosen m.own m.behind m.chosen_left m.chosen s many) m.chosen.command is.0 some_in few_in has_chosen))
        (probes_then_none m.after_chosen.draft m.after_other.draft new.draft (ranged m.behind (other_accesses other) (probed (paths_counted around)))
        (other_sited other around m.tests m.after_chosen m.after_other m.behind next m.other_left s many m.other is.1 some_tests (omega (arith, few, own, behind)) has_other)
        (choices_probed m.tests m.joined.choices (length m.joined.choices) m.after_other.draft new.draft m.joined.middle new.values m.joined.choose)))
    command_sited (action id place (blocks body)) around old new first next s m is some few has =
        probed_count old.draft new.draft first (groups_accesses body) (0 + groups_accesses body) (paths_counted around) (none_before (groups_accesses body)) (groups_sited body around old new first next s m is some (omega (arith, few)) has)
    command_sited (action id place (lets_memory name shape shape_places value)) around old new first next s m is some few has = still_sited old new first (paths_counted around) m.still
    command_sited (action id place (views name parent form)) around old new first next s m is some few has =
        view_sited (hidden_in (way_of (known_in scene) name)) form around old new first next s m (omega (arith, few)) has
    command_sited (action id place (calls function arguments)) around old new first next s m is some few has = still_sited old new first (paths_counted around) m.still
    command_sited (action id place (repeats test body)) around old new first next s m is some few has =
        idle_sited old new first (term_accesses test + accesses_of body) (paths_counted around) m.still (no_sites sites first (term_accesses test + accesses_of body) has)
    command_sited (action id place (counts iterator declared low high factor body combine combine_place)) around old new first next s m is some few has =
        probed_count old.draft new.draft first (accesses_of body + other_accesses combine) (0 + (accesses_of body + other_accesses combine)) (paths_counted around) (none_before (accesses_of body + other_accesses combine))
        (idle_sited old new first (accesses_of body + other_accesses combine) (paths_counted around) m.still (no_sites sites first (accesses_of body + other_accesses combine) has))

    other_sited : (other : MaybeAction) (around : Around) (tests : List ℕ) (old new : Building) (first next : ℕ) (lefts : List Left) → BlockStandsIn scene around → length tests ≡ paths_counted around
        → (m : MadeOther scene other around tests old new first next lefts) → StoresReachOther other → 0 < length tests → first + other_accesses other < 2 ^ 32
        → PlacesAgree sites first (other_sites scene other around tests old new first next lefts m) → Probed old.draft new.draft first (other_accesses other) (paths_counted around)
    other_sited no_action around tests old new first next lefts s many m is some few has = still_sited old new first (paths_counted around) m.still
    other_sited (one_action a) around tests old new first next lefts s many m is some few has =
        arm_sited (MadeCommand scene a) around false tests old new first next lefts m (accesses_of a) many
        (command_sited a m.arm m.begin m.inside first next (stands_arm scene (MadeCommand scene a) around false tests old new first next lefts m s many) m.command is
        (some_arm (MadeCommand scene a) around false tests old new first next lefts m some) few has)

    actions_sited : (part : Actions) (around : Around) (old new : Building) (first next : ℕ) → BlockStandsIn scene around → (m : MadeActions scene part around old new first next) → StoresReachPart part → 0 < paths_counted around
        → first + part_accesses part < 2 ^ 32 → PlacesAgree sites first (actions_sites scene part around old new first next m) → Probed old.draft new.draft first (part_accesses part) (paths_counted around)
    actions_sited no_actions around old new first next s m is some few has = still_sited old new first (paths_counted around) m.still
    actions_sited (action_then a rest) around old new first next s m is some few has =
        let less : first + accesses_of a < 2 ^ 32 = omega (arith, few) in
        let own = (command_reached scene a around old m.middle first m.own m.one is.0 some less).1.next_is in
        let own_sites = command_sites scene a around old m.middle first m.own m.one in
        let rest_sites = actions_sites scene rest around m.middle new m.own next m.rest in
        probed_then old.draft m.middle.draft new.draft first m.own (accesses_of a) (part_accesses rest) (paths_counted around) own
        (command_sited a around old m.middle first m.own s m.one is.0 some less (places_front sites first own_sites rest_sites has))
        (actions_sited rest around m.middle new m.own next s m.rest is.1 some (omega (arith, few, own))
        (places_behind sites first m.own own_sites rest_sites (long_is first m.own own_sites (accesses_of a) (command_sites_long scene a around old m.middle first m.own m.one is.0) own) has))

    groups_sited : (body : Groups) (around : Around) (old new : Building) (first next : ℕ) → BlockStandsIn scene around → (m : MadeGroups scene body around old new first next) → StoresReachGroups body → 0 < paths_counted around
        → first + groups_accesses body < 2 ^ 32 → PlacesAgree sites first (groups_sites scene body around old new first next m) → Probed old.draft new.draft first (groups_accesses body) (paths_counted around)
    groups_sited no_groups around old new first next s m is some few has = still_sited old new first (paths_counted around) m.still
    groups_sited (group_then part rest) around old new first next s m is some few has =
        let less : first + part_accesses part < 2 ^ 32 = omega (arith, few) in
        let own = (actions_reached scene part around old m.middle first m.own m.one is.0 some less).1.next_is in
        let own_sites = actions_sites scene part around old m.middle first m.own m.one in
        let rest_sites = groups_sites scene rest around m.middle new m.own next m.rest in
        probed_then old.draft m.middle.draft new.draft first m.own (part_accesses part) (groups_accesses rest) (paths_counted around) own
        (actions_sited part around old m.middle first m.own s m.one is.0 some less (places_front sites first own_sites rest_sites has))
        (groups_sited rest around m.middle new m.own next s m.rest is.1 some (omega (arith, few, own))
        (places_behind sites first m.own own_sites rest_sites (long_is first m.own own_sites (part_accesses part) (actions_sites_long scene part around old m.middle first m.own m.one is.0) own) has))
