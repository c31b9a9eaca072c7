-- The sites of commands are those of their accesses in the source, and stand at the numbers of those that are made: by
-- recursion on what was put down.
use Rattle.std.proofs.Common.{◌≡◌, ◌⊎◌, inl, inr, ◌<◌, ◌≤◌, ◌+◌, ◌-◌, ◌||◌, ℕ, zero, suc, List, Some, None, ap, sym, ◌∙◌, subst, length, arith, refl}
use Rattle.std.specs.Prelude.{nat_lt, Bool as Truth, true, false, if◌then◌else◌, [], ◌∷◌, ◌++◌, Option, slice_get}
use Rattle.std.specs.List.{AllByRecursion}
use Rattle.std.specs.Option.{is_some}
use Rattle.std.proofs.lemmas.Bool.{cases_lt}
use Rattle.std.proofs.lemmas.Bool.Decides.{nat_tests}
use Rattle.std.proofs.lemmas.List.{append-nil, length-append, length-map, map-append}
use Rattle.dh_base.specs.declared.places.Place.{Place}
use Rattle.dh_tree.specs.declared.trees.expressions.Ref.{Ref}
use Rattle.dh_tree.specs.Indices as indices
use Rattle.dh_tree.specs.PlainTrees as plain
use Rattle.dh_tree.specs.PlainTrees.{Term, Action, action, lets, lets_memory, views, assigns, stores, reduces, calls, blocks, decides, repeats, counts, MaybeAction, no_action, one_action, Actions, no_actions, action_then, Groups, no_groups, group_then, ViewPlan}
use Rattle.dh_tree.specs.Seen.{program_seen, terms}
use Rattle.dh_tree.specs.ViewOffsets.{offsets_of}
use Rattle.dh_meaning.specs.AccessNumbers.{accesses_of, other_accesses, part_accesses, plan_accesses, term_accesses, terms_accesses}
use Rattle.dh_meaning.specs.CoreOf.{action_form_of, memory_of, test_of, way_of}
use Rattle.dh_meaning.specs.OnePhase.{any_makes, groups_make, is_between, makes, other_makes, part_makes, test_makes, tests_make}
use Rattle.dh_meaning.specs.Phases.{Located}
use Rattle.dh_meaning.specs.Ways.{Hidden, hidden_in}
use Rattle.dh_meaning.specs.Sites as source
use Rattle.dh_meaning.specs.Sites.{in_arm}
use Rattle.dh_meets.specs.SourceEvents.{SourceAccess, SourceEvent, assigned, accesses_in, command_events, events, groups_events, one_access, other_events, part_events, site_of, source_term_events, source_terms_events, trace, write_events}
use Rattle.dh_meets.specs.SourceEvents as events
use Rattle.dh_events.specs.Accesses.{element_in, entity_in}
use Rattle.dh_sound.specs.PhaseFacts.{StandsAmong}
use Rattle.dh_sound.specs.Straight.{AreKeptActions, AreKeptGroups, IsKeptAction, IsKeptOther, KeepsAny}
use Rattle.dh_sound.specs.ToldEvents.{access_at}
use Rattle.dh_sound.proofs.EventCounts.{accesses_joined, command_counted, events_counted, term_counted}
use Rattle.dh_expressions.specs.declared.paths.Level.{Level}
use Rattle.dh_expressions.specs.declared.scenes.Around.{Around}
use Rattle.dh_expressions.specs.declared.scenes.Scene.{Scene}
use Rattle.dh_expressions.specs.Evaluated.{known_in}
use Rattle.dh_formed.specs.Formed.{BlockSite}
use Rattle.dh_commands.specs.declared.buildings.Building.{Building}
use Rattle.dh_commands.specs.declared.choices.Left.{Left}
use Rattle.dh_commands.specs.LanesRun.{paths_counted}
use Rattle.dh_commands.specs.MadeCommands.{Commanding, MadeActions, MadeArm, MadeCommand, MadeGroups, MadeOther}
use Rattle.dh_laid.specs.BlockSites.{MadeEach, actions_sites, all_there, block_sites, command_sites, groups_sites, none_there, one_site, other_sites, places_from, read_site, site_or, target_sites, term_sites, terms_sites, test_sites, view_sites, write_site}
use Rattle.dh_laid.specs.LaidNumbers.{IsAccessForm, StoresReach, StoresReachGroups, StoresReachOther, StoresReachPart}
use Rattle.dh_laid.proofs.BlocksUsed.{test_places}
use Rattle.dh_laid.proofs.SitesLaid.{actions_sites_long, command_sites_long, places_low, places_past, store_places_long, terms_sites_long, test_places_long}
use Rattle.dh_laid.proofs.ValuesLogged.{arm_long, tests_same}
use Rattle.dh_used.specs.SourceSites.{AllStand, AreSitesOf, BlocksAreSited, IsSiteOf, TestsAreSited}
use Rattle.dh_used.proofs.NamedStores.{all_reach, named_reaches, part_reaches, target_reaches}

module _ (scene : Scene) (levels : List Level) (paths : ℕ) where
  abbrev SitesAre : List (Option BlockSite) → List SourceAccess → Type 0
  SitesAre ss ls = AreSitesOf scene levels paths ss ls

  -- One behind the other.

  both_sited : (xs ys : List (Option BlockSite)) (ls bs : List SourceAccess) → SitesAre xs ls → SitesAre ys bs → SitesAre (xs ++ ys) (ls ++ bs)
  both_sited [] ys [] bs h k = k
  both_sited [] ys (a ∷ ls) bs h k = absurd h
  both_sited (x ∷ xs) ys [] bs h k = absurd h
  both_sited (x ∷ xs) ys (a ∷ ls) bs h k = (h.0, both_sited xs ys ls bs h.1 k)

  places_joined : (xs ys : List (Option BlockSite)) (es fs : List SourceEvent) → SitesAre xs (accesses_in es) → SitesAre ys (accesses_in fs) → SitesAre (xs ++ ys) (accesses_in (es ++ fs))
  places_joined xs ys es fs h k = subst (λ (ls : List SourceAccess). SitesAre (xs ++ ys) ls) (sym (accesses_joined es fs)) (both_sited xs ys (accesses_in es) (accesses_in fs) h k)

  sites_joined : (xs ys : List BlockSite) (es fs : List SourceEvent) → SitesAre (all_there xs) (accesses_in es) → SitesAre (all_there ys) (accesses_in fs) → SitesAre (all_there (xs ++ ys)) (accesses_in (es ++ fs))
  sites_joined xs ys es fs h k = subst (λ (ss : List (Option BlockSite)). SitesAre ss (accesses_in (es ++ fs))) (sym (map-append (λ (s : BlockSite). Some s) xs ys)) (places_joined (all_there xs) (all_there ys) es fs h k)

  -- an assignment is no access
  then_assigned : (xs : List (Option BlockSite)) (es : List SourceEvent) (entity : Option ℕ) → SitesAre xs (accesses_in es) → SitesAre xs (accesses_in (es ++ assigned entity ∷ []))
  then_assigned xs es entity h = subst (λ (ls : List SourceAccess). SitesAre xs ls) (sym (accesses_joined es (assigned entity ∷ []) ∙ append-nil (accesses_in es))) h

  none_sited : (n : ℕ) (ls : List SourceAccess) → length ls ≡ n → SitesAre (none_there n) ls
  none_sited zero [] e = tt
  none_sited zero (a ∷ ls) e = absurd (cc)
  none_sited (suc n) [] e = absurd (cc)
  none_sited (suc n) (a ∷ ls) e = (tt, none_sited n ls (omega (arith, e)))

  module _ (around : Around) (levels_are : around.levels.now ≡ levels) (long : paths_counted around ≡ paths) (site : events.Site) where
    read_sited : (place : Place) (r : Ref) (form : plain.TermForm) → IsAccessForm form → entity_in form ≡ r.entity → SitesAre (all_there (read_site scene around (memory_of (known_in scene) r) place form ∷ [])) (accesses_in (one_access place r.entity (element_in form) false site))
    read_sited place r form access named = (record { around = around; levels_are = levels_are; long = long; ref = r; entity_is = refl; form = form; access = access; named_is = named; element_is = refl; is = refl }, tt)

    write_sited : (place : Place) (r : Ref) (form : plain.TermForm) → IsAccessForm form → entity_in form ≡ r.entity → SitesAre (all_there (write_site scene around (memory_of (known_in scene) r) place form ∷ [])) (accesses_in (one_access place r.entity (element_in form) true site))
    write_sited place r form access named = (record { around = around; levels_are = levels_are; long = long; ref = r; entity_is = refl; form = form; access = access; named_is = named; element_is = refl; is = refl }, tt)

    mutual
      term_sited : (t : Term) → SitesAre (all_there (term_sites scene around t)) (accesses_in (source_term_events site t))
      term_sited (plain.term place k (plain.number negative z)) = tt
      term_sited (plain.term place k (plain.truth_value b)) = tt
      term_sited (plain.term place k (plain.named r)) = tt
      term_sited (plain.term place k (plain.accessed r ts)) = sites_joined (terms_sites scene around ts) _ (source_terms_events site ts) _ (terms_sited ts) (read_sited place r (plain.accessed r ts) tt refl)
      term_sited (plain.term place k (plain.in_bank r bank at row)) = sites_joined (term_sites scene around row) _ (source_term_events site row) _ (term_sited row) (read_sited place r (plain.in_bank r bank at row) tt refl)
      term_sited (plain.term place k (plain.applied op left right)) =
          sites_joined (term_sites scene around left) (term_sites scene around right) (source_term_events site left) (source_term_events site right) (term_sited left) (term_sited right)
      term_sited (plain.term place k (plain.converted inner to)) = term_sited inner

      terms_sited : (ts : plain.Terms) → SitesAre (all_there (terms_sites scene around ts)) (accesses_in (source_terms_events site ts))
      terms_sited plain.no_terms = tt
      terms_sited (plain.term_then t ts) = sites_joined (term_sites scene around t) (terms_sites scene around ts) (source_term_events site t) (source_terms_events site ts) (term_sited t) (terms_sited ts)

    target_sited : (t : Term) → IsAccessForm (indices.form_of t) → SitesAre (all_there (target_sites scene around t)) (accesses_in (write_events site t))
    target_sited (plain.term place k (plain.accessed r ts)) is = sites_joined (terms_sites scene around ts) _ (source_terms_events site ts) _ (terms_sited ts) (write_sited place r (plain.accessed r ts) tt refl)
    target_sited (plain.term place k (plain.in_bank r bank at row)) is = sites_joined (term_sites scene around row) _ (source_term_events site row) _ (term_sited row) (write_sited place r (plain.in_bank r bank at row) tt refl)
    target_sited (plain.term place k (plain.number negative z)) is = absurd is
    target_sited (plain.term place k (plain.truth_value b)) is = absurd is
    target_sited (plain.term place k (plain.named r)) is = absurd is
    target_sited (plain.term place k (plain.applied op l r)) is = absurd is
    target_sited (plain.term place k (plain.converted inner to)) is = absurd is

  -- Commands.

  arm_levels : (Inner : Commanding) (around : Around) (holds : Truth) (tests : List ℕ) (old new : Building) (first next : ℕ) (lefts : List Left) (m : MadeArm Inner around holds tests old new first next lefts) → around.levels.now ≡ levels → m.arm.levels.now ≡ levels
  arm_levels Inner around holds tests old new first next lefts m is = m.levels ∙ is

  arm_paths : (Inner : Commanding) (around : Around) (holds : Truth) (tests : List ℕ) (old new : Building) (first next : ℕ) (lefts : List Left) (m : MadeArm Inner around holds tests old new first next lefts) → length tests ≡ paths → paths_counted m.arm ≡ paths
  arm_paths Inner around holds tests old new first next lefts m many = arm_long holds around.guards.now tests (length tests) old.draft m.guarded m.arm.guards.now m.guards ∙ many

  -- the offsets of a view
  view_sited : (hidden : List Hidden) (form : ViewPlan) (r : source.Around) (id : ℕ) (name parent : Ref) (around : Around) → around.levels.now ≡ levels → paths_counted around ≡ paths
      → SitesAre (view_sites scene around hidden form) (accesses_in (command_events r (site_of r id) (views name parent form)))
  view_sited [] form r id name parent around inside long = none_sited (plan_accesses form + 0) (accesses_in (command_events r (site_of r id) (views name parent form))) (command_counted r id (views name parent form))
  view_sited (h ∷ hs) form r id name parent around inside long = terms_sited around inside long (site_of r id) (terms (offsets_of form))

  mutual
    command_sited : (a : Action) (r : source.Around) (around : Around) (old new : Building) (first next : ℕ) (m : MadeCommand scene a around old new first next) → around.levels.now ≡ levels → paths_counted around ≡ paths → StoresReach a
        → SitesAre (command_sites scene a around old new first next m) (accesses_in (events r a))
    command_sited (action id place (lets name declared (Some value))) r around old new first next m inside long is =
        then_assigned (all_there (term_sites scene around value)) (source_term_events (site_of r id) value) name.entity (term_sited around inside long (site_of r id) value)
    command_sited (action id place (lets name declared None)) r around old new first next m inside long is = tt
    command_sited (action id place (assigns target value)) r around old new first next m inside long is =
        then_assigned (all_there (term_sites scene around value)) (source_term_events (site_of r id) value) target.entity (term_sited around inside long (site_of r id) value)
    command_sited (action id place (stores target value)) r around old new first next m inside long is =
        sites_joined (term_sites scene around value) (target_sites scene around target) (source_term_events (site_of r id) value) (write_events (site_of r id) target) (term_sited around inside long (site_of r id) value)
        (target_sited around inside long (site_of r id) target is)
    command_sited (action id place (reduces target op value)) r around old new first next m inside long is =
        then_assigned (all_there (term_sites scene around value)) (source_term_events (site_of r id) value) target.entity (term_sited around inside long (site_of r id) value)
    command_sited (action id place (decides test chosen other)) r around old new first next m inside long is =
        let many : length m.tests ≡ paths = (tests_same scene around first test (paths_counted around) old m.tested m.own m.tests m.test).1 ∙ long in
        places_joined (all_there (term_sites scene around test)) _ (source_term_events (site_of r id) test) (events (in_arm r id true) chosen ++ other_events (in_arm r id false) other) (term_sited around inside long (site_of r id) test)
        (places_joined (command_sites scene chosen m.chosen.arm m.chosen.begin m.chosen.inside m.own m.behind m.chosen.command) (other_sites scene other around m.tests m.after_chosen m.after_other m.behind next m.other_left m.other)
        (events (in_arm r id true) chosen) (other_events (in_arm r id false) other)
        (command_sited chosen (in_arm r id true) m.chosen.arm m.chosen.begin m.chosen.inside m.own m.behind m.chosen.command
        (arm_levels (MadeCommand scene chosen) around true m.tests m.tested m.after_chosen m.own m.behind m.chosen_left m.chosen inside)
        (arm_paths (MadeCommand scene chosen) around true m.tests m.tested m.after_chosen m.own m.behind m.chosen_left m.chosen many) is.0)
        (other_sited other (in_arm r id false) around m.tests m.after_chosen m.after_other m.behind next m.other_left m.other inside many is.1))
    command_sited (action id place (blocks body)) r around old new first next m inside long is = groups_sited body r around old new first next m inside long is
    command_sited (action id place (lets_memory name shape shape_places value)) r around old new first next m inside long is = tt
    command_sited (action id place (views name parent form)) r around old new first next m inside long is =
        view_sited (hidden_in (way_of (known_in scene) name)) form r id name parent around inside long
    command_sited (action id place (calls function arguments)) r around old new first next m inside long is = tt
    command_sited (action id place (repeats test body)) r around old new first next m inside long is =
        none_sited (term_accesses test + accesses_of body) (accesses_in (command_events r (site_of r id) (repeats test body))) (command_counted r id (repeats test body))
    command_sited (action id place (counts iterator declared low high factor body combine combine_place)) r around old new first next m inside long is =
        none_sited (accesses_of body + other_accesses combine) (accesses_in (command_events r (site_of r id) (counts iterator declared low high factor body combine combine_place)))
        (let e = command_counted r id (counts iterator declared low high factor body combine combine_place) in omega (arith, e))

    other_sited : (other : MaybeAction) (r : source.Around) (around : Around) (tests : List ℕ) (old new : Building) (first next : ℕ) (lefts : List Left) (m : MadeOther scene other around tests old new first next lefts) → around.levels.now ≡ levels → length tests ≡ paths
        → StoresReachOther other → SitesAre (other_sites scene other around tests old new first next lefts m) (accesses_in (other_events r other))
    other_sited no_action r around tests old new first next lefts m inside many is = tt
    other_sited (one_action a) r around tests old new first next lefts m inside many is =
        command_sited a r m.arm m.begin m.inside first next m.command (arm_levels (MadeCommand scene a) around false tests old new first next lefts m inside) (arm_paths (MadeCommand scene a) around false tests old new first next lefts m many) is

    actions_sited : (part : Actions) (r : source.Around) (around : Around) (old new : Building) (first next : ℕ) (m : MadeActions scene part around old new first next) → around.levels.now ≡ levels → paths_counted around ≡ paths → StoresReachPart part
        → SitesAre (actions_sites scene part around old new first next m) (accesses_in (part_events r part))
    actions_sited no_actions r around old new first next m inside long is = tt
    actions_sited (action_then a rest) r around old new first next m inside long is =
        places_joined (command_sites scene a around old m.middle first m.own m.one) (actions_sites scene rest around m.middle new m.own next m.rest) (events r a) (part_events r rest)
        (command_sited a r around old m.middle first m.own m.one inside long is.0) (actions_sited rest r around m.middle new m.own next m.rest inside long is.1)

    groups_sited : (body : Groups) (r : source.Around) (around : Around) (old new : Building) (first next : ℕ) (m : MadeGroups scene body around old new first next) → around.levels.now ≡ levels → paths_counted around ≡ paths → StoresReachGroups body
        → SitesAre (groups_sites scene body around old new first next m) (accesses_in (groups_events r body))
    groups_sited no_groups r around old new first next m inside long is = tt
    groups_sited (group_then part rest) r around old new first next m inside long is =
        places_joined (actions_sites scene part around old m.middle first m.own m.one) (groups_sites scene rest around m.middle new m.own next m.rest) (part_events r part) (groups_events r rest)
        (actions_sited part r around old m.middle first m.own m.one inside long is.0) (groups_sited rest r around m.middle new m.own next m.rest inside long is.1)

  -- the site of a place is that of the access there
  pub site_at : (ss : List (Option BlockSite)) (ls : List SourceAccess) → SitesAre ss ls → (i : ℕ) (s : BlockSite) (a : SourceAccess) → slice_get ss i ≡ Some (Some s) → slice_get ls i ≡ Some a → IsSiteOf scene levels paths s a
  site_at [] [] h i s a e g = absurd (cc)
  site_at [] (b ∷ ls) h i s a e g = absurd h
  site_at (x ∷ ss) [] h i s a e g = absurd h
  site_at (None ∷ ss) (b ∷ ls) h zero s a e g = absurd (cc)
  site_at (Some x ∷ ss) (b ∷ ls) h zero s a e g = let same : x ≡ s = cc in let other : b ≡ a = cc in subst (λ (t : BlockSite). IsSiteOf scene levels paths t a) same (subst (λ (c : SourceAccess). IsSiteOf scene levels paths x c) other h.0)
  site_at (x ∷ ss) (b ∷ ls) h (suc i) s a e g = site_at ss ls h.1 i s a e g

-- Which numbers have sites.

placed_both : (first own : ℕ) (xs ys : List (Option BlockSite)) (k : ℕ) → own ≡ first + length xs → is_some (places_from first (xs ++ ys) k) ≡ (is_some (places_from first xs k) || is_some (places_from own ys k))
placed_both first own xs ys k is = by (cases_lt k first) (cases_lt k own)
  where
    here : (i : ℕ) → i < length xs → slice_get (xs ++ ys) i ≡ slice_get xs i
    here i l = front xs i l
      where
        front : (zs : List (Option BlockSite)) (i : ℕ) → i < length zs → slice_get (zs ++ ys) i ≡ slice_get zs i
        front [] i l = absurd (never i l)
          where
            never : (i : ℕ) → i < 0 → ⊥
            never i h = omega (arith, h)
        front (z ∷ zs) zero l = refl
        front (z ∷ zs) (suc i) l = front zs i (omega (arith, l))

    there : (i j : ℕ) → i ≡ length xs + j → slice_get (xs ++ ys) i ≡ slice_get ys j
    there i j e = ap (λ m. slice_get (xs ++ ys) m) e ∙ behind xs
      where
        behind : (zs : List (Option BlockSite)) → slice_get (zs ++ ys) (length zs + j) ≡ slice_get ys j
        behind [] = ap (λ m. slice_get ys m) (none j)
          where
            none : (j : ℕ) → 0 + j ≡ j
            none j = omega arith
        behind (z ∷ zs) = ap (λ m. slice_get (z ∷ (zs ++ ys)) m) (more (length zs) j) ∙ behind zs
          where
            more : (n j : ℕ) → suc n + j ≡ suc (n + j)
            more n j = omega arith

    below : (a b : ℕ) → a < b → nat_lt a b ≡ true
    below a b h = grind (arith, nat_tests, h)

    above : (a b : ℕ) → b ≤ a → nat_lt a b ≡ false
    above a b h = grind (arith, nat_tests, h)

    or_false : (b : Truth) → b ≡ (b || false)
    or_false true = refl
    or_false false = refl

    at : (n : ℕ) (zs : List (Option BlockSite)) → n ≤ k → places_from n zs k ≡ one_site (slice_get zs (k - n))
    at n zs h = ap (λ (b : Truth). if b then None else one_site (slice_get zs (k - n))) (above k n h)

    by : (k < first) ⊎ (first ≤ k) → (k < own) ⊎ (own ≤ k) → is_some (places_from first (xs ++ ys) k) ≡ (is_some (places_from first xs k) || is_some (places_from own ys k))
    by (inl low) other =
        ap is_some (places_low first (xs ++ ys) k low)
        ∙ sym (ap (λ (s : Option BlockSite). is_some s || is_some (places_from own ys k)) (places_low first xs k low) ∙ ap is_some (places_low own ys k (omega (arith, is, low))))
    by (inr from) (inl less) =
        ap is_some (at first (xs ++ ys) from ∙ (ap one_site (here (k - first) (omega (arith, is, from, less))) ∙ sym (at first xs from)))
        ∙ (or_false (is_some (places_from first xs k)) ∙ ap (λ (b : Truth). is_some (places_from first xs k) || b) (sym (ap is_some (places_low own ys k less))))
    by (inr from) (inr more) =
        ap is_some (at first (xs ++ ys) from ∙ (ap one_site (there (k - first) (k - own) (omega (arith, is, from, more))) ∙ sym (at own ys more)))
        ∙ sym (ap (λ (s : Option BlockSite). is_some s || is_some (places_from own ys k)) (places_past first xs k (omega (arith, is, more))))

placed_all : (first : ℕ) (ss : List BlockSite) (count : ℕ) (k : ℕ) → length (all_there ss) ≡ count → is_some (places_from first (all_there ss) k) ≡ is_between k first count
placed_all first ss count k long = by (cases_lt k first) (cases_lt k (first + count))
  where
    low_none : k < first → is_between k first count ≡ false
    low_none h = grind (arith, nat_tests, h)

    far_none : first + count ≤ k → is_between k first count ≡ false
    far_none h = grind (arith, nat_tests, h)

    inside : first ≤ k → k < first + count → is_between k first count ≡ true
    inside h l = grind (arith, nat_tests, h, l)

    some : (zs : List BlockSite) (i : ℕ) → i < length (all_there zs) → is_some (one_site (slice_get (all_there zs) i)) ≡ true
    some [] i l = absurd (never i l)
      where
        never : (i : ℕ) → i < 0 → ⊥
        never i h = omega (arith, h)
    some (z ∷ zs) zero l = refl
    some (z ∷ zs) (suc i) l = some zs i (omega (arith, l))

    above : (a b : ℕ) → b ≤ a → nat_lt a b ≡ false
    above a b h = grind (arith, nat_tests, h)

    by : (k < first) ⊎ (first ≤ k) → (k < first + count) ⊎ (first + count ≤ k) → is_some (places_from first (all_there ss) k) ≡ is_between k first count
    by (inl low) other = ap is_some (places_low first (all_there ss) k low) ∙ sym (low_none low)
    by (inr from) (inl below) =
        ap is_some (ap (λ (b : Truth). if b then None else one_site (slice_get (all_there ss) (k - first))) (above k first from))
        ∙ (some ss (k - first) (subst (λ (n : ℕ). k - first < n) (sym long) (omega (arith, from, below))) ∙ sym (inside from below))
    by (inr from) (inr far) = ap is_some (places_past first (all_there ss) k (subst (λ (n : ℕ). first + n ≤ k) (sym long) far)) ∙ sym (far_none far)

placed_none : (first count k : ℕ) → is_some (places_from first (none_there count) k) ≡ false
placed_none first count k = by (nat_lt k first)
  where
    none : (n i : ℕ) → is_some (one_site (slice_get (none_there n) i)) ≡ false
    none zero i = refl
    none (suc n) zero = refl
    none (suc n) (suc i) = none n i

    by : (b : Truth) → is_some (if b then None else one_site (slice_get (none_there count) (k - first))) ≡ false
    by true = refl
    by false = none count (k - first)

none_within : (k n : ℕ) → false ≡ is_between k n 0
none_within k n = grind (arith, nat_tests)

next_is : (first : ℕ) (ss : List (Option BlockSite)) (count : ℕ) → length ss ≡ count → first + count ≡ first + length ss
next_is first ss count long = ap (λ n. first + n) (sym long)

module _ (scene : Scene) (k : ℕ) where
  view_placed : (hidden : List Hidden) (form : ViewPlan) (n : ℕ) (around : Around) → KeepsAny hidden (offsets_of form) → is_some (places_from n (view_sites scene around hidden form) k) ≡ is_between k n (plan_accesses form)
  view_placed [] form n around none = placed_none n (plan_accesses form + 0) k ∙ subst (λ (ts : List Term). false ≡ is_between k n (terms_accesses (terms ts))) (sym none) (none_within k n)
  view_placed (h ∷ hs) form n around none = placed_all n (terms_sites scene around (terms (offsets_of form))) (plan_accesses form) k (length-map (terms_sites scene around (terms (offsets_of form))) (λ (s : BlockSite). Some s) ∙ terms_sites_long scene around (terms (offsets_of form)))

  mutual
    command_placed : (a : Action) (n : ℕ) (around : Around) (old new : Building) (first next : ℕ) (m : MadeCommand scene a around old new first next) → IsKeptAction (known_in scene) a
        → is_some (places_from n (command_sites scene a around old new first next m) k) ≡ makes k n a
    command_placed (action id place (lets name declared (Some value))) n around old new first next m is = placed_all n (term_sites scene around value) (term_accesses value) k (test_places_long scene around value)
    command_placed (action id place (lets name declared None)) n around old new first next m is = placed_all n [] 0 k refl
    command_placed (action id place (assigns target value)) n around old new first next m is = placed_all n (term_sites scene around value) (term_accesses value) k (test_places_long scene around value)
    command_placed (action id place (stores target value)) n around old new first next m is =
        placed_all n (term_sites scene around value ++ target_sites scene around target) (term_accesses value + term_accesses target) k (store_places_long scene around target value (target_reaches target is.0))
    command_placed (action id place (reduces target op value)) n around old new first next m is = placed_all n (term_sites scene around value) (term_accesses value) k (test_places_long scene around value)
    command_placed (action id place (decides test chosen other)) n around old new first next m is =
        placed_both n (n + term_accesses test) (all_there (term_sites scene around test)) _ k (next_is n (all_there (term_sites scene around test)) (term_accesses test) (test_places_long scene around test))
        ∙ (ap (λ (b : Truth). b || is_some (places_from (n + term_accesses test) (chosen_sites ++ last_sites) k)) (placed_all n (term_sites scene around test) (term_accesses test) k (test_places_long scene around test))
        ∙ ap (λ (b : Truth). is_between k n (term_accesses test) || b)
        (placed_both (n + term_accesses test) (n + term_accesses test + accesses_of chosen) chosen_sites last_sites k
        (next_is (n + term_accesses test) chosen_sites (accesses_of chosen) (command_sites_long scene chosen m.chosen.arm m.chosen.begin m.chosen.inside m.own m.behind m.chosen.command (named_reaches (known_in scene) chosen is.1.0)))
        ∙ (ap (λ (b : Truth). b || is_some (places_from (n + term_accesses test + accesses_of chosen) last_sites k)) (command_placed chosen (n + term_accesses test) m.chosen.arm m.chosen.begin m.chosen.inside m.own m.behind m.chosen.command is.1.0)
        ∙ ap (λ (b : Truth). makes k (n + term_accesses test) chosen || b) (other_placed other (n + term_accesses test + accesses_of chosen) around m.tests m.after_chosen m.after_other m.behind next m.other_left m.other is.1.1))))
      where
        chosen_sites : List (Option BlockSite)
        chosen_sites = command_sites scene chosen m.chosen.arm m.chosen.begin m.chosen.inside m.own m.behind m.chosen.command

        last_sites : List (Option BlockSite)
        last_sites = other_sites scene other around m.tests m.after_chosen m.after_other m.behind next m.other_left m.other
    command_placed (action id place (blocks body)) n around old new first next m is = groups_placed body n around old new first next m is
    command_placed (action id place (lets_memory name shape shape_places value)) n around old new first next m is = placed_none n 0 k
    command_placed (action id place (views name parent form)) n around old new first next m is =
        view_placed (hidden_in (way_of (known_in scene) name)) form n around is.1
    command_placed (action id place (calls function arguments)) n around old new first next m is = placed_none n 0 k
    command_placed (action id place (repeats test body)) n around old new first next m is = placed_none n (term_accesses test + accesses_of body) k
    command_placed (action id place (counts iterator declared low high factor body combine combine_place)) n around old new first next m is = placed_none n (accesses_of body + other_accesses combine) k

    other_placed : (other : MaybeAction) (n : ℕ) (around : Around) (tests : List ℕ) (old new : Building) (first next : ℕ) (lefts : List Left) (m : MadeOther scene other around tests old new first next lefts) → IsKeptOther (known_in scene) other
        → is_some (places_from n (other_sites scene other around tests old new first next lefts m) k) ≡ other_makes k n other
    other_placed no_action n around tests old new first next lefts m is = placed_none n 0 k
    other_placed (one_action a) n around tests old new first next lefts m is = command_placed a n m.arm m.begin m.inside first next m.command is

    actions_placed : (part : Actions) (n : ℕ) (around : Around) (old new : Building) (first next : ℕ) (m : MadeActions scene part around old new first next) → AreKeptActions (known_in scene) part
        → is_some (places_from n (actions_sites scene part around old new first next m) k) ≡ part_makes k n part
    actions_placed no_actions n around old new first next m is = placed_none n 0 k
    actions_placed (action_then a rest) n around old new first next m is =
        placed_both n (n + accesses_of a) (command_sites scene a around old m.middle first m.own m.one) (actions_sites scene rest around m.middle new m.own next m.rest) k
        (next_is n (command_sites scene a around old m.middle first m.own m.one) (accesses_of a) (command_sites_long scene a around old m.middle first m.own m.one (named_reaches (known_in scene) a is.0)))
        ∙ (ap (λ (b : Truth). b || is_some (places_from (n + accesses_of a) (actions_sites scene rest around m.middle new m.own next m.rest) k)) (command_placed a n around old m.middle first m.own m.one is.0)
        ∙ ap (λ (b : Truth). makes k n a || b) (actions_placed rest (n + accesses_of a) around m.middle new m.own next m.rest is.1))

    groups_placed : (body : Groups) (n : ℕ) (around : Around) (old new : Building) (first next : ℕ) (m : MadeGroups scene body around old new first next) → AreKeptGroups (known_in scene) body
        → is_some (places_from n (groups_sites scene body around old new first next m) k) ≡ groups_make k n body
    groups_placed no_groups n around old new first next m is = placed_none n 0 k
    groups_placed (group_then part rest) n around old new first next m is =
        placed_both n (n + part_accesses part) (actions_sites scene part around old m.middle first m.own m.one) (groups_sites scene rest around m.middle new m.own next m.rest) k
        (next_is n (actions_sites scene part around old m.middle first m.own m.one) (part_accesses part) (actions_sites_long scene part around old m.middle first m.own m.one (part_reaches (known_in scene) part is.0)))
        ∙ (ap (λ (b : Truth). b || is_some (places_from (n + part_accesses part) (groups_sites scene rest around m.middle new m.own next m.rest) k)) (actions_placed part n around old m.middle first m.own m.one is.0)
        ∙ ap (λ (b : Truth). part_makes k n part || b) (groups_placed rest (n + part_accesses part) around m.middle new m.own next m.rest is.1))

-- Blocks.

some_or : (s t : Option BlockSite) → is_some (site_or s t) ≡ (is_some s || is_some t)
some_or None t = refl
some_or (Some s) t = refl

block_placed : (scene : Scene) (around : Around) (k : ℕ) (cs : List Located) (old new : Building) (m : MadeEach scene around cs old new) → AllByRecursion (λ (c : Located). IsKeptAction (known_in scene) c.command) cs → is_some (block_sites scene around cs old new m k) ≡ any_makes k cs
block_placed scene around k [] old new m is = refl
block_placed scene around k (c ∷ cs) old new (mid, (next, (m, rest))) is =
    some_or (places_from c.first (command_sites scene c.command around old mid c.first next m) k) (block_sites scene around cs mid new rest k)
    ∙ (ap (λ (b : Truth). b || is_some (block_sites scene around cs mid new rest k)) (command_placed scene k c.command c.first around old mid c.first next m is.0)
    ∙ ap (λ (b : Truth). makes k c.first c.command || b) (block_placed scene around k cs mid new rest is.1))

-- an access of a command, among those of the program, is one of its events
own_access : (es : List SourceEvent) (c : Located) (k : ℕ) (a : SourceAccess) → StandsAmong 0 es c → c.first ≤ k → k < c.first + length (accesses_in (events c.around c.command)) → slice_get (accesses_in es) k ≡ Some a
    → slice_get (accesses_in (events c.around c.command)) (k - c.first) ≡ Some a
own_access es c k a s from below at =
    let counted = s.counted in
    sym (ap (λ (ls : List SourceAccess). slice_get ls k) (ap accesses_in s.all ∙ (accesses_joined s.before (events c.around c.command ++ s.after) ∙ ap (λ (ls : List SourceAccess). accesses_in s.before ++ ls) (accesses_joined (events c.around c.command) s.after)))
    ∙ (ap (λ i. slice_get (accesses_in s.before ++ (accesses_in (events c.around c.command) ++ accesses_in s.after)) i) (split (length (accesses_in s.before)) counted)
    ∙ (behind (accesses_in s.before) (accesses_in (events c.around c.command) ++ accesses_in s.after) (k - c.first) ∙ front (accesses_in (events c.around c.command)) (accesses_in s.after) (k - c.first) (omega (arith, from, below)))))
    ∙ at
  where
    split : (n : ℕ) → 0 + n ≡ c.first → k ≡ n + (k - c.first)
    split n e = omega (arith, e, from)

    front : (xs ys : List SourceAccess) (i : ℕ) → i < length xs → slice_get (xs ++ ys) i ≡ slice_get xs i
    front [] ys i l = absurd (never i l)
      where
        never : (i : ℕ) → i < 0 → ⊥
        never i h = omega (arith, h)
    front (x ∷ xs) ys zero l = refl
    front (x ∷ xs) ys (suc i) l = front xs ys i (omega (arith, l))

    behind : (xs ys : List SourceAccess) (i : ℕ) → slice_get (xs ++ ys) (length xs + i) ≡ slice_get ys i
    behind [] ys i = ap (λ j. slice_get ys j) (none i)
      where
        none : (i : ℕ) → 0 + i ≡ i
        none i = omega arith
    behind (x ∷ xs) ys i = ap (λ j. slice_get (x ∷ (xs ++ ys)) j) (more (length xs) i) ∙ behind xs ys i
      where
        more : (n i : ℕ) → suc n + i ≡ suc (n + i)
        more n i = omega arith

-- a place that has a site is one of the list
place_of : (first : ℕ) (ss : List (Option BlockSite)) (k : ℕ) (s : BlockSite) → places_from first ss k ≡ Some s → (first ≤ k) × ((k < first + length ss) × (slice_get ss (k - first) ≡ Some (Some s)))
place_of first ss k s e = by (cases_lt k first) (cases_lt k (first + length ss))
  where
    lost : None ≡ Some s → ⊥
    lost h = cc

    above : (a b : ℕ) → b ≤ a → nat_lt a b ≡ false
    above a b h = grind (arith, nat_tests, h)

    the : (o : Option (Option BlockSite)) → one_site o ≡ Some s → o ≡ Some (Some s)
    the None h = absurd (lost h)
    the (Some t) h = ap (λ (u : Option BlockSite). Some u) h

    by : (k < first) ⊎ (first ≤ k) → (k < first + length ss) ⊎ (first + length ss ≤ k) → (first ≤ k) × ((k < first + length ss) × (slice_get ss (k - first) ≡ Some (Some s)))
    by (inl low) other = absurd (lost (sym (places_low first ss k low) ∙ e))
    by (inr from) (inr far) = absurd (lost (sym (places_past first ss k far) ∙ e))
    by (inr from) (inl below) = (from, (below, the (slice_get ss (k - first)) (sym (ap (λ (b : Truth). if b then None else one_site (slice_get ss (k - first))) (above k first from)) ∙ e)))

module _ (scene : Scene) (around : Around) where
  block_told : (cs : List Located) (old new : Building) (m : MadeEach scene around cs old new) → AllByRecursion (λ (c : Located). StoresReach c.command) cs → AllStand scene cs → (k : ℕ) (s : BlockSite) (a : SourceAccess)
      → block_sites scene around cs old new m k ≡ Some s → access_at (program_seen scene.program.now) k ≡ Some a → IsSiteOf scene around.levels.now (paths_counted around) s a
  block_told [] old new m is stand k s a e at = absurd (cc)
  block_told (c ∷ cs) old new (mid, (next, (m, rest))) is stand k s a e at = by (places_from c.first own_sites k) refl e (λ g. block_told cs mid new rest is.1 stand.1 k s a g at)
    where
      own_sites : List (Option BlockSite)
      own_sites = command_sites scene c.command around old mid c.first next m

      here : (t : BlockSite) → places_from c.first own_sites k ≡ Some t → IsSiteOf scene around.levels.now (paths_counted around) t a
      here t h =
          let p = place_of c.first own_sites k t h in
          site_at scene around.levels.now (paths_counted around) own_sites (accesses_in (events c.around c.command))
          (command_sited scene around.levels.now (paths_counted around) c.command c.around around old mid c.first next m refl refl is.0) (k - c.first) t a p.1.1
          (own_access (trace (program_seen scene.program.now)) c k a stand.0 p.0 (subst (λ (n : ℕ). k < c.first + n) (command_sites_long scene c.command around old mid c.first next m is.0 ∙ sym (events_counted c.around c.command)) p.1.0) at)

      by : (o : Option BlockSite) → places_from c.first own_sites k ≡ o → site_or o (block_sites scene around cs mid new rest k) ≡ Some s
          → (block_sites scene around cs mid new rest k ≡ Some s → IsSiteOf scene around.levels.now (paths_counted around) s a) → IsSiteOf scene around.levels.now (paths_counted around) s a
      by None h g later = later g
      by (Some t) h g later = let same : t ≡ s = cc in subst (λ (u : BlockSite). IsSiteOf scene around.levels.now (paths_counted around) u a) same (here t h)

pub blocks_are_sited : BlocksAreSited
blocks_are_sited scene around cs old new m is stand = record {
  made = λ number. block_placed scene around number cs old new m is;
  told = λ number s a e at. block_told scene around cs old new m (all_reach (known_in scene) cs is) stand number s a e at;
}

-- Tests.

-- the events of a command with a test begin with those of the test
pub record BeginsWithTest (r : source.Around) (c : Action) (t : Term) : Type 0 where
  pub site : events.Site
  pub rest : List SourceEvent
  pub are : events r c ≡ source_term_events site t ++ rest

pub test_begins : (r : source.Around) (c : Action) (t : Term) → test_of (action_form_of c) ≡ Some t → BeginsWithTest r c t
test_begins r (action id place (decides test chosen other)) t e = let same : test ≡ t = cc in record {
  site = site_of r id;
  rest = events (in_arm r id true) chosen ++ other_events (in_arm r id false) other;
  are = ap (λ (u : Term). source_term_events (site_of r id) u ++ (events (in_arm r id true) chosen ++ other_events (in_arm r id false) other)) same;
}
test_begins r (action id place (repeats test body)) t e = let same : test ≡ t = cc in record {
  site = site_of r id;
  rest = events r body;
  are = ap (λ (u : Term). source_term_events (site_of r id) u ++ events r body) same;
}
test_begins r (action id place (lets name declared value)) t e = absurd (cc)
test_begins r (action id place (lets_memory name shape shape_places value)) t e = absurd (cc)
test_begins r (action id place (views name parent form)) t e = absurd (cc)
test_begins r (action id place (assigns target value)) t e = absurd (cc)
test_begins r (action id place (stores target value)) t e = absurd (cc)
test_begins r (action id place (reduces target op value)) t e = absurd (cc)
test_begins r (action id place (calls function arguments)) t e = absurd (cc)
test_begins r (action id place (blocks body)) t e = absurd (cc)
test_begins r (action id place (counts iterator declared low high factor body combine combine_place)) t e = absurd (cc)

tests_within : (k n : ℕ) (c : Action) (t : Term) → test_of (action_form_of c) ≡ Some t → tests_make k n c ≡ is_between k n (term_accesses t)
tests_within k n (action id place (decides test chosen other)) t e = let same : test ≡ t = cc in ap (λ (u : Term). is_between k n (term_accesses u)) same
tests_within k n (action id place (repeats test body)) t e = let same : test ≡ t = cc in ap (λ (u : Term). is_between k n (term_accesses u)) same
tests_within k n (action id place (lets name declared value)) t e = absurd (cc)
tests_within k n (action id place (lets_memory name shape shape_places value)) t e = absurd (cc)
tests_within k n (action id place (views name parent form)) t e = absurd (cc)
tests_within k n (action id place (assigns target value)) t e = absurd (cc)
tests_within k n (action id place (stores target value)) t e = absurd (cc)
tests_within k n (action id place (reduces target op value)) t e = absurd (cc)
tests_within k n (action id place (calls function arguments)) t e = absurd (cc)
tests_within k n (action id place (blocks body)) t e = absurd (cc)
tests_within k n (action id place (counts iterator declared low high factor body combine combine_place)) t e = absurd (cc)

module _ (scene : Scene) (around : Around) (tested : Located) (t : Term) (has : test_of (action_form_of tested.command) ≡ Some t) (stand : StandsAmong 0 (trace (program_seen scene.program.now)) tested) where
  abbrev places : List (Option BlockSite)
  places = all_there (term_sites scene around t)

  test_placed : (k : ℕ) → is_some (test_sites scene around tested.first t k) ≡ test_makes k tested
  test_placed k =
      ap is_some (test_places tested.first (term_sites scene around t) k)
      ∙ (placed_all tested.first (term_sites scene around t) (term_accesses t) k (test_places_long scene around t) ∙ sym (tests_within k tested.first tested.command t has))

  test_told : (k : ℕ) (s : BlockSite) (a : SourceAccess) → test_sites scene around tested.first t k ≡ Some s → access_at (program_seen scene.program.now) k ≡ Some a → IsSiteOf scene around.levels.now (paths_counted around) s a
  test_told k s a e at =
      let b = test_begins tested.around tested.command t has in
      let p = place_of tested.first places k s (sym (test_places tested.first (term_sites scene around t) k) ∙ e) in
      let whole : accesses_in (events tested.around tested.command) ≡ accesses_in (source_term_events b.site t) ++ accesses_in b.rest = ap accesses_in b.are ∙ accesses_joined (source_term_events b.site t) b.rest in
      let less : k - tested.first < length (accesses_in (source_term_events b.site t)) = shorter (length places) (length (accesses_in (source_term_events b.site t))) (test_places_long scene around t ∙ sym (term_counted b.site t)) p.0 p.1.0 in
      site_at scene around.levels.now (paths_counted around) places (accesses_in (source_term_events b.site t)) (term_sited scene around.levels.now (paths_counted around) around refl refl b.site t) (k - tested.first) s a p.1.1
      (sym (in_front_of (accesses_in (source_term_events b.site t)) (accesses_in b.rest) (k - tested.first) less)
      ∙ (ap (λ (ls : List SourceAccess). slice_get ls (k - tested.first)) (sym whole)
      ∙ own_access (trace (program_seen scene.program.now)) tested k a stand p.0 (inside (length (accesses_in (source_term_events b.site t))) (length (accesses_in b.rest)) p.0 less (ap length whole ∙ length-append (accesses_in (source_term_events b.site t)) (accesses_in b.rest))) at))
    where
      shorter : (n m : ℕ) → n ≡ m → tested.first ≤ k → k < tested.first + n → k - tested.first < m
      shorter n m e from below = omega (arith, e, from, below)

      inside : (n m : ℕ) → tested.first ≤ k → k - tested.first < n → length (accesses_in (events tested.around tested.command)) ≡ n + m → k < tested.first + length (accesses_in (events tested.around tested.command))
      inside n m from less e = omega (arith, from, less, e)

      in_front_of : (xs ys : List SourceAccess) (i : ℕ) → i < length xs → slice_get (xs ++ ys) i ≡ slice_get xs i
      in_front_of [] ys i l = absurd (never i l)
        where
          never : (i : ℕ) → i < 0 → ⊥
          never i h = omega (arith, h)
      in_front_of (x ∷ xs) ys zero l = refl
      in_front_of (x ∷ xs) ys (suc i) l = in_front_of xs ys i (omega (arith, l))

pub tests_are_sited : TestsAreSited
tests_are_sited scene around tested t has stand = record {
  made = λ number. test_placed scene around tested t has stand number;
  told = λ number s a e at. test_told scene around tested t has stand number s a e at;
}

-- What has a site is made.

pub blocks_placed : (scene : Scene) (around : Around) (cs : List Located) (old new : Building) (m : MadeEach scene around cs old new) → AllByRecursion (λ (c : Located). IsKeptAction (known_in scene) c.command) cs → (number : ℕ) (s : BlockSite) → block_sites scene around cs old new m number ≡ Some s → any_makes number cs ≡ true
blocks_placed scene around cs old new m h number s at = sym (block_placed scene around number cs old new m h) ∙ ap is_some at

pub test_placed_all : (scene : Scene) (around : Around) (first : ℕ) (t : Term) (number : ℕ) (s : BlockSite) → test_sites scene around first t number ≡ Some s → (first ≤ number) × (number < first + term_accesses t)
test_placed_all scene around first t number s at =
    let p = place_of first (all_there (term_sites scene around t)) number s (sym (test_places first (term_sites scene around t) number) ∙ at) in
    (p.0, subst (λ (n : ℕ). number < first + n) (test_places_long scene around t) p.1.0)
