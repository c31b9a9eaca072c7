-- What is put down for commands and tests names elements as the source does, by recursion on it, along the events of each
-- command; and so does what is put down for a block.
use Rattle.std.proofs.Common.{◌≡◌, inl, ◌<◌, ◌+◌, ◌^◌, ℕ, zero, suc, List, Some, None, ap, sym, ◌∙◌, subst, length, arith, refl}
use Rattle.std.specs.Prelude.{Bool as Truth, true, false, [], ◌∷◌, ◌++◌, Option, slice_get}
use Rattle.std.specs.List.{AllByRecursion}
use Rattle.dh_value.specs.declared.operators.Op.{Op}
use Rattle.dh_tree.specs.Indices.{form_of}
use Rattle.dh_tree.specs.PlainTrees as plain
use Rattle.dh_tree.specs.PlainTrees.{Term, Action, action, lets, lets_memory, views, assigns, stores, reduces, calls, blocks, decides, repeats, counts, MaybeAction, no_action, one_action, Actions, no_actions, action_then, Groups, no_groups, group_then, ViewPlan}
use Rattle.dh_tree.specs.Seen.{program_seen, terms}
use Rattle.dh_tree.specs.ViewOffsets.{offsets_of}
use Rattle.dh_meaning.specs.AccessNumbers.{accesses_of, groups_accesses, other_accesses, part_accesses, plan_accesses, term_accesses, terms_accesses}
use Rattle.dh_meaning.specs.CoreOf.{entity_number, way_of}
use Rattle.dh_meaning.specs.CoreOf as core
use Rattle.dh_meaning.specs.Phases.{Located, idle_phases_of, phases_of}
use Rattle.dh_meaning.specs.Sites as source
use Rattle.dh_meaning.specs.Sites.{in_arm}
use Rattle.dh_meaning.specs.Ways.{Hidden, hidden_in}
use Rattle.dh_meets.specs.SourceEvents.{Site, SourceAccess, SourceEvent, assigned, accesses_in, events, groups_events, in_row, one_access, other_events, part_events, site_of, source_term_events, source_terms_events, trace, with_indices, write_events}
use Rattle.dh_code.specs.Slots.{held_at}
use Rattle.dh_sound.specs.PhaseFacts.{HasStraight, HasTest, StandsAmong}
use Rattle.dh_sound.proofs.EventCounts.{accesses_joined, events_counted, part_counted, term_counted, terms_counted}
use Rattle.dh_sound.proofs.Slices.{straight_either, straight_stands, test_either, test_stands}
use Rattle.dh_expressions.specs.declared.accesses.Accesses.{Accesses}
use Rattle.dh_expressions.specs.declared.drafts.Draft.{Draft}
use Rattle.dh_expressions.specs.declared.elements.Aim.{Aim}
use Rattle.dh_expressions.specs.declared.scenes.Around.{Around}
use Rattle.dh_expressions.specs.declared.scenes.Lane.{Lane}
use Rattle.dh_expressions.specs.declared.scenes.Scene.{Scene}
use Rattle.dh_expressions.specs.Named.{first_view, known_in}
use Rattle.dh_expressions.proofs.Pushing.{in_front}
use Rattle.dh_formed.proofs.TermsFormed.{all_numbered, numbered}
use Rattle.dh_formed.proofs.ValuesCounted.{number_counts}
use Rattle.dh_commands.specs.declared.buildings.Building.{Building}
use Rattle.dh_commands.specs.declared.choices.Left.{Left}
use Rattle.dh_commands.specs.LanesRun.{lane_of, paths_counted}
use Rattle.dh_commands.specs.MadeCommands.{Commanding, MadeActions, MadeAim, MadeArm, MadeAssigned, MadeCleared, MadeCommand, MadeGroups, MadeHolds, MadeKept, MadeLanes, MadeOther, MadeReduced, MadeStored, MadeStoring, MadeTests, MadeView}
use Rattle.dh_laid.specs.BlockSites.{MadeEach}
use Rattle.dh_laid.specs.LaidCommands.{AreFewIn}
use Rattle.dh_laid.specs.LaidNumbers.{IsAccessForm, StoresReach, StoresReachGroups, StoresReachOther, StoresReachPart}
use Rattle.dh_laid.specs.LaidQuiet.{BlockStandsIn}
use Rattle.dh_laid.specs.LaidUses.{AreAlong}
use Rattle.dh_laid.proofs.CommandsNumbered.{actions_reached, command_reached, some_arm, tests_number}
use Rattle.dh_laid.proofs.SitesLaid.{behind_place}
use Rattle.dh_laid.proofs.UsesAdded.{AddsNone, any_register, choices_used, folded_used, guards_used, held_used, no_reach, none_again, none_none, uses_counted}
use Rattle.dh_laid.proofs.ValuesLogged.{stands_arm, tests_same}
use Rattle.dh_used.proofs.AimsAdded.{AimsTerm, AimsTerms, Aims, AreAccesses, adds_stay, aims_again, aims_none, aims_plain, events_behind, events_front, events_last, no_sites, passes, term_aims, term_stays, terms_aim, terms_stay, way_aims, write_aims}
use Rattle.dh_used.proofs.BlocksByKeys.{each_of}
use Rattle.dh_used.proofs.SitesOfSource.{test_begins}

module _ (scene : Scene) where
  holds_plain : (first : ℕ) (offsets : List Term) (values : List ℕ) (old new : Draft) (held : List ℕ) → MadeHolds scene first offsets values old new held → AddsNone scene (no_sites scene) old new
  holds_plain first [] values old new held m = none_none scene (no_sites scene) old new m.0
  holds_plain first (t ∷ ts) [] old new held m = none_none scene (no_sites scene) old new m.0
  holds_plain first (t ∷ ts) (v ∷ vs) old new held (d, (h, (more, (one, (rest, is))))) =
      none_again scene (no_sites scene) old d new (held_used scene (no_sites scene) t (held_at scene.held.now first).kind v old d h one) (holds_plain (suc first) ts vs d new more rest)

  -- One path.

  module _ (lane : Lane) (stands : BlockStandsIn scene lane.around) (site : Site) where
    assigned_aims : (first entity : ℕ) (t : Term) (old new : Building) (next : ℕ) → MadeAssigned scene lane first entity t old new next → AreFewIn first t → AreAccesses scene first (source_term_events site t) → Aims scene old.draft new.draft
    assigned_aims first entity t old new next m few has =
        let one : AimsTerm scene lane stands old.values.current.items t old.draft m.middle m.value = term_aims scene lane stands old.values.current.items site t old.draft m.middle old.accesses new.accesses first next m.value m.term few has in
        aims_again scene old.draft m.middle new.draft one.aims (aims_plain scene m.middle new.draft (held_used scene (no_sites scene) t (held_at scene.held.now entity).kind m.value m.middle new.draft m.held m.holds))

    cleared_aims : (entity : ℕ) (old new : Building) → MadeCleared scene lane entity old new → Aims scene old.draft new.draft
    cleared_aims entity old new m =
        aims_plain scene old.draft new.draft
        (uses_counted scene (no_sites scene) old.draft new.draft 0 _ _ (number_counts any_register no_reach no_reach no_reach (held_at scene.held.now entity).kind false 0 old.draft new.draft m.value m.number))

    reduced_aims : (first entity : ℕ) (op : Op) (t : Term) (old new : Building) (next : ℕ) → MadeReduced scene lane first entity op t old new next → AreFewIn first t → AreAccesses scene first (source_term_events site t) → Aims scene old.draft new.draft
    reduced_aims first entity op t old new next m few has =
        let one : AimsTerm scene lane stands old.values.current.items t old.draft m.middle m.value = term_aims scene lane stands old.values.current.items site t old.draft m.middle old.accesses new.accesses first next m.value m.term few has in
        aims_again scene old.draft m.middle new.draft one.aims (aims_plain scene m.middle new.draft (folded_used scene (no_sites scene) lane old.values.current.items (held_at scene.held.now entity) op t m.value m.middle new.draft m.folded m.folds))

    kept_aims : (first entity : ℕ) (offsets : List Term) (old new : Building) (next : ℕ) → MadeKept scene lane first entity offsets old new next → first + terms_accesses (terms offsets) < 2 ^ 32 → AreAccesses scene first (source_terms_events site (terms offsets))
        → Aims scene old.draft new.draft
    kept_aims first entity offsets old new next m few has =
        let one : AimsTerms scene lane stands old.values.current.items (terms offsets) old.draft m.middle m.values =
        terms_aim scene lane stands old.values.current.items site (terms offsets) old.draft m.middle old.accesses new.accesses first next m.values m.offsets_made few has in
        aims_again scene old.draft m.middle new.draft one.aims (aims_plain scene m.middle new.draft (holds_plain entity offsets m.values m.middle new.draft m.held m.holds))

    -- what names a store's element, and its write
    module _ (current : List (Option ℕ)) where
      target_aims : (target t : Term) (value : ℕ) (aimed : Option (Aim × ℕ)) (old middle : Draft) (before behind : Accesses) (n : ℕ) (new : Building) (next : ℕ) → MadeAim scene lane current (form_of target) old middle before behind n aimed
          → MadeStoring scene lane target t value aimed middle behind new next → IsAccessForm (form_of target) → n + term_accesses target < 2 ^ 32 → AreAccesses scene n (write_events site target) → Aims scene old new.draft
      target_aims (plain.term place k (plain.accessed r ts)) t value None old middle before behind n new next m s is few has = absurd m
      target_aims (plain.term place k (plain.accessed r ts)) t value (Some (aim, memory)) old middle before behind n new next m s is few has =
          let less : n + terms_accesses ts < 2 ^ 32 = omega (arith, few) in
          let own = all_numbered scene lane current ts old m.0.middle before behind n aim.number aim.indices m.0.indices less in
          let one : AimsTerms scene lane stands current ts old m.0.middle aim.indices =
          terms_aim scene lane stands current site ts old m.0.middle before behind n aim.number aim.indices m.0.indices less (events_front scene n (source_terms_events site ts) (one_access place r.entity (with_indices ts) true site) has) in
          let two : Aims scene m.0.middle middle = way_aims scene lane stands current r m.0.middle middle aim.steps m.0.steps in
          let three : Aims scene middle s.0 = aims_plain scene middle s.0 (held_used scene (no_sites scene) t _ value middle s.0 s.1.0 s.1.1.0) in
          let at = events_last scene n aim.number (source_terms_events site ts) _ (terms_accesses ts) (terms_counted site ts) own has in
          let stays = terms_stay middle.operations.items (s.0).operations.items (adds_stay scene middle s.0 three) ts aim.indices
          (terms_stay m.0.middle.operations.items middle.operations.items (adds_stay scene m.0.middle middle two) ts aim.indices one.hold) in
          aims_again scene old m.0.middle new.draft one.aims
          (aims_again scene m.0.middle middle new.draft two
          (aims_again scene middle s.0 new.draft three
          (write_aims scene lane stands (plain.term place k (plain.accessed r ts)) memory aim s.0 _ at r refl (λ banks. (m.0.row, (stays, passes scene lane stands current (first_view scene r) (way_of (known_in scene) r) m.0.middle middle aim.steps m.0.steps)))
          s.1.0 new.draft behind new.accesses s.1.1.1.0)))
      target_aims (plain.term place k (plain.in_bank r bank at row)) t value None old middle before behind n new next m s is few has = absurd m
      target_aims (plain.term place k (plain.in_bank r bank at row)) t value (Some (aim, memory)) old middle before behind n new next m s is few has =
          let less : n + term_accesses row < 2 ^ 32 = omega (arith, few) in
          let own = numbered scene lane current row old middle before behind n aim.number m.0.value m.0.row less in
          let one : AimsTerm scene lane stands current row old middle m.0.value =
          term_aims scene lane stands current site row old middle before behind n aim.number m.0.value m.0.row less (events_front scene n (source_term_events site row) (one_access place r.entity (in_row bank row) true site) has) in
          let two : Aims scene middle s.0 = aims_plain scene middle s.0 (held_used scene (no_sites scene) t _ value middle s.0 s.1.0 s.1.1.0) in
          let there = events_last scene n aim.number (source_term_events site row) _ (term_accesses row) (term_counted site row) own has in
          aims_again scene old middle new.draft one.aims
          (aims_again scene middle s.0 new.draft two
          (write_aims scene lane stands (plain.term place k (plain.in_bank r bank at row)) memory aim s.0 _ there r refl
          (λ banks. (m.0.value, (m.0.row_is, term_stays middle.operations.items (s.0).operations.items (adds_stay scene middle s.0 two) row m.0.value one.holds)))
          s.1.0 new.draft behind new.accesses s.1.1.1.0))
      target_aims (plain.term place k (plain.number negative z)) t value aimed old middle before behind n new next m s is few has = absurd is
      target_aims (plain.term place k (plain.truth_value b)) t value aimed old middle before behind n new next m s is few has = absurd is
      target_aims (plain.term place k (plain.named r)) t value aimed old middle before behind n new next m s is few has = absurd is
      target_aims (plain.term place k (plain.applied op l r)) t value aimed old middle before behind n new next m s is few has = absurd is
      target_aims (plain.term place k (plain.converted inner to)) t value aimed old middle before behind n new next m s is few has = absurd is

    stored_aims : (first : ℕ) (target t : Term) (old new : Building) (next : ℕ) → MadeStored scene lane first target t old new next → IsAccessForm (form_of target) → first + (term_accesses t + term_accesses target) < 2 ^ 32
        → AreAccesses scene first (source_term_events site t ++ write_events site target) → Aims scene old.draft new.draft
    stored_aims first target t old new next m is few has =
        let less : AreFewIn first t = omega (arith, few) in
        let own = numbered scene lane old.values.current.items t old.draft m.middle old.accesses m.between first m.own m.value m.term less in
        let one : AimsTerm scene lane stands old.values.current.items t old.draft m.middle m.value =
        term_aims scene lane stands old.values.current.items site t old.draft m.middle old.accesses m.between first m.own m.value m.term less (events_front scene first (source_term_events site t) (write_events site target) has) in
        aims_again scene old.draft m.middle new.draft one.aims
        (target_aims old.values.current.items target t m.value m.aimed m.middle m.end m.between m.behind m.own new next m.aims m.stores is (omega (arith, few, own))
        (events_behind scene first m.own (source_term_events site t) (write_events site target) (term_accesses t) (term_counted site t) own has))

  -- All paths.

  lanes_aim : (One : ℕ → (b d : Building) → ℕ → Type 0) → ((n : ℕ) (b d : Building) (k : ℕ) → One n b d k → Aims scene b.draft d.draft) → (count first : ℕ) (old new : Building) (next : ℕ) → MadeLanes One count first old new next
      → Aims scene old.draft new.draft
  lanes_aim One each zero first old new next m = aims_none scene old.draft new.draft (ap (λ (b : Building). b.draft) m.0)
  lanes_aim One each (suc n) first old new next m = aims_again scene old.draft (m.0).draft new.draft (lanes_aim One each n first old m.0 m.1.0 m.1.1.0) (each n m.0 new next m.1.1.1)

  pub tests_aim : (around : Around) → BlockStandsIn scene around → (site : Site) (first : ℕ) (t : Term) → AreFewIn first t → AreAccesses scene first (source_term_events site t) → (count : ℕ) (old new : Building) (next : ℕ) (tests : List ℕ) → MadeTests scene around first t count old new next tests
      → Aims scene old.draft new.draft
  tests_aim around stands site first t few has zero old new next tests m = aims_none scene old.draft new.draft (ap (λ (b : Building). b.draft) m.0)
  tests_aim around stands site first t few has (suc n) old new next tests m =
      let one : AimsTerm scene (lane_of around n) stands (m.0).values.current.items t (m.0).draft new.draft m.1.1.1.0 =
      term_aims scene (lane_of around n) stands (m.0).values.current.items site t (m.0).draft new.draft (m.0).accesses new.accesses first next m.1.1.1.0 (m.1.1.1.1.1.0).term few has in
      aims_again scene old.draft (m.0).draft new.draft (tests_aim around stands site first t few has n old m.0 m.1.0 m.1.1.0 m.1.1.1.1.0) one.aims

  arm_aims : (Inner : Commanding) (around : Around) (holds : Truth) (tests : List ℕ) (old new : Building) (first next : ℕ) (lefts : List Left) (m : MadeArm Inner around holds tests old new first next lefts)
      → Aims scene m.begin.draft m.inside.draft → Aims scene old.draft new.draft
  arm_aims Inner around holds tests old new first next lefts m inner =
      subst (λ (d : Draft). Aims scene old.draft d) (sym m.draft)
      (aims_again scene old.draft m.guarded m.inside.draft (aims_plain scene old.draft m.guarded (guards_used scene (no_sites scene) holds around.guards.now tests (length tests) old.draft m.guarded m.arm.guards.now m.guards))
      (subst (λ (d : Draft). Aims scene d m.inside.draft) m.begin_draft inner))

  still_aims : (old new : Building) → new ≡ old → Aims scene old.draft new.draft
  still_aims old new still = aims_none scene old.draft new.draft (ap (λ (b : Building). b.draft) still)

  view_aims : (hidden : List Hidden) (form : ViewPlan) (around : Around) (site : Site) (old new : Building) (first next : ℕ) → BlockStandsIn scene around → MadeView scene hidden form around old new first next → first + plan_accesses form < 2 ^ 32
      → AreAccesses scene first (source_terms_events site (terms (offsets_of form))) → Aims scene old.draft new.draft
  view_aims [] form around site old new first next s m few has = still_aims old new m.still
  view_aims (h ∷ hs) form around site old new first next s m few has =
      lanes_aim (λ n b d k. MadeKept scene (lane_of around n) first h.entity (offsets_of form) b d k) (λ n b d k one. kept_aims (lane_of around n) s site first h.entity (offsets_of form) b d k one few has) (paths_counted around) first old new next m

  -- All commands.

  mutual
    command_aims : (a : Action) (r : source.Around) (around : Around) (old new : Building) (first next : ℕ) → BlockStandsIn scene around → (m : MadeCommand scene a around old new first next) → StoresReach a → 0 < paths_counted around → first + accesses_of a < 2 ^ 32
        → AreAccesses scene first (events r a) → Aims scene old.draft new.draft
    command_aims (action id place (lets name declared (Some value))) r around old new first next s m is some few has =
        lanes_aim (λ n b d k. MadeAssigned scene (lane_of around n) first (entity_number name.entity) value b d k)
        (λ n b d k one. assigned_aims (lane_of around n) s (site_of r id) first (entity_number name.entity) value b d k one (omega (arith, few)) (events_front scene first (source_term_events (site_of r id) value) (assigned name.entity ∷ []) has)) (paths_counted around) first old new next m
    command_aims (action id place (lets name declared None)) r around old new first next s m is some few has =
        lanes_aim (λ n b d k. MadeCleared scene (lane_of around n) (entity_number name.entity) b d × (k ≡ first))
        (λ n b d k one. cleared_aims (lane_of around n) s (site_of r id) (entity_number name.entity) b d one.0) (paths_counted around) first old new next m
    command_aims (action id place (assigns target value)) r around old new first next s m is some few has =
        lanes_aim (λ n b d k. MadeAssigned scene (lane_of around n) first (entity_number target.entity) value b d k)
        (λ n b d k one. assigned_aims (lane_of around n) s (site_of r id) first (entity_number target.entity) value b d k one (omega (arith, few)) (events_front scene first (source_term_events (site_of r id) value) (assigned target.entity ∷ []) has)) (paths_counted around) first old new next m
    command_aims (action id place (stores target value)) r around old new first next s m is some few has =
        lanes_aim (λ n b d k. MadeStored scene (lane_of around n) first target value b d k)
        (λ n b d k one. stored_aims (lane_of around n) s (site_of r id) first target value b d k one is (omega (arith, few)) has) (paths_counted around) first old new next m
    command_aims (action id place (reduces target op value)) r around old new first next s m is some few has =
        lanes_aim (λ n b d k. MadeReduced scene (lane_of around n) first (entity_number target.entity) op value b d k)
        (λ n b d k one. reduced_aims (lane_of around n) s (site_of r id) first (entity_number target.entity) op value b d k one (omega (arith, few)) (events_front scene first (source_term_events (site_of r id) value) (assigned target.entity ∷ []) has)) (paths_counted around) first old new next m
    command_aims (action id place (decides test chosen other)) r around old new first next s m is some few has =
        let less : AreFewIn first test = omega (arith, few) in
        let many : length m.tests ≡ paths_counted around = (tests_same scene around first test (paths_counted around) old m.tested m.own m.tests m.test).1 in
        let some_tests : 0 < length m.tests = subst (λ (n : ℕ). 0 < n) (sym many) some in
        let own = (tests_number scene around first test less (paths_counted around) old m.tested m.own m.tests some m.test).next_is in
        let some_in : 0 < paths_counted m.chosen.arm = some_arm (MadeCommand scene chosen) around true m.tests m.tested m.after_chosen m.own m.behind m.chosen_left m.chosen some_tests in
        let few_in : m.own + accesses_of chosen < 2 ^ 32 = omega (arith, few, own) in
        let behind = (command_reached scene chosen m.chosen.arm m.chosen.begin m.chosen.inside m.own m.behind m.chosen.command is.0 some_in few_in).1.next_is in
        let test_events = source_term_events (site_of r id) test in
        let one = events (in_arm r id true) chosen in
        let two = other_events (in_arm r id false) other in
        let has_arms = events_behind scene first m.own test_events (one ++ two) (term_accesses test) (term_counted (site_of r id) test) own has in
        aims_again scene old.draft m.tested.draft new.draft (tests_aim around s (site_of r id) first test less (events_front scene first test_events (one ++ two) has) (paths_counted around) old m.tested m.own m.tests m.test)
        (aims_again scene m.tested.draft m.after_chosen.draft new.draft
        (arm_aims (MadeCommand scene chosen) around true m.tests m.tested m.after_chosen m.own m.behind m.chosen_left m.chosen
        (command_aims chosen (in_arm r id true) m.chosen.arm m.chosen.begin m.chosen.inside m.own m.behind
        (stands_arm scene (MadeCommand scene chosen) around true m.tests m.tested m.after_chosen m.own m.behind m.chosen_left m.chosen s many) m.chosen.command is.0 some_in few_in (events_front scene m.own one two has_arms)))
        (aims_again scene m.after_chosen.draft m.after_other.draft new.draft
        (other_aims other (in_arm r id false) around m.tests m.after_chosen m.after_other m.behind next m.other_left s many m.other is.1 some_tests (omega (arith, few, own, behind))
        (events_behind scene m.own m.behind one two (accesses_of chosen) (events_counted (in_arm r id true) chosen) behind has_arms))
        (aims_plain scene m.after_other.draft new.draft (choices_used scene (no_sites scene) m.tests m.joined.choices (length m.joined.choices) m.after_other.draft new.draft m.joined.middle new.values m.joined.choose))))
    command_aims (action id place (blocks body)) r around old new first next s m is some few has = groups_aim body r around old new first next s m is some (omega (arith, few)) has
    command_aims (action id place (lets_memory name shape shape_places value)) r around old new first next s m is some few has = still_aims old new m.still
    command_aims (action id place (views name parent form)) r around old new first next s m is some few has =
        view_aims (hidden_in (way_of (known_in scene) name)) form around (site_of r id) old new first next s m (omega (arith, few)) has
    command_aims (action id place (calls function arguments)) r around old new first next s m is some few has = still_aims old new m.still
    command_aims (action id place (repeats test body)) r around old new first next s m is some few has = still_aims old new m.still
    command_aims (action id place (counts iterator declared low high factor body combine combine_place)) r around old new first next s m is some few has = still_aims old new m.still

    other_aims : (other : MaybeAction) (r : source.Around) (around : Around) (tests : List ℕ) (old new : Building) (first next : ℕ) (lefts : List Left) → BlockStandsIn scene around → length tests ≡ paths_counted around
        → (m : MadeOther scene other around tests old new first next lefts) → StoresReachOther other → 0 < length tests → first + other_accesses other < 2 ^ 32 → AreAccesses scene first (other_events r other) → Aims scene old.draft new.draft
    other_aims no_action r around tests old new first next lefts s many m is some few has = still_aims old new m.still
    other_aims (one_action a) r around tests old new first next lefts s many m is some few has =
        arm_aims (MadeCommand scene a) around false tests old new first next lefts m
        (command_aims a r m.arm m.begin m.inside first next (stands_arm scene (MadeCommand scene a) around false tests old new first next lefts m s many) m.command is
        (some_arm (MadeCommand scene a) around false tests old new first next lefts m some) few has)

    actions_aim : (part : Actions) (r : source.Around) (around : Around) (old new : Building) (first next : ℕ) → BlockStandsIn scene around → (m : MadeActions scene part around old new first next) → StoresReachPart part → 0 < paths_counted around
        → first + part_accesses part < 2 ^ 32 → AreAccesses scene first (part_events r part) → Aims scene old.draft new.draft
    actions_aim no_actions r around old new first next s m is some few has = still_aims old new m.still
    actions_aim (action_then a rest) r around old new first next s m is some few has =
        let less : first + accesses_of a < 2 ^ 32 = omega (arith, few) in
        let own = (command_reached scene a around old m.middle first m.own m.one is.0 some less).1.next_is in
        aims_again scene old.draft m.middle.draft new.draft (command_aims a r around old m.middle first m.own s m.one is.0 some less (events_front scene first (events r a) (part_events r rest) has))
        (actions_aim rest r around m.middle new m.own next s m.rest is.1 some (omega (arith, few, own)) (events_behind scene first m.own (events r a) (part_events r rest) (accesses_of a) (events_counted r a) own has))

    groups_aim : (body : Groups) (r : source.Around) (around : Around) (old new : Building) (first next : ℕ) → BlockStandsIn scene around → (m : MadeGroups scene body around old new first next) → StoresReachGroups body → 0 < paths_counted around
        → first + groups_accesses body < 2 ^ 32 → AreAccesses scene first (groups_events r body) → Aims scene old.draft new.draft
    groups_aim no_groups r around old new first next s m is some few has = still_aims old new m.still
    groups_aim (group_then part rest) r around old new first next s m is some few has =
        let less : first + part_accesses part < 2 ^ 32 = omega (arith, few) in
        let own = (actions_reached scene part around old m.middle first m.own m.one is.0 some less).1.next_is in
        aims_again scene old.draft m.middle.draft new.draft (actions_aim part r around old m.middle first m.own s m.one is.0 some less (events_front scene first (part_events r part) (groups_events r rest) has))
        (groups_aim rest r around m.middle new m.own next s m.rest is.1 some (omega (arith, few, own)) (events_behind scene first m.own (part_events r part) (groups_events r rest) (part_accesses part) (part_counted r part) own has))

  -- Blocks.

  -- the events of a command that stand among those of the program are its accesses
  pub stand_accesses : (c : Located) → StandsAmong 0 (trace (program_seen scene.program.now)) c → AreAccesses scene c.first (events c.around c.command)
  stand_accesses c s i a at =
      ap (λ (k : ℕ). slice_get (accesses_in (trace (program_seen scene.program.now))) k) (moved (length (accesses_in s.before)) c.first i s.counted)
      ∙ (ap (λ (l : List SourceAccess). slice_get l (length (accesses_in s.before) + i)) whole
      ∙ behind_place (accesses_in s.before) (accesses_in (events c.around c.command) ++ accesses_in s.after) i a (in_front (accesses_in (events c.around c.command)) (accesses_in s.after) i a at))
    where
      moved : (n f i : ℕ) → 0 + n ≡ f → f + i ≡ n + i
      moved n f i e = omega (arith, e)

      whole : accesses_in (trace (program_seen scene.program.now)) ≡ accesses_in s.before ++ (accesses_in (events c.around c.command) ++ accesses_in s.after)
      whole =
          ap accesses_in s.all
          ∙ (accesses_joined s.before (events c.around c.command ++ s.after) ∙ ap (λ (l : List SourceAccess). accesses_in s.before ++ l) (accesses_joined (events c.around c.command) s.after))

  -- so do those of each phase, and its tests
  pub straights_among : (cs : List Located) → HasStraight (phases_of (program_seen scene.program.now)) cs → AllByRecursion (λ (c : Located). StandsAmong 0 (trace (program_seen scene.program.now)) c) cs
  straights_among cs has =
      each_of (λ (c : Located). StandsAmong 0 (trace (program_seen scene.program.now)) c) cs
      (λ c g. straight_stands (program_seen scene.program.now) cs c (straight_either (phases_of (program_seen scene.program.now)) (idle_phases_of (program_seen scene.program.now)) cs (inl has)) g)

  pub test_among : (tested : Located) → HasTest (phases_of (program_seen scene.program.now)) tested → StandsAmong 0 (trace (program_seen scene.program.now)) tested
  test_among tested has = test_stands (program_seen scene.program.now) tested (test_either (phases_of (program_seen scene.program.now)) (idle_phases_of (program_seen scene.program.now)) tested (inl has))

  pub blocks_aim : (around : Around) → BlockStandsIn scene around → 0 < paths_counted around → (cs : List Located) (from : ℕ) (old new : Building) → MadeEach scene around cs old new → AreAlong from cs
      → AllByRecursion (λ (c : Located). StandsAmong 0 (trace (program_seen scene.program.now)) c) cs → Aims scene old.draft new.draft
  blocks_aim around stands some [] from old new m along stand = still_aims old new m
  blocks_aim around stands some (c ∷ cs) from old new (mid, (next, (m, rest))) along stand =
      aims_again scene old.draft mid.draft new.draft (command_aims c.command c.around around old mid c.first next stands m along.0.reaches some along.0.few (stand_accesses c stand.0))
      (blocks_aim around stands some cs (c.first + accesses_of c.command) mid new rest along.1 stand.1)

  -- the test of a command
  pub test_aims : (around : Around) → BlockStandsIn scene around → (tested : Located) (t : Term) → core.test_of (core.action_form_of tested.command) ≡ Some t → StandsAmong 0 (trace (program_seen scene.program.now)) tested → AreFewIn tested.first t
      → (count : ℕ) (old new : Building) (next : ℕ) (tests : List ℕ) → MadeTests scene around tested.first t count old new next tests → Aims scene old.draft new.draft
  test_aims around stands tested t has stand few count old new next tests m =
      let b = test_begins tested.around tested.command t has in
      tests_aim around stands b.site tested.first t few (events_front scene tested.first (source_term_events b.site t) b.rest (subst (λ (es : List SourceEvent). AreAccesses scene tested.first es) b.are (stand_accesses tested stand))) count old new next tests m
