-- What is put down for a whole command, with the arms of an `if`, by recursion on it and on what was put down for it.
use Rattle.std.proofs.Common.{◌≡◌, ℕ, ◌+◌, ◌^◌, ◌<◌, List, Some, None, sym, ap, ◌∙◌, subst, arith, length}
use Rattle.std.specs.Prelude.{Bool as Truth, true, false, [], ◌∷◌, ◌++◌, Option}
use Rattle.dh_base.specs.declared.places.Place.{Place}
use Rattle.dh_value.specs.declared.kinds.Kind.{Kind}
use Rattle.dh_tree.specs.Memories.{table_of}
use Rattle.dh_tree.specs.PlainTrees as plain
use Rattle.dh_tree.specs.PlainTrees.{Term, Action, action, ActionForm, lets, lets_memory, views, assigns, stores, reduces, calls, blocks, decides, repeats, counts, MaybeAction, no_action, one_action, Actions, no_actions, action_then, Groups, no_groups, group_then, ViewPlan}
use Rattle.dh_tree.specs.Seen.{program_seen, terms}
use Rattle.dh_tree.specs.ViewOffsets.{offsets_of}
use Rattle.dh_meaning.specs.AccessNumbers.{accesses_of, form_accesses, groups_accesses, inner_accesses, other_accesses, own_accesses, part_accesses, plan_accesses, term_accesses, terms_accesses}
use Rattle.dh_meaning.specs.CoreOf.{entity_number, way_of}
use Rattle.dh_meaning.specs.Ways.{Hidden, hidden_in}
use Rattle.dh_expressions.specs.declared.accesses.Accesses.{Accesses}
use Rattle.dh_expressions.specs.declared.drafts.Draft.{Draft}
use Rattle.dh_expressions.specs.declared.paths.Level.{Level}
use Rattle.dh_expressions.specs.declared.scenes.Around.{Around}
use Rattle.dh_expressions.specs.declared.scenes.Scene.{Scene}
use Rattle.dh_expressions.specs.Drafted.{BlockBegun, FitsStep, BlockStep}
use Rattle.dh_expressions.specs.Evaluated.{known_in}
use Rattle.dh_expressions.proofs.Pushing.{begun_later, fits_before}
use Rattle.dh_formed.specs.Formed.{BlockSite}
use Rattle.dh_commands.specs.declared.buildings.Building.{Building}
use Rattle.dh_commands.specs.declared.choices.Left.{Left}
use Rattle.dh_commands.specs.LanesRun.{paths_counted}
use Rattle.dh_commands.specs.MadeCommands.{Commanding, MadeActionForm, MadeActions, MadeArm, MadeCommand, MadeGroups, MadeOther, MadeView}
use Rattle.dh_laid.specs.BlockSites.{action_sites, actions_sites, all_there, command_sites, groups_sites, other_sites, target_sites, term_sites, terms_sites, view_sites}
use Rattle.dh_laid.specs.LaidNumbers.{IsAccessForm, StoresReach, StoresReachForm, StoresReachGroups, StoresReachOther, StoresReachPart}
use Rattle.dh_laid.proofs.AccessesLaid.{actions_lays, arm_lays, command_lays, groups_lays, other_lays, tests_lay}
use Rattle.dh_laid.proofs.ArmsLaid.{arm_guards_form}
use Rattle.dh_laid.proofs.ChoicesLaid.{choices_form}
use Rattle.dh_laid.proofs.CommandsNumbered.{actions_reached, aims_within, command_reached, some_arm, tests_number}
use Rattle.dh_laid.proofs.ValuesLogged.{tests_same}
use Rattle.dh_reached.specs.IndicesKept.{ActionKeeps, ActionsKeep, CommandKeeps, GroupsKeep, OtherKeeps, ViewKeeps}
use Rattle.dh_reached.specs.Puts.{PutsDown}
use Rattle.dh_reached.specs.ReadsTold.{ActionReads, ActionsRead, BlockShares, CommandReads, GroupsRead, OtherReads}
use Rattle.dh_reached.proofs.CommandsPut.{CommandPut, arm_paths, assigned_put, choices_none, cleared_put, down_before, down_behind, guards_none, kept_put, put_as, put_idle, put_none, put_then, reduced_put, spread_arm, stored_put, tests_put}
use Rattle.dh_reached.proofs.LanesPut.{Behind}
use Rattle.dh_reached.proofs.NoUses.{AddsNone}
use Rattle.dh_reached.proofs.PlacesOf.{PlacesAt, actions_long, places_back, places_front, places_long, places_there, stored_long, there_long}
use Rattle.dh_reached.specs.ReachedBlocks.{StandsSpread}
use Rattle.dh_reached.proofs.TermsPut.{sites_long}

plus_none : (n : ℕ) → n ≡ n + 0
plus_none n = omega arith

none_plus : (n : ℕ) → n ≡ 0 + n
none_plus n = omega arith

store_long : (scene : Scene) (around : Around) (t : Term) (place : Place) (j : Option Kind) (form : plain.TermForm) → IsAccessForm form
    → length (term_sites scene around t ++ target_sites scene around (plain.term place j form)) ≡ term_accesses t + form_accesses form
store_long scene around t place j form is = stored_long scene around t (plain.term place j form) is

module _ (x : BlockStep) (sites : ℕ → Option BlockSite) (scene : Scene) (table : x.start.table ≡ table_of (program_seen scene.program.now)) (IsRead : ℕ → Type 0) (paths : ℕ) (some : 0 < paths) (shares : BlockShares IsRead scene sites) where
  abbrev Stood : Accesses → (upto : ℕ) → Type 0
  Stood a upto = Behind x sites scene table IsRead paths a upto

  abbrev PutHere : (first count : ℕ) → (old new : Building) → Type 0
  PutHere first count old new = CommandPut x sites scene table IsRead paths some shares first count old new

  -- an arm, taken back
  arm_put : (Inner : Commanding) (around : Around) (holds : Truth) (tests : List ℕ) (old new : Building) (first next : ℕ) (lefts : List Left) (m : MadeArm Inner around holds tests old new first next lefts) (count : ℕ)
      → PutHere first count m.begin m.inside → PutHere first count old new
  arm_put Inner around holds tests old new first next lefts m count h = record {
    down = subst (λ (d : Draft). PutsDown x sites first count old.draft d) (sym m.draft)
        (down_behind x sites first count old.draft m.guarded m.inside.draft (guards_none holds around.guards.now tests (length tests) old.draft m.guarded m.arm.guards.now m.guards)
        (subst (λ (d : Draft). PutsDown x sites first count d m.inside.draft) m.begin_draft h.down));
    behind = subst (λ (a : Accesses). Stood a (first + count)) (sym m.accesses) h.behind;
  }

  -- what stands where an arm begins
  arm_begun : (Inner : Commanding) (around : Around) (holds : Truth) (tests : List ℕ) (old new : Building) (first next : ℕ) (lefts : List Left) (m : MadeArm Inner around holds tests old new first next lefts) → BlockBegun x old.draft → BlockBegun x m.begin.draft
  arm_begun Inner around holds tests old new first next lefts m b =
      subst (λ (d : Draft). BlockBegun x d) (sym m.begin_draft)
      (begun_later old.draft m.guarded x (arm_guards_form holds around.guards.now tests (length tests) old.draft m.guarded m.arm.guards.now m.guards).extends b)

  -- an `if` behind its parts
  joined_put : (first t c e own behind : ℕ) (old tested after_chosen after_other new : Building) → own ≡ first + t → behind ≡ own + c → PutHere first t old tested → PutHere own c tested after_chosen → PutHere behind e after_chosen after_other
      → AddsNone after_other.draft new.draft → new.accesses ≡ after_other.accesses → PutHere first (t + (c + e)) old new
  joined_put first t c e own behind old tested after_chosen after_other new is is_behind h k l none same = record {
    down = down_before x sites first (t + (c + e)) old.draft after_other.draft new.draft all.down none;
    behind = subst (λ (a : Accesses). Stood a (first + (t + (c + e)))) (sym same) all.behind;
  }
    where
      all : PutHere first (t + (c + e)) old after_other
      all = put_then x sites scene table IsRead paths some shares first t (c + e) old tested after_other h
          (put_then x sites scene table IsRead paths some shares (first + t) c e tested after_chosen after_other (subst (λ (n : ℕ). PutHere n c tested after_chosen) is k)
          (subst (λ (n : ℕ). PutHere n e after_chosen after_other) (is_behind ∙ ap (λ n. n + c) is) l))

  -- the offsets of a view, where a variable keeps one on its way
  view_put : (hs : List Hidden) (form : ViewPlan) (around : Around) (old new : Building) (first next : ℕ) → MadeView scene hs form around old new first next → StandsSpread scene around → paths_counted around ≡ paths
      → first + (plan_accesses form + 0) < 2 ^ 32 → PlacesAt sites first (view_sites scene around hs form) → ViewKeeps x scene around.levels.now hs (offsets_of form) → FitsStep x new.draft → BlockBegun x old.draft → Stood old.accesses first
      → PutHere first (plan_accesses form + 0) old new
  view_put [] form around old new first next m stands same few at keeps f b h =
      put_as x sites scene table IsRead paths some shares first 0 (plan_accesses form + 0) old new
      (omega (arith, (let e : terms_accesses (terms (offsets_of form)) ≡ 0 = ap (λ (os : List Term). terms_accesses (terms os)) keeps in e)))
      (put_none x sites scene table IsRead paths some shares first old new m.still h)
  view_put (k ∷ ks) form around old new first next m stands same few at keeps f b h =
      put_as x sites scene table IsRead paths some shares first (terms_accesses (terms (offsets_of form))) (plan_accesses form + 0) old new (plus_none (plan_accesses form))
      (kept_put x sites scene table IsRead paths some shares around stands same first old new f b h k.entity (offsets_of form) next m (omega (arith, few)) (places_there sites first (terms_sites scene around (terms (offsets_of form))) at) keeps)

  mutual
    pub command_put : (a : Action) (around : Around) (old new : Building) (first next : ℕ) (m : MadeCommand scene a around old new first next) → StoresReach a → StandsSpread scene around → paths_counted around ≡ paths
        → first + accesses_of a < 2 ^ 32 → PlacesAt sites first (command_sites scene a around old new first next m) → CommandKeeps x scene around.levels.now a → CommandReads IsRead a first → FitsStep x new.draft → BlockBegun x old.draft
        → Stood old.accesses first → PutHere first (accesses_of a) old new
    command_put (action id place form) around old new first next m is stands same few at keeps reads f b h = form_put form around old new first next m is stands same few at keeps reads f b h

    form_put : (form : ActionForm) (around : Around) (old new : Building) (first next : ℕ) (m : MadeActionForm scene form around old new first next) → StoresReachForm form → StandsSpread scene around → paths_counted around ≡ paths
        → first + (own_accesses form + inner_accesses form) < 2 ^ 32 → PlacesAt sites first (action_sites scene form around old new first next m) → ActionKeeps x scene around.levels.now form → ActionReads IsRead form first → FitsStep x new.draft
        → BlockBegun x old.draft → Stood old.accesses first → PutHere first (own_accesses form + inner_accesses form) old new
    form_put (lets name declared (Some value)) around old new first next m is stands same few at keeps reads f b h =
        put_as x sites scene table IsRead paths some shares first (term_accesses value) (term_accesses value + 0) old new (plus_none (term_accesses value))
        (assigned_put x sites scene table IsRead paths some shares around stands same first old new f b h (entity_number name.entity) value next m (omega (arith, few)) (places_there sites first (term_sites scene around value) at) keeps)
    form_put (lets name declared None) around old new first next m is stands same few at keeps reads f b h =
        put_as x sites scene table IsRead paths some shares first 0 (0 + 0) old new (omega arith) (cleared_put x sites scene table IsRead paths some shares around stands same first old new f b h (entity_number name.entity) next m)
    form_put (assigns target value) around old new first next m is stands same few at keeps reads f b h =
        put_as x sites scene table IsRead paths some shares first (term_accesses value) (term_accesses value + 0) old new (plus_none (term_accesses value))
        (assigned_put x sites scene table IsRead paths some shares around stands same first old new f b h (entity_number target.entity) value next m (omega (arith, few)) (places_there sites first (term_sites scene around value) at) keeps)
    form_put (stores (plain.term to j form) value) around old new first next m is stands same few at keeps reads f b h =
        put_as x sites scene table IsRead paths some shares first (term_accesses value + form_accesses form) (term_accesses value + form_accesses form + 0) old new (plus_none (term_accesses value + form_accesses form))
        (stored_put x sites scene table IsRead paths some shares around stands same first old new f b h to j form value next m is (omega (arith, few))
        (places_there sites first (term_sites scene around value ++ target_sites scene around (plain.term to j form)) at) keeps.0 keeps.1 reads (store_long scene around value to j form is) (aims_within (plain.term to j form) is))
    form_put (reduces target op value) around old new first next m is stands same few at keeps reads f b h =
        put_as x sites scene table IsRead paths some shares first (term_accesses value) (term_accesses value + 0) old new (plus_none (term_accesses value))
        (reduced_put x sites scene table IsRead paths some shares around stands same first old new f b h (entity_number target.entity) op value next m (omega (arith, few)) (places_there sites first (term_sites scene around value) at) keeps)
    form_put (decides test chosen other) around old new first next m is stands same few at keeps reads f b h =
        let some_here : 0 < paths_counted around = subst (λ (n : ℕ). 0 < n) (sym same) some in
        let small : first + term_accesses test < 2 ^ 32 = omega (arith, few) in
        let many : length m.tests ≡ paths_counted around = (tests_same scene around first test (paths_counted around) old m.tested m.own m.tests m.test).1 in
        let some_tests : 0 < length m.tests = subst (λ (n : ℕ). 0 < n) (sym many) some_here in
        let own : m.own ≡ first + term_accesses test = (tests_number scene around first test small (paths_counted around) old m.tested m.own m.tests some_here m.test).next_is in
        let arm_stands = spread_arm scene (MadeCommand scene chosen) around true m.tests m.tested m.after_chosen m.own m.behind m.chosen_left m.chosen stands many in
        let few_chosen : m.own + accesses_of chosen < 2 ^ 32 = omega (arith, few, own) in
        let behind : m.behind ≡ m.own + accesses_of chosen =
        (command_reached scene chosen m.chosen.arm m.chosen.begin m.chosen.inside m.own m.behind m.chosen.command is.0
        (some_arm (MadeCommand scene chosen) around true m.tests m.tested m.after_chosen m.own m.behind m.chosen_left m.chosen some_tests) few_chosen).1.next_is in
        let inner = command_lays scene chosen m.chosen.arm m.chosen.begin m.chosen.inside m.own m.behind arm_stands.stands m.chosen.command in
        let e_tests = (tests_lay scene around first test (paths_counted around) old m.tested m.own m.tests stands.stands m.test).extends in
        let e_chosen = (arm_lays (MadeCommand scene chosen) around true m.tests m.tested m.after_chosen m.own m.behind m.chosen_left m.chosen inner).extends in
        let e_other = (other_lays scene other around m.tests m.after_chosen m.after_other m.behind next m.other_left stands.stands many m.other).extends in
        let e_joined = (choices_form m.tests m.joined.choices (length m.joined.choices) m.after_other.draft new.draft m.joined.middle new.values m.joined.choose).extends in
        let f_other = fits_before m.after_other.draft new.draft x e_joined f in
        let f_chosen = fits_before m.after_chosen.draft m.after_other.draft x e_other f_other in
        let f_tested = fits_before m.tested.draft m.after_chosen.draft x e_chosen f_chosen in
        let b_tested = begun_later old.draft m.tested.draft x e_tests b in
        let b_chosen = begun_later m.tested.draft m.after_chosen.draft x e_chosen b_tested in
        let behind_at : PlacesAt sites m.own (command_sites scene chosen m.chosen.arm m.chosen.begin m.chosen.inside m.own m.behind m.chosen.command ++ other_sites scene other around m.tests m.after_chosen m.after_other m.behind next m.other_left m.other) =
        subst (λ (n : ℕ). PlacesAt sites n (command_sites scene chosen m.chosen.arm m.chosen.begin m.chosen.inside m.own m.behind m.chosen.command ++ other_sites scene other around m.tests m.after_chosen m.after_other m.behind next m.other_left m.other)) (sym own)
        (places_back sites first (term_accesses test) (all_there (term_sites scene around test)) _ (there_long (term_sites scene around test) ∙ sites_long scene around test) at) in
        let tested : PutHere first (term_accesses test) old m.tested =
        tests_put x sites scene table IsRead paths some shares around stands same first old m.tested f_tested b h test m.own m.tests m.test small
        (places_there sites first (term_sites scene around test) (places_front sites first (all_there (term_sites scene around test)) _ at)) keeps.0 in
        let one : PutHere m.own (accesses_of chosen) m.tested m.after_chosen =
        arm_put (MadeCommand scene chosen) around true m.tests m.tested m.after_chosen m.own m.behind m.chosen_left m.chosen (accesses_of chosen)
        (command_put chosen m.chosen.arm m.chosen.begin m.chosen.inside m.own m.behind m.chosen.command is.0 arm_stands
        (arm_paths (MadeCommand scene chosen) around true m.tests m.tested m.after_chosen m.own m.behind m.chosen_left m.chosen many ∙ same) few_chosen
        (places_front sites m.own (command_sites scene chosen m.chosen.arm m.chosen.begin m.chosen.inside m.own m.behind m.chosen.command) _ behind_at)
        (subst (λ (ls : List Level). CommandKeeps x scene ls chosen) (sym m.chosen.levels) keeps.1.0) (subst (λ (n : ℕ). CommandReads IsRead chosen n) (sym own) reads.0)
        (subst (λ (d : Draft). FitsStep x d) m.chosen.draft f_chosen) (arm_begun (MadeCommand scene chosen) around true m.tests m.tested m.after_chosen m.own m.behind m.chosen_left m.chosen b_tested)
        (subst (λ (a : Accesses). Stood a m.own) (sym m.chosen.begin_accesses) (subst (λ (n : ℕ). Stood m.tested.accesses n) (sym own) tested.behind))) in
        let two : PutHere m.behind (other_accesses other) m.after_chosen m.after_other =
        other_put other around m.tests m.after_chosen m.after_other m.behind next m.other_left m.other is.1 stands same many (omega (arith, few, own, behind))
        (subst (λ (n : ℕ). PlacesAt sites n (other_sites scene other around m.tests m.after_chosen m.after_other m.behind next m.other_left m.other)) (sym behind)
        (places_back sites m.own (accesses_of chosen) (command_sites scene chosen m.chosen.arm m.chosen.begin m.chosen.inside m.own m.behind m.chosen.command) _
        (places_long scene chosen m.chosen.arm m.chosen.begin m.chosen.inside m.own m.behind m.chosen.command is.0) behind_at))
        keeps.1.1 (subst (λ (n : ℕ). OtherReads IsRead other n) (sym (behind ∙ ap (λ n. n + accesses_of chosen) own)) reads.1) f_other b_chosen (subst (λ (n : ℕ). Stood m.after_chosen.accesses n) (sym behind) one.behind) in
        joined_put first (term_accesses test) (accesses_of chosen) (other_accesses other) m.own m.behind old m.tested m.after_chosen m.after_other new own behind tested one two
        (choices_none m.tests m.joined.choices (length m.joined.choices) m.after_other.draft new.draft m.joined.middle new.values m.joined.choose) m.joined.same
    form_put (blocks body) around old new first next m is stands same few at keeps reads f b h =
        put_as x sites scene table IsRead paths some shares first (groups_accesses body) (0 + groups_accesses body) old new (none_plus (groups_accesses body))
        (groups_put body around old new first next m is stands same (omega (arith, few)) at keeps reads f b h)
    form_put (lets_memory name shape shape_places value) around old new first next m is stands same few at keeps reads f b h =
        put_as x sites scene table IsRead paths some shares first 0 (0 + 0) old new (omega arith) (put_none x sites scene table IsRead paths some shares first old new m.still h)
    form_put (views name parent form) around old new first next m is stands same few at keeps reads f b h =
        view_put (hidden_in (way_of (known_in scene) name)) form around old new first next m stands same few at keeps f b h
    form_put (calls function arguments) around old new first next m is stands same few at keeps reads f b h =
        put_as x sites scene table IsRead paths some shares first 0 (0 + 0) old new (omega arith) (put_none x sites scene table IsRead paths some shares first old new m.still h)
    form_put (repeats test body) around old new first next m is stands same few at keeps reads f b h =
        put_idle x sites scene table IsRead paths some shares first (term_accesses test + accesses_of body) old new m.still reads h
    form_put (counts iterator declared low high factor body combine combine_place) around old new first next m is stands same few at keeps reads f b h =
        put_idle x sites scene table IsRead paths some shares first (0 + (accesses_of body + other_accesses combine)) old new m.still reads h

    other_put : (other : MaybeAction) (around : Around) (tests : List ℕ) (old new : Building) (first next : ℕ) (lefts : List Left) (m : MadeOther scene other around tests old new first next lefts) → StoresReachOther other → StandsSpread scene around
        → paths_counted around ≡ paths → length tests ≡ paths_counted around → first + other_accesses other < 2 ^ 32 → PlacesAt sites first (other_sites scene other around tests old new first next lefts m) → OtherKeeps x scene around.levels.now other
        → OtherReads IsRead other first → FitsStep x new.draft → BlockBegun x old.draft → Stood old.accesses first → PutHere first (other_accesses other) old new
    other_put no_action around tests old new first next lefts m is stands same many few at keeps reads f b h = put_none x sites scene table IsRead paths some shares first old new m.still h
    other_put (one_action a) around tests old new first next lefts m is stands same many few at keeps reads f b h =
        arm_put (MadeCommand scene a) around false tests old new first next lefts m (accesses_of a)
        (command_put a m.arm m.begin m.inside first next m.command is (spread_arm scene (MadeCommand scene a) around false tests old new first next lefts m stands many)
        (arm_paths (MadeCommand scene a) around false tests old new first next lefts m many ∙ same) few at (subst (λ (ls : List Level). CommandKeeps x scene ls a) (sym m.levels) keeps) reads
        (subst (λ (d : Draft). FitsStep x d) m.draft f) (arm_begun (MadeCommand scene a) around false tests old new first next lefts m b) (subst (λ (c : Accesses). Stood c first) (sym m.begin_accesses) h))

    actions_put : (part : Actions) (around : Around) (old new : Building) (first next : ℕ) (m : MadeActions scene part around old new first next) → StoresReachPart part → StandsSpread scene around → paths_counted around ≡ paths
        → first + part_accesses part < 2 ^ 32 → PlacesAt sites first (actions_sites scene part around old new first next m) → ActionsKeep x scene around.levels.now part → ActionsRead IsRead part first → FitsStep x new.draft → BlockBegun x old.draft
        → Stood old.accesses first → PutHere first (part_accesses part) old new
    actions_put no_actions around old new first next m is stands same few at keeps reads f b h = put_none x sites scene table IsRead paths some shares first old new m.still h
    actions_put (action_then a rest) around old new first next m is stands same few at keeps reads f b h =
        let some_here : 0 < paths_counted around = subst (λ (n : ℕ). 0 < n) (sym same) some in
        let few_one : first + accesses_of a < 2 ^ 32 = omega (arith, few) in
        let own : m.own ≡ first + accesses_of a = (command_reached scene a around old m.middle first m.own m.one is.0 some_here few_one).1.next_is in
        let e_rest = (actions_lays scene rest around m.middle new m.own next stands.stands m.rest).extends in
        let e_one = (command_lays scene a around old m.middle first m.own stands.stands m.one).extends in
        let one : PutHere first (accesses_of a) old m.middle =
        command_put a around old m.middle first m.own m.one is.0 stands same few_one (places_front sites first (command_sites scene a around old m.middle first m.own m.one) _ at) keeps.0 reads.0 (fits_before m.middle.draft new.draft x e_rest f) b h in
        put_then x sites scene table IsRead paths some shares first (accesses_of a) (part_accesses rest) old m.middle new one
        (subst (λ (n : ℕ). PutHere n (part_accesses rest) m.middle new) own
        (actions_put rest around m.middle new m.own next m.rest is.1 stands same (omega (arith, few, own))
        (subst (λ (n : ℕ). PlacesAt sites n (actions_sites scene rest around m.middle new m.own next m.rest)) (sym own)
        (places_back sites first (accesses_of a) (command_sites scene a around old m.middle first m.own m.one) _ (places_long scene a around old m.middle first m.own m.one is.0) at))
        keeps.1 (subst (λ (n : ℕ). ActionsRead IsRead rest n) (sym own) reads.1) f (begun_later old.draft m.middle.draft x e_one b) (subst (λ (n : ℕ). Stood m.middle.accesses n) (sym own) one.behind)))

    groups_put : (body : Groups) (around : Around) (old new : Building) (first next : ℕ) (m : MadeGroups scene body around old new first next) → StoresReachGroups body → StandsSpread scene around → paths_counted around ≡ paths
        → first + groups_accesses body < 2 ^ 32 → PlacesAt sites first (groups_sites scene body around old new first next m) → GroupsKeep x scene around.levels.now body → GroupsRead IsRead body first → FitsStep x new.draft → BlockBegun x old.draft
        → Stood old.accesses first → PutHere first (groups_accesses body) old new
    groups_put no_groups around old new first next m is stands same few at keeps reads f b h = put_none x sites scene table IsRead paths some shares first old new m.still h
    groups_put (group_then part rest) around old new first next m is stands same few at keeps reads f b h =
        let some_here : 0 < paths_counted around = subst (λ (n : ℕ). 0 < n) (sym same) some in
        let few_one : first + part_accesses part < 2 ^ 32 = omega (arith, few) in
        let own : m.own ≡ first + part_accesses part = (actions_reached scene part around old m.middle first m.own m.one is.0 some_here few_one).1.next_is in
        let e_rest = (groups_lays scene rest around m.middle new m.own next stands.stands m.rest).extends in
        let e_one = (actions_lays scene part around old m.middle first m.own stands.stands m.one).extends in
        let one : PutHere first (part_accesses part) old m.middle =
        actions_put part around old m.middle first m.own m.one is.0 stands same few_one (places_front sites first (actions_sites scene part around old m.middle first m.own m.one) _ at) keeps.0 reads.0 (fits_before m.middle.draft new.draft x e_rest f) b h in
        put_then x sites scene table IsRead paths some shares first (part_accesses part) (groups_accesses rest) old m.middle new one
        (subst (λ (n : ℕ). PutHere n (groups_accesses rest) m.middle new) own
        (groups_put rest around m.middle new m.own next m.rest is.1 stands same (omega (arith, few, own))
        (subst (λ (n : ℕ). PlacesAt sites n (groups_sites scene rest around m.middle new m.own next m.rest)) (sym own)
        (places_back sites first (part_accesses part) (actions_sites scene part around old m.middle first m.own m.one) _ (actions_long scene part around old m.middle first m.own m.one is.0) at))
        keeps.1 (subst (λ (n : ℕ). GroupsRead IsRead rest n) (sym own) reads.1) f (begun_later old.draft m.middle.draft x e_one b) (subst (λ (n : ℕ). Stood m.middle.accesses n) (sym own) one.behind)))
