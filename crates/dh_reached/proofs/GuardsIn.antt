-- The guards of accesses in arms: where that of an access holds, so does that of the arm; and the arms of an `if` exclude
-- each other at each path.
use Rattle.std.proofs.Common.{◌≡◌, ℕ, zero, suc, ◌+◌, ◌<◌, List, Some, None, refl, sym, ap, ◌∙◌, subst, length}
use Rattle.std.specs.Prelude.{Bool as Truth, true, false, not, ◌&&◌, [], ◌∷◌, ◌++◌, slice_get, Option}
use Rattle.std.specs.List.{AllByRecursion}
use Rattle.dh_value.specs.declared.operators.Op.TheVariants.{Both}
use Rattle.dh_value.specs.Operations.{is_true, truth}
use Rattle.dh_tree.specs.PlainTrees as plain
use Rattle.dh_tree.specs.PlainTrees.{Term, Action, action, ActionForm, lets, lets_memory, views, assigns, stores, reduces, calls, blocks, decides, repeats, counts, MaybeAction, no_action, one_action, Actions, no_actions, action_then, Groups, no_groups, group_then, ViewPlan}
use Rattle.dh_tree.specs.Seen.{terms}
use Rattle.dh_tree.specs.ViewOffsets.{offsets_of}
use Rattle.dh_meaning.specs.AccessNumbers.{accesses_of, other_accesses, plan_accesses, term_accesses}
use Rattle.dh_plan.specs.Blocks.{is_on}
use Rattle.dh_plan.specs.declared.operations.OperationForm.TheVariants.{Compute, Constant, Select}
use Rattle.dh_expressions.specs.declared.drafts.Draft.{Draft}
use Rattle.dh_expressions.specs.declared.scenes.Around.{Around}
use Rattle.dh_expressions.specs.declared.scenes.Scene.{Scene}
use Rattle.dh_expressions.specs.Evaluated.{known_in}
use Rattle.dh_meaning.specs.CoreOf.{way_of}
use Rattle.dh_meaning.specs.Ways.{Hidden, hidden_in}
use Rattle.dh_expressions.specs.Drafted.{BlockBegun, FitsStep, Gives, BlockStep, holds, word_shown}
use Rattle.dh_expressions.specs.Shown.{guard_of}
use Rattle.dh_expressions.proofs.ListPlaces.{there}
use Rattle.dh_expressions.proofs.Pushing.{begun_later, computes, fits_before}
use Rattle.dh_formed.specs.Formed.{BlockSite}
use Rattle.dh_formed.proofs.ElementsFormed.{all_append, all_weaker}
use Rattle.dh_commands.specs.declared.buildings.Building.{Building}
use Rattle.dh_commands.specs.declared.choices.Left.{Left}
use Rattle.dh_commands.specs.Choosing.{MakesGuard, MakesGuards}
use Rattle.dh_commands.specs.LanesRun.{comes_out, paths_counted}
use Rattle.dh_commands.specs.MadeCommands.{Commanding, MadeActionForm, MadeActions, MadeArm, MadeArmGuard, MadeArmGuards, MadeCommand, MadeGroups, MadeGuard, MadeNot, MadeOther}
use Rattle.dh_commands.proofs.ArmGuards.{both_alone, both_made, guard_not, guards_more, guards_none, not_made}
use Rattle.dh_laid.specs.BlockSites.{action_sites, actions_sites, all_there, command_sites, groups_sites, none_there, other_sites, target_sites, term_sites, terms_sites, view_sites}
use Rattle.dh_laid.proofs.AccessesLaid.{actions_lays, arm_lays, command_lays, groups_lays, other_lays, tests_lay}
use Rattle.dh_laid.proofs.ArmsLaid.{arm_guards_form}
use Rattle.dh_laid.proofs.ChoicesLaid.{choices_form}
use Rattle.dh_laid.proofs.ValuesLogged.{tests_same}
use Rattle.dh_reached.specs.ReachedBlocks.{StandsSpread}
use Rattle.dh_reached.proofs.CommandsPut.{arm_paths, spread_arm}

-- Guards of arms, by what was put down for them.

guard_on : (guard : Option ℕ) (t : ℕ) (old new : Draft) (v : ℕ) → MadeGuard guard t old new v → MakesGuard old new guard (λ x. is_true (word_shown x t)) v
guard_on None t old new v m =
    subst (λ (e : Draft). MakesGuard old e None (λ x. is_true (word_shown x t)) v) (sym m.0) (subst (λ (k : ℕ). MakesGuard old old None (λ x. is_true (word_shown x t)) k) (sym m.1) (both_alone old t))
guard_on (Some g) t old new v m = both_made old new g t v (computes old new v (Compute Both g t) m (λ s first ws. refl))

arm_guard_on : (holds_so : Truth) (guard : Option ℕ) (test : ℕ) (old new : Draft) (v : ℕ) → MadeArmGuard holds_so guard test old new v → MakesGuard old new guard (λ x. comes_out holds_so (is_true (word_shown x test))) v
arm_guard_on true guard test old new v m =
    subst (λ (d : Draft). MakesGuard d new guard (λ x. is_true (word_shown x test)) v) m.comes_out.0
    (subst (λ (k : ℕ). MakesGuard m.middle new guard (λ x. is_true (word_shown x k)) v) m.comes_out.1 (guard_on guard m.outcome m.middle new v m.joins))
arm_guard_on false guard test old new v m = guard_not old m.middle new guard test m.outcome v (by m.comes_out) (guard_on guard m.outcome m.middle new v m.joins)
  where
    by : MadeNot test old m.middle m.outcome → Gives old m.middle m.outcome (λ x. truth (not (is_true (word_shown x test))))
    by k = not_made old k.first k.second m.middle k.no_value k.yes_value test m.outcome (truth false) (truth true) refl refl (computes old k.first k.no_value (Constant (truth false)) k.no_made (λ s first ws. refl))
        (computes k.first k.second k.yes_value (Constant (truth true)) k.yes_made (λ s first ws. refl)) (computes k.second m.middle m.outcome (Select test k.no_value k.yes_value) k.pushes (λ s first ws. refl))

arm_makes : (holds_so : Truth) (guards : List (Option ℕ)) (tests : List ℕ) (count : ℕ) (old new : Draft) (arm : List (Option ℕ)) → MadeArmGuards holds_so guards tests count old new arm → MakesGuards old new guards tests holds_so count arm
arm_makes holds_so guards tests zero old new arm m =
    subst (λ (d : Draft). MakesGuards old d guards tests holds_so 0 arm) (sym m.0) (subst (λ (gs : List (Option ℕ)). MakesGuards old old guards tests holds_so 0 gs) (sym m.1) (guards_none guards tests holds_so old))
arm_makes holds_so guards tests (suc n) old new arm m =
    subst (λ (gs : List (Option ℕ)). MakesGuards old new guards tests holds_so (suc n) gs) (sym m.1.1.1.1.1.1.1)
    (guards_more guards tests holds_so old m.0 new n m.1.1.0 m.1.1.1.0 m.1.0 m.1.1.1.1.1.0 (arm_makes holds_so guards tests n old m.0 m.1.0 m.1.1.1.1.0) (arm_guard_on holds_so (guard_of guards n) m.1.1.0 m.0 new m.1.1.1.0 m.1.1.1.1.1.1.0))

first_both : (a b : Truth) → (a && b) ≡ true → a ≡ true
first_both true b e = refl
first_both false b e = absurd (cc)

second_both : (a b : Truth) → (a && b) ≡ true → b ≡ true
second_both true b e = e
second_both false b e = absurd (cc)

module _ (x : BlockStep) where
  module _ (Inner : Commanding) (around : Around) (holds_so : Truth) (tests : List ℕ) (old new : Building) (first next : ℕ) (lefts : List Left) (m : MadeArm Inner around holds_so tests old new first next lefts)
      (f : FitsStep x m.guarded) (b : BlockBegun x old.draft) where
    arm_guards : MakesGuards old.draft m.guarded around.guards.now tests holds_so (length tests) m.arm.guards.now
    arm_guards = arm_makes holds_so around.guards.now tests (length tests) old.draft m.guarded m.arm.guards.now m.guards

    -- where the guard of an arm holds, that round it does, and the test is so
    pub arm_on : (n test : ℕ) → n < length tests → slice_get tests n ≡ Some test → holds x (guard_of m.arm.guards.now n) → holds x (guard_of around.guards.now n) × (comes_out holds_so (is_true (word_shown x test)) ≡ true)
    arm_on n test less at on =
        let both = sym (arm_guards.on x f b n test less at) ∙ on in
        (first_both (is_on x.first x.words (guard_of around.guards.now n)) (comes_out holds_so (is_true (word_shown x test))) both, second_both (is_on x.first x.words (guard_of around.guards.now n)) (comes_out holds_so (is_true (word_shown x test))) both)

  -- the guards of an access are those of an arm inside, or the very ones
  pub record IsGuardedIn (around : Around) (s : BlockSite) : Type 0 where
    pub long : length s.standing.guards ≡ paths_counted around
    pub on : (n : ℕ) → n < paths_counted around → holds x (guard_of s.standing.guards n) → holds x (guard_of around.guards.now n)

  abbrev pub EachPlace : (BlockSite → Type 0) → List (Option BlockSite) → Type 0
  EachPlace P ss = AllByRecursion (λ (o : Option BlockSite). (s : BlockSite) → o ≡ Some s → P s) ss

  pub none_place : (P : BlockSite → Type 0) (n : ℕ) → EachPlace P (none_there n)
  none_place P zero = tt
  none_place P (suc n) = (λ s e. absurd (cc), none_place P n)

  pub there_place : (P : BlockSite → Type 0) (ss : List BlockSite) → AllByRecursion P ss → EachPlace P (all_there ss)
  there_place P [] h = tt
  there_place P (s ∷ ss) h = (λ q e. subst P (same s q e) h.0, there_place P ss h.1)
    where
      same : (a b : BlockSite) → Some a ≡ Some b → a ≡ b
      same a b e = cc

  pub place_so : (P Q : BlockSite → Type 0) (ss : List (Option BlockSite)) → ((s : BlockSite) → P s → Q s) → EachPlace P ss → EachPlace Q ss
  place_so P Q ss so h = all_weaker (λ (o : Option BlockSite). (s : BlockSite) → o ≡ Some s → P s) (λ (o : Option BlockSite). (s : BlockSite) → o ≡ Some s → Q s) ss (λ o p s e. so s (p s e)) h

  pub place_both : (P : BlockSite → Type 0) (xs ys : List (Option BlockSite)) → EachPlace P xs → EachPlace P ys → EachPlace P (xs ++ ys)
  place_both P xs ys h k = all_append (λ (o : Option BlockSite). (s : BlockSite) → o ≡ Some s → P s) xs ys h k

  module _ (scene : Scene) (around : Around) where
    itself : (s : BlockSite) → s.standing.guards ≡ around.guards.now → IsGuardedIn around s
    itself s e = record { long = ap (λ (gs : List (Option ℕ)). length gs) e; on = λ n less on. subst (λ (gs : List (Option ℕ)). holds x (guard_of gs n)) e on }

    mutual
      pub term_guarded : (t : Term) → AllByRecursion (IsGuardedIn around) (term_sites scene around t)
      term_guarded (plain.term place k (plain.number negative z)) = tt
      term_guarded (plain.term place k (plain.truth_value v)) = tt
      term_guarded (plain.term place k (plain.named r)) = tt
      term_guarded (plain.term place k (plain.accessed r ts)) = all_append (IsGuardedIn around) (terms_sites scene around ts) _ (terms_guarded ts) (itself _ refl, tt)
      term_guarded (plain.term place k (plain.in_bank r bank to row)) = all_append (IsGuardedIn around) (term_sites scene around row) _ (term_guarded row) (itself _ refl, tt)
      term_guarded (plain.term place k (plain.applied op left right)) = all_append (IsGuardedIn around) (term_sites scene around left) (term_sites scene around right) (term_guarded left) (term_guarded right)
      term_guarded (plain.term place k (plain.converted inner to)) = term_guarded inner

      terms_guarded : (ts : plain.Terms) → AllByRecursion (IsGuardedIn around) (terms_sites scene around ts)
      terms_guarded plain.no_terms = tt
      terms_guarded (plain.term_then t ts) = all_append (IsGuardedIn around) (term_sites scene around t) (terms_sites scene around ts) (term_guarded t) (terms_guarded ts)

    pub target_guarded : (t : Term) → AllByRecursion (IsGuardedIn around) (target_sites scene around t)
    target_guarded (plain.term place k (plain.accessed r ts)) = all_append (IsGuardedIn around) (terms_sites scene around ts) _ (terms_guarded ts) (itself _ refl, tt)
    target_guarded (plain.term place k (plain.in_bank r bank to row)) = all_append (IsGuardedIn around) (term_sites scene around row) _ (term_guarded row) (itself _ refl, tt)
    target_guarded (plain.term place k (plain.number negative z)) = tt
    target_guarded (plain.term place k (plain.truth_value v)) = tt
    target_guarded (plain.term place k (plain.named r)) = tt
    target_guarded (plain.term place k (plain.applied op left right)) = tt
    target_guarded (plain.term place k (plain.converted inner to)) = tt

    pub places_of : (t : Term) → EachPlace (IsGuardedIn around) (all_there (term_sites scene around t))
    places_of t = there_place (IsGuardedIn around) (term_sites scene around t) (term_guarded t)

  -- an access of an arm is guarded so round it
  pub arm_guarded : (Inner : Commanding) (around : Around) (holds_so : Truth) (tests : List ℕ) (old new : Building) (first next : ℕ) (lefts : List Left) (m : MadeArm Inner around holds_so tests old new first next lefts)
      → FitsStep x m.guarded → BlockBegun x old.draft → length tests ≡ paths_counted around → (s : BlockSite) → IsGuardedIn m.arm s → IsGuardedIn around s
  arm_guarded Inner around holds_so tests old new first next lefts m f b many s h = record {
    long = h.long ∙ arm_paths Inner around holds_so tests old new first next lefts m many;
    on = λ n less on.
        let same = arm_paths Inner around holds_so tests old new first next lefts m many in
        let test = there tests n (subst (λ (k : ℕ). n < k) (sym many) less) in
        (arm_on Inner around holds_so tests old new first next lefts m f b n test.0 (subst (λ (k : ℕ). n < k) (sym many) less) test.1 (h.on n (subst (λ (k : ℕ). n < k) (sym same) less) on)).0;
  }

  -- what fits behind an arm fits behind its guards
  pub guards_fit : (scene : Scene) (a : Action) (around : Around) (holds_so : Truth) (tests : List ℕ) (old new : Building) (first next : ℕ) (lefts : List Left) (m : MadeArm (MadeCommand scene a) around holds_so tests old new first next lefts)
      → StandsSpread scene around → length tests ≡ paths_counted around → FitsStep x new.draft → FitsStep x m.guarded
  guards_fit scene a around holds_so tests old new first next lefts m s many f =
      subst (λ (d : Draft). FitsStep x d) m.begin_draft
      (fits_before m.begin.draft m.inside.draft x
      (command_lays scene a m.arm m.begin m.inside first next (spread_arm scene (MadeCommand scene a) around holds_so tests old new first next lefts m s many).stands m.command).extends
      (subst (λ (d : Draft). FitsStep x d) m.draft f))

  -- where an arm begins
  pub arm_started : (Inner : Commanding) (around : Around) (holds_so : Truth) (tests : List ℕ) (old new : Building) (first next : ℕ) (lefts : List Left) (m : MadeArm Inner around holds_so tests old new first next lefts) → BlockBegun x old.draft → BlockBegun x m.begin.draft
  arm_started Inner around holds_so tests old new first next lefts m b =
      subst (λ (d : Draft). BlockBegun x d) (sym m.begin_draft)
      (begun_later old.draft m.guarded x (arm_guards_form holds_so around.guards.now tests (length tests) old.draft m.guarded m.arm.guards.now m.guards).extends b)

  -- Whole commands.

  module _ (scene : Scene) where
    view_guarded : (hs : List Hidden) (form : ViewPlan) (around : Around) → EachPlace (IsGuardedIn around) (view_sites scene around hs form)
    view_guarded [] form around = none_place (IsGuardedIn around) (plan_accesses form + 0)
    view_guarded (h ∷ hs) form around = there_place (IsGuardedIn around) (terms_sites scene around (terms (offsets_of form))) (terms_guarded scene around (terms (offsets_of form)))

    mutual
      pub command_guarded : (a : Action) (around : Around) (old new : Building) (first next : ℕ) (m : MadeCommand scene a around old new first next) → StandsSpread scene around → FitsStep x new.draft → BlockBegun x old.draft
          → EachPlace (IsGuardedIn around) (command_sites scene a around old new first next m)
      command_guarded (action id place form) around old new first next m s f b = form_guarded form around old new first next m s f b

      form_guarded : (form : ActionForm) (around : Around) (old new : Building) (first next : ℕ) (m : MadeActionForm scene form around old new first next) → StandsSpread scene around → FitsStep x new.draft → BlockBegun x old.draft
          → EachPlace (IsGuardedIn around) (action_sites scene form around old new first next m)
      form_guarded (lets name declared (Some value)) around old new first next m s f b = places_of scene around value
      form_guarded (lets name declared None) around old new first next m s f b = tt
      form_guarded (assigns target value) around old new first next m s f b = places_of scene around value
      form_guarded (stores target value) around old new first next m s f b =
          there_place (IsGuardedIn around) (term_sites scene around value ++ target_sites scene around target)
          (all_append (IsGuardedIn around) (term_sites scene around value) (target_sites scene around target) (term_guarded scene around value) (target_guarded scene around target))
      form_guarded (reduces target op value) around old new first next m s f b = places_of scene around value
      form_guarded (decides test chosen other) around old new first next m s f b =
          let many : length m.tests ≡ paths_counted around = (tests_same scene around first test (paths_counted around) old m.tested m.own m.tests m.test).1 in
          let spread = spread_arm scene (MadeCommand scene chosen) around true m.tests m.tested m.after_chosen m.own m.behind m.chosen_left m.chosen s many in
          let inner = command_lays scene chosen m.chosen.arm m.chosen.begin m.chosen.inside m.own m.behind spread.stands m.chosen.command in
          let e_chosen = (arm_lays (MadeCommand scene chosen) around true m.tests m.tested m.after_chosen m.own m.behind m.chosen_left m.chosen inner).extends in
          let e_other = (other_lays scene other around m.tests m.after_chosen m.after_other m.behind next m.other_left s.stands many m.other).extends in
          let e_joined = (choices_form m.tests m.joined.choices (length m.joined.choices) m.after_other.draft new.draft m.joined.middle new.values m.joined.choose).extends in
          let f_other = fits_before m.after_other.draft new.draft x e_joined f in
          let f_chosen = fits_before m.after_chosen.draft m.after_other.draft x e_other f_other in
          let b_tested = begun_later old.draft m.tested.draft x (tests_lay scene around first test (paths_counted around) old m.tested m.own m.tests s.stands m.test).extends b in
          let b_chosen = begun_later m.tested.draft m.after_chosen.draft x e_chosen b_tested in
          place_both (IsGuardedIn around) (all_there (term_sites scene around test)) _ (places_of scene around test)
          (place_both (IsGuardedIn around) (command_sites scene chosen m.chosen.arm m.chosen.begin m.chosen.inside m.own m.behind m.chosen.command) _
          (place_so (IsGuardedIn m.chosen.arm) (IsGuardedIn around) (command_sites scene chosen m.chosen.arm m.chosen.begin m.chosen.inside m.own m.behind m.chosen.command)
          (arm_guarded (MadeCommand scene chosen) around true m.tests m.tested m.after_chosen m.own m.behind m.chosen_left m.chosen
          (guards_fit scene chosen around true m.tests m.tested m.after_chosen m.own m.behind m.chosen_left m.chosen s many f_chosen) b_tested many)
          (command_guarded chosen m.chosen.arm m.chosen.begin m.chosen.inside m.own m.behind m.chosen.command spread (subst (λ (d : Draft). FitsStep x d) m.chosen.draft f_chosen)
          (arm_started (MadeCommand scene chosen) around true m.tests m.tested m.after_chosen m.own m.behind m.chosen_left m.chosen b_tested)))
          (other_guarded other around m.tests m.after_chosen m.after_other m.behind next m.other_left m.other s many f_other b_chosen))
      form_guarded (blocks body) around old new first next m s f b = groups_guarded body around old new first next m s f b
      form_guarded (lets_memory name shape shape_places value) around old new first next m s f b = tt
      form_guarded (views name parent form) around old new first next m s f b = view_guarded (hidden_in (way_of (known_in scene) name)) form around
      form_guarded (calls function arguments) around old new first next m s f b = tt
      form_guarded (repeats test body) around old new first next m s f b = none_place (IsGuardedIn around) (term_accesses test + accesses_of body)
      form_guarded (counts iterator declared low high factor body combine combine_place) around old new first next m s f b = none_place (IsGuardedIn around) (accesses_of body + other_accesses combine)

      other_guarded : (other : MaybeAction) (around : Around) (tests : List ℕ) (old new : Building) (first next : ℕ) (lefts : List Left) (m : MadeOther scene other around tests old new first next lefts) → StandsSpread scene around
          → length tests ≡ paths_counted around → FitsStep x new.draft → BlockBegun x old.draft → EachPlace (IsGuardedIn around) (other_sites scene other around tests old new first next lefts m)
      other_guarded no_action around tests old new first next lefts m s many f b = tt
      other_guarded (one_action a) around tests old new first next lefts m s many f b =
          place_so (IsGuardedIn m.arm) (IsGuardedIn around) (command_sites scene a m.arm m.begin m.inside first next m.command)
          (arm_guarded (MadeCommand scene a) around false tests old new first next lefts m (guards_fit scene a around false tests old new first next lefts m s many f) b many)
          (command_guarded a m.arm m.begin m.inside first next m.command (spread_arm scene (MadeCommand scene a) around false tests old new first next lefts m s many) (subst (λ (d : Draft). FitsStep x d) m.draft f)
          (arm_started (MadeCommand scene a) around false tests old new first next lefts m b))

      actions_guarded : (part : Actions) (around : Around) (old new : Building) (first next : ℕ) (m : MadeActions scene part around old new first next) → StandsSpread scene around → FitsStep x new.draft → BlockBegun x old.draft
          → EachPlace (IsGuardedIn around) (actions_sites scene part around old new first next m)
      actions_guarded no_actions around old new first next m s f b = tt
      actions_guarded (action_then a rest) around old new first next m s f b =
          place_both (IsGuardedIn around) (command_sites scene a around old m.middle first m.own m.one) (actions_sites scene rest around m.middle new m.own next m.rest)
          (command_guarded a around old m.middle first m.own m.one s (fits_before m.middle.draft new.draft x (actions_lays scene rest around m.middle new m.own next s.stands m.rest).extends f) b)
          (actions_guarded rest around m.middle new m.own next m.rest s f (begun_later old.draft m.middle.draft x (command_lays scene a around old m.middle first m.own s.stands m.one).extends b))

      groups_guarded : (body : Groups) (around : Around) (old new : Building) (first next : ℕ) (m : MadeGroups scene body around old new first next) → StandsSpread scene around → FitsStep x new.draft → BlockBegun x old.draft
          → EachPlace (IsGuardedIn around) (groups_sites scene body around old new first next m)
      groups_guarded no_groups around old new first next m s f b = tt
      groups_guarded (group_then part rest) around old new first next m s f b =
          place_both (IsGuardedIn around) (actions_sites scene part around old m.middle first m.own m.one) (groups_sites scene rest around m.middle new m.own next m.rest)
          (actions_guarded part around old m.middle first m.own m.one s (fits_before m.middle.draft new.draft x (groups_lays scene rest around m.middle new m.own next s.stands m.rest).extends f) b)
          (groups_guarded rest around m.middle new m.own next m.rest s f (begun_later old.draft m.middle.draft x (actions_lays scene part around old m.middle first m.own s.stands m.one).extends b))
