-- A block of straight commands is as long as its phase, and that of a test; from what stands as it begins.
use Rattle.std.specs.Prelude.{◌≡◌, ◌⊎◌, ℕ, ◌+◌, ◌<◌, ◌≤◌, ◌^◌, true, false, List, [], ◌∷◌, length, slice_get, Option, Some, None}
use Rattle.std.specs.List.{AllByRecursion}
use Rattle.dh_tree.specs.PlainTrees.{Term, Action, action, ActionForm, lets, lets_memory, views, assigns, stores, reduces, calls, blocks, decides, repeats, counts, MaybeAction, no_action, one_action, Actions, no_actions, action_then, Groups, no_groups, group_then}
use Rattle.dh_tree.specs.ViewOffsets.{offsets_of}
use Rattle.dh_meaning.specs.AccessNumbers.{accesses_of, part_accesses, term_accesses}
use Rattle.dh_meaning.specs.CoreOf.{core_commands, core_term, entity_number, way_of}
use Rattle.dh_meaning.specs.Effects.{commands, tests}
use Rattle.dh_meaning.specs.Levels.{block_length}
use Rattle.dh_meaning.specs.OnePhase.{any_makes}
use Rattle.dh_meaning.specs.Phases.{Located}
use Rattle.dh_meaning.specs.Ways.{Hidden, hidden_in}
use Rattle.dh_plan.specs.declared.operations.Operation.{Operation}
use Rattle.dh_plan.specs.LegalSchedules.{block_clocks, is_read}
use Rattle.dh_plan.specs.Ordered.{IsOrdered}
use Rattle.dh_plan.specs.PlainPlans.{PlainPlan, first_in, operations_in}
use Rattle.dh_plan.specs.PlanPhases.{commands_mention, term_mentions}
use Rattle.dh_expressions.specs.declared.drafts.Draft.{Draft}
use Rattle.dh_expressions.specs.declared.scenes.Around.{Around}
use Rattle.dh_expressions.specs.declared.scenes.Scene.{Scene}
use Rattle.dh_expressions.specs.Drafted.{Extends}
use Rattle.dh_expressions.specs.Evaluated.{counter_of, known_in}
use Rattle.dh_expressions.specs.Noted.{touched_in}
use Rattle.dh_formed.specs.Formed.{FormedBlock, AreNotedReads, BlockSite}
use Rattle.dh_formed.specs.WholeBlocks.{IsCut, block_of}
use Rattle.dh_commands.specs.declared.buildings.Building.{Building}
use Rattle.dh_commands.specs.LanesRun.{paths_counted}
use Rattle.dh_commands.specs.MadeCommands.{MadeTests}
use Rattle.dh_commands.specs.ShownVariables.{register_in}
use Rattle.dh_commands.specs.Setting.{IsVariableAmong}
use Rattle.dh_laid.specs.BareCommands.{AreRising}
use Rattle.dh_laid.specs.BlockSites.{MadeEach, block_sites, test_sites}
use Rattle.dh_laid.specs.Laid.{StandsRound}
use Rattle.dh_laid.specs.LaidCommands.{EachSuits, StandsHeld, TestSuits}
use Rattle.dh_laid.specs.LaidNumbers.{StoresReach}
use Rattle.dh_paced.specs.Paced.{IsIn, IsReadOfEach}

-- Variables.

-- What commands assign to is no iterator, and another variable at each path; but it may be one at several paths where it
-- is not mentioned in what it takes, as in reducers.
module _ (scene : Scene) (around : Around) where
  abbrev pub AssignsTo : (e first : ℕ) → Term → Type 0
  AssignsTo e first t =
      (counter_of scene e ≡ None)
      × (((i j : ℕ) → i < paths_counted around → j < paths_counted around → register_in scene around e i ≡ register_in scene around e j → i ≡ j) ⊎ (term_mentions e (core_term (known_in scene) first t) ≡ false))

  -- variables that keep offsets are no iterators, and others at each path
  abbrev pub KeepsOwn : List Hidden → (first : ℕ) → (offsets : List Term) → Type 0
  KeepsOwn [] first offsets = Unit {0}
  KeepsOwn (h ∷ hs) first offsets =
      (e : ℕ) → IsVariableAmong h.entity (length offsets) e → (counter_of scene e ≡ None) × ((i j : ℕ) → i < paths_counted around → j < paths_counted around → register_in scene around e i ≡ register_in scene around e j → i ≡ j)

  abbrev mutual
    pub AssignsOwn : (first : ℕ) → Action → Type 0
    AssignsOwn first (action id place form) = AssignsOwnBy first form

    pub AssignsOwnBy : (first : ℕ) → ActionForm → Type 0
    AssignsOwnBy first (lets name declared (Some value)) = AssignsTo (entity_number name.entity) first value
    AssignsOwnBy first (lets name declared None) = counter_of scene (entity_number name.entity) ≡ None
    AssignsOwnBy first (assigns target value) = AssignsTo (entity_number target.entity) first value
    AssignsOwnBy first (stores target value) = Unit {0}
    AssignsOwnBy first (reduces target op value) = AssignsTo (entity_number target.entity) first value
    AssignsOwnBy first (decides test chosen other) = AssignsOwn (first + term_accesses test) chosen × AssignsOwnOther (first + term_accesses test + accesses_of chosen) other
    AssignsOwnBy first (blocks body) = AssignsOwnGroups first body
    AssignsOwnBy first (lets_memory name shape shape_places value) = Unit {0}
    AssignsOwnBy first (views name parent form) = KeepsOwn (hidden_in (way_of (known_in scene) name)) first (offsets_of form)
    AssignsOwnBy first (calls function arguments) = Unit {0}
    AssignsOwnBy first (repeats test body) = Unit {0}
    AssignsOwnBy first (counts iterator declared low high factor body combine combine_place) = Unit {0}

    pub AssignsOwnOther : (first : ℕ) → MaybeAction → Type 0
    AssignsOwnOther first no_action = Unit {0}
    AssignsOwnOther first (one_action a) = AssignsOwn first a

    pub AssignsOwnPart : (first : ℕ) → Actions → Type 0
    AssignsOwnPart first no_actions = Unit {0}
    AssignsOwnPart first (action_then a rest) = AssignsOwn first a × AssignsOwnPart (first + accesses_of a) rest

    pub AssignsOwnGroups : (first : ℕ) → Groups → Type 0
    AssignsOwnGroups first no_groups = Unit {0}
    AssignsOwnGroups first (group_then part rest) = AssignsOwnPart first part × AssignsOwnGroups (first + part_accesses part) rest

-- variables that are mentioned have registers, so many, and no two have one
pub record HaveRegisters (scene : Scene) (around : Around) (spaces : ℕ) (Mentioned : ℕ → Type 0) : Type 0 where
  pub apart : (e f i j : ℕ) → Mentioned e → Mentioned f → counter_of scene e ≡ None → counter_of scene f ≡ None → i < paths_counted around → j < paths_counted around → register_in scene around e i ≡ register_in scene around f j → e ≡ f
  pub room : (e i : ℕ) → Mentioned e → counter_of scene e ≡ None → i < paths_counted around → register_in scene around e i < spaces

-- Shares.

-- each access of a block shares an earlier read of it, if any, as the scene tells
pub record ShareWithin (scene : Scene) (shared : ℕ → Option ℕ) (Own Read : ℕ → Type 0) : Type 0 where
  pub told : (number : ℕ) → Own number → slice_get scene.shares.now number ≡ Some (shared number)
  pub earlier : (number read : ℕ) → Own number → shared number ≡ Some read → (read < number) × Read read

-- Blocks.

-- What stands as a block begins: no guard round it; no variable was given a value; and no access of it has operations.
pub record BlockBegins (x : FormedBlock) (scene : Scene) (around : Around) (spaces : ℕ) (old : Building) : Type 0 where
  pub some : 0 < paths_counted around
  pub round : StandsRound x old.draft scene around
  pub free : (path : ℕ) (guard : Option ℕ) → slice_get around.guards.now path ≡ Some guard → guard ≡ None
  pub noted : AreNotedReads x old.draft old.accesses
  pub held : StandsHeld x old.draft old.values
  pub given : (register value : ℕ) → slice_get old.values.current.items register ≡ Some (Some value) → ⊥
  pub long : length old.values.current.items ≡ spaces
  pub bare : (number : ℕ) (s : BlockSite) → x.sites number ≡ Some s → touched_in old.accesses number ≡ None

-- what was put down is the block but for operations behind it that read nothing: registers that are set, and a flag
pub record IsWholeBut (plan : PlainPlan) (block : ℕ) (old new end : Draft) : Type 0 where
  pub cut : IsCut plan block old end
  pub ordered : IsOrdered (first_in plan block) (operations_in plan block)
  pub extends : Extends new end
  pub unread : (n : ℕ) (o : Operation) → length new.operations.items ≤ n → slice_get end.operations.items n ≡ Some o → is_read o.form ≡ false

-- A block of straight commands.
pub record IsStraightPaced (plan : PlainPlan) (block : ℕ) (scene : Scene) (around : Around) (spaces : ℕ) (shared : ℕ → Option ℕ) (cs : List Located) (old new : Building) (end : Draft) (m : MadeEach scene around cs old new) : Type 0 where
  pub whole : IsWholeBut plan block old.draft new.draft end
  pub begins : BlockBegins (block_of plan block (block_sites scene around cs old new m)) scene around spaces old
  pub bare : (number : ℕ) → any_makes number cs ≡ true → touched_in old.accesses number ≡ None
  pub suits : EachSuits (block_of plan block (block_sites scene around cs old new m)) scene around cs old new m
  pub reaches : AllByRecursion (λ (c : Located). StoresReach c.command) cs
  pub rising : AreRising 0 cs
  pub assigns_own : AllByRecursion (λ (c : Located). AssignsOwn scene around c.first c.command) cs
  pub variables : HaveRegisters scene around spaces (λ e. commands_mention e (core_commands (known_in scene) cs) ≡ true)
  -- (a loop without turns in an arm makes none of its accesses)
  pub shares : ShareWithin scene shared (λ number. any_makes number cs ≡ true) (IsReadOfEach (known_in scene) cs)

abbrev pub StraightsAreLong : Type 0
StraightsAreLong =
    (plan : PlainPlan) (block : ℕ) (scene : Scene) (around : Around) (spaces : ℕ) (shared : ℕ → Option ℕ) (cs : List Located) (old new : Building) (end : Draft) (m : MadeEach scene around cs old new)
    → IsStraightPaced plan block scene around spaces shared cs old new end m → block_clocks plan block ≡ block_length shared (commands (core_commands (known_in scene) cs))

-- A block of a test.
pub record IsTestPaced (plan : PlainPlan) (block : ℕ) (scene : Scene) (around : Around) (spaces : ℕ) (shared : ℕ → Option ℕ) (first : ℕ) (t : Term) (old new : Building) (end : Draft) (next : ℕ) (values : List ℕ) : Type 0 where
  pub made : MadeTests scene around first t (paths_counted around) old new next values
  pub whole : IsWholeBut plan block old.draft new.draft end
  pub begins : BlockBegins (block_of plan block (test_sites scene around first t)) scene around spaces old
  pub bare : (number : ℕ) → IsIn first (term_accesses t) number → touched_in old.accesses number ≡ None
  pub suits : TestSuits (block_of plan block (test_sites scene around first t)) scene around first t
  pub few : first + term_accesses t < 2 ^ 32
  pub variables : HaveRegisters scene around spaces (λ e. term_mentions e (core_term (known_in scene) first t) ≡ true)
  pub shares : ShareWithin scene shared (IsIn first (term_accesses t)) (IsIn first (term_accesses t))

abbrev pub TestsAreLong : Type 0
TestsAreLong =
    (plan : PlainPlan) (block : ℕ) (scene : Scene) (around : Around) (spaces : ℕ) (shared : ℕ → Option ℕ) (first : ℕ) (t : Term) (old new : Building) (end : Draft) (next : ℕ) (values : List ℕ)
    → IsTestPaced plan block scene around spaces shared first t old new end next values → block_clocks plan block ≡ block_length shared (tests (core_term (known_in scene) first t))
