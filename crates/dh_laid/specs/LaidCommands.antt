-- What is asked of whole commands: each part at all its paths, the arms of an `if`, which are taken back, and the parts
-- of a block. What must hold of a command goes by recursion on it and on what was put down for it: an access of an arm
-- stands where the guards of the arm hold, and only what was put down tells which these are.
use Rattle.std.specs.Prelude.{◌≡◌, ℕ, ◌+◌, ◌<◌, ◌≤◌, ◌^◌, List, [], ◌∷◌, length, Some, None}
use Rattle.dh_value.specs.declared.kinds.Kind.TheVariants.{Bool}
use Rattle.dh_value.specs.declared.operators.Op.{Op}
use Rattle.dh_value.specs.Words.{IsKind}
use Rattle.dh_tree.specs.Indices.{form_of}
use Rattle.dh_tree.specs.PlainTrees.{Term, Action, action, ActionForm, lets, lets_memory, views, assigns, stores, reduces, calls, blocks, decides, repeats, counts, MaybeAction, no_action, one_action, Actions, no_actions, action_then, Groups, no_groups, group_then}
use Rattle.dh_tree.specs.Seen.{terms}
use Rattle.dh_tree.specs.ViewOffsets.{offsets_of}
use Rattle.dh_meaning.specs.AccessNumbers.{plan_accesses, term_accesses}
use Rattle.dh_meaning.specs.CoreOf.{entity_number, way_of}
use Rattle.dh_meaning.specs.Phases.{Located}
use Rattle.dh_meaning.specs.Ways.{Hidden, hidden_in}
use Rattle.dh_code.specs.Slots.{held_at}
use Rattle.dh_expressions.specs.declared.drafts.Draft.{Draft}
use Rattle.dh_expressions.specs.declared.scenes.Around.{Around}
use Rattle.dh_expressions.specs.declared.scenes.Scene.{Scene}
use Rattle.dh_expressions.specs.Drafted.{Extends}
use Rattle.dh_expressions.specs.Evaluated.{known_in}
use Rattle.dh_expressions.specs.Shown.{kind_written, register_at}
use Rattle.dh_formed.specs.Formed.{Agrees, AreNumbers, FormedBlock, HeldSuits, AreNotedReads, Started, TermSuits, TermsSuit}
use Rattle.dh_commands.specs.declared.assignments.Values.{Values}
use Rattle.dh_commands.specs.declared.buildings.Building.{Building}
use Rattle.dh_commands.specs.declared.choices.Left.{Left}
use Rattle.dh_commands.specs.LanesRun.{lane_of, paths_counted}
use Rattle.dh_commands.specs.MadeCommands.{MadeActions, MadeCommand, MadeGroups, MadeActionForm, MadeOther}
use Rattle.dh_commands.specs.Undone.{AreReady, Logs}
use Rattle.dh_laid.specs.BlockSites.{MadeEach}
use Rattle.dh_laid.specs.Laid.{AimingSuits, AreHeld, FitsRegister, FormsThere, KeptFits, ReducerSuits, StandsRound, StoringSuits, aim_accesses}

-- Accesses are few.

abbrev pub AreFewIn : (first : ℕ) → Term → Type 0
AreFewIn first t = first + term_accesses t < 2 ^ 32

module _ (scene : Scene) where
  abbrev mutual
    -- the numbers of the accesses of a command are few
    pub AreFew : (a : Action) → (around : Around) → (old new : Building) → (first next : ℕ) → MadeCommand scene a around old new first next → Type 0
    AreFew (action id place form) around old new first next m = AreFewOf form around old new first next m

    pub AreFewOf : (form : ActionForm) → (around : Around) → (old new : Building) → (first next : ℕ) → MadeActionForm scene form around old new first next → Type 0
    AreFewOf (lets name declared (Some value)) around old new first next m = AreFewIn first value
    AreFewOf (lets name declared None) around old new first next m = Unit {0}
    AreFewOf (assigns target value) around old new first next m = AreFewIn first value
    AreFewOf (stores target value) around old new first next m = (first + term_accesses value) + aim_accesses (form_of target) < 2 ^ 32
    AreFewOf (reduces target op value) around old new first next m = AreFewIn first value
    AreFewOf (decides test chosen other) around old new first next m =
        AreFewIn first test
        × (AreFew chosen m.chosen.arm m.chosen.begin m.chosen.inside m.own m.behind m.chosen.command × AreFewOther other around m.tests m.after_chosen m.after_other m.behind next m.other_left m.other)
    AreFewOf (blocks body) around old new first next m = AreFewGroups body around old new first next m
    AreFewOf (lets_memory name shape shape_places value) around old new first next m = Unit {0}
    AreFewOf (views name parent form) around old new first next m = first + plan_accesses form < 2 ^ 32
    AreFewOf (calls function arguments) around old new first next m = Unit {0}
    AreFewOf (repeats test body) around old new first next m = Unit {0}
    AreFewOf (counts iterator declared low high factor body combine combine_place) around old new first next m = Unit {0}

    pub AreFewOther : (other : MaybeAction) → (around : Around) → (tests : List ℕ) → (old new : Building) → (first next : ℕ) → (lefts : List Left) → MadeOther scene other around tests old new first next lefts → Type 0
    AreFewOther no_action around tests old new first next lefts m = Unit {0}
    AreFewOther (one_action a) around tests old new first next lefts m = AreFew a m.arm m.begin m.inside first next m.command

    pub AreFewActions : (part : Actions) → (around : Around) → (old new : Building) → (first next : ℕ) → MadeActions scene part around old new first next → Type 0
    AreFewActions no_actions around old new first next m = Unit {0}
    AreFewActions (action_then a rest) around old new first next m = AreFew a around old m.middle first m.own m.one × AreFewActions rest around m.middle new m.own next m.rest

    pub AreFewGroups : (body : Groups) → (around : Around) → (old new : Building) → (first next : ℕ) → MadeGroups scene body around old new first next → Type 0
    AreFewGroups no_groups around old new first next m = Unit {0}
    AreFewGroups (group_then g rest) around old new first next m = AreFewActions g around old m.middle first m.own m.one × AreFewGroups rest around m.middle new m.own next m.rest

-- Kinds.

module _ (x : FormedBlock) (scene : Scene) (around : Around) where
  abbrev pub AssignmentSuits : (first entity : ℕ) → Term → Type 0
  AssignmentSuits first entity t =
      (n : ℕ) → n < paths_counted around → (TermSuits x scene (lane_of around n) first t × HeldSuits t (held_at scene.held.now entity).kind) × FitsRegister x scene (lane_of around n) entity

  abbrev pub ClearingSuits : (entity : ℕ) → Type 0
  ClearingSuits entity = (n : ℕ) → n < paths_counted around → IsKind (held_at scene.held.now entity).kind × FitsRegister x scene (lane_of around n) entity

  abbrev pub ReducingSuits : (first entity : ℕ) → Op → Term → Type 0
  ReducingSuits first entity op t =
      (n : ℕ) → n < paths_counted around
      → (TermSuits x scene (lane_of around n) first t × ReducerSuits op (held_at scene.held.now entity).kind (kind_written t))
      × ((register_at (held_at scene.held.now entity) (lane_of around n) < length x.plan.registers) × FitsRegister x scene (lane_of around n) entity)

  abbrev pub StoreSuits : (first : ℕ) → (target t : Term) → Type 0
  StoreSuits first target t =
      (n : ℕ) → n < paths_counted around
      → TermSuits x scene (lane_of around n) first t
      × (AimingSuits x scene (lane_of around n) (first + term_accesses t) (form_of target) × StoringSuits x scene (lane_of around n) (first + term_accesses t) target t (form_of target))

  -- offsets of a view, where variables keep them
  abbrev pub KeepingSuits : (first : ℕ) → List Hidden → (offsets : List Term) → Type 0
  KeepingSuits first [] offsets = Unit {0}
  KeepingSuits first (h ∷ hs) offsets =
      (n : ℕ) → n < paths_counted around → (TermsSuit x scene (lane_of around n) first (terms offsets) × AreNumbers (terms offsets)) × KeptFits x scene (lane_of around n) h.entity offsets

  abbrev pub TestSuits : (first : ℕ) → Term → Type 0
  TestSuits first t = (kind_written t ≡ Bool) × ((n : ℕ) → n < paths_counted around → TermSuits x scene (lane_of around n) first t)

module _ (x : FormedBlock) (scene : Scene) where
  abbrev mutual
    -- the kinds of a command suit one another, and all that it takes is there
    pub CommandSuits : (a : Action) → (around : Around) → (old new : Building) → (first next : ℕ) → MadeCommand scene a around old new first next → Type 0
    CommandSuits (action id place form) around old new first next m = ActionSuits form around old new first next m

    pub ActionSuits : (form : ActionForm) → (around : Around) → (old new : Building) → (first next : ℕ) → MadeActionForm scene form around old new first next → Type 0
    ActionSuits (lets name declared (Some value)) around old new first next m = AssignmentSuits x scene around first (entity_number name.entity) value
    ActionSuits (lets name declared None) around old new first next m = ClearingSuits x scene around (entity_number name.entity)
    ActionSuits (assigns target value) around old new first next m = AssignmentSuits x scene around first (entity_number target.entity) value
    ActionSuits (stores target value) around old new first next m = StoreSuits x scene around first target value
    ActionSuits (reduces target op value) around old new first next m = ReducingSuits x scene around first (entity_number target.entity) op value
    ActionSuits (decides test chosen other) around old new first next m =
        TestSuits x scene around first test
        × (CommandSuits chosen m.chosen.arm m.chosen.begin m.chosen.inside m.own m.behind m.chosen.command × OtherSuits other around m.tests m.after_chosen m.after_other m.behind next m.other_left m.other)
    ActionSuits (blocks body) around old new first next m = GroupsSuit body around old new first next m
    ActionSuits (lets_memory name shape shape_places value) around old new first next m = Unit {0}
    ActionSuits (views name parent form) around old new first next m = KeepingSuits x scene around first (hidden_in (way_of (known_in scene) name)) (offsets_of form)
    ActionSuits (calls function arguments) around old new first next m = Unit {0}
    ActionSuits (repeats test body) around old new first next m = Unit {0}
    ActionSuits (counts iterator declared low high factor body combine combine_place) around old new first next m = Unit {0}

    pub OtherSuits : (other : MaybeAction) → (around : Around) → (tests : List ℕ) → (old new : Building) → (first next : ℕ) → (lefts : List Left) → MadeOther scene other around tests old new first next lefts → Type 0
    OtherSuits no_action around tests old new first next lefts m = Unit {0}
    OtherSuits (one_action a) around tests old new first next lefts m = CommandSuits a m.arm m.begin m.inside first next m.command

    pub ActionsSuit : (part : Actions) → (around : Around) → (old new : Building) → (first next : ℕ) → MadeActions scene part around old new first next → Type 0
    ActionsSuit no_actions around old new first next m = Unit {0}
    ActionsSuit (action_then a rest) around old new first next m = CommandSuits a around old m.middle first m.own m.one × ActionsSuit rest around m.middle new m.own next m.rest

    pub GroupsSuit : (body : Groups) → (around : Around) → (old new : Building) → (first next : ℕ) → MadeGroups scene body around old new first next → Type 0
    GroupsSuit no_groups around old new first next m = Unit {0}
    GroupsSuit (group_then g rest) around old new first next m = ActionsSuit g around old m.middle first m.own m.one × GroupsSuit rest around m.middle new m.own next m.rest

-- commands of a block, put down one after the other, suit each
abbrev pub EachSuits : (x : FormedBlock) (scene : Scene) (around : Around) (cs : List Located) (old new : Building) → MadeEach scene around cs old new → Type 0
EachSuits x scene around [] old new m = Unit {0}
EachSuits x scene around (c ∷ cs) old new (mid, (next, (m, rest))) = CommandSuits x scene c.command around old mid c.first next m × EachSuits x scene around cs mid new rest

-- and the numbers of their accesses are few
abbrev pub EachFew : (scene : Scene) (around : Around) (cs : List Located) (old new : Building) → MadeEach scene around cs old new → Type 0
EachFew scene around [] old new m = Unit {0}
EachFew scene around (c ∷ cs) old new (mid, (next, (m, rest))) = AreFew scene c.command around old mid c.first next m × EachFew scene around cs mid new rest

-- What variables were given is logged.

abbrev pub AreLogged : Values → Values → Type 0
AreLogged old new = Logs (λ c. Unit {0}) old new

-- Values of the variables stand as they do at the begin of a command: none of the marks is set, and those that can be
-- given are of registers of the plan.
pub record StandsHeld (x : FormedBlock) (d : Draft) (v : Values) : Type 0 where
  pub held : AreHeld x d v
  pub ready : AreReady v
  pub long : length v.current.items ≤ length x.plan.registers

-- a command: it forms what it adds, and what is noted and held behind it is of the block
pub record FormsCommand (scene : Scene) (around : Around) (old new : Building) (Where : FormedBlock → Type 0) : Type 0 where
  pub extends : Extends old.draft new.draft
  pub logs : AreReady old.values → AreLogged old.values new.values
  pub forms : (x : FormedBlock) → Agrees x new.draft → Started x old.draft → StandsRound x old.draft scene around → AreNotedReads x old.draft old.accesses → StandsHeld x old.draft old.values → Where x → FormsThere x old new

-- Commands, and parts of a block.

abbrev pub CommandsForm : Type 0
CommandsForm =
    (scene : Scene) (a : Action) (around : Around) (old new : Building) (first next : ℕ) (m : MadeCommand scene a around old new first next) → AreFew scene a around old new first next m
    → FormsCommand scene around old new (λ x. CommandSuits x scene a around old new first next m)

abbrev pub GroupsForm : Type 0
GroupsForm =
    (scene : Scene) (body : Groups) (around : Around) (old new : Building) (first next : ℕ) (m : MadeGroups scene body around old new first next) → AreFewGroups scene body around old new first next m
    → FormsCommand scene around old new (λ x. GroupsSuit x scene body around old new first next m)
