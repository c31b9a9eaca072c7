-- Which operations are put down for commands, each at all its paths before the next: exactly these, one behind the
-- other. What holds of the operations of a block is shown of these relations, and needs no step.
use Rattle.std.specs.Prelude.{◌≡◌, ℕ, zero, suc, ◌+◌, Bool as Truth, true, false, List, [], ◌∷◌, ◌++◌, length, slice_get, Option, Some, None}
use Rattle.dh_value.specs.declared.kinds.Kind.{Kind}
use Rattle.dh_value.specs.declared.kinds.Kind.TheVariants as kind
use Rattle.dh_value.specs.declared.operators.Op.{Op}
use Rattle.dh_value.specs.declared.operators.Op.TheVariants.{Both}
use Rattle.dh_value.specs.Operations.{truth}
use Rattle.dh_tree.specs.Indices.{form_of}
use Rattle.dh_tree.specs.Memories.{table_of}
use Rattle.dh_tree.specs.PlainTrees as plain
use Rattle.dh_tree.specs.PlainTrees.{ViewPlan, Action, action, ActionForm, lets, lets_memory, views, assigns, stores, reduces, calls, blocks, decides, repeats, counts, MaybeAction, no_action, one_action, Actions, no_actions, action_then, Groups, no_groups, group_then}
use Rattle.dh_tree.specs.Seen.{program_seen, terms}
use Rattle.dh_tree.specs.ViewOffsets.{offsets_of}
use Rattle.dh_meaning.specs.AccessNumbers.{accesses_of, other_accesses, plan_accesses, term_accesses}
use Rattle.dh_meaning.specs.CoreOf.{entity_number, memory_of, way_of}
use Rattle.dh_meaning.specs.Effects.{entry_kind}
use Rattle.dh_meaning.specs.Ways.{Hidden, hidden_in}
use Rattle.dh_code.specs.Extended.{extension_of}
use Rattle.dh_tree.specs.Kinds.{same_kind}
use Rattle.dh_code.specs.declared.places.VariableSlots.{VariableSlots}
use Rattle.dh_code.specs.Slots.{held_at}
use Rattle.dh_plan.specs.declared.operations.OperationForm.TheVariants.{Compute, Constant, Select}
use Rattle.dh_phases.specs.Counted.{behind}
use Rattle.dh_expressions.specs.declared.accesses.Accesses.{Accesses}
use Rattle.dh_expressions.specs.declared.drafts.Draft.{Draft}
use Rattle.dh_expressions.specs.declared.elements.Aim.{Aim}
use Rattle.dh_expressions.specs.declared.scenes.Around.{Around}
use Rattle.dh_expressions.specs.declared.scenes.Lane.{Lane}
use Rattle.dh_expressions.specs.declared.scenes.Scene.{Scene}
use Rattle.dh_expressions.specs.Drafted.{Pushes}
use Rattle.dh_expressions.specs.Evaluated.{known_in}
use Rattle.dh_expressions.specs.MadeTerms.{MadeRow, MadeTerm, MadeTerms, MadeThrough, MadeWrite, number_behind}
use Rattle.dh_expressions.specs.MadeValues.{IsThere, MadeConverted, MadeHeld, MadeNumber, MadeShown}
use Rattle.dh_expressions.specs.Shown.{guard_of, kind_written, register_at}
use Rattle.dh_commands.specs.declared.assignments.Values.{Values}
use Rattle.dh_commands.specs.declared.buildings.Building.{Building}
use Rattle.dh_commands.specs.declared.choices.Choice.{Choice}
use Rattle.dh_commands.specs.declared.choices.Left.{Left}
use Rattle.dh_commands.specs.Joined.{JoinsArms}
use Rattle.dh_commands.specs.LanesRun.{lane_of, paths_counted}
use Rattle.dh_commands.specs.Setting.{SetsAt, SetsFrom}
use Rattle.dh_commands.specs.Undone.{Assigns, EndsArm}

-- One path.

-- an assignment
pub record MadeAssigned (scene : Scene) (lane : Lane) (first entity : ℕ) (t : plain.Term) (old new : Building) (next : ℕ) : Type 0 where
  pub middle : Draft
  pub value : ℕ
  pub held : ℕ
  pub term : MadeTerm scene lane old.values.current.items t old.draft middle old.accesses new.accesses first next value
  pub holds : MadeHeld t (held_at scene.held.now entity).kind value middle new.draft held
  pub sets : SetsAt scene lane old.values new.values entity held

-- a variable is set to 0 or false
pub record MadeCleared (scene : Scene) (lane : Lane) (entity : ℕ) (old new : Building) : Type 0 where
  pub value : ℕ
  pub number : MadeNumber (held_at scene.held.now entity).kind false 0 old.draft new.draft value
  pub same : new.accesses ≡ old.accesses
  pub sets : SetsAt scene lane old.values new.values entity value

-- what a variable of a kind holds, as an operand
abbrev pub MadeOldOperand : (own to : Kind) → (old_value : ℕ) → (old new : Draft) → (v : ℕ) → Type 0
MadeOldOperand own kind.Bool value old new v = IsThere old new value v
MadeOldOperand own (kind.Unsigned m) value old new v = MadeConverted (same_kind own (kind.Unsigned m)) (kind.Unsigned m) value old new v
MadeOldOperand own (kind.Signed m) value old new v = MadeConverted (same_kind own (kind.Signed m)) (kind.Signed m) value old new v

abbrev pub MadeOperand : plain.Term → (to : Kind) → (value : ℕ) → (old new : Draft) → (v : ℕ) → Type 0
MadeOperand t kind.Bool value old new v = IsThere old new value v
MadeOperand t (kind.Unsigned m) value old new v = MadeHeld t (kind.Unsigned m) value old new v
MadeOperand t (kind.Signed m) value old new v = MadeHeld t (kind.Signed m) value old new v

-- what a reducer puts together, as its variable holds it
pub record FoldedWith (lane : Lane) (current : List (Option ℕ)) (held : VariableSlots) (op : Op) (t : plain.Term) (value : ℕ) (old new : Draft) (v : ℕ) : Type 0 where
  pub first : Draft
  pub second : Draft
  pub third : Draft
  pub fourth : Draft
  pub before : ℕ
  pub left : ℕ
  pub right : ℕ
  pub all : ℕ
  pub shown : MadeShown current (register_at held lane) old first before
  pub left_made : MadeOldOperand held.kind (extension_of op held.kind (kind_written t)) before first second left
  pub right_made : MadeOperand t (extension_of op held.kind (kind_written t)) value second third right
  pub pushes : Pushes third fourth all None (Compute op left right)
  pub own : MadeConverted (same_kind held.kind (extension_of op held.kind (kind_written t))) held.kind all fourth new v

abbrev pub MadeFolded : Scene → Lane → (current : List (Option ℕ)) → (entity : ℕ) → Op → plain.Term → (value : ℕ) → (old new : Draft) → (v : ℕ) → Type 0
MadeFolded scene lane current entity op t value old new v = FoldedWith lane current (held_at scene.held.now entity) op t value old new v

pub record MadeReduced (scene : Scene) (lane : Lane) (first entity : ℕ) (op : Op) (t : plain.Term) (old new : Building) (next : ℕ) : Type 0 where
  pub middle : Draft
  pub value : ℕ
  pub folded : ℕ
  pub term : MadeTerm scene lane old.values.current.items t old.draft middle old.accesses new.accesses first next value
  pub folds : MadeFolded scene lane old.values.current.items entity op t value middle new.draft folded
  pub sets : SetsAt scene lane old.values new.values entity folded

-- the values that name a store's element, and its memory; none of what is no access
abbrev pub MadeAim : Scene → Lane → (current : List (Option ℕ)) → plain.TermForm → (old new : Draft) → (before after : Accesses) → (n : ℕ) → Option (Aim × ℕ) → Type 0
MadeAim scene lane current (plain.accessed r ts) old new before after n (Some (aim, memory)) = MadeThrough scene lane current r ts old new before after n aim × (memory ≡ memory_of (known_in scene) r)
MadeAim scene lane current (plain.in_bank r bank at row) old new before after n (Some (aim, memory)) = MadeRow scene lane current row old new before after n aim × (memory ≡ memory_of (known_in scene) r)
MadeAim scene lane current (plain.number negative z) old new before after n None = (new ≡ old) × (after ≡ before)
MadeAim scene lane current (plain.truth_value b) old new before after n None = (new ≡ old) × (after ≡ before)
MadeAim scene lane current (plain.named r) old new before after n None = (new ≡ old) × (after ≡ before)
MadeAim scene lane current (plain.applied op left right) old new before after n None = (new ≡ old) × (after ≡ before)
MadeAim scene lane current (plain.converted inner to) old new before after n None = (new ≡ old) × (after ≡ before)
MadeAim scene lane current form old new before after n aimed = ⊥

-- the write of a store, behind its values; none of what is no access
abbrev pub MadeStoring : Scene → Lane → (target t : plain.Term) → (value : ℕ) → Option (Aim × ℕ) → (old : Draft) → (before : Accesses) → (new : Building) → (next : ℕ) → Type 0
MadeStoring scene lane target t value None old before new next = (new.draft ≡ old) × (new.accesses ≡ before)
MadeStoring scene lane target t value (Some (aim, memory)) old before new next =
    (d : Draft) × ((held : ℕ) × (MadeHeld t (entry_kind (slice_get (table_of (program_seen scene.program.now)) memory)) value old d held
    × (MadeWrite scene lane target memory aim held d new.draft before new.accesses × (next ≡ number_behind aim.number))))

pub record MadeStored (scene : Scene) (lane : Lane) (first : ℕ) (target t : plain.Term) (old new : Building) (next : ℕ) : Type 0 where
  pub middle : Draft
  pub end : Draft
  pub between : Accesses
  pub behind : Accesses
  pub own : ℕ
  pub value : ℕ
  pub aimed : Option (Aim × ℕ)
  pub term : MadeTerm scene lane old.values.current.items t old.draft middle old.accesses between first own value
  pub aims : MadeAim scene lane old.values.current.items (form_of target) middle end between behind own aimed
  pub stores : MadeStoring scene lane target t value aimed end behind new next
  pub same : new.values ≡ old.values

-- the value of an offset as the variable holds it that is to keep it
abbrev pub MadeHold : Scene → (entity : ℕ) → Option plain.Term → (value : ℕ) → (old new : Draft) → (v : ℕ) → Type 0
MadeHold scene entity None value old new v = (new ≡ old) × (v ≡ value)
MadeHold scene entity (Some t) value old new v = MadeHeld t (held_at scene.held.now entity).kind value old new v

-- those of offsets, one behind the other; the entities of the variables follow one another
abbrev pub MadeHolds : Scene → (first : ℕ) → (offsets : List plain.Term) → (values : List ℕ) → (old new : Draft) → (held : List ℕ) → Type 0
MadeHolds scene first [] values old new held = (new ≡ old) × (held ≡ values)
MadeHolds scene first (t ∷ ts) [] old new held = (new ≡ old) × (held ≡ [])
MadeHolds scene first (t ∷ ts) (value ∷ values) old new held =
    (d : Draft) × ((v : ℕ) × ((more : List ℕ) × (MadeHeld t (held_at scene.held.now first).kind value old d v × (MadeHolds scene (suc first) ts values d new more × (held ≡ v ∷ more)))))

-- a view that keeps its offsets, the first of them in this variable
pub record MadeKept (scene : Scene) (lane : Lane) (first entity : ℕ) (offsets : List plain.Term) (old new : Building) (next : ℕ) : Type 0 where
  pub values : List ℕ
  pub held : List ℕ
  pub middle : Draft
  pub offsets_made : MadeTerms scene lane old.values.current.items (terms offsets) old.draft middle old.accesses new.accesses first next values
  pub holds : MadeHolds scene entity offsets values middle new.draft held
  pub sets : SetsFrom scene lane old.values new.values entity held

-- All paths.

-- the first paths, so many
abbrev pub MadeLanes : (One : (number : ℕ) → (old new : Building) → (next : ℕ) → Type 0) → (count first : ℕ) → (old new : Building) → (next : ℕ) → Type 0
MadeLanes One zero first old new next = (new ≡ old) × (next ≡ first)
MadeLanes One (suc n) first old new next = (b : Building) × ((k : ℕ) × (MadeLanes One n first old b k × One n b new next))

abbrev pub AssignedTo : Scene → Around → (first entity : ℕ) → plain.Term → (count : ℕ) → (old new : Building) → (next : ℕ) → Type 0
AssignedTo scene around first entity t count old new next = MadeLanes (λ number b d k. MadeAssigned scene (lane_of around number) first entity t b d k) count first old new next

abbrev pub ClearedTo : Scene → Around → (first entity count : ℕ) → (old new : Building) → (next : ℕ) → Type 0
ClearedTo scene around first entity count old new next = MadeLanes (λ number b d k. MadeCleared scene (lane_of around number) entity b d × (k ≡ first)) count first old new next

abbrev pub ReducedTo : Scene → Around → (first entity : ℕ) → Op → plain.Term → (count : ℕ) → (old new : Building) → (next : ℕ) → Type 0
ReducedTo scene around first entity op t count old new next = MadeLanes (λ number b d k. MadeReduced scene (lane_of around number) first entity op t b d k) count first old new next

abbrev pub StoredTo : Scene → Around → (first : ℕ) → (target t : plain.Term) → (count : ℕ) → (old new : Building) → (next : ℕ) → Type 0
StoredTo scene around first target t count old new next = MadeLanes (λ number b d k. MadeStored scene (lane_of around number) first target t b d k) count first old new next

abbrev pub KeptTo : Scene → Around → (first entity : ℕ) → (offsets : List plain.Term) → (count : ℕ) → (old new : Building) → (next : ℕ) → Type 0
KeptTo scene around first entity offsets count old new next = MadeLanes (λ number b d k. MadeKept scene (lane_of around number) first entity offsets b d k) count first old new next

-- of a view whose way has these variables
abbrev pub KeptView : Scene → Around → (old new : Building) → (first idle next : ℕ) → List Hidden → (offsets : List plain.Term) → Type 0
KeptView scene around old new first idle next [] offsets = (new ≡ old) × (next ≡ idle)
KeptView scene around old new first idle next (h ∷ hs) offsets = KeptTo scene around first h.entity offsets (paths_counted around) old new next

-- a test at one path, and at the first paths with its values there
pub record MadeTested (scene : Scene) (lane : Lane) (first : ℕ) (t : plain.Term) (old new : Building) (next value : ℕ) : Type 0 where
  pub term : MadeTerm scene lane old.values.current.items t old.draft new.draft old.accesses new.accesses first next value
  pub same : new.values ≡ old.values

abbrev pub MadeTests : Scene → Around → (first : ℕ) → plain.Term → (count : ℕ) → (old new : Building) → (next : ℕ) → (tests : List ℕ) → Type 0
MadeTests scene around first t zero old new next tests = (new ≡ old) × ((next ≡ first) × (tests ≡ []))
MadeTests scene around first t (suc n) old new next tests =
    (b : Building) × ((k : ℕ) × ((before : List ℕ) × ((v : ℕ) × (MadeTests scene around first t n old b k before × (MadeTested scene (lane_of around n) first t b new next v × (tests ≡ before ++ v ∷ []))))))

-- Arms.

-- the guard of what is done where a guard holds and a truth
abbrev pub MadeGuard : Option ℕ → (truth : ℕ) → (old new : Draft) → (v : ℕ) → Type 0
MadeGuard None t old new v = IsThere old new t v
MadeGuard (Some guard) t old new v = Pushes old new v None (Compute Both guard t)

-- that a test fails
pub record MadeNot (test : ℕ) (old new : Draft) (v : ℕ) : Type 0 where
  pub first : Draft
  pub second : Draft
  pub no_value : ℕ
  pub yes_value : ℕ
  pub no_made : Pushes old first no_value None (Constant (truth false))
  pub yes_made : Pushes first second yes_value None (Constant (truth true))
  pub pushes : Pushes second new v None (Select test no_value yes_value)

abbrev pub MadeOutcome : (holds : Truth) → (test : ℕ) → (old new : Draft) → (v : ℕ) → Type 0
MadeOutcome true test old new v = IsThere old new test v
MadeOutcome false test old new v = MadeNot test old new v

pub record MadeArmGuard (holds : Truth) (guard : Option ℕ) (test : ℕ) (old new : Draft) (v : ℕ) : Type 0 where
  pub middle : Draft
  pub outcome : ℕ
  pub comes_out : MadeOutcome holds test old middle outcome
  pub joins : MadeGuard guard outcome middle new v

-- the guards of an arm at the first paths, so many
abbrev pub MadeArmGuards : (holds : Truth) → (guards : List (Option ℕ)) → (tests : List ℕ) → (count : ℕ) → (old new : Draft) → (arm : List (Option ℕ)) → Type 0
MadeArmGuards holds guards tests zero old new arm = (new ≡ old) × (arm ≡ [])
MadeArmGuards holds guards tests (suc n) old new arm =
    (d : Draft) × ((before : List (Option ℕ)) × ((test : ℕ) × ((v : ℕ) × (MadeArmGuards holds guards tests n old d before
    × ((slice_get tests n ≡ Some test) × (MadeArmGuard holds (guard_of guards n) test d new v × (arm ≡ before ++ Some v ∷ [])))))))

-- Variables behind an `if`.

abbrev pub MadeBehind : (current : List (Option ℕ)) → (register : ℕ) → Option ℕ → (old new : Draft) → (v : ℕ) → Type 0
MadeBehind current register None old new v = MadeShown current register old new v
MadeBehind current register (Some value) old new v = IsThere old new value v

pub record MadeChoice (test : ℕ) (c : Choice) (old new : Draft) (before after : Values) : Type 0 where
  pub first : Draft
  pub second : Draft
  pub yes_value : ℕ
  pub no_value : ℕ
  pub value : ℕ
  pub chosen : MadeBehind before.current.items c.register c.chosen old first yes_value
  pub other : MadeBehind before.current.items c.register c.other first second no_value
  pub pushes : Pushes second new value None (Select test yes_value no_value)
  pub sets : Assigns before after c.register c.path value

abbrev pub MadeChoiceBy : Option ℕ → Choice → (old new : Draft) → (before after : Values) → Type 0
MadeChoiceBy None c old new before after = (new ≡ old) × (after ≡ before)
MadeChoiceBy (Some test) c old new before after = MadeChoice test c old new before after

-- the first choices, so many
abbrev pub MadeChoices : (tests : List ℕ) → (choices : List Choice) → (count : ℕ) → (old new : Draft) → (before after : Values) → Type 0
MadeChoices tests choices zero old new before after = (new ≡ old) × (after ≡ before)
MadeChoices tests choices (suc n) old new before after =
    (d : Draft) × ((v : Values) × ((c : Choice) × (MadeChoices tests choices n old d before v × ((slice_get choices n ≡ Some c) × MadeChoiceBy (slice_get tests c.path) c d new v after))))

pub record MadeJoined (tests : List ℕ) (chosen other : List Left) (old new : Building) : Type 0 where
  pub choices : List Choice
  pub middle : Values
  pub joins : JoinsArms old.values middle chosen other choices
  pub choose : MadeChoices tests choices (length choices) old.draft new.draft middle new.values
  pub same : new.accesses ≡ old.accesses

-- Commands.

abbrev pub Commanding : Type 1
Commanding = Around → (old new : Building) → (first next : ℕ) → Type 0

-- an arm of an `if`, which is taken back
pub record MadeArm (Inner : Commanding) (around : Around) (holds : Truth) (tests : List ℕ) (old new : Building) (first next : ℕ) (lefts : List Left) : Type 0 where
  pub arm : Around
  pub guarded : Draft
  pub levels : arm.levels.now ≡ around.levels.now
  pub guards : MadeArmGuards holds around.guards.now tests (length tests) old.draft guarded arm.guards.now
  pub begin : Building
  pub inside : Building
  pub begin_draft : begin.draft ≡ guarded
  pub begin_accesses : begin.accesses ≡ old.accesses
  pub begin_values : begin.values ≡ old.values
  pub command : Inner arm begin inside first next
  pub draft : new.draft ≡ inside.draft
  pub accesses : new.accesses ≡ inside.accesses
  pub ends : EndsArm inside.values new.values (length old.values.log.items) lefts

-- no second arm
pub record MadeNoArm (old new : Building) (first next : ℕ) (lefts : List Left) : Type 0 where
  pub still : new ≡ old
  pub next_is : next ≡ first
  pub none : lefts ≡ []

-- an `if`
pub record MadeIf (scene : Scene) (Chosen Other : Around → (tests : List ℕ) → (old new : Building) → (first next : ℕ) → (lefts : List Left) → Type 0) (t : plain.Term) (around : Around) (old new : Building) (first next : ℕ) : Type 0 where
  pub tested : Building
  pub after_chosen : Building
  pub after_other : Building
  pub own : ℕ
  pub behind : ℕ
  pub tests : List ℕ
  pub chosen_left : List Left
  pub other_left : List Left
  pub test : MadeTests scene around first t (paths_counted around) old tested own tests
  pub chosen : Chosen around tests tested after_chosen own behind chosen_left
  pub other : Other around tests after_chosen after_other behind next other_left
  pub joined : MadeJoined tests chosen_left other_left after_other new

-- A loop, which has no phase in a straight command, puts nothing down. Its accesses have their numbers all the same.
pub record MadeIdle (count : ℕ) (around : Around) (old new : Building) (first next : ℕ) : Type 0 where
  pub still : new ≡ old
  pub next_is : next ≡ behind first count

-- one, and those behind it
pub record MadeBoth (First Rest : Commanding) (around : Around) (old new : Building) (first next : ℕ) : Type 0 where
  pub middle : Building
  pub own : ℕ
  pub one : First around old middle first own
  pub rest : Rest around middle new own next

-- a command that puts nothing down, and makes no access
pub record MadeNothing (around : Around) (old new : Building) (first next : ℕ) : Type 0 where
  pub still : new ≡ old
  pub next_is : next ≡ first

-- a view without offsets on its way puts nothing down
abbrev pub MadeView : Scene → List Hidden → ViewPlan → Commanding
MadeView scene [] form = MadeIdle (plan_accesses form + 0)
MadeView scene (h ∷ hs) form = λ around old new first next. KeptTo scene around first h.entity (offsets_of form) (paths_counted around) old new next

module _ (scene : Scene) where
  abbrev mutual
    -- a command whose accesses are numbered from `first` on
    pub MadeCommand : Action → Commanding
    MadeCommand (action id place form) = MadeActionForm form

    pub MadeActionForm : ActionForm → Commanding
    MadeActionForm (lets name declared (Some value)) = λ around old new first next. AssignedTo scene around first (entity_number name.entity) value (paths_counted around) old new next
    MadeActionForm (lets name declared None) = λ around old new first next. ClearedTo scene around first (entity_number name.entity) (paths_counted around) old new next
    MadeActionForm (assigns target value) = λ around old new first next. AssignedTo scene around first (entity_number target.entity) value (paths_counted around) old new next
    MadeActionForm (stores target value) = λ around old new first next. StoredTo scene around first target value (paths_counted around) old new next
    MadeActionForm (reduces target op value) = λ around old new first next. ReducedTo scene around first (entity_number target.entity) op value (paths_counted around) old new next
    MadeActionForm (decides test chosen other) = λ around old new first next. MadeIf scene (λ a ts b d n m ls. MadeArm (MadeCommand chosen) a true ts b d n m ls) (MadeOther other) test around old new first next
    MadeActionForm (blocks body) = MadeGroups body
    MadeActionForm (lets_memory name shape shape_places value) = MadeNothing
    MadeActionForm (views name parent form) = MadeView scene (hidden_in (way_of (known_in scene) name)) form
    MadeActionForm (calls function arguments) = MadeNothing
    MadeActionForm (repeats test body) = MadeIdle (term_accesses test + accesses_of body)
    MadeActionForm (counts iterator declared low high factor body combine combine_place) = MadeIdle (0 + (accesses_of body + other_accesses combine))

    pub MadeOther : MaybeAction → Around → (tests : List ℕ) → (old new : Building) → (first next : ℕ) → (lefts : List Left) → Type 0
    MadeOther no_action around tests old new first next lefts = MadeNoArm old new first next lefts
    MadeOther (one_action a) around tests old new first next lefts = MadeArm (MadeCommand a) around false tests old new first next lefts

    -- the parts of a block
    pub MadeActions : Actions → Commanding
    MadeActions no_actions = MadeNothing
    MadeActions (action_then a rest) = MadeBoth (MadeCommand a) (MadeActions rest)

    pub MadeGroups : Groups → Commanding
    MadeGroups no_groups = MadeNothing
    MadeGroups (group_then g rest) = MadeBoth (MadeActions g) (MadeGroups rest)

-- whatever the rest of the parts makes from here, the whole makes from the begin
abbrev pub RestMakesWhole : Scene → Around → (all rest : Groups) → (first now : ℕ) → (old here : Building) → Type 0
RestMakesWhole scene around all rest first now old here = (next : ℕ) (new : Building) → MadeGroups scene rest around here new now next → MadeGroups scene all around old new first next
