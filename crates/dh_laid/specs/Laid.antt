-- What is asked of the operations of commands: what variables were given in a step are values of its block, of the kinds
-- of their registers, and so are the values that are taken back.
use Rattle.std.specs.Prelude.{◌≡◌, ℕ, suc, ◌+◌, ◌<◌, ◌≤◌, ◌^◌, Bool as Truth, false, true, List, [], ◌∷◌, length, slice_get, Option, Some, drop}
use Rattle.std.specs.List.{AllByRecursion}
use Rattle.dh_value.specs.declared.kinds.Kind.{Kind}
use Rattle.dh_value.specs.declared.kinds.Kind.TheVariants.{Bool}
use Rattle.dh_value.specs.declared.operators.Op.{Op}
use Rattle.dh_value.specs.Operations.{Suits, result_of}
use Rattle.dh_value.specs.Words.{IsInteger, IsKind}
use Rattle.dh_tree.specs.Indices.{form_of}
use Rattle.dh_tree.specs.Memories.{table_of}
use Rattle.dh_tree.specs.PlainTrees as plain
use Rattle.dh_tree.specs.PlainTrees.{Term}
use Rattle.dh_tree.specs.Seen.{program_seen}
use Rattle.dh_meaning.specs.AccessNumbers.{term_accesses, terms_accesses}
use Rattle.dh_meaning.specs.CoreOf.{memory_of}
use Rattle.dh_meaning.specs.Effects.{kind_in}
use Rattle.dh_code.specs.Extended.{extension_of}
use Rattle.dh_tree.specs.Kinds.{same_kind}
use Rattle.dh_code.specs.Slots.{held_at}
use Rattle.dh_plan.specs.Blocks.{kind_at}
use Rattle.dh_expressions.specs.declared.drafts.Draft.{Draft}
use Rattle.dh_expressions.specs.declared.scenes.Around.{Around}
use Rattle.dh_expressions.specs.declared.scenes.Lane.{Lane}
use Rattle.dh_expressions.specs.Copying.{HasScopes}
use Rattle.dh_expressions.specs.declared.scenes.Scene.{Scene}
use Rattle.dh_expressions.specs.Drafted.{Extends}
use Rattle.dh_expressions.specs.Evaluated.{known_in}
use Rattle.dh_expressions.specs.Reaching.{place_written}
use Rattle.dh_expressions.specs.Shown.{kind_written, register_at}
use Rattle.dh_formed.specs.Formed.{AccessSuits, Agrees, FormedBlock, Forms, HasKind, HeldSuits, IsExtension, IsGuard, AreNotedReads, IsScope, Started, TermSuits, operand_kind, NamedSuits}
use Rattle.dh_commands.specs.declared.assignments.Change.{Change}
use Rattle.dh_commands.specs.declared.assignments.Values.{Values}
use Rattle.dh_commands.specs.declared.buildings.Building.{Building}
use Rattle.dh_commands.specs.declared.choices.Choice.{Choice}
use Rattle.dh_commands.specs.declared.choices.Left.{Left}
use Rattle.dh_commands.specs.LanesRun.{lane_of, paths_counted}
use Rattle.dh_commands.specs.MadeCommands.{AssignedTo, ClearedTo, MadeArmGuards, MadeAssigned, MadeChoices, MadeCleared, MadeJoined, MadeReduced, MadeStored, MadeTests, ReducedTo, StoredTo}
use Rattle.dh_commands.specs.Joined.{IsLeft}
use Rattle.dh_commands.specs.Undone.{AreReady, EndsArm, HasRoom}

-- what a register was given, if it was, is a value of the block of its kind
abbrev pub HoldsKind : FormedBlock → Draft → (register : ℕ) → Option ℕ → Type 0
HoldsKind x d register given = (value : ℕ) → given ≡ Some value → HasKind x d (kind_at x.plan.registers register) value

-- what it had before it was assigned
abbrev pub HadKind : FormedBlock → Draft → Change → Type 0
HadKind x d c = HoldsKind x d c.register c.before

-- what variables were given, and had before, are values of the block, of the kinds of their registers
pub record AreHeld (x : FormedBlock) (d : Draft) (v : Values) : Type 0 where
  pub current : (register value : ℕ) → slice_get v.current.items register ≡ Some (Some value) → HasKind x d (kind_at x.plan.registers register) value
  pub log : AllByRecursion (HadKind x d) v.log.items

-- A command at one path: it forms what it adds where the scope and what is noted and held are of the block, and what
-- is noted and held behind it is.
pub record FormsThere (x : FormedBlock) (old new : Building) : Type 0 where
  pub forms : Forms x old.draft new.draft
  pub notes : AreNotedReads x new.draft new.accesses
  pub held : AreHeld x new.draft new.values

pub record FormsAtPath (scene : Scene) (lane : Lane) (old new : Building) (Where : FormedBlock → Type 0) : Type 0 where
  pub extends : Extends old.draft new.draft
  pub forms : (x : FormedBlock) → Agrees x new.draft → Started x old.draft → IsScope x old.draft scene lane old.values.current.items → AreNotedReads x old.draft old.accesses → AreHeld x old.draft old.values → Where x
      → FormsThere x old new

-- a value of its kind for the register of a variable at a path
abbrev pub FitsRegister : FormedBlock → Scene → Lane → (entity : ℕ) → Type 0
FitsRegister x scene lane entity = (held_at scene.held.now entity).kind ≡ kind_at x.plan.registers (register_at (held_at scene.held.now entity) lane)

-- values of offsets for those of variables that keep them, whose entities follow one another
abbrev pub KeptFits : FormedBlock → Scene → Lane → (first : ℕ) → (offsets : List Term) → Type 0
KeptFits x scene lane first [] = Unit {0}
KeptFits x scene lane first (t ∷ ts) = (HeldSuits t (held_at scene.held.now first).kind × FitsRegister x scene lane first) × KeptFits x scene lane (suc first) ts

-- an assignment, and a variable that is set to 0 or false
abbrev pub AssignmentsForm : Type 0
AssignmentsForm =
    (scene : Scene) (lane : Lane) (first entity : ℕ) (t : Term) (old new : Building) (next : ℕ) → MadeAssigned scene lane first entity t old new next → first + term_accesses t < 2 ^ 32
    → FormsAtPath scene lane old new (λ x. (TermSuits x scene lane first t × HeldSuits t (held_at scene.held.now entity).kind) × FitsRegister x scene lane entity)

abbrev pub ClearingsForm : Type 0
ClearingsForm =
    (scene : Scene) (lane : Lane) (entity : ℕ) (old new : Building) → MadeCleared scene lane entity old new
    → FormsAtPath scene lane old new (λ x. IsKind (held_at scene.held.now entity).kind × FitsRegister x scene lane entity)

-- Arms.

-- these are guards, and these truths, of the block
abbrev pub AreGuardsThere : FormedBlock → Draft → List (Option ℕ) → Type 0
AreGuardsThere x d guards = (path : ℕ) (guard : Option ℕ) → slice_get guards path ≡ Some guard → IsGuard x d guard

abbrev pub TestsAreTruths : FormedBlock → Draft → List ℕ → Type 0
TestsAreTruths x d tests = (path test : ℕ) → slice_get tests path ≡ Some test → HasKind x d Bool test

-- the guards of an arm
pub record FormsGuards (old new : Draft) (guards : List (Option ℕ)) (tests : List ℕ) (arm : List (Option ℕ)) : Type 0 where
  pub extends : Extends old new
  pub forms : (x : FormedBlock) → Agrees x new → Started x old → AreGuardsThere x old guards → TestsAreTruths x old tests → Forms x old new
  pub gives : (x : FormedBlock) → Agrees x new → Started x old → AreGuardsThere x old guards → TestsAreTruths x old tests → AreGuardsThere x new arm

abbrev pub ArmGuardsForm : Type 0
ArmGuardsForm =
    (holds : Truth) (guards : List (Option ℕ)) (tests : List ℕ) (count : ℕ) (old new : Draft) (arm : List (Option ℕ)) → MadeArmGuards holds guards tests count old new arm
    → FormsGuards old new guards tests arm

-- an arm that is taken back
abbrev pub ArmsEnd : Type 0
ArmsEnd = (x : FormedBlock) (d : Draft) (old new : Values) (floor : ℕ) (lefts : List Left) → EndsArm old new floor lefts → AreHeld x d old → AreHeld x d new

-- All paths.

-- guards of all paths are of the block, and these are few
pub record StandsRound (x : FormedBlock) (d : Draft) (scene : Scene) (around : Around) : Type 0 where
  pub guards : AreGuardsThere x d around.guards.now
  pub scopes : HasScopes scene
  pub low : length around.levels.now < 2 ^ 63
  pub few : length around.guards.now < 2 ^ 64

-- a command at the first paths, so many
pub record FormsAround (scene : Scene) (around : Around) (old new : Building) (Where : FormedBlock → Type 0) : Type 0 where
  pub extends : Extends old.draft new.draft
  pub forms : (x : FormedBlock) → Agrees x new.draft → Started x old.draft → StandsRound x old.draft scene around → AreNotedReads x old.draft old.accesses → AreHeld x old.draft old.values → Where x → FormsThere x old new

-- assignments, and variables that are set to 0 or false
abbrev pub AllAssignmentsForm : Type 0
AllAssignmentsForm =
    (scene : Scene) (around : Around) (first entity : ℕ) (t : Term) (count : ℕ) (old new : Building) (next : ℕ) → AssignedTo scene around first entity t count old new next → first + term_accesses t < 2 ^ 32
    → count ≤ paths_counted around
    → FormsAround scene around old new
    (λ x. (n : ℕ) → n < count → (TermSuits x scene (lane_of around n) first t × HeldSuits t (held_at scene.held.now entity).kind) × FitsRegister x scene (lane_of around n) entity)

abbrev pub AllClearingsForm : Type 0
AllClearingsForm =
    (scene : Scene) (around : Around) (first entity count : ℕ) (old new : Building) (next : ℕ) → ClearedTo scene around first entity count old new next → count ≤ paths_counted around
    → FormsAround scene around old new (λ x. (n : ℕ) → n < count → IsKind (held_at scene.held.now entity).kind × FitsRegister x scene (lane_of around n) entity)

-- tests at the first paths, which are truths
pub record FormsTested (x : FormedBlock) (old new : Building) (tests : List ℕ) : Type 0 where
  pub there : FormsThere x old new
  pub truths : TestsAreTruths x new.draft tests

pub record FormsTests (scene : Scene) (around : Around) (first : ℕ) (t : Term) (count : ℕ) (old new : Building) (tests : List ℕ) : Type 0 where
  pub extends : Extends old.draft new.draft
  pub forms : (x : FormedBlock) → Agrees x new.draft → Started x old.draft → StandsRound x old.draft scene around → AreNotedReads x old.draft old.accesses → AreHeld x old.draft old.values
      → ((n : ℕ) → n < count → TermSuits x scene (lane_of around n) first t) → FormsTested x old new tests

abbrev pub TestsForm : Type 0
TestsForm =
    (scene : Scene) (around : Around) (first : ℕ) (t : Term) (count : ℕ) (old new : Building) (next : ℕ) (tests : List ℕ) → first + term_accesses t < 2 ^ 32 → kind_written t ≡ Bool
    → count ≤ paths_counted around → MadeTests scene around first t count old new next tests → FormsTests scene around first t count old new tests

-- Variables behind an `if`.

-- both values of a choice are of the kind of its register
pub record ChoiceSuits (x : FormedBlock) (d : Draft) (c : Choice) : Type 0 where
  pub there : c.register < length x.plan.registers
  pub chosen : HoldsKind x d c.register c.chosen
  pub other : HoldsKind x d c.register c.other

abbrev pub ChoicesSuit : FormedBlock → Draft → List Choice → Type 0
ChoicesSuit x d choices = (k : ℕ) (c : Choice) → slice_get choices k ≡ Some c → ChoiceSuits x d c

pub record FormsChosen (x : FormedBlock) (old new : Draft) (after : Values) : Type 0 where
  pub forms : Forms x old new
  pub held : AreHeld x new after

pub record FormsChoices (tests : List ℕ) (choices : List Choice) (old new : Draft) (before after : Values) : Type 0 where
  pub extends : Extends old new
  pub forms : (x : FormedBlock) → Agrees x new → Started x old → TestsAreTruths x old tests → AreHeld x old before → ChoicesSuit x old choices → FormsChosen x old new after

abbrev pub ChoicesForm : Type 0
ChoicesForm =
    (tests : List ℕ) (choices : List Choice) (count : ℕ) (old new : Draft) (before after : Values) → MadeChoices tests choices count old new before after
    → FormsChoices tests choices old new before after

-- What arms left.

abbrev pub LeftHolds : FormedBlock → Draft → Left → Type 0
LeftHolds x d l = HoldsKind x d l.register l.value

-- what an arm that is taken back left is of the kinds of its registers
abbrev pub ArmsLeave : Type 0
ArmsLeave =
    (x : FormedBlock) (d : Draft) (old new : Values) (floor : ℕ) (lefts : List Left) → EndsArm old new floor lefts → AllByRecursion (HasRoom old.current.items) (drop floor old.log.items) → AreHeld x d old
    → AllByRecursion (LeftHolds x d) lefts

-- what both arms of an `if` left
pub record AreLeftByArms (x : FormedBlock) (d : Draft) (v : Values) (lefts : List Left) : Type 0 where
  pub left : AllByRecursion (IsLeft v.current.items) lefts
  pub hold : AllByRecursion (LeftHolds x d) lefts

-- variables behind an `if` are given values, where choices can be marked
pub record FormsJoined (tests : List ℕ) (chosen other : List Left) (old new : Building) : Type 0 where
  pub extends : Extends old.draft new.draft
  pub forms : (x : FormedBlock) → Agrees x new.draft → Started x old.draft → TestsAreTruths x old.draft tests → AreNotedReads x old.draft old.accesses → AreHeld x old.draft old.values → AreReady old.values
      → length old.values.current.items ≤ length x.plan.registers → AreLeftByArms x old.draft old.values chosen → AreLeftByArms x old.draft old.values other → FormsThere x old new

abbrev pub JoinsForm : Type 0
JoinsForm = (tests : List ℕ) (chosen other : List Left) (old new : Building) → MadeJoined tests chosen other old new → FormsJoined tests chosen other old new

-- Reducers.

-- operands suit a reducer, once they are extended, and its variable can hold what it gives
pub record ReducerSuits (op : Op) (held right : Kind) : Type 0 where
  pub extension : IsExtension (extension_of op held right)
  pub suits : Suits op (operand_kind held (extension_of op held right)) (operand_kind right (extension_of op held right))
  pub kept : same_kind held (extension_of op held right) ≡ true → result_of op (operand_kind held (extension_of op held right)) ≡ held
  pub converted : same_kind held (extension_of op held right) ≡ false → IsInteger held

abbrev pub ReducesForm : Type 0
ReducesForm =
    (scene : Scene) (lane : Lane) (first entity : ℕ) (op : Op) (t : Term) (old new : Building) (next : ℕ) → MadeReduced scene lane first entity op t old new next → first + term_accesses t < 2 ^ 32
    → FormsAtPath scene lane old new
    (λ x. (TermSuits x scene lane first t × ReducerSuits op (held_at scene.held.now entity).kind (kind_written t))
    × ((register_at (held_at scene.held.now entity) lane < length x.plan.registers) × FitsRegister x scene lane entity))

abbrev pub AllReducesForm : Type 0
AllReducesForm =
    (scene : Scene) (around : Around) (first entity : ℕ) (op : Op) (t : Term) (count : ℕ) (old new : Building) (next : ℕ) → ReducedTo scene around first entity op t count old new next
    → first + term_accesses t < 2 ^ 32 → count ≤ paths_counted around
    → FormsAround scene around old new
    (λ x. (n : ℕ) → n < count
    → (TermSuits x scene (lane_of around n) first t × ReducerSuits op (held_at scene.held.now entity).kind (kind_written t))
    × ((register_at (held_at scene.held.now entity) (lane_of around n) < length x.plan.registers) × FitsRegister x scene (lane_of around n) entity))

-- Stores.

-- the accesses of what names the element that is stored
abbrev pub aim_accesses : plain.TermForm → ℕ
aim_accesses (plain.accessed r ts) = terms_accesses ts
aim_accesses (plain.in_bank r bank at row) = term_accesses row
aim_accesses form = 0

-- what names the element that is stored is there, and of integer kinds
abbrev pub AimingSuits : FormedBlock → Scene → Lane → (n : ℕ) → plain.TermForm → Type 0
AimingSuits x scene lane n (plain.accessed r ts) = NamedSuits x scene lane n r ts
AimingSuits x scene lane n (plain.in_bank r bank at row) = TermSuits x scene lane n row × IsInteger (kind_written row)
AimingSuits x scene lane n form = Unit {0}

-- the access stands in the block, and its memory can hold the value
pub record WritingSuits (x : FormedBlock) (scene : Scene) (lane : Lane) (memory number : ℕ) (target t : Term) : Type 0 where
  pub access : AccessSuits x scene lane memory number (place_written target) (form_of target) true
  pub holds : HeldSuits t (kind_in (table_of (program_seen scene.program.now)) memory)
  pub same : kind_in (table_of (program_seen scene.program.now)) memory ≡ kind_in x.plan.table memory

abbrev pub StoringSuits : FormedBlock → Scene → Lane → (n : ℕ) → (target t : Term) → plain.TermForm → Type 0
StoringSuits x scene lane n target t (plain.accessed r ts) = WritingSuits x scene lane (memory_of (known_in scene) r) (n + terms_accesses ts) target t
StoringSuits x scene lane n target t (plain.in_bank r bank at row) = WritingSuits x scene lane (memory_of (known_in scene) r) (n + term_accesses row) target t
StoringSuits x scene lane n target t form = Unit {0}

abbrev pub StoresForm : Type 0
StoresForm =
    (scene : Scene) (lane : Lane) (first : ℕ) (target t : Term) (old new : Building) (next : ℕ) → MadeStored scene lane first target t old new next
    → (first + term_accesses t) + aim_accesses (form_of target) < 2 ^ 32
    → FormsAtPath scene lane old new
    (λ x. TermSuits x scene lane first t × (AimingSuits x scene lane (first + term_accesses t) (form_of target) × StoringSuits x scene lane (first + term_accesses t) target t (form_of target)))

abbrev pub AllStoresForm : Type 0
AllStoresForm =
    (scene : Scene) (around : Around) (first : ℕ) (target t : Term) (count : ℕ) (old new : Building) (next : ℕ) → StoredTo scene around first target t count old new next
    → (first + term_accesses t) + aim_accesses (form_of target) < 2 ^ 32 → count ≤ paths_counted around
    → FormsAround scene around old new
    (λ x. (n : ℕ) → n < count
    → TermSuits x scene (lane_of around n) first t
    × (AimingSuits x scene (lane_of around n) (first + term_accesses t) (form_of target) × StoringSuits x scene (lane_of around n) (first + term_accesses t) target t (form_of target)))
