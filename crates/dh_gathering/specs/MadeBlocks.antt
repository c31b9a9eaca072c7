-- The blocks of a plan as they stand in its one list of operations: which commands each is made of, inside which
-- loops, and where it begins and ends. This ties nodes to phases.
use Rattle.std.specs.Prelude.{◌≡◌, ℕ, suc, ◌+◌, ◌<◌, ◌≤◌, ◌^◌, Bool as Truth, true, false, if◌then◌else◌, List, [], ◌∷◌, ◌++◌, length, replicate, slice_get, Option, Some, None}
use Rattle.std.specs.List.{AllByRecursion}
use Rattle.dh_value.specs.declared.kinds.Kind.TheVariants as kind
use Rattle.dh_value.specs.declared.operators.Op.TheVariants.{Both}
use Rattle.dh_value.specs.declared.words.Word.{Word}
use Rattle.dh_value.specs.Operations.{binary_of}
use Rattle.dh_tree.specs.PlainTrees as plain
use Rattle.dh_meaning.specs.AccessNumbers.{accesses_of, term_accesses}
use Rattle.dh_meaning.specs.Core.{CoreCommands, CoreTerm, Turning}
use Rattle.dh_meaning.specs.CoreOf.{core_commands, core_test, action_form_of, test_of}
use Rattle.dh_meaning.specs.Phases.{Located, phases_of}
use Rattle.dh_tree.specs.Seen.{program_seen}
use Rattle.dh_code.specs.Slots.{held_at}
use Rattle.dh_plan.specs.declared.operations.OperationForm.TheVariants.{Compute, Set}
use Rattle.dh_plan.specs.Correspondence.{Round, loops_round}
use Rattle.dh_plan.specs.PlanPhases.{Tie}
use Rattle.dh_expressions.specs.declared.drafts.Draft.{Draft}
use Rattle.dh_expressions.specs.declared.paths.Level.{Level}
use Rattle.dh_expressions.specs.declared.scenes.Around.{Around}
use Rattle.dh_expressions.specs.declared.scenes.Scene.{Scene}
use Rattle.dh_expressions.specs.Copying.{AreNone, HasScopes}
use Rattle.dh_expressions.specs.Drafted.{Extends, Gives, Pushes, word_shown}
use Rattle.dh_expressions.specs.Evaluated.{known_in}
use Rattle.dh_expressions.specs.declared.paths.Paths.{Paths}
use Rattle.dh_expressions.specs.Levels.{count_inside, levels_inside}
use Rattle.dh_expressions.specs.Shown.{is_read_term}
use Rattle.dh_commands.specs.declared.buildings.Building.{Building}
use Rattle.dh_commands.specs.Done.{DoesCommand}
use Rattle.dh_commands.specs.LanesRun.{paths_counted}
use Rattle.dh_commands.specs.MadeCommands.{MadeTests}
use Rattle.dh_commands.specs.Setting.{TestsAll}
use Rattle.dh_commands.specs.Undone.{given_at}
use Rattle.dh_laid.specs.BareCommands.{AreRising, IsBare, IsBareFrom}
use Rattle.dh_laid.specs.BlockSites.{MadeEach}
use Rattle.dh_laid.specs.LaidAccesses.{AreLaid}
use Rattle.dh_laid.specs.LaidNumbers.{StoresReach}
use Rattle.dh_laid.specs.LaidQuiet.{BlockStandsIn}
use Rattle.dh_gathering.specs.declared.blocks.Made.{Made}
use Rattle.dh_gathering.specs.Growing.{IsClear, block_place_in, registers_given}
use Rattle.dh_gathering.specs.PhasesInLoops.{StraightOf, TestOf}
use Rattle.dh_gathering.specs.PushedSets.{SetsLogged, settings}

-- Paths.

-- These levels and so many paths are those inside loops that stand one in the other, from these levels on.
abbrev pub AreWithin : List Level → (count : ℕ) → List Round → List Level → ℕ → Type 0
AreWithin levels count [] inner paths = (inner ≡ levels) × (paths ≡ count)
AreWithin levels count (r ∷ rs) inner paths =
    (entity : Option ℕ) × ((entity ≡ Some r.loop.iterator) × AreWithin (levels_inside levels entity r.loop.factor) (count_inside count r.loop.factor) rs inner paths)

-- those of these loops, of which there is at least one path
pub record ArePathsOf (rounds : List Round) (levels : List Level) (paths : ℕ) : Type 0 where
  pub within : AreWithin [] 1 rounds levels paths
  pub some : 0 < paths

-- what is told of a scene whose program is made: loops are known by their scopes, and all stores are into accesses
pub record IsTold (scene : Scene) : Type 0 where
  pub scopes : HasScopes scene
  pub stores : (loops : List Turning) (cs : List Located) → StraightOf (known_in scene) [] (phases_of (program_seen scene.program.now)) loops cs → AllByRecursion (λ c. StoresReach c.command) cs

-- these loops have these paths, in a program of which that is told
pub record ArePathsInside (scene : Scene) (rounds : List Round) (paths : Paths) : Type 0 where
  pub told : IsTold scene
  pub inside : ArePathsOf rounds paths.levels.items paths.count

-- what stands round a block: these loops, and no arm
pub record IsRoundBlock (rounds : List Round) (around : Around) : Type 0 where
  pub paths : ℕ
  pub levels : ArePathsOf rounds around.levels.now paths
  pub guards : around.guards.now ≡ replicate paths None
  -- their number was not cut
  pub small : paths < 2 ^ 63

-- Blocks.

-- where a block begins and ends: it is all that was added from one building to another
pub record BlockStandsAt (final : Made) (block : ℕ) (before after : Building) : Type 0 where
  pub begins : block_place_in final block ≡ length before.draft.operations.items
  pub ends : block_place_in final (suc block) ≡ length after.draft.operations.items
  pub there : suc block ≤ length final.starts.items
  pub kept : Extends after.draft final.building.draft
  -- as it begins no variable is given a value, and those that can be are the same as ever
  pub clear : IsClear before.values
  pub variables : length before.values.current.items ≡ registers_given final

-- straight commands at all paths, one after the other
abbrev pub DoesCommands : Scene → Around → List Located → (old new : Building) → Type 0
DoesCommands scene around [] old new = new ≡ old
DoesCommands scene around (l ∷ ls) old new =
    (mid : Building) × ((next : ℕ) × (DoesCommand scene around l.command l.first next old mid × DoesCommands scene around ls mid new))

-- the numbers of a command's accesses are few
abbrev pub AccessNumbersAreFew : Located → Type 0
AccessNumbersAreFew l = l.first + accesses_of l.command < 2 ^ 32

-- it is among these
abbrev pub IsAmong : {A : Type 0} → List A → A → Type 0
IsAmong xs x = (i : ℕ) × (slice_get xs i ≡ Some x)

-- each register of a variable that was given a value is set to it, and no other
pub record SetsGiven (old new : Building) : Type 0 where
  pub sets : List (ℕ × ℕ)
  pub operations : new.draft.operations.items ≡ old.draft.operations.items ++ settings sets
  pub faults : new.draft.faults ≡ old.draft.faults
  pub accesses : new.accesses ≡ old.accesses
  pub given : AllByRecursion (λ s. given_at old.values.current.items s.0 ≡ Some s.1) sets
  pub all : (register value : ℕ) → given_at old.values.current.items register ≡ Some value → IsAmong sets (register, value)

-- the block of straight commands
pub record MadeStraight (scene : Scene) (final : Made) (rounds : List Round) (ls : List Located) (block : ℕ) : Type 0 where
  pub around : Around
  pub round : IsRoundBlock rounds around
  pub before : Building
  pub between : Building
  pub after : Building
  pub stands : BlockStandsAt final block before after
  pub few : AllByRecursion AccessNumbersAreFew ls
  pub does : DoesCommands scene around ls before between
  -- exactly what was put down
  pub stands_in : BlockStandsIn scene around
  pub made : MadeEach scene around ls before between
  -- As it begins all accesses with operations are laid, where faults are few, and none is counted; its own have no
  -- operations, and stand one behind the other.
  pub laid : length final.building.draft.faults ≤ 2 ^ 32 → AreLaid final.building.draft.faults before.accesses
  pub counts : AreNone before.accesses.counts.items
  pub rising : AreRising 0 ls
  pub bare : AllByRecursion (IsBare before.accesses) ls
  -- from the log of what was given, and so of all that was given
  pub logged : SetsLogged between after
  pub sets : SetsGiven between after

-- a test as its flag shows it: what a memory holds need be no word of its kind
abbrev pub flag_shown : plain.Term → Word → Word
flag_shown t w = if is_read_term t then binary_of Both w w else w

-- a flag is set to the value of a test
pub record SetsTestFlag (old new : Draft) (t : plain.Term) (value flag : ℕ) : Type 0 where
  pub mid : Draft
  pub made : ℕ
  pub number : ℕ
  pub gives : Gives old mid made (λ x. flag_shown t (word_shown x value))
  pub set : Pushes mid new number None (Set flag made)

-- The operations of a flag: of a read, whose value need be no word, both of it and itself.
abbrev pub AddsFlag : (is_read : Truth) → (old new : Draft) → (value flag : ℕ) → Type 0
AddsFlag true old new value flag = (mid : Draft) × ((made : ℕ) × ((number : ℕ) × (Pushes old mid made None (Compute Both value value) × Pushes mid new number None (Set flag made))))
AddsFlag false old new value flag = (number : ℕ) × Pushes old new number None (Set flag value)

-- so is a flag put down
abbrev pub PutsFlag : (old new : Draft) → plain.Term → (value flag : ℕ) → Type 0
PutsFlag old new t value flag = SetsTestFlag old new t value flag × AddsFlag (is_read_term t) old new value flag

-- a flag is a truth, and the register of no variable
pub record IsFlagOf (final : Made) (flag : ℕ) : Type 0 where
  pub truth : slice_get final.registers flag ≡ Some kind.Bool
  pub fresh : registers_given final ≤ flag

-- the block of a test whose accesses are numbered from n on
pub record MadeTest (scene : Scene) (final : Made) (rounds : List Round) (n : ℕ) (t : plain.Term) (flag block : ℕ) : Type 0 where
  pub around : Around
  pub round : IsRoundBlock rounds around
  pub before : Building
  pub between : Building
  pub after : Building
  pub stands : BlockStandsAt final block before after
  pub few : n + term_accesses t < 2 ^ 32
  pub next : ℕ
  pub tests : List ℕ
  pub value : ℕ
  pub does : TestsAll scene around before between n next t tests
  pub stands_in : BlockStandsIn scene around
  pub made : MadeTests scene around n t (paths_counted around) before between next tests
  pub laid : length final.building.draft.faults ≤ 2 ^ 32 → AreLaid final.building.draft.faults before.accesses
  pub counts : AreNone before.accesses.counts.items
  pub bare : IsBareFrom before.accesses n (term_accesses t)
  -- its flag is set, and nothing else is changed behind
  pub accesses : after.accesses ≡ between.accesses
  pub values : after.values ≡ between.values
  pub first : slice_get tests 0 ≡ Some value
  pub sets : SetsTestFlag between.draft after.draft t value flag
  pub adds : AddsFlag (is_read_term t) between.draft after.draft value flag
  pub is_flag : IsFlagOf final flag

-- The tie.

-- a block does the commands of a straight phase of the program
pub record IsStraightBlock (scene : Scene) (final : Made) (rounds : List Round) (cs : CoreCommands) (block : ℕ) : Type 0 where
  pub located : List Located
  pub are : cs ≡ core_commands (known_in scene) located
  pub placed : StraightOf (known_in scene) [] (phases_of (program_seen scene.program.now)) (loops_round rounds) located
  pub made : MadeStraight scene final rounds located block

-- and the test of one of its commands
pub record IsTestBlock (scene : Scene) (final : Made) (rounds : List Round) (test : CoreTerm) (flag block : ℕ) : Type 0 where
  pub tested : Located
  pub term : plain.Term
  pub is : test ≡ core_test (known_in scene) tested
  pub placed : TestOf (known_in scene) [] (phases_of (program_seen scene.program.now)) (loops_round rounds) tested
  -- the test that the command has
  pub term_is : test_of (action_form_of tested.command) ≡ Some term
  pub made : MadeTest scene final rounds tested.first term flag block

-- the counter of a loop is the first register of its iterator
abbrev pub counter_register : Scene → Turning → ℕ
counter_register scene loop = (held_at scene.held.now loop.iterator).first

abbrev pub made_tie : Scene → Made → Tie
made_tie scene final = record {
  of_block = λ rounds cs block. IsStraightBlock scene final rounds cs block;
  of_test = λ rounds test flag block. IsTestBlock scene final rounds test flag block;
  of_loop = λ rounds loop counter. counter ≡ counter_register scene loop;
}
