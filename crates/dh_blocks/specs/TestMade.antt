-- That the operations of a block were made of a test at each path, and then its flag is set to what it is at the first.
use Rattle.std.specs.Prelude.{◌≡◌, ℕ, ◌+◌, ◌<◌, ◌≤◌, ◌^◌, Bool, true, false, List, [], ◌∷◌, length, slice_index, Some, None}
use Rattle.dh_value.specs.declared.kinds.Kind.TheVariants as kind
use Rattle.dh_value.specs.declared.operators.Op.TheVariants.{Both}
use Rattle.dh_tree.specs.PlainTrees.{Term}
use Rattle.dh_tree.specs.Seen.{program_seen}
use Rattle.dh_meaning.specs.AccessNumbers.{term_accesses}
use Rattle.dh_meaning.specs.OnePhase.{in_one_phase, test_makes}
use Rattle.dh_meaning.specs.Phases.{Located}
use Rattle.dh_meaning.specs.CoreOf.{core_term, action_form_of, test_of}
use Rattle.dh_meaning.specs.Effects.{Variables, tests}
use Rattle.dh_meets.specs.SourceEvents.{trace}
use Rattle.dh_plan.specs.declared.operations.Operation.{Operation}
use Rattle.dh_plan.specs.declared.operations.OperationForm.TheVariants.{Compute, Set}
use Rattle.dh_plan.specs.Blocks.{kind_at}
use Rattle.dh_plan.specs.Correspondence.{Round, StandFor}
use Rattle.dh_plan.specs.PlainPlans.{PlainPlan}
use Rattle.dh_plan.specs.PlanPhases.{DoesBlock, SetsFlag}
use Rattle.dh_sound.specs.Trails.{Follows}
use Rattle.dh_expressions.specs.declared.scenes.Around.{Around}
use Rattle.dh_expressions.specs.declared.scenes.Scene.{Scene}
use Rattle.dh_expressions.specs.Copying.{AreNone}
use Rattle.dh_expressions.specs.Evaluated.{known_in}
use Rattle.dh_expressions.specs.Noted.{touched_in}
use Rattle.dh_expressions.specs.Shown.{is_read_term, kind_written}
use Rattle.dh_commands.specs.declared.buildings.Building.{Building}
use Rattle.dh_blocks.specs.BlockMade.{IsPut, IsTop}
use Rattle.dh_blocks.specs.BlockTraced.{SceneTellsShares}
use Rattle.dh_laid.specs.LaidAccesses.{AreLaid}
use Rattle.dh_blocks.specs.NamedVariables.{IsNamedHere}
use Rattle.dh_commands.specs.Setting.{TestsAll}
use Rattle.dh_blocks.specs.SlotsOfScene.{HoldsVariables, slots_in}
use Rattle.dh_blocks.specs.SoundTerms.{IsSound}

-- What a memory holds need be no word: of a read the flag is 1 where it is true, else 0. The next operation has this
-- number.
abbrev pub flag_made : (is_read : Bool) → (flag value next : ℕ) → List Operation
flag_made true flag value next = record { guard = None; form = Compute Both value value } ∷ (record { guard = None; form = Set flag next } ∷ [])
flag_made false flag value next = record { guard = None; form = Set flag value } ∷ []

pub record IsTestMade (scene : Scene) (around : Around) (plan : PlainPlan) (count block flag first : ℕ) (t : Term) (values : List ℕ) (old new : Building) : Type 0 where
  pub put : IsPut plan count block old new (flag_made (is_read_term t) flag (slice_index values 0) (length new.draft.operations.items))
  pub next : ℕ
  pub tested : TestsAll scene around old new first next t values
  pub low : first + term_accesses t < 2 ^ 32
  pub bare : (i : ℕ) → i < term_accesses t → (first + i < length old.accesses.touched.items) × (touched_in old.accesses (first + i) ≡ None)
  pub apart : count ≤ flag
  pub there : flag < length plan.registers
  pub kind_is : kind_at plan.registers flag ≡ kind.Bool

-- it is a test, of names that are seen
pub record IsSoundTest (scene : Scene) (around : Around) (plan : PlainPlan) (rounds : List Round) (t : Term) : Type 0 where
  pub sound : IsSound (known_in scene) plan.table (IsNamedHere scene around.levels.now plan.registers rounds (λ entity. false)) t
  pub kind_is : kind_written t ≡ kind.Bool

-- how it stands along the trace of the program
pub record IsTestTraced (scene : Scene) (first : ℕ) (t : Term) : Type 0 where
  pub tested : Located
  pub first_is : tested.first ≡ first
  pub test_is : test_of (action_form_of tested.command) ≡ Some t
  pub follows : Follows tested.around [] (trace (program_seen scene.program.now)) (tested ∷ [])
  pub one_phase : (j k : ℕ) → in_one_phase (program_seen scene.program.now) j k ≡ true → test_makes k tested ≡ true → test_makes j tested ≡ true
  pub shares : SceneTellsShares scene

-- such a block does its test, and sets its flag; and the accesses behind it are laid as a later block asks
pub record DoesTest (scene : Scene) (plan : PlainPlan) (rounds : List Round) (block flag first : ℕ) (t : Term) (new : Building) : Type 0 where
  pub does : DoesBlock plan (slots_in scene) rounds (tests (core_term (known_in scene) first t)) block
  pub sets : SetsFlag plan (slots_in scene) rounds (core_term (known_in scene) first t) flag block
  pub lays : (registers : List ℕ) (variables : Variables) → StandFor plan.registers (slots_in scene) rounds registers variables → AreLaid plan.faults new.accesses × AreNone new.accesses.counts.items

abbrev pub MadeTestsDo : (scene : Scene) → (around : Around) → PlainPlan → (count block flag first : ℕ) → Term → (values : List ℕ) → List Round → (old new : Building) → Type 0
MadeTestsDo scene around plan count block flag first t values rounds old new =
    IsTestMade scene around plan count block flag first t values old new → HoldsVariables scene plan count → IsTop rounds around → IsSoundTest scene around plan rounds t → IsTestTraced scene first t
    → DoesTest scene plan rounds block flag first t new
