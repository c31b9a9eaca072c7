-- What is still to come, as a run keeps it: frames, of which the last one comes first.
use Rattle.std.specs.Prelude.{◌≡◌, ℕ, ◌<◌, List, [], ◌∷◌, slice_get, Option, Some, None}
use Rattle.dh_tree.specs.declared.tables.MemEntry.{MemEntry}
use Rattle.dh_meaning.specs.Paths.{Path, paths_in}
use Rattle.dh_meaning.specs.Core.{CoreTerm, CorePhase, straightly, turning, looping, choosing}
use Rattle.dh_meaning.specs.Effects.{Block, commands, tests}
use Rattle.dh_meaning.specs.Runs.{RunTodo, over, phases_then, turn_then, test_then, again_then, pick_then, RunPlace, ended, at}
use Rattle.dh_code.specs.Slots.{Placing}
use Rattle.dh_sem.specs.declared.phases.Frame.{Frame}
use Rattle.dh_sem.specs.declared.phases.Frame.TheVariants.{List as Rest, Turn, Test, Again, Pick}
use Rattle.dh_sem.specs.declared.phases.HeldPhase.{HeldPhase}
use Rattle.dh_sem.specs.Lanes.{LeadsInto}
use Rattle.dh_sem.specs.Phased.{ArePhases, Course, IsPhase}

-- the phase of a number is this one, done inside loops of these factors
abbrev pub StandsFor : List MemEntry → Placing → Course → (factors : List ℕ) → (number : ℕ) → CorePhase → Type 0
StandsFor table p c factors number q =
    (phase : HeldPhase) × ((slice_get c.phases number ≡ Some phase) × (LeadsInto c.lanes phase.paths factors × IsPhase table p c factors number phase.form q))

-- a frame is what comes first, at the paths inside loops of some factors
abbrev pub IsFirst : List MemEntry → Placing → Course → Frame → (k behind : RunTodo) → Type 0
IsFirst table p c (Rest list) (phases_then paths qs k) behind = (factors : List ℕ) × ((paths ≡ paths_in factors) × ((k ≡ behind) × ArePhases table p c factors list qs))
IsFirst table p c (Turn number turn) (turn_then paths loop t body k) behind =
    (factors : List ℕ) × ((paths ≡ paths_in factors) × ((k ≡ behind) × ((turn ≡ t) × ((t < loop.count) × StandsFor table p c factors number (turning loop body)))))
IsFirst table p c (Test number) (test_then paths test body k) behind = (factors : List ℕ) × ((paths ≡ paths_in factors) × ((k ≡ behind) × StandsFor table p c factors number (looping test body)))
IsFirst table p c (Again number) (again_then paths test body k) behind = (factors : List ℕ) × ((paths ≡ paths_in factors) × ((k ≡ behind) × StandsFor table p c factors number (looping test body)))
IsFirst table p c (Pick number) (pick_then paths test chosen other k) behind =
    (factors : List ℕ) × ((paths ≡ paths_in factors) × ((k ≡ behind) × StandsFor table p c factors number (choosing test chosen other)))
IsFirst table p c f k behind = ⊥

-- what begins with no test that was just done
abbrev pub BeginsWithoutTest : RunTodo → Type 0
BeginsWithoutTest over = Unit {0}
BeginsWithoutTest (phases_then paths qs k) = Unit {0}
BeginsWithoutTest (turn_then paths loop t body k) = Unit {0}
BeginsWithoutTest (test_then paths test body k) = ⊥
BeginsWithoutTest (again_then paths test body k) = Unit {0}
BeginsWithoutTest (pick_then paths test chosen other k) = ⊥

-- frames, the first one in front here, are what is still to come
abbrev pub AreToCome : List MemEntry → Placing → Course → List Frame → RunTodo → Type 0
AreToCome table p c [] k = k ≡ over
AreToCome table p c (f ∷ fs) k = (behind : RunTodo) × (IsFirst table p c f k behind × (BeginsWithoutTest behind × AreToCome table p c fs behind))

-- the block of a phase: its commands, or its test
abbrev pub IsBlockOf : CorePhase → Block → Type 0
IsBlockOf (straightly cs) b = b ≡ commands cs
IsBlockOf (turning loop body) b = ⊥
IsBlockOf (looping test body) b = b ≡ tests test
IsBlockOf (choosing test chosen other) b = b ≡ tests test

-- a test that was just done comes first
abbrev pub IsTestFirst : CoreTerm → (paths : List Path) → RunTodo → Type 0
IsTestFirst test paths over = ⊥
IsTestFirst test paths (phases_then paths' qs k) = ⊥
IsTestFirst test paths (turn_then paths' loop t body k) = ⊥
IsTestFirst test paths (test_then paths' test' body k) = (paths' ≡ paths) × (test' ≡ test)
IsTestFirst test paths (again_then paths' test' body k) = ⊥
IsTestFirst test paths (pick_then paths' test' chosen other k) = (paths' ≡ paths) × (test' ≡ test)

-- what comes first behind the block of a phase
abbrev pub StandsFirst : CorePhase → (paths : List Path) → RunTodo → Type 0
StandsFirst (straightly cs) paths k = BeginsWithoutTest k
StandsFirst (turning loop body) paths k = ⊥
StandsFirst (looping test body) paths k = IsTestFirst test paths k
StandsFirst (choosing test chosen other) paths k = IsTestFirst test paths k

-- where a run stands: at the block of a phase, or at its end
abbrev pub IsPlace : List MemEntry → Placing → Course → Option ℕ → (frames : List Frame) → RunPlace → Type 0
IsPlace table p c None frames ended = Unit {0}
IsPlace table p c None frames (at paths b k) = ⊥
IsPlace table p c (Some number) frames ended = ⊥
IsPlace table p c (Some number) frames (at paths b k) =
    (factors : List ℕ) × ((q : CorePhase) × ((paths ≡ paths_in factors) × (StandsFor table p c factors number q × (IsBlockOf q b × (StandsFirst q paths k × AreToCome table p c frames k)))))
