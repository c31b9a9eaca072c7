-- What the calls that do a step promise.
use Rattle.std.specs.Prelude.{◌≡◌, ℕ, ◌+◌, ◌-◌, ◌<◌, ◌≤◌, ◌==◌, Bool, if◌then◌else◌, List, [], ◌∷◌, length, reverse, slice_index, slice_set, Option, Some, None, Result, Ok, Err, IfOk}
use Rattle.dh_base.specs.declared.outcomes.Outcome.{Outcome}
use Rattle.dh_tree.specs.declared.tables.MemEntry.{MemEntry}
use Rattle.dh_meaning.specs.Paths.{Path, paths_in}
use Rattle.dh_meaning.specs.Core.{CoreTerm, Turning, CorePhase, straightly, turning, looping, choosing, CorePhases}
use Rattle.dh_meaning.specs.Effects.{Begun, Block, Effect, Variables, at_each, block_run, holds_at, stop_after, tested_at}
use Rattle.dh_meaning.specs.Runs.{RunNext, RunTodo, over, phases_then, turn_then, test_then, again_then, pick_then, enter, first_path, next_of, turn_begun}
use Rattle.dh_code.specs.declared.codes.Code.{Code}
use Rattle.dh_code.specs.declared.codes.FlatExpression.{FlatExpression}
use Rattle.dh_code.specs.declared.evaluating.StepContext.{StepContext}
use Rattle.dh_code.specs.declared.evaluating.StepStop.{StepStop}
use Rattle.dh_code.specs.declared.evaluating.StepStop.TheVariants as stop
use Rattle.dh_code.specs.declared.running.StepState.{StepState}
use Rattle.dh_code.specs.Banks.{all_banks}
use Rattle.dh_code.specs.Coded.{IsFlat}
use Rattle.dh_code.specs.Declarations.{factors_inside}
use Rattle.dh_code.specs.Plain.{all_plain}
use Rattle.dh_code.specs.Scenes.{begun_in}
use Rattle.dh_code.specs.Slots.{Holds, Placing}
use Rattle.dh_code.specs.Spent.{AreUsedBy}
use Rattle.dh_code.specs.States.{GoBackAlike, Keeps, Runs, writes_in}
use Rattle.dh_code.specs.Suited.{CanEvaluate}
use Rattle.dh_sem.specs.declared.lanes.Lanes.{Lanes}
use Rattle.dh_sem.specs.declared.phases.Frame.{Frame}
use Rattle.dh_sem.specs.declared.phases.Frame.TheVariants.{List as Rest, Turn, Test, Again, Pick}
use Rattle.dh_sem.specs.declared.phases.Turns as turns
use Rattle.dh_sem.specs.declared.stepping.Course as code
use Rattle.dh_sem.specs.Frames.{AreToCome, IsBlockOf, IsFirst, IsPlace, BeginsWithoutTest, StandsFirst, StandsFor}
use Rattle.dh_sem.specs.Lanes.{AreLanes}
use Rattle.dh_sem.specs.Phased.{AreTurns, ArePhases, Course}

-- what a step goes through, with the code of its commands
abbrev pub course_of : Code → code.Course → Course
course_of made c = record { code = made; phases = c.phases.now; lanes = c.lanes.now }

abbrev pub course_seen : StepContext → code.Course → Course
course_seen s c = course_of s.code.now c

-- Turns.

-- nothing but variables is changed, and the changes are noted
pub record OnlyVariables (old new : StepState) : Type 0 where
  pub banks : new.banks ≡ old.banks
  pub given : new.given ≡ old.given
  pub writes : new.writes ≡ old.writes
  pub long : length new.variables.items ≡ length old.variables.items
  pub back : GoBackAlike old new

-- the copy of the iterator at a path of these ranks is set, where it has one there
abbrev pub SetsCopy : (old new : StepState) → (ranks : List ℕ) → turns.Turns → (value : ℕ) → Type 0
SetsCopy old new ranks t value =
    new.variables.items ≡ (if length ranks == t.depth + 1 then slice_set old.variables.items (t.first + slice_index ranks t.depth) value else old.variables.items)

-- the iterator has its value at each path inside a loop
abbrev pub BeginsTurn : (old new : StepState) → Lanes → turns.Turns → (turn : ℕ) → Type 0
BeginsTurn old new lanes t turn =
    (p : Placing) (factors : List ℕ) (loop : Turning) (v : Variables) → AreLanes (factors_inside factors loop.factor) lanes → AreTurns p factors t loop
    → Holds p old.variables.items v → Holds p new.variables.items (turn_begun loop turn (paths_in (factors_inside factors loop.factor)) v)

-- From one block to the next.

-- the state and the frames are what a place is
pub record Arrives (table : List MemEntry) (p : Placing) (c : Course) (n : RunNext) (new : StepState) (at : Option ℕ) (frames : List Frame) : Type 0 where
  pub variables : Holds p new.variables.items n.variables
  pub place : IsPlace table p c at (reverse frames) n.place

-- no list leads into nothing, and nothing is changed
pub record IsNowhere (list : Option ℕ) (old new : StepState) (old_frames new_frames : List Frame) : Type 0 where
  pub list_is : list ≡ None
  pub state : new ≡ old
  pub frames : new_frames ≡ old_frames

abbrev pub DescendsTo : List MemEntry → Placing → Course → (at : Option ℕ) → (new : StepState) → (new_frames : List Frame) → RunNext → Type 0
DescendsTo table p c None new new_frames n = Unit {0}
DescendsTo table p c (Some number) new new_frames n = Arrives table p c n new (Some number) new_frames

-- into a list of phases, to its first block
abbrev pub Descends : code.Course → (list at : Option ℕ) → (old new : StepState) → (old_frames new_frames : List Frame) → Type 0
Descends c list at old new old_frames new_frames =
    (table : List MemEntry) (p : Placing) (made : Code) (factors : List ℕ) (qs : CorePhases) (k : RunTodo) (behind : RunNext) (v : Variables)
    → ArePhases table p (course_of made c) factors list qs → AreToCome table p (course_of made c) (reverse old_frames) k → BeginsWithoutTest k → Holds p old.variables.items v
    → DescendsTo table p (course_of made c) at new new_frames (enter (paths_in factors) qs k behind v)

abbrev pub NowhereIfNone : (list at : Option ℕ) → (old new : StepState) → (old_frames new_frames : List Frame) → Type 0
NowhereIfNone list None old new old_frames new_frames = IsNowhere list old new old_frames new_frames
NowhereIfNone list (Some number) old new old_frames new_frames = Unit {0}

-- whether the test that stands first among what is to come holds
abbrev pub FirstTestHolds : Begun → Variables → RunTodo → Bool → Type 0
FirstTestHolds b v over holds = Unit {0}
FirstTestHolds b v (phases_then paths qs k) holds = Unit {0}
FirstTestHolds b v (turn_then paths loop turn body k) holds = Unit {0}
FirstTestHolds b v (test_then paths test body k) holds = holds_at b v test (first_path paths) ≡ holds
FirstTestHolds b v (again_then paths test body k) holds = Unit {0}
FirstTestHolds b v (pick_then paths test chosen other k) holds = holds_at b v test (first_path paths) ≡ holds

-- each frame that is left behind has its weight
abbrev pub frame_weight : Frame → ℕ
frame_weight (Rest list) = 1
frame_weight (Turn at turn) = 1
frame_weight (Test at) = 2
frame_weight (Again at) = 1
frame_weight (Pick at) = 1

abbrev pub weight_of : List Frame → ℕ
weight_of [] = 0
weight_of (f ∷ fs) = frame_weight f + weight_of fs

-- frames that go on as others do
pub record GoAlike (table : List MemEntry) (p : Placing) (c : Course) (b : Begun) (v : Variables) (n : RunNext) (frames : List Frame) : Type 0 where
  pub todo : RunTodo
  pub are : AreToCome table p c (reverse frames) todo
  pub settled : BeginsWithoutTest todo
  pub same : next_of b todo v ≡ n

abbrev pub FollowsTo : List MemEntry → Placing → Course → Begun → Variables → RunNext → (at : Option ℕ) → (new : StepState) → (new_frames : List Frame) → Type 0
FollowsTo table p c b v n None new new_frames = GoAlike table p c b v n new_frames
FollowsTo table p c b v n (Some number) new new_frames = Arrives table p c n new (Some number) new_frames

-- a frame that leads to no block leaves less behind
abbrev pub Lightens : (at : Option ℕ) → (frame : Frame) → (old new : StepState) → (old_frames new_frames : List Frame) → Type 0
Lightens None frame old new old_frames new_frames = (new ≡ old) × (weight_of new_frames < frame_weight frame + weight_of old_frames)
Lightens (Some number) frame old new old_frames new_frames = Unit {0}

-- from a frame to the next block behind it
abbrev pub FollowsFrame : code.Course → (frame : Frame) → (holds : Bool) → (at : Option ℕ) → (old new : StepState) → (old_frames new_frames : List Frame) → Type 0
FollowsFrame c frame holds at old new old_frames new_frames =
    (table : List MemEntry) (p : Placing) (made : Code) (b : Begun) (v : Variables) (k behind : RunTodo)
    → IsFirst table p (course_of made c) frame k behind → BeginsWithoutTest behind → AreToCome table p (course_of made c) (reverse old_frames) behind → Holds p old.variables.items v → FirstTestHolds b v k holds
    → FollowsTo table p (course_of made c) b v (next_of b k v) at new new_frames

-- from frames to the next block behind them; `holds` is whether the test that was done holds
abbrev pub GoesOn : code.Course → (at : Option ℕ) → (old new : StepState) → (old_frames new_frames : List Frame) → (holds : Bool) → Type 0
GoesOn c at old new old_frames new_frames holds =
    (table : List MemEntry) (p : Placing) (made : Code) (b : Begun) (v : Variables) (k : RunTodo)
    → AreToCome table p (course_of made c) (reverse old_frames) k → Holds p old.variables.items v → FirstTestHolds b v k holds
    → Arrives table p (course_of made c) (next_of b k v) new at new_frames

-- Blocks.

-- whether a test holds, by what its phase was
abbrev pub HoldsSo : Begun → (paths : List Path) → Variables → CorePhase → Bool → Type 0
HoldsSo b paths v (straightly cs) holds = Unit {0}
HoldsSo b paths v (turning loop body) holds = Unit {0}
HoldsSo b paths v (looping test body) holds = holds_at b v test (first_path paths) ≡ holds
HoldsSo b paths v (choosing test chosen other) holds = holds_at b v test (first_path paths) ≡ holds

-- a test is evaluated at all paths inside loops; the answer is whether it holds at the first one
abbrev pub TestsAllPaths : StepContext → StepState → Result Bool StepStop → StepState → Lanes → FlatExpression → Type 0
TestsAllPaths s old result new lanes f =
    (p : Placing) (factors : List ℕ) (t : CoreTerm) → AreLanes factors lanes → IsFlat p.held s.entries.now s.code.now t f → CanEvaluate s.entries.now p factors t
    → Runs p s old result new (at_each (tested_at (begun_in s) t) (paths_in factors))
    × ((e : Effect) → Keeps p s.entries.now e s.step old → IfOk result (λ holds. holds_at (begun_in s) e.variables t (first_path (paths_in factors)) ≡ holds))

-- the block of a phase is done at its paths; the answer is whether its test holds, where it has one
abbrev pub RunsBlock : StepContext → code.Course → StepState → Result Bool StepStop → StepState → (number : ℕ) → Type 0
RunsBlock s c old result new number =
    (p : Placing) (factors : List ℕ) (q : CorePhase) (b : Block) → StandsFor s.entries.now p (course_seen s c) factors number q → IsBlockOf q b
    → Runs p s old result new (block_run (begun_in s) (paths_in factors) b)
    × ((e : Effect) → Keeps p s.entries.now e s.step old → IfOk result (λ holds. HoldsSo (begun_in s) (paths_in factors) e.variables q holds))

-- Steps.

-- a state in which a step can begin
pub record IsRested (s : StepContext) (state : StepState) : Type 0 where
  pub long : length state.banks.items ≡ all_banks s.entries.now
  pub room : length s.code.now.operations ≤ length state.given.items
  pub unspent : AreUsedBy (s.step - 1) state.banks.items
  pub begins : 1 ≤ s.step

-- a whole step from a state in which nothing is kept: it ends at the first stop, and then all is taken back
pub record Advanced (p : Placing) (s : StepContext) (c : Course) (e : Effect) (n : RunNext) (new : StepState) (at : Option ℕ) (frames : List Frame) : Type 0 where
  pub arrives : Arrives s.entries.now p c n new at frames
  pub clear : stop_after s.entries.now [] (all_plain e.events) ≡ None
  pub writes : new.writes.items ≡ writes_in e.events

-- what a step has done and spent is taken back
pub record IsBack (old new : StepState) : Type 0 where
  pub variables : new.variables.items ≡ old.variables.items
  pub free : AreUsedBy 0 new.banks.items

abbrev pub BackIfStopped : {A : Type 0} → Result A StepStop → (old new : StepState) → Type 0
BackIfStopped (Ok a) old new = Unit {0}
BackIfStopped (Err x) old new = IsBack old new

abbrev pub EndsSo : Placing → StepContext → Course → Effect → RunNext → Result (Option ℕ) StepStop → (new : StepState) → List Frame → Type 0
EndsSo p s c e n (Ok at) new frames = Advanced p s c e n new at frames
EndsSo p s c e n (Err (stop.At outcome)) new frames = stop_after s.entries.now [] (all_plain e.events) ≡ Some outcome
EndsSo p s c e n (Err stop.NoMemory) new frames = Unit {0}

-- the phase to which a step leads, where it does not stop
abbrev pub which : Result (Unit {0}) StepStop → Option ℕ → Result (Option ℕ) StepStop
which (Ok u) next = Ok next
which (Err x) next = Err x

-- the outcome at a stop
abbrev pub stop_outcome : StepStop → Option Outcome
stop_outcome (stop.At outcome) = Some outcome
stop_outcome stop.NoMemory = None

-- what the block of a place does from these variables on
abbrev pub block_effect : StepContext → (factors : List ℕ) → Block → Variables → Effect
block_effect s factors b v = block_run (begun_in s) (paths_in factors) b (record { variables = v; events = [] })

-- the block of a phase is done in a state that keeps an effect, and then the run goes on
abbrev pub RunsNext : StepContext → code.Course → StepState → Result (Option ℕ) StepStop → StepState → (number : ℕ) → (old_frames new_frames : List Frame) → Type 0
RunsNext s c old result new number old_frames new_frames =
    (p : Placing) (v : Variables) (factors : List ℕ) (q : CorePhase) (b : Block) (k : RunTodo) → Keeps p s.entries.now (record { variables = v; events = [] }) s.step old
    → StandsFor s.entries.now p (course_seen s c) factors number q → IsBlockOf q b → AreToCome s.entries.now p (course_seen s c) (reverse old_frames) k → StandsFirst q (paths_in factors) k
    → EndsSo p s (course_seen s c) (block_effect s factors b v) (next_of (begun_in s) k (block_effect s factors b v).variables) result new new_frames

abbrev pub Advances : StepContext → code.Course → StepState → Result (Option ℕ) StepStop → StepState → (number : ℕ) → (old_frames new_frames : List Frame) → Type 0
Advances s c old result new number old_frames new_frames =
    (p : Placing) (v : Variables) (factors : List ℕ) (q : CorePhase) (b : Block) (k : RunTodo) → Holds p old.variables.items v
    → StandsFor s.entries.now p (course_seen s c) factors number q → IsBlockOf q b → AreToCome s.entries.now p (course_seen s c) (reverse old_frames) k → StandsFirst q (paths_in factors) k
    → EndsSo p s (course_seen s c) (block_effect s factors b v) (next_of (begun_in s) k (block_effect s factors b v).variables) result new new_frames
