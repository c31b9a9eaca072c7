-- What a run has before its first step: slots that hold 0, what is made of its program, and where its first block is.
use Rattle.std.specs.Prelude.{◌≡◌, ℕ, List, [], ◌∷◌, Option, false, length, replicate}
use Rattle.std.specs.List.{AllByRecursion}
use Rattle.dh_base.specs.declared.outcomes.Outcome.{Outcome}
use Rattle.dh_tree.specs.declared.tables.MemEntry.{MemEntry}
use Rattle.dh_tree.specs.Memories.{table_of}
use Rattle.dh_tree.specs.PlainTrees.{Program}
use Rattle.dh_tree.specs.Tables.{Fits}
use Rattle.dh_code.specs.declared.places.Places.{Places}
use Rattle.dh_code.specs.declared.running.StepState.{StepState}
use Rattle.dh_code.specs.Declarations.{placing_of, slots_of}
use Rattle.dh_code.specs.Spent.{AreUsedBy}
use Rattle.dh_sem.specs.declared.holding.MadeRun.{MadeRun}
use Rattle.dh_sem.specs.declared.phases.Frame.{Frame}
use Rattle.dh_sem.specs.declared.phases.Frame.TheVariants.{List as Rest}
use Rattle.dh_sem.specs.declared.starting.Begun.{Begun}
use Rattle.dh_sem.specs.declared.stepping.Course as code
use Rattle.dh_sem.specs.Held.{HoldsProgram, IsSoundMade, course_made}
use Rattle.dh_sem.specs.Lanes.{AreFirstLanes}
use Rattle.dh_sem.specs.Phased.{IsSoundFrame}
use Rattle.dh_code.specs.Scenes.{IsEarlier}
use Rattle.dh_sem.specs.Runs.{InterpreterState, IsSteady, StandsAt, place_outcome}
use Rattle.dh_sem.specs.Steps.{GoesOn, OnlyVariables}

-- the slots of a program's variables
pub record ArePlacesOf (p : Program) (places : Places) : Type 0 where
  pub held_are : places.held.items ≡ (placing_of p).held
  pub count_is : places.count ≡ slots_of p

-- nothing was made yet, at the one path outside all loops
pub record IsNothingMade (made : MadeRun) : Type 0 where
  pub first_lanes : AreFirstLanes made.lanes.items
  pub sound : (table : List MemEntry) → IsSoundMade table made

-- what was made stands as the program's phases do, of which this is the first, and so many slots are its variables'
abbrev pub HoldsProgramAndSlots : Program → MadeRun → (first : Option ℕ) → (slots : ℕ) → Type 0
HoldsProgramAndSlots p made first slots = HoldsProgram p made first × (slots ≡ slots_of p)

-- so many slots that hold 0, room for what so many operations give, and so many banks of which nothing is spent
pub record IsUnused (slots operations banks : ℕ) (state : StepState) : Type 0 where
  pub variables_are : state.variables.items ≡ replicate slots 0
  pub given_long : length state.given.items ≡ operations
  pub banks_long : length state.banks.items ≡ banks
  pub unspent : AreUsedBy 0 state.banks.items

-- from the list of phases that begins with `first` to the phase of its first block, if there is one
pub record ReachesFirstBlock (course : code.Course) (first place : Option ℕ) (old new : StepState) (frames : List Frame) : Type 0 where
  pub only : OnlyVariables old new
  pub sound : AllByRecursion (IsSoundFrame (length course.phases.now)) frames
  pub earlier : IsEarlier (length course.phases.now) place
  pub goes : GoesOn course place old new (Rest first ∷ []) frames false

-- a run before its first step, over these memories
abbrev pub run_begun : List MemEntry → Begun → Outcome → (memories : List (List ℕ)) → InterpreterState
run_begun table b outcome memories =
    record { table = table; course = course_made b.made; outcome = outcome; steps = 0; memories = memories; slots = b.state.variables.items; place = b.place; frames = b.frames.items }

-- from all memories that fit the run can go on, and stands as the program does before its first step
pub record IsBegunRun (p : Program) (b : Begun) : Type 0 where
  pub steady : (outcome : Outcome) (memories : List (List ℕ)) → Fits (table_of p) memories
      → IsSteady (run_begun (table_of p) b outcome memories) b.state.given.items b.state.banks.items b.firsts.items
  pub stands : (outcome : Outcome) (memories : List (List ℕ)) → outcome ≡ place_outcome b.place → StandsAt p memories 0 (run_begun (table_of p) b outcome memories)
