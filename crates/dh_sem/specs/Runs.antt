-- A run of a program as the interpreter keeps it, and where it stands among the steps of the checked semantics.
use Rattle.std.specs.Prelude.{◌≡◌, ℕ, ◌+◌, ◌≤◌, List, length, reverse, Option, Some, None, Result, Ok, Err}
use Rattle.std.specs.List.{AllByRecursion}
use Rattle.dh_base.specs.declared.lists.NoMemory.{NoMemory}
use Rattle.dh_base.specs.declared.outcomes.Outcome.{Outcome}
use Rattle.dh_base.specs.declared.outcomes.Outcome.TheVariants.{Going, Ended}
use Rattle.dh_tree.specs.declared.tables.MemEntry.{MemEntry}
use Rattle.dh_tree.specs.PlainTrees.{Program}
use Rattle.dh_meaning.specs.CoreOf.{core_of}
use Rattle.dh_meaning.specs.Runs.{RunState, run_state}
use Rattle.dh_code.specs.declared.spending.Bank.{Bank}
use Rattle.dh_code.specs.Banks.{AreFirsts, all_banks}
use Rattle.dh_code.specs.Slots.{Holds, Placing}
use Rattle.dh_code.specs.Spent.{AreUsedBy}
use Rattle.dh_sem.specs.declared.phases.Frame.{Frame}
use Rattle.dh_sem.specs.Frames.{IsPlace}
use Rattle.dh_code.specs.Scenes.{AreSmall, IsSoundCode, IsEarlier}
use Rattle.dh_tree.specs.Shapes.{IsMemory}
use Rattle.dh_tree.specs.Tables.{elements_in, most_elements}
use Rattle.dh_sem.specs.Phased.{Course, IsSoundCourse, IsSoundFrame}

-- a program in a run: the outcome, the steps done, the memories, the slots of the variables, the phase of the next
-- block, and the frames of what is still to come behind it
pub record InterpreterState : Type 0 where
  pub table : List MemEntry
  pub course : Course
  pub outcome : Outcome
  pub steps : ℕ
  pub memories : List (List ℕ)
  pub slots : List ℕ
  pub place : Option ℕ
  pub frames : List Frame

-- The run stands so in the checked semantics: outcome, steps and memories are the same, and so is the place where it
-- goes on; each slot holds the value of its variable's copy.
pub record StandsAs (s : RunState) (r : InterpreterState) : Type 0 where
  pub outcome : r.outcome ≡ s.outcome
  pub steps : r.steps ≡ s.steps
  pub memories : r.memories ≡ s.memories
  pub placing : Placing
  pub variables : Holds placing r.slots s.variables
  pub place : IsPlace r.table placing r.course r.place (reverse r.frames) s.place

-- there is a next block, or none
abbrev pub place_outcome : Option ℕ → Outcome
place_outcome None = Ended
place_outcome (Some number) = Going

-- the run stands as that of a program from these memories after n logical steps
pub record StandsAt (p : Program) (memories : List (List ℕ)) (n : ℕ) (r : InterpreterState) : Type 0 where
  pub tabled : r.table ≡ (core_of p).table
  pub stands : StandsAs (run_state (core_of p) memories n) r

-- a step leads to where the run stands after one step more, and tells the outcome there; memory is refused
-- to a run alone that goes on, and then it is as before
abbrev pub StepsOn : InterpreterState → Result Outcome NoMemory → InterpreterState → Type 0
StepsOn old (Ok o) new = (o ≡ new.outcome) × ((p : Program) (memories : List (List ℕ)) (n : ℕ) → StandsAt p memories n old → StandsAt p memories (n + 1) new)
StepsOn old (Err e) new = (new ≡ old) × (old.outcome ≡ Going)

-- a run that can go on, with what its operations gave, its banks and their numbers
pub record IsSteady (r : InterpreterState) (given : List ℕ) (banks : List Bank) (firsts : List ℕ) : Type 0 where
  pub entries : AllByRecursion IsMemory r.table
  pub few : elements_in r.table ≤ most_elements
  pub numbered : AreFirsts r.table firsts
  pub code : IsSoundCode r.table r.course.code
  pub room : length r.course.code.operations ≤ length given
  pub small : AreSmall r.table r.memories
  pub long : length banks ≡ all_banks r.table
  pub free : AreUsedBy r.steps banks
  pub course : IsSoundCourse r.course
  pub frames : AllByRecursion (IsSoundFrame (length r.course.phases)) r.frames
  pub place : IsEarlier (length r.course.phases) r.place
