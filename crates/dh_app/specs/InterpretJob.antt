-- `interpret FILE DATA`: how the checked run of a program stands after a number of logical steps.
use Rattle.std.specs.Prelude.{◌≡◌, ℕ, Bool, List, None}
use Rattle.dh_base.specs.Outside.{FilesSeen}
use Rattle.dh_base.specs.declared.statuses.Status.{Status}
use Rattle.dh_tree.specs.Memories.{table_of}
use Rattle.dh_tree.specs.PlainTrees.{Program}
use Rattle.dh_meaning.specs.CoreOf.{core_of}
use Rattle.dh_meaning.specs.Runs.{RunState, run_state}
use Rattle.dh_data.specs.Reports.{report_text}
use Rattle.dh_data.specs.declared.reports.Ending.{Ending}
use Rattle.dh_app.specs.Asking.{interpreted}
use Rattle.dh_app.specs.Engines.{EngineSeen}
use Rattle.dh_app.specs.Inputs.{HasBegun, InputsSeen, OnlyReads, inputs_of}
use Rattle.dh_app.specs.Replies.{ReplySeen, ReplySays}
use Rattle.dh_app.specs.Reporting.{status_of}
use Rattle.dh_app.specs.Sources.{ProgramStage, DataStage}

-- the checked run of a program from these memories, after so many steps
abbrev pub stands_after : Program → (memories : List (List ℕ)) → (steps : ℕ) → RunState
stands_after p memories steps = run_state (core_of p) memories steps

-- how it is reported: no net ran, so there are no clocks
abbrev pub ending_at : RunState → Ending
ending_at s = record { outcome = s.outcome; steps = s.steps; clocks = None }

abbrev pub standing_text : Program → RunState → List ℕ
standing_text p s = report_text (table_of p) s.memories (ending_at s)

-- this status and this text report how the run stands after so many steps
pub record IsStandingReport (p : Program) (memories : List (List ℕ)) (steps : ℕ) (s : Status) (text : List ℕ) : Type 0 where
  pub status_is : s ≡ status_of (stands_after p memories steps).outcome
  pub text_is : text ≡ standing_text p (stands_after p memories steps)

-- the data is read, and how the run from it stands is the reply
abbrev pub InterpretsData : (old new : InputsSeen) → (data_ : List ℕ) → Program → (steps : ℕ) → ReplySeen → Type 0
InterpretsData old new data_ p steps r =
    DataStage old new data_ (table_of p) (λ memories answer. OnlyReads old new 2 × ReplySays (IsStandingReport p memories steps) answer) r

-- so it is from wherever the first of a job's files was read, whatever engine stands beside them
abbrev pub InterpretsOnceRead : (files files_after : FilesSeen) → (data_ : List ℕ) → Program → (steps : ℕ) → ReplySeen → Type 0
InterpretsOnceRead files files_after data_ p steps r =
    (first : FilesSeen) (engine : EngineSeen) → HasBegun first files → InterpretsData (inputs_of first engine) (inputs_of files_after engine) data_ p steps r

-- the file of the program is read, then the file of the data, and how the run stands is the reply
abbrev pub InterpretsFiles : (old new : InputsSeen) → (file data_ : List ℕ) → (steps : ℕ) → (unchecked : Bool) → ReplySeen → Type 0
InterpretsFiles old new file data_ steps unchecked r =
    ProgramStage old new (interpreted unchecked) file (λ p. InterpretsData old new data_ p steps) r
