-- `simulate FILE DATA`: what an engine answers of the net of a program.
use Rattle.std.specs.Prelude.{◌≡◌, ℕ, ◌⊎◌, Bool, true, List, [], ◌∷◌, Some}
use Rattle.dh_base.specs.Outside.{FilesSeen}
use Rattle.dh_base.specs.declared.statuses.Status.{Status}
use Rattle.dh_tree.specs.Memories.{table_of}
use Rattle.dh_tree.specs.PlainTrees.{Program}
use Rattle.dh_net.specs.Plays.{IsStuck}
use Rattle.dh_net.specs.Reports.{Reports}
use Rattle.dh_plan.specs.PlayedPlans.{program_run}
use Rattle.dh_data.specs.Reports.{report_text}
use Rattle.dh_data.specs.declared.reports.Ending.{Ending}
use Rattle.dh_app.specs.Asking.{checked}
use Rattle.dh_app.specs.Engines.{EngineSeen, Asks}
use Rattle.dh_app.specs.Inputs.{HasBegun, HasReadFiles, InputsSeen, inputs_of}
use Rattle.dh_app.specs.NetStage.{NetStage}
use Rattle.dh_app.specs.Replies.{ReplySeen, replied, unread, no_memory}
use Rattle.dh_app.specs.Reporting.{status_of}
use Rattle.dh_app.specs.Sources.{ProgramStage, DataStage}
use Rattle.dh_app.specs.declared.engine.Finish.{Finish}

abbrev pub finish_ending : Finish → Ending
finish_ending f = record { outcome = f.outcome; steps = f.steps; clocks = Some f.clocks }

-- this status and this text report the engine's one answer. Where the engine is exact, that is what
-- the checked run of the program comes to within so many clocks.
pub record IsReport (p : Program) (memories : List (List ℕ)) (clocks : ℕ) (exact : Bool) (answers : List Finish) (s : Status) (text : List ℕ) : Type 0 where
  pub finish : Finish
  pub answered : answers ≡ finish ∷ []
  pub not_stuck : IsStuck finish.outcome → ⊥
  pub status_is : s ≡ status_of finish.outcome
  pub text_is : text ≡ report_text (table_of p) finish.memories (finish_ending finish)
  pub right : exact ≡ true → Reports (program_run p memories) clocks finish.outcome finish.steps finish.clocks finish.memories

-- the engine is asked once, and its answer is the reply; memory may be refused before it is asked or after
abbrev pub RunsNet : (old new : EngineSeen) → Program → (memories : List (List ℕ)) → (clocks : ℕ) → ReplySeen → Type 0
RunsNet old new p memories clocks (replied s text) = Asks old new × IsReport p memories clocks old.exact new.answers s text
RunsNet old new p memories clocks unread = ⊥
RunsNet old new p memories clocks no_memory = (new ≡ old) ⊎ Asks old new

-- the data is read, and the engine runs the net from it
abbrev pub SimulatesData : (old new : InputsSeen) → (data_ : List ℕ) → (clocks : ℕ) → Program → ReplySeen → Type 0
SimulatesData old new data_ clocks p r =
    DataStage old new data_ (table_of p) (λ memories answer. HasReadFiles old.files new.files 2 × RunsNet old.engine new.engine p memories clocks answer) r

-- an accepted program is compiled, then its data is read, and the engine runs the net
abbrev pub SimulatesProgram : (old new : InputsSeen) → (data_ : List ℕ) → (clocks : ℕ) → Program → ReplySeen → Type 0
SimulatesProgram old new data_ clocks p r = NetStage old new p (λ net. SimulatesData old new data_ clocks p) r

-- so it is from wherever the first of a job's files was read
abbrev pub SimulatesOnceRead : (old new : InputsSeen) → (data_ : List ℕ) → (clocks : ℕ) → Program → ReplySeen → Type 0
SimulatesOnceRead old new data_ clocks p r = (first : FilesSeen) → HasBegun first old.files → SimulatesProgram (inputs_of first old.engine) new data_ clocks p r

-- the file of the program is read, then the file of the data, and the engine's answer is the reply
abbrev pub SimulatesFiles : (old new : InputsSeen) → (file data_ : List ℕ) → (clocks : ℕ) → ReplySeen → Type 0
SimulatesFiles old new file data_ clocks r = ProgramStage old new checked file (λ p. SimulatesProgram old new data_ clocks p) r
