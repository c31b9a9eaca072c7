-- What a list of words comes to before anything is written, and what it can be answered with.
use Rattle.std.specs.Prelude.{◌≡◌, ℕ, List, Option, Some, None}
use Rattle.dh_base.specs.declared.statuses.Status.{Status}
use Rattle.dh_base.specs.declared.statuses.Status.TheVariants as status
use Rattle.dh_app.specs.Asking.{argument_word}
use Rattle.dh_app.specs.CheckJob.{ChecksFile}
use Rattle.dh_app.specs.Inputs.{InputsSeen}
use Rattle.dh_app.specs.InterpretJob.{InterpretsFiles}
use Rattle.dh_app.specs.Lines.{usage_line}
use Rattle.dh_app.specs.LowerJob.{LowersFile}
use Rattle.dh_app.specs.Replies.{ReplySeen, replied, ReplySays}
use Rattle.dh_app.specs.SimulateJob.{SimulatesFiles}
use Rattle.dh_app.specs.Words.{job_of}
use Rattle.dh_app.specs.declared.words.Job.{Job}
use Rattle.dh_app.specs.declared.words.Job.TheVariants.{Check, Lower, Interpret, Simulate}

-- a job over the files that the words at its positions name comes to this
abbrev pub JobComes : (words : List (List ℕ)) → (old new : InputsSeen) → Job → ReplySeen → Type 0
JobComes words old new (Check file) r = ChecksFile old new (argument_word words file) r
JobComes words old new (Lower file) r = LowersFile old new (argument_word words file) r
JobComes words old new (Interpret file data_ steps unchecked) r = InterpretsFiles old new (argument_word words file) (argument_word words data_) steps unchecked r
JobComes words old new (Simulate file data_ clocks) r = SimulatesFiles old new (argument_word words file) (argument_word words data_) clocks r

-- the reply is how to call the program
abbrev pub IsUsage : Status → (text : List ℕ) → Type 0
IsUsage s text = (s ≡ status.Usage) × (text ≡ usage_line)

-- words that name no job touch nothing, and come to the line of usage
abbrev pub ComesFor : (words : List (List ℕ)) → (old new : InputsSeen) → Option Job → ReplySeen → Type 0
ComesFor words old new None r = (new ≡ old) × ReplySays IsUsage r
ComesFor words old new (Some job) r = JobComes words old new job r

-- the words come to this before anything is written
pub record Comes (words : List (List ℕ)) (old new : InputsSeen) (r : ReplySeen) : Type 0 where
  pub comes : ComesFor words old new (job_of words) r

-- this status and this text answer the words
abbrev pub AnswersWords : (words : List (List ℕ)) → (old new : InputsSeen) → Status → (text : List ℕ) → Type 0
AnswersWords words old new s text = Comes words old new (replied s text)
