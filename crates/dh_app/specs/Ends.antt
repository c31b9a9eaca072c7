-- How a call of the program ends: for each status what is the case and what was written. The cases
-- exclude one another, so each status comes exactly where its case holds, but where reading or writing
-- failed or memory was refused.
use Rattle.std.specs.Prelude.{◌≡◌, ℕ, ◌⊎◌, List}
use Rattle.dh_base.specs.Outside.{FilesSeen, SinkSeen, Rose, Grew, GrewByPart}
use Rattle.dh_base.specs.declared.statuses.Status.{Status}
use Rattle.dh_base.specs.declared.statuses.Status.TheVariants as status
use Rattle.dh_app.specs.Engines.{EngineSeen}
use Rattle.dh_app.specs.Inputs.{InputsSeen, inputs_of}
use Rattle.dh_app.specs.Jobs.{Comes, AnswersWords}
use Rattle.dh_app.specs.Replies.{unread, no_memory}

-- the relation between what a call finds, files, an engine and an output, and what it leaves
abbrev pub OverCall : FilesSeen → EngineSeen → SinkSeen → FilesSeen → EngineSeen → SinkSeen → (relation : InputsSeen → InputsSeen → SinkSeen → SinkSeen → Type 0) → Type 0
OverCall files engine out files_after engine_after out_after relation = relation (inputs_of files engine) (inputs_of files_after engine_after) out out_after

-- the whole text of an answer was written, without a fault of the output
pub record WritesWholeAnswer (words : List (List ℕ)) (old new : InputsSeen) (before after : SinkSeen) (s : Status) : Type 0 where
  pub text : List ℕ
  pub answer : AnswersWords words old new s text
  pub grew : Grew before after text
  pub faults : after.faults ≡ before.faults
  pub refusals : after.refusals ≡ before.refusals

-- a prefix of an answer was written
pub record WritesPartialAnswer (words : List (List ℕ)) (old new : InputsSeen) (before after : SinkSeen) : Type 0 where
  pub status_meant : Status
  pub text : List ℕ
  pub answer : AnswersWords words old new status_meant text
  pub grew : GrewByPart before after text

-- because the output failed
pub record WriteFails (words : List (List ℕ)) (old new : InputsSeen) (before after : SinkSeen) : Type 0 where
  pub part : WritesPartialAnswer words old new before after
  pub faults : Rose before.faults after.faults
  pub refusals : after.refusals ≡ before.refusals

-- because the output was refused memory
pub record WriteRefused (words : List (List ℕ)) (old new : InputsSeen) (before after : SinkSeen) : Type 0 where
  pub part : WritesPartialAnswer words old new before after
  pub faults : after.faults ≡ before.faults
  pub refusals : Rose before.refusals after.refusals

-- how the call ends
abbrev pub CallEnds : (words : List (List ℕ)) → (old new : InputsSeen) → (before after : SinkSeen) → Status → Type 0
CallEnds words old new before after status.Done = WritesWholeAnswer words old new before after status.Done
CallEnds words old new before after status.Refused = WritesWholeAnswer words old new before after status.Refused
CallEnds words old new before after status.Usage = WritesWholeAnswer words old new before after status.Usage
CallEnds words old new before after status.Faulted = WritesWholeAnswer words old new before after status.Faulted
CallEnds words old new before after status.Stuck = WritesWholeAnswer words old new before after status.Stuck
CallEnds words old new before after status.Going = WritesWholeAnswer words old new before after status.Going
CallEnds words old new before after status.BadData = WritesWholeAnswer words old new before after status.BadData
CallEnds words old new before after status.TooLarge = WritesWholeAnswer words old new before after status.TooLarge
CallEnds words old new before after status.ReadFault = Comes words old new unread × (after ≡ before)
CallEnds words old new before after status.WriteFault = WriteFails words old new before after
CallEnds words old new before after status.NoMemory = (Comes words old new no_memory × (after ≡ before)) ⊎ WriteRefused words old new before after
