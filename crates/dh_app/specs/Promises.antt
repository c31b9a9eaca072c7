-- What follows for every call, whatever job its words name: what it counts and touches, when it has to
-- succeed, and that no other answer is one.
use Rattle.std.specs.Prelude.{◌≡◌, ℕ, ◌<◌, ◌⊎◌, List, Option, Some, None}
use Rattle.dh_base.specs.Outside.{Told, Untold, Absent, Holds, FilesSeen, SinkSeen, Rose, Grew, risen}
use Rattle.dh_base.specs.declared.statuses.Status.{Status}
use Rattle.dh_base.specs.declared.statuses.Status.TheVariants as status
use Rattle.dh_tree.specs.Memories.{table_of}
use Rattle.dh_tree.specs.PlainTrees.{Program}
use Rattle.dh_app.specs.Asking.{checked, asked_by, file_at, data_at, argument_word}
use Rattle.dh_app.specs.Engines.{Asks}
use Rattle.dh_app.specs.Inputs.{InputsSeen, IsIdle}
use Rattle.dh_app.specs.Jobs.{Comes, AnswersWords}
use Rattle.dh_app.specs.Replies.{unread}
use Rattle.dh_app.specs.Sources.{IsProgram, IsData}
use Rattle.dh_app.specs.Words.{job_of}
use Rattle.dh_app.specs.declared.words.Job.{Job}
use Rattle.dh_app.specs.declared.words.Job.TheVariants.{Check, Lower, Interpret, Simulate}

-- ---- what a call counts and touches

-- a count of faults rises only where the call ends by that fault
pub record CountsFaults (old new : FilesSeen) (before after : SinkSeen) (s : Status) : Type 0 where
  pub reading : old.faults < new.faults → s ≡ status.ReadFault
  pub writing : before.faults < after.faults → s ≡ status.WriteFault

-- a second file was read, that of the data of an accepted program
abbrev pub ReadsSecond : (words : List (List ℕ)) → (old new : FilesSeen) → Job → Option ℕ → Type 0
ReadsSecond words old new job None = ⊥
ReadsSecond words old new job (Some place) = (new.reads ≡ risen old.reads 2) × ((p : Program) × IsProgram old (asked_by job) (argument_word words (file_at job)) p)

-- words that name no job read nothing, and a job reads one file or two, each once
abbrev pub ReadsFor : (words : List (List ℕ)) → (old new : FilesSeen) → Option Job → Type 0
ReadsFor words old new None = new.reads ≡ old.reads
ReadsFor words old new (Some job) = (new.reads ≡ risen old.reads 1) ⊎ ReadsSecond words old new job (data_at job)

-- an accepted program and memories that fit it were read, and the engine was asked once
pub record AsksOnce (words : List (List ℕ)) (old new : InputsSeen) (file data_ : ℕ) : Type 0 where
  pub program : Program
  pub is_program : IsProgram old.files checked (argument_word words file) program
  pub memories : List (List ℕ)
  pub is_data : IsData old.files (argument_word words data_) (table_of program) memories
  pub asks : Asks old.engine new.engine

-- a job leaves the engine as it was, but for one that simulates, which may ask it
abbrev pub AsksFor : (words : List (List ℕ)) → (old new : InputsSeen) → Option Job → Type 0
AsksFor words old new None = IsIdle old new
AsksFor words old new (Some (Check file)) = IsIdle old new
AsksFor words old new (Some (Lower file)) = IsIdle old new
AsksFor words old new (Some (Interpret file data_ steps unchecked)) = IsIdle old new
AsksFor words old new (Some (Simulate file data_ clocks)) = IsIdle old new ⊎ AsksOnce words old new file data_

pub record TouchesInputs (words : List (List ℕ)) (old new : InputsSeen) : Type 0 where
  pub reads : ReadsFor words old.files new.files (job_of words)
  pub asks : AsksFor words old new (job_of words)

-- ---- when it has to succeed

-- no fault was counted, of reading or of writing
pub record NoFaults (old new : FilesSeen) (before after : SinkSeen) : Type 0 where
  pub reading : Rose old.faults new.faults → ⊥
  pub writing : Rose before.faults after.faults → ⊥

-- it is told whether there is a file of the name, and which bytes it has
abbrev pub IsToldFile : Told → Type 0
IsToldFile Untold = ⊥
IsToldFile Absent = Unit {0}
IsToldFile (Holds bytes) = Unit {0}

-- and there is one
abbrev pub IsPresentFile : Told → Type 0
IsPresentFile Untold = ⊥
IsPresentFile Absent = ⊥
IsPresentFile (Holds bytes) = Unit {0}

abbrev pub DataIs : (Told → Type 0) → (words : List (List ℕ)) → FilesSeen → Option ℕ → Type 0
DataIs P words files None = Unit {0}
DataIs P words files (Some place) = P (files.told (argument_word words place))

-- this is so of each file that a job names
abbrev pub FilesAre : (Told → Type 0) → (words : List (List ℕ)) → FilesSeen → Option Job → Type 0
FilesAre P words files None = Unit {0}
FilesAre P words files (Some job) = P (files.told (argument_word words (file_at job))) × DataIs P words files (data_at job)

-- the whole of an answer was written, or memory was refused
pub record AnswersWhole (words : List (List ℕ)) (old new : InputsSeen) (before after : SinkSeen) (s : Status) : Type 0 where
  pub text : List ℕ
  pub answer : AnswersWords words old new s text
  pub grew : Grew before after text

-- where the files of the job are told to be there, and no fault was counted
abbrev pub Succeeds : (words : List (List ℕ)) → (old new : InputsSeen) → (before after : SinkSeen) → Status → Type 0
Succeeds words old new before after s =
    NoFaults old.files new.files before after → FilesAre IsPresentFile words old.files (job_of words)
    → (s ≡ status.NoMemory) ⊎ AnswersWhole words old new before after s

-- ---- that there is no other answer

-- a program may have several nets, so the texts of `lower` may differ
abbrev pub MayDiffer : Option Job → Status → Type 0
MayDiffer None s = ⊥
MayDiffer (Some (Check file)) s = ⊥
MayDiffer (Some (Lower file)) s = s ≡ status.Done
MayDiffer (Some (Interpret file data_ steps unchecked)) s = ⊥
MayDiffer (Some (Simulate file data_ clocks)) s = ⊥

-- where it is told of each file of the job what it has, and no fault was counted: whatever answers the
-- words, or that a file could not be read, is how the call ended, but for want of memory
pub record IsOnly (words : List (List ℕ)) (old new : InputsSeen) (before after : SinkSeen) (s : Status) : Type 0 where
  pub texts : (other : Status) (text : List ℕ) → AnswersWords words old new other text
      → (s ≡ status.NoMemory) ⊎ ((s ≡ other) × (MayDiffer (job_of words) s ⊎ Grew before after text))
  pub fails : Comes words old new unread → (s ≡ status.NoMemory) ⊎ (s ≡ status.ReadFault)

abbrev pub HasOneAnswer : (words : List (List ℕ)) → (old new : InputsSeen) → (before after : SinkSeen) → Status → Type 0
HasOneAnswer words old new before after s =
    NoFaults old.files new.files before after → FilesAre IsToldFile words old.files (job_of words) → IsOnly words old new before after s
