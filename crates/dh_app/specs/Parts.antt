-- What the parts of the top call promise one another.
use Rattle.std.specs.Prelude.{Bool, ◌≡◌, ℕ, ◌⊎◌, true, List, [], ◌∷◌, Result, Ok, Err, IfOk, Vec}
use Rattle.std.specs.declared.alloc.Global.{Global}
use Rattle.dh_base.specs.Outside.{FilesSeen, SinkSeen, Rose, Grew, GrewByPart}
use Rattle.dh_base.specs.declared.limits.Limit.{Limit}
use Rattle.dh_base.specs.declared.lists.NoMemory.{NoMemory}
use Rattle.dh_base.specs.declared.statuses.Status.{Status}
use Rattle.dh_base.specs.declared.statuses.Status.TheVariants as status
use Rattle.dh_tree.specs.declared.tables.MemEntry.{MemEntry}
use Rattle.dh_tree.specs.declared.trees.typed.Typed.{Typed}
use Rattle.dh_tree.specs.PlainTrees.{Program}
use Rattle.dh_tree.specs.Ready.{IsReady}
use Rattle.dh_tree.specs.Seen.{program_seen}
use Rattle.dh_tree.specs.Tables.{Fits}
use Rattle.dh_ports.specs.declared.accepted.Accepted.{Accepted}
use Rattle.dh_net.specs.declared.nets.Net.{Net}
use Rattle.dh_check.specs.Verdicts.{Verdict, accepts, IsVerdict}
use Rattle.dh_check.specs.declared.checking.CheckFault.{CheckFault}
use Rattle.dh_check.specs.declared.checking.CheckFault.TheVariants as check_fault
use Rattle.dh_compile.specs.Compiled.{IsNetOfProgram}
use Rattle.dh_data.specs.DataFiles.{HoldsContents, Means}
use Rattle.dh_data.specs.declared.data_files.DataFault.{DataFault}
use Rattle.dh_data.specs.declared.data_files.DataFault.TheVariants as fault
use Rattle.dh_app.specs.Asking.{interpreted}
use Rattle.dh_app.specs.Engines.{EngineSeen}
use Rattle.dh_app.specs.Inputs.{HasReadFiles, HasBegun}
use Rattle.dh_app.specs.Lines.{refused_line, too_large_line, bad_data_line}
use Rattle.dh_app.specs.Replies.{ReplySeen, no_memory, reply_seen, ReplySays}
use Rattle.dh_app.specs.Sources.{MayRead, NoFile, IsProgram, NoProgram, verdict_line, verdict_status, IsRefusal, IsData, NoData}
use Rattle.dh_app.specs.Reporting.{IsEndingReport}
use Rattle.dh_app.specs.SimulateJob.{finish_ending, RunsNet}
use Rattle.dh_app.specs.declared.engine.Finish.{Finish}
use Rattle.dh_app.specs.declared.replies.Answer.{Answer}
use Rattle.dh_app.specs.declared.replies.Reply.{Reply}

-- ---- lines

-- this status and this text
abbrev pub Line : Status → List ℕ → Status → List ℕ → Type 0
Line s text t other = (t ≡ s) × (other ≡ text)

-- a reply with a line, where memory for it was had
abbrev pub RepliesWith : Status → Result (Vec ℕ Global) NoMemory → ReplySeen → Type 0
RepliesWith s (Ok line) r = ReplySays (Line s line.items) r
RepliesWith s (Err e) r = r ≡ no_memory

-- a line was written of a fault; want of memory has none
abbrev pub WritesFault : List MemEntry → DataFault → Result (Vec ℕ Global) NoMemory → Type 0
WritesFault table fault.NotJson line = IfOk line (λ v. v.items ≡ bad_data_line table fault.NotJson)
WritesFault table (fault.Missing i) line = IfOk line (λ v. v.items ≡ bad_data_line table (fault.Missing i))
WritesFault table (fault.Unknown name) line = IfOk line (λ v. v.items ≡ bad_data_line table (fault.Unknown name))
WritesFault table (fault.Format i) line = IfOk line (λ v. v.items ≡ bad_data_line table (fault.Format i))
WritesFault table (fault.Size i) line = IfOk line (λ v. v.items ≡ bad_data_line table (fault.Size i))
WritesFault table (fault.Value i position) line = IfOk line (λ v. v.items ≡ bad_data_line table (fault.Value i position))
WritesFault table fault.NoMemory line = IfOk line (λ v. ⊥)

-- the line of a fault of the check
abbrev pub SaysFault : CheckFault → ReplySeen → Type 0
SaysFault (check_fault.Refused rule place) r = ReplySays (Line status.Refused (refused_line rule place)) r
SaysFault (check_fault.TooLarge limit count) r = ReplySays (Line status.TooLarge (too_large_line limit count)) r
SaysFault check_fault.NoMemory r = r ≡ no_memory

-- ---- files

-- the bytes of a file under a limit
abbrev pub FileRead : (old new : FilesSeen) → (name : List ℕ) → Limit → Result (Vec ℕ Global) Reply → Type 0
FileRead old new name l (Ok bytes) = MayRead old name l bytes.items × HasReadFiles old new 1
FileRead old new name l (Err r) = NoFile old new name l 1 (reply_seen r)

-- a text comes to a verdict that refuses it, whose line is the reply
pub record RefusesText (ports : Bool) (text : List ℕ) (s : Status) (line : List ℕ) : Type 0 where
  pub verdict : Verdict
  pub refuses_it : IsRefusal verdict
  pub judged : IsVerdict ports text verdict
  pub status_is : s ≡ verdict_status verdict
  pub line_is : line ≡ verdict_line verdict

abbrev pub ProgramOf : Bool → (text : List ℕ) → Result Accepted Reply → Type 0
ProgramOf ports text (Ok p) = IsVerdict ports text (accepts (program_seen p))
ProgramOf ports text (Err r) = ReplySays (RefusesText ports text) (reply_seen r)

-- the same of a text whose ports are not judged
abbrev pub TypedOf : Bool → (text : List ℕ) → Result Typed Reply → Type 0
TypedOf ports text (Ok t) = IsVerdict ports text (accepts (program_seen t)) × IsReady (program_seen t)
TypedOf ports text (Err r) = ReplySays (RefusesText ports text) (reply_seen r)

abbrev pub ProgramRead : (old new : FilesSeen) → Bool → (file : List ℕ) → Result Accepted Reply → Type 0
ProgramRead old new ports file (Ok p) = IsProgram old ports file (program_seen p) × HasReadFiles old new 1
ProgramRead old new ports file (Err r) = NoProgram old new ports file (reply_seen r)

-- the same, where its ports are judged
abbrev pub AcceptedRead : (old new : FilesSeen) → (file : List ℕ) → Result Accepted Reply → Type 0
AcceptedRead old new file r = ProgramRead old new true file r

abbrev pub TypedRead : (old new : FilesSeen) → Bool → (file : List ℕ) → Result Typed Reply → Type 0
TypedRead old new ports file (Ok t) = IsProgram old ports file (program_seen t) × (HasReadFiles old new 1 × IsReady (program_seen t))
TypedRead old new ports file (Err r) = NoProgram old new ports file (reply_seen r)

-- what `--unchecked` asks of the file
abbrev pub UncheckedRead : (old new : FilesSeen) → (file : List ℕ) → Result Typed Reply → Type 0
UncheckedRead old new file r = TypedRead old new (interpreted true) file r

-- bytes have a fault for a table, whose line is the reply
pub record BadBytes (bytes : List ℕ) (table : List MemEntry) (s : Status) (line : List ℕ) : Type 0 where
  pub fault : DataFault
  pub means : Means table bytes (Err fault)
  pub only : (other : Result (List (List ℕ)) DataFault) → Means table bytes other → other ≡ Err fault
  pub status_is : s ≡ status.BadData
  pub line_is : line ≡ bad_data_line table fault

-- the memories that bytes hold, and no others
pub record HoldsAlone (bytes : List ℕ) (table : List MemEntry) (memories : List (List ℕ)) : Type 0 where
  pub holds : HoldsContents table bytes memories
  pub only : (others : List (List ℕ)) → HoldsContents table bytes others → others ≡ memories
  pub fits : Fits table memories

abbrev pub DataOf : (bytes : List ℕ) → List MemEntry → Result (List (List ℕ)) Reply → Type 0
DataOf bytes table (Ok memories) = HoldsAlone bytes table memories
DataOf bytes table (Err r) = ReplySays (BadBytes bytes table) (reply_seen r)

-- the memories of a file that is read as the second
abbrev pub DataRead : (old new : FilesSeen) → (data_ : List ℕ) → List MemEntry → Result (List (List ℕ)) Reply → Type 0
DataRead old new data_ table (Ok memories) = IsData old data_ table memories × HasReadFiles old new 2
DataRead old new data_ table (Err r) = NoData old new data_ table 2 (reply_seen r)

-- so it is from wherever the first of a job's files was read
abbrev pub SecondRead : (old new : FilesSeen) → (data_ : List ℕ) → List MemEntry → Result (List (List ℕ)) Reply → Type 0
SecondRead old new data_ table r = (first : FilesSeen) → HasBegun first old → DataRead first new data_ table r

-- ---- the engine

-- the reply is that of the run of each program that the net plays
abbrev pub RunsAsPlayed : (old new : EngineSeen) → Net → (memories : List (List ℕ)) → (clocks : ℕ) → Reply → Type 0
RunsAsPlayed old new net memories clocks r = (p : Program) → IsNetOfProgram p net → RunsNet old new p memories clocks (reply_seen r)

-- there is one answer, whose memories fit the table
abbrev pub IsSingleAnswer : List MemEntry → List Finish → Type 0
IsSingleAnswer table answers = (finish : Finish) × ((answers ≡ finish ∷ []) × Fits table finish.memories)

-- the one answer is reported
pub record IsFirstReport (table : List MemEntry) (answers : List Finish) (s : Status) (text : List ℕ) : Type 0 where
  pub finish : Finish
  pub answered : answers ≡ finish ∷ []
  pub report : IsEndingReport table finish.memories (finish_ending finish) s text

-- ---- the output

-- the answer was written whole, or a part of it because writing failed or memory was refused
abbrev pub Written : (before after : SinkSeen) → Answer → Status → Type 0
Written before after a s =
    ((s ≡ a.status) × (Grew before after a.text.items × ((after.faults ≡ before.faults) × (after.refusals ≡ before.refusals))))
    ⊎ (((s ≡ status.WriteFault) × (GrewByPart before after a.text.items × (Rose before.faults after.faults × (after.refusals ≡ before.refusals))))
    ⊎ ((s ≡ status.NoMemory) × (GrewByPart before after a.text.items × ((after.faults ≡ before.faults) × Rose before.refusals after.refusals))))
