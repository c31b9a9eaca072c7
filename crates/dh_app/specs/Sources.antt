-- What a job reads: the text of its program, and the data for its memories. Each is a stage of the job,
-- which ends it with a reply, or hands what was read to the rest of the job.
use Rattle.std.specs.Prelude.{Bool, ◌≡◌, ℕ, ◌+◌, ◌≤◌, ◌⊎◌, List, length, Result, Err}
use Rattle.dh_base.specs.Limits.{greatest_of}
use Rattle.dh_base.specs.Outside.{FilesSeen, Rose, RoseBy, MayBe, IsAbsent, MayExceed, risen}
use Rattle.dh_base.specs.declared.limits.Limit.{Limit}
use Rattle.dh_base.specs.declared.limits.Limit.TheVariants as limit
use Rattle.dh_base.specs.declared.statuses.Status.{Status}
use Rattle.dh_base.specs.declared.statuses.Status.TheVariants as status
use Rattle.dh_tree.specs.Tables.{Fits}
use Rattle.dh_tree.specs.declared.tables.MemEntry.{MemEntry}
use Rattle.dh_tree.specs.PlainTrees.{Program}
use Rattle.dh_check.specs.Verdicts.{Verdict, accepts, refuses, exceeds, IsVerdict}
use Rattle.dh_data.specs.DataFiles.{HoldsContents, Means}
use Rattle.dh_data.specs.declared.data_files.DataFault.{DataFault}
use Rattle.dh_app.specs.Inputs.{InputsSeen, HasReadFiles, IsIdle}
use Rattle.dh_app.specs.Lines.{ok_line, refused_line, too_large_line, bad_data_line}
use Rattle.dh_app.specs.Replies.{ReplySeen, replied, unread, no_memory}

-- ---- a file under a limit

-- the contents of a file under a limit may be these
pub record MayRead (files : FilesSeen) (name : List ℕ) (l : Limit) (bytes : List ℕ) : Type 0 where
  pub contents : MayBe (files.told name) bytes
  pub within : length bytes ≤ greatest_of l

-- the file may be longer than the limit; where its contents are not told, more than that was taken
pub record IsTooLong (old new : FilesSeen) (name : List ℕ) (l : Limit) : Type 0 where
  pub longer : MayExceed (old.told name) (greatest_of l)
  pub taken : RoseBy (greatest_of l) old.taken new.taken

-- the file is absent, or a fault of reading was counted
abbrev pub FailsToRead : (old new : FilesSeen) → (name : List ℕ) → Type 0
FailsToRead old new name = Rose old.faults new.faults ⊎ IsAbsent (old.told name)

-- the file, the last of so many that were read, is too long, and the reply says so
pub record SaysLong (old new : FilesSeen) (name : List ℕ) (l : Limit) (count : ℕ) (s : Status) (text : List ℕ) : Type 0 where
  pub long : IsTooLong old new name l
  pub read : HasReadFiles old new count
  pub status_is : s ≡ status.TooLarge
  pub text_is : text ≡ too_large_line l (greatest_of l + 1)

-- the file could not be read, the last of so many
pub record FailsAt (old new : FilesSeen) (name : List ℕ) (count : ℕ) : Type 0 where
  pub fails : FailsToRead old new name
  pub reads : new.reads ≡ risen old.reads count

-- the contents of the file, the last of so many, were not had
abbrev pub NoFile : (old new : FilesSeen) → (name : List ℕ) → Limit → (count : ℕ) → ReplySeen → Type 0
NoFile old new name l count (replied s text) = SaysLong old new name l count s text
NoFile old new name l count unread = FailsAt old new name count
NoFile old new name l count no_memory = HasReadFiles old new count

-- ---- the program

-- the line of a verdict
abbrev pub verdict_line : Verdict → List ℕ
verdict_line (accepts p) = ok_line
verdict_line (refuses rule place) = refused_line rule place
verdict_line (exceeds excess) = too_large_line excess.limit excess.count

abbrev pub verdict_status : Verdict → Status
verdict_status (accepts p) = status.Done
verdict_status (refuses rule place) = status.Refused
verdict_status (exceeds excess) = status.TooLarge

-- a verdict that does not accept
abbrev pub IsRefusal : Verdict → Type 0
IsRefusal (accepts p) = ⊥
IsRefusal (refuses rule place) = Unit {0}
IsRefusal (exceeds excess) = Unit {0}

-- by what is asked of it, the text of the file comes to this verdict, and to no other
pub record FileComesTo (files : FilesSeen) (ports : Bool) (file : List ℕ) (v : Verdict) : Type 0 where
  pub text : List ℕ
  pub read : MayRead files file limit.Source text
  pub verdict : IsVerdict ports text v

-- the file is the text of this program, accepted by what is asked of it
abbrev pub IsProgram : FilesSeen → Bool → (file : List ℕ) → Program → Type 0
IsProgram files ports file p = FileComesTo files ports file (accepts p)

-- the program breaks a rule or exceeds a limit, and the reply says which
pub record SaysRefused (old new : FilesSeen) (ports : Bool) (file : List ℕ) (s : Status) (text : List ℕ) : Type 0 where
  pub verdict : Verdict
  pub refuses_it : IsRefusal verdict
  pub comes : FileComesTo old ports file verdict
  pub read : HasReadFiles old new 1
  pub status_is : s ≡ verdict_status verdict
  pub text_is : text ≡ verdict_line verdict

-- the program was not accepted
abbrev pub NotAccepted : (old new : FilesSeen) → Bool → (file : List ℕ) → ReplySeen → Type 0
NotAccepted old new ports file (replied s text) = SaysRefused old new ports file s text
NotAccepted old new ports file unread = ⊥
NotAccepted old new ports file no_memory = HasReadFiles old new 1

-- the file gave no program
abbrev pub NoProgram : (old new : FilesSeen) → Bool → (file : List ℕ) → ReplySeen → Type 0
NoProgram old new ports file r = NoFile old new file limit.Source 1 r ⊎ NotAccepted old new ports file r

-- a job reads the file of its program first: it gives none, and no other file is read and no engine is asked;
-- or it gives one, and the rest of the job follows
abbrev pub ProgramStage : (old new : InputsSeen) → Bool → (file : List ℕ) → (rest : Program → ReplySeen → Type 0) → ReplySeen → Type 0
ProgramStage old new ports file rest r =
    (NoProgram old.files new.files ports file r × IsIdle old new)
    ⊎ ((p : Program) × (IsProgram old.files ports file p × rest p r))

-- ---- the data

-- the file holds these memories of a table, and no others
pub record IsData (files : FilesSeen) (data_ : List ℕ) (table : List MemEntry) (memories : List (List ℕ)) : Type 0 where
  pub bytes : List ℕ
  pub read : MayRead files data_ limit.Data bytes
  pub holds : HoldsContents table bytes memories
  pub only : (others : List (List ℕ)) → HoldsContents table bytes others → others ≡ memories
  pub fits : Fits table memories

-- the file has this fault for the table, the first one, and so it means nothing else
pub record IsBadData (files : FilesSeen) (data_ : List ℕ) (table : List MemEntry) (fault : DataFault) : Type 0 where
  pub bytes : List ℕ
  pub read : MayRead files data_ limit.Data bytes
  pub means : Means table bytes (Err fault)
  pub only : (other : Result (List (List ℕ)) DataFault) → Means table bytes other → other ≡ Err fault

-- the data has a fault, and the reply says which
pub record SaysBadData (old new : FilesSeen) (data_ : List ℕ) (table : List MemEntry) (count : ℕ) (s : Status) (text : List ℕ) : Type 0 where
  pub fault : DataFault
  pub bad_data : IsBadData old data_ table fault
  pub read : HasReadFiles old new count
  pub status_is : s ≡ status.BadData
  pub text_is : text ≡ bad_data_line table fault

-- the data was not taken
abbrev pub NotTaken : (old new : FilesSeen) → (data_ : List ℕ) → List MemEntry → (count : ℕ) → ReplySeen → Type 0
NotTaken old new data_ table count (replied s text) = SaysBadData old new data_ table count s text
NotTaken old new data_ table count unread = ⊥
NotTaken old new data_ table count no_memory = HasReadFiles old new count

-- the file, the last of so many that were read, gave no memories
abbrev pub NoData : (old new : FilesSeen) → (data_ : List ℕ) → List MemEntry → (count : ℕ) → ReplySeen → Type 0
NoData old new data_ table count r = NoFile old new data_ limit.Data count r ⊎ NotTaken old new data_ table count r

-- a job reads the file of its data second: it gives no memories of the table, and no engine is asked; or
-- it gives memories, and the rest of the job follows
abbrev pub DataStage : (old new : InputsSeen) → (data_ : List ℕ) → List MemEntry → (rest : List (List ℕ) → ReplySeen → Type 0) → ReplySeen → Type 0
DataStage old new data_ table rest r =
    (NoData old.files new.files data_ table 2 r × IsIdle old new)
    ⊎ ((memories : List (List ℕ)) × (IsData old.files data_ table memories × rest memories r))
