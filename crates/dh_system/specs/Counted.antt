-- The counts that the system's files keep, and what clauses see of files by them.
use Rattle.std.specs.Prelude.{ℕ, ◌≡◌, List, Option, Some, None, Result, OnOk, Vec}
use Rattle.std.specs.Io.KnownBytes.{Appends}
use Rattle.std.specs.declared.alloc.Global.{Global}
use Rattle.std.specs.declared.io.ErrorKind.{ErrorKind}
use Rattle.std.specs.declared.io.ErrorKind.TheVariants as kind
use Rattle.dh_base.specs.Outside.{Told, Untold, Holds, FilesSeen, SinkSeen, CountsFault, CountsWrite, Reads, Writes, Rose}
use Rattle.dh_base.specs.declared.outside.FileFault.{FileFault}
use Rattle.dh_base.specs.declared.outside.FileFault.TheVariants as file
use Rattle.dh_base.specs.declared.outside.SinkFault.{SinkFault}

-- how many reads were asked for, how many faults were met, and how many bytes were taken
pub record FileCounts : Type 0 where
  pub reads : ℕ
  pub faults : ℕ
  pub taken : ℕ

-- files of which this is told, with these counts
abbrev pub files_with : Told → FileCounts → FilesSeen
files_with told counts = record { told = λ _. told; reads = counts.reads; faults = counts.faults; taken = counts.taken }

-- what a reader's last bytes tell of the file that it reads: its contents, where they are known
abbrev pub told_contents : Option (List ℕ) → Told
told_contents None = Untold
told_contents (Some bytes) = Holds bytes

-- a read of files of which this is told answers so
abbrev pub ReadsTold : Told → (old new : FileCounts) → (name : List ℕ) → (limit : ℕ) → Result (Vec ℕ Global) FileFault → Type 0
ReadsTold told old new name limit result = Reads (files_with told old) (files_with told new) name limit result

-- a file that was counted as read is read: a fault is counted only where that fails
pub record CountsOpened (old new : FileCounts) (result : Result (Vec ℕ Global) FileFault) : Type 0 where
  pub reads : new.reads ≡ old.reads
  pub fault : CountsFault (files_with Untold old) (files_with Untold new) result

-- an error of the system is this fault, and is counted unless it is want of memory
abbrev pub MeetsFileFault : FileCounts → FileCounts → FileFault → Type 0
MeetsFileFault old new file.Failed = Rose old.faults new.faults × (new.reads ≡ old.reads)
MeetsFileFault old new file.TooLong = ⊥
MeetsFileFault old new file.NoMemory = new ≡ old

-- the fault is want of memory only where the error is of that kind
abbrev pub NoMemoryMeansOutOfMemory : FileFault → ErrorKind → Type 0
NoMemoryMeansOutOfMemory fault of = (fault ≡ file.NoMemory) → of ≡ kind.OutOfMemory

-- an output whose bytes are not told, which met so many faults; it takes no memory, so that none is refused
abbrev pub sink_with : (faults : ℕ) → SinkSeen
sink_with faults = record { bytes = None; faults = faults; refusals = 0 }

-- what a write to such an output counts
abbrev pub CountsUntoldWrite : (before after : ℕ) → Result (Unit {0}) SinkFault → Type 0
CountsUntoldWrite before after result = CountsWrite (sink_with before) (sink_with after) result

-- and how it answers
abbrev pub WritesUntold : (before after : ℕ) → (piece : List ℕ) → Result (Unit {0}) SinkFault → Type 0
WritesUntold before after piece result = Writes (sink_with before) (sink_with after) piece result

-- where a write succeeds, the writer has the whole piece behind what it had, as far as that is known
abbrev pub HoldsWhole : {W E : Type 0} → (contents : W → Option (List ℕ)) → (old new : W) → (piece : List ℕ) → Result (Unit {0}) E → Type 0
HoldsWhole contents old new piece result = OnOk result (Appends (contents old) (contents new) piece)
