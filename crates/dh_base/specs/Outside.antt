-- What clauses see of the outside, named files and an output, and what one call may do to it.
use Rattle.std.specs.Prelude.{ℕ, ◌+◌, ◌-◌, ◌^◌, ◌<◌, ◌≤◌, ◌≡◌, ◌⊎◌, min, List, ◌++◌, length, take, Option, option_map, Result, Ok, Err, Vec}
use Rattle.std.specs.declared.alloc.Global.{Global}
use Rattle.dh_base.specs.declared.outside.FileFault.{FileFault}
use Rattle.dh_base.specs.declared.outside.FileFault.TheVariants as file
use Rattle.dh_base.specs.declared.outside.SinkFault.{SinkFault}
use Rattle.dh_base.specs.declared.outside.SinkFault.TheVariants as sink

-- what a clause knows of a name: nothing, that no file has it, or the file's bytes
pub data Told : Type 0 where
  Untold : Told
  Absent : Told
  Holds : (bytes : List ℕ) → Told

-- what a clause sees of the files: what is known of each name, how often they were read, how many faults
-- they met, how many bytes were taken from them
pub record FilesSeen : Type 0 where
  pub told : List ℕ → Told
  pub reads : ℕ
  pub faults : ℕ
  pub taken : ℕ

-- what a clause sees of an output: the bytes written, where they are told, how many faults it met, and how
-- often it was refused memory
pub record SinkSeen : Type 0 where
  pub bytes : Option (List ℕ)
  pub faults : ℕ
  pub refusals : ℕ

-- a count after a rise; it stops at its last value
abbrev pub risen : ℕ → ℕ → ℕ
risen count by = min (count + by) (2 ^ 64 - 1)

-- a count has risen, or stands at its last value
abbrev pub Rose : ℕ → ℕ → Type 0
Rose before after = (before < after) ⊎ (after ≡ 2 ^ 64 - 1)

-- it has risen by more than a number, or stands at its last value
abbrev pub RoseBy : ℕ → ℕ → ℕ → Type 0
RoseBy more before after = (before + more < after) ⊎ (after ≡ 2 ^ 64 - 1)

-- these may be the bytes of the name
abbrev pub MayBe : Told → List ℕ → Type 0
MayBe Untold bytes = Unit {0}
MayBe Absent bytes = ⊥
MayBe (Holds held) bytes = held ≡ bytes

-- it is known that no file has the name
abbrev pub IsAbsent : Told → Type 0
IsAbsent Untold = ⊥
IsAbsent Absent = Unit {0}
IsAbsent (Holds held) = ⊥

-- the name may have more bytes than the limit
abbrev pub MayExceed : Told → ℕ → Type 0
MayExceed Untold limit = Unit {0}
MayExceed Absent limit = ⊥
MayExceed (Holds held) limit = limit < length held

-- what is true of a call that reads: contents stay, and no count of faults or bytes falls
pub record KeepsFiles (old new : FilesSeen) : Type 0 where
  pub told : new.told ≡ old.told
  pub faults : old.faults ≤ new.faults
  pub taken : old.taken ≤ new.taken

-- a read of a name under a limit answers so
abbrev pub Reads : FilesSeen → FilesSeen → List ℕ → ℕ → Result (Vec ℕ Global) FileFault → Type 0
Reads old new name limit (Ok bytes) = MayBe (old.told name) bytes.items × (length bytes.items ≤ limit)
Reads old new name limit (Err file.Failed) = Rose old.faults new.faults ⊎ IsAbsent (old.told name)
Reads old new name limit (Err file.TooLong) = RoseBy limit old.taken new.taken × MayExceed (old.told name) limit
Reads old new name limit (Err file.NoMemory) = Unit {0}

-- what a read counts: itself, and a fault only where it fails
abbrev pub NoFault : FilesSeen → FilesSeen → Type 0
NoFault old new = new.faults ≡ old.faults

abbrev pub CountsFault : FilesSeen → FilesSeen → Result (Vec ℕ Global) FileFault → Type 0
CountsFault old new (Ok bytes) = NoFault old new
CountsFault old new (Err file.Failed) = Unit {0}
CountsFault old new (Err file.TooLong) = NoFault old new
CountsFault old new (Err file.NoMemory) = NoFault old new

pub record CountsRead (old new : FilesSeen) (result : Result (Vec ℕ Global) FileFault) : Type 0 where
  pub reads : new.reads ≡ risen old.reads 1
  pub fault : CountsFault old new result

-- what is true of a call that writes: no count falls
pub record KeepsSink (old new : SinkSeen) : Type 0 where
  pub faults : old.faults ≤ new.faults
  pub refusals : old.refusals ≤ new.refusals

-- the output has grown by these bytes, where its bytes are told
abbrev pub Grew : SinkSeen → SinkSeen → List ℕ → Type 0
Grew old new piece = new.bytes ≡ option_map (λ bytes. bytes ++ piece) old.bytes

-- the output has grown by the first bytes of a piece, by none or all of it too
abbrev pub GrewByPart : SinkSeen → SinkSeen → List ℕ → Type 0
GrewByPart old new piece = (n : ℕ) × Grew old new (take n piece)

-- a write of a piece answers so
abbrev pub Writes : SinkSeen → SinkSeen → List ℕ → Result (Unit {0}) SinkFault → Type 0
Writes old new piece (Ok _) = Grew old new piece
Writes old new piece (Err sink.Failed) = GrewByPart old new piece × Rose old.faults new.faults
Writes old new piece (Err sink.NoMemory) = GrewByPart old new piece

-- what a write counts: a fault only where it fails, and a refusal exactly where memory was refused
abbrev pub CountsWrite : SinkSeen → SinkSeen → Result (Unit {0}) SinkFault → Type 0
CountsWrite old new (Ok _) = (new.faults ≡ old.faults) × (new.refusals ≡ old.refusals)
CountsWrite old new (Err sink.Failed) = new.refusals ≡ old.refusals
CountsWrite old new (Err sink.NoMemory) = (new.faults ≡ old.faults) × Rose old.refusals new.refusals
