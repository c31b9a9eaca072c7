-- Files and an output in memory: their states, and exactly what one call answers and leaves.
use Rattle.std.specs.Prelude.{ℕ, ◌+◌, ◌<◌, ◌≤◌, ◌≡◌, ◌==◌, ◌⊎◌, Bool, IsTrue, IsFalse, if◌then◌else◌, List, [], ◌∷◌, ◌++◌, map, length, take, bytes_eq, string_bytes, Option, Some, MatchOption, Result, Ok, Err, String, Vec}
use Rattle.std.specs.List.{list_any}
use Rattle.std.specs.declared.alloc.Global.{Global}
use denote.Ref.{Bor}
use Rattle.dh_base.specs.declared.outside.FileFault.{FileFault}
use Rattle.dh_base.specs.declared.outside.FileFault.TheVariants as file
use Rattle.dh_base.specs.declared.outside.SinkFault.{SinkFault}
use Rattle.dh_base.specs.declared.outside.SinkFault.TheVariants as sink
use Rattle.dh_base.specs.Outside.{Told, Absent, Holds, FilesSeen, SinkSeen, risen}

-- files in memory: names with their contents, the numbers of the calls that fail,
-- and how many calls, faults and bytes taken there were
pub record FileStore : Type 0 where
  pub entries : List (List ℕ × List ℕ)
  pub failing : List ℕ
  pub calls : ℕ
  pub faults : ℕ
  pub taken : ℕ

-- an output in memory: its bytes, the numbers of the calls that fail, how many bytes of its piece
-- a failing call still writes, and how many calls, faults and refusals of memory there were
pub record SinkStore : Type 0 where
  pub bytes : List ℕ
  pub failing : List ℕ
  pub part : ℕ
  pub calls : ℕ
  pub faults : ℕ
  pub refusals : ℕ

-- an entry of the program as one of a store: its name's bytes and its contents
abbrev pub stored : String Global × Vec ℕ Global → List ℕ × List ℕ
stored entry = (string_bytes entry.0, entry.1.items)

-- the contents of the first entry with this name
abbrev pub told_of : List (List ℕ × List ℕ) → List ℕ → Told
told_of [] name = Absent
told_of (entry ∷ rest) name = (if bytes_eq entry.0 name then Holds entry.1 else told_of rest name)

-- what is found under a name: the contents of the first entry with it, or that there is no such entry
abbrev pub FindsContents : List (String Global × Vec ℕ Global) → List ℕ → Option (Bor (List ℕ)) → Type 0
FindsContents entries name result = MatchOption result (told_of (map stored entries) name ≡ Absent) (λ b. told_of (map stored entries) name ≡ Holds b.now)

-- files of which no call was counted yet
abbrev pub uncalled_files : (entries : List (List ℕ × List ℕ)) → (failing : List ℕ) → FileStore
uncalled_files entries failing = record { entries = entries; failing = failing; calls = 0; faults = 0; taken = 0 }

-- an output with no bytes, of which no call was counted yet
abbrev pub uncalled_sink : (failing : List ℕ) → (part : ℕ) → SinkStore
uncalled_sink failing part = record { bytes = []; failing = failing; part = part; calls = 0; faults = 0; refusals = 0 }

-- what clauses on files see of the store
abbrev pub files_seen : FileStore → FilesSeen
files_seen store = record { told = told_of store.entries; reads = store.calls; faults = store.faults; taken = store.taken }

-- what clauses on an output see of the store
abbrev pub sink_seen : SinkStore → SinkSeen
sink_seen store = record { bytes = Some store.bytes; faults = store.faults; refusals = store.refusals }

-- whether the call after this many, numbered from 1, is listed as failing
abbrev pub is_listed : List ℕ → ℕ → Bool
is_listed failing calls = list_any (λ number. number == risen calls 1) failing

-- the store after one more call, which looked at this many bytes
abbrev pub after_read : FileStore → ℕ → FileStore
after_read store looked = record store { calls = risen store.calls 1; taken = risen store.taken looked }

-- the call is listed: it counts as a fault and looks at nothing
pub record FailsByNumber (old new : FileStore) : Type 0 where
  pub listed : IsTrue (is_listed old.failing old.calls)
  pub after : new ≡ record old { calls = risen old.calls 1; faults = risen old.faults 1 }

-- no entry has the name: the call counts, and not as a fault
pub record FindsNone (old new : FileStore) (name : List ℕ) : Type 0 where
  pub unlisted : IsFalse (is_listed old.failing old.calls)
  pub absent : told_of old.entries name ≡ Absent
  pub after : new ≡ record old { calls = risen old.calls 1 }

-- the name has these contents, which are within the limit: all of them are looked at
pub record TakesAll (old new : FileStore) (name : List ℕ) (limit : ℕ) (bytes : List ℕ) : Type 0 where
  pub unlisted : IsFalse (is_listed old.failing old.calls)
  pub held : told_of old.entries name ≡ Holds bytes
  pub within : length bytes ≤ limit
  pub after : new ≡ after_read old (length bytes)

-- the name has these contents, which are longer than the limit: one byte past it is looked at
pub record StopsPast (old new : FileStore) (name : List ℕ) (limit : ℕ) (bytes : List ℕ) : Type 0 where
  pub unlisted : IsFalse (is_listed old.failing old.calls)
  pub held : told_of old.entries name ≡ Holds bytes
  pub beyond : limit < length bytes
  pub after : new ≡ after_read old (limit + 1)

-- a read of a name under a limit answers so, and leaves the store so: one answer is possible,
-- but that memory may be refused in place of giving the contents
abbrev pub StoreReads : FileStore → FileStore → List ℕ → ℕ → Result (Vec ℕ Global) FileFault → Type 0
StoreReads old new name limit (Ok bytes) = TakesAll old new name limit bytes.items
StoreReads old new name limit (Err file.Failed) = FailsByNumber old new ⊎ FindsNone old new name
StoreReads old new name limit (Err file.TooLong) = (bytes : List ℕ) × StopsPast old new name limit bytes
StoreReads old new name limit (Err file.NoMemory) = (bytes : List ℕ) × TakesAll old new name limit bytes

-- a piece is added at the end, or memory for it is refused, which counts as one refusal
abbrev pub Appends : SinkStore → SinkStore → List ℕ → Result (Unit {0}) SinkFault → Type 0
Appends old new piece (Ok _) = new ≡ record old { bytes = old.bytes ++ piece }
Appends old new piece (Err sink.Failed) = ⊥
Appends old new piece (Err sink.NoMemory) = new ≡ record old { refusals = risen old.refusals 1 }

-- the store after one more call, which wrote these bytes
abbrev pub after_write : SinkStore → List ℕ → SinkStore
after_write store written = record store { bytes = store.bytes ++ written; calls = risen store.calls 1 }

-- the call is not listed: the whole piece is written
pub record WritesAll (old new : SinkStore) (piece : List ℕ) : Type 0 where
  pub unlisted : IsFalse (is_listed old.failing old.calls)
  pub after : new ≡ after_write old piece

-- the call is listed: the first bytes of the piece are written, and it counts as a fault
pub record WritesPart (old new : SinkStore) (piece : List ℕ) : Type 0 where
  pub listed : IsTrue (is_listed old.failing old.calls)
  pub after : new ≡ record (after_write old (take old.part piece)) { faults = risen old.faults 1 }

-- a write of a piece answers so, and leaves the store so: one answer is possible,
-- but that memory may be refused, and then nothing is written
abbrev pub StoreWrites : SinkStore → SinkStore → List ℕ → Result (Unit {0}) SinkFault → Type 0
StoreWrites old new piece (Ok _) = WritesAll old new piece
StoreWrites old new piece (Err sink.Failed) = WritesPart old new piece
StoreWrites old new piece (Err sink.NoMemory) = new ≡ record old { calls = risen old.calls 1; refusals = risen old.refusals 1 }
