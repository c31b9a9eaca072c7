-- What clauses see of all that a job takes from outside: files and an engine.
use Rattle.std.specs.Prelude.{◌≡◌, ℕ}
use Rattle.dh_base.specs.Outside.{FilesSeen, KeepsFiles, risen}
use Rattle.dh_app.specs.Engines.{EngineSeen}

pub record InputsSeen : Type 0 where
  pub files : FilesSeen
  pub engine : EngineSeen

abbrev pub inputs_of : FilesSeen → EngineSeen → InputsSeen
inputs_of files engine = record { files = files; engine = engine }

-- the relation between the inputs before, of these files and this engine, and those after
abbrev pub OverInputs : FilesSeen → EngineSeen → FilesSeen → EngineSeen → (relation : InputsSeen → InputsSeen → Type 0) → Type 0
OverInputs files engine files_after engine_after relation = relation (inputs_of files engine) (inputs_of files_after engine_after)

-- the relation between the files before and after, whatever engine stands beside them
abbrev pub WithAnyEngine : (old new : FilesSeen) → (relation : InputsSeen → InputsSeen → Type 0) → Type 0
WithAnyEngine old new relation = (engine : EngineSeen) → relation (inputs_of old engine) (inputs_of new engine)

-- so many files were read, without a fault
pub record HasReadFiles (old new : FilesSeen) (count : ℕ) : Type 0 where
  pub reads : new.reads ≡ risen old.reads count
  pub faults : new.faults ≡ old.faults

-- the engine is as before: it was not asked, and its answers are the same
abbrev pub IsIdle : (old new : InputsSeen) → Type 0
IsIdle old new = new.engine ≡ old.engine

-- so many files were read, without a fault, and the engine is as before
pub record OnlyReads (old new : InputsSeen) (count : ℕ) : Type 0 where
  pub read : HasReadFiles old.files new.files count
  pub idle : IsIdle old new

-- of the files that a job reads the first was read
pub record HasBegun (old new : FilesSeen) : Type 0 where
  pub keeps : KeepsFiles old new
  pub read : HasReadFiles old new 1
