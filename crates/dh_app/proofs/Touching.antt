-- What each job leaves of the counts and of the engine, stage by stage, and that a text comes with a
-- status of texts.
use Rattle.std.proofs.Common.{◌≡◌, ℕ, ◌⊎◌, Bool, List, Option, Some, None, refl, sym, ap, subst, inl, inr}
use Rattle.dh_base.specs.Outside.{FilesSeen, risen}
use Rattle.dh_base.specs.declared.limits.Limit.{Limit}
use Rattle.dh_base.specs.declared.limits.Limit.TheVariants as limit
use Rattle.dh_base.specs.declared.outcomes.Outcome.{Outcome}
use Rattle.dh_base.specs.declared.outcomes.Outcome.TheVariants as outcome
use Rattle.dh_base.specs.declared.statuses.Status.{Status}
use Rattle.dh_base.specs.declared.statuses.Status.TheVariants as status
use Rattle.dh_tree.specs.Memories.{table_of}
use Rattle.dh_tree.specs.PlainTrees.{Program}
use Rattle.dh_tree.specs.declared.tables.MemEntry.{MemEntry}
use Rattle.dh_check.specs.Verdicts.{Verdict, accepts, refuses, exceeds}
use Rattle.dh_app.specs.Asking.{checked, interpreted, asked_by, file_at, data_at, argument_word}
use Rattle.dh_app.specs.CheckJob.{IsOk, ChecksFile}
use Rattle.dh_app.specs.Engines.{EngineSeen, Asks}
use Rattle.dh_app.specs.Inputs.{InputsSeen, HasReadFiles}
use Rattle.dh_app.specs.InterpretJob.{stands_after, IsStandingReport, InterpretsFiles}
use Rattle.dh_app.specs.Jobs.{IsUsage, JobComes, ComesFor}
use Rattle.dh_app.specs.NetStage.{NoNetOf}
use Rattle.dh_app.specs.LowerJob.{IsNetText, LowersFile}
use Rattle.dh_app.specs.Promises.{ReadsSecond, ReadsFor, AsksFor}
use Rattle.dh_app.specs.Replies.{ReplySeen, replied, unread, no_memory, ReplySays}
use Rattle.dh_app.specs.Reporting.{status_of}
use Rattle.dh_app.specs.SimulateJob.{RunsNet, SimulatesFiles}
use Rattle.dh_app.specs.Sources.{NoFile, NoProgram, IsProgram, NoData, verdict_status}
use Rattle.dh_app.specs.declared.words.Job.{Job}
use Rattle.dh_app.specs.declared.words.Job.TheVariants.{Check, Lower, Interpret, Simulate}

-- faults were counted only where a file could not be read
abbrev pub Calm : (old new : FilesSeen) → ReplySeen → Type 0
Calm old new (replied s text) = new.faults ≡ old.faults
Calm old new unread = Unit {0}
Calm old new no_memory = new.faults ≡ old.faults

-- a status with which a text is written
abbrev pub IsShown : Status → Type 0
IsShown status.Done = Unit {0}
IsShown status.Refused = Unit {0}
IsShown status.Usage = Unit {0}
IsShown status.Faulted = Unit {0}
IsShown status.Stuck = Unit {0}
IsShown status.Going = Unit {0}
IsShown status.BadData = Unit {0}
IsShown status.TooLarge = Unit {0}
IsShown status.ReadFault = ⊥
IsShown status.WriteFault = ⊥
IsShown status.NoMemory = ⊥

abbrev pub Shows : ReplySeen → Type 0
Shows (replied s text) = IsShown s
Shows unread = Unit {0}
Shows no_memory = Unit {0}

shown_as : (s t : Status) → s ≡ t → IsShown t → IsShown s
shown_as s t e h = subst IsShown (sym e) h

-- what a reply leaves of the files
record Left (old new : FilesSeen) (r : ReplySeen) (count : ℕ) : Type 0 where
  reads : new.reads ≡ risen old.reads count
  calm : Calm old new r
  shows : Shows r

-- ---- the stages

said_left : (P : Status → List ℕ → Type 0) (old new : FilesSeen) (r : ReplySeen) (count : ℕ) → ((s : Status) (text : List ℕ) → P s text → IsShown s) → HasReadFiles old new count → ReplySays P r → Left old new r count
said_left P old new (replied s text) count f k h = record { reads = k.reads; calm = k.faults; shows = f s text h }
said_left P old new unread count f k h = absurd h
said_left P old new no_memory count f k h = record { reads = k.reads; calm = k.faults; shows = tt }

file_left : (old new : FilesSeen) (name : List ℕ) (l : Limit) (count : ℕ) (r : ReplySeen) → NoFile old new name l count r → Left old new r count
file_left old new name l count (replied s text) h = record { reads = h.read.reads; calm = h.read.faults; shows = shown_as s status.TooLarge h.status_is tt }
file_left old new name l count unread h = record { reads = h.reads; calm = tt; shows = tt }
file_left old new name l count no_memory h = record { reads = h.reads; calm = h.faults; shows = tt }

verdict_shown : (v : Verdict) → IsShown (verdict_status v)
verdict_shown (accepts p) = tt
verdict_shown (refuses rule place) = tt
verdict_shown (exceeds excess) = tt

program_left : (old new : FilesSeen) (ports : Bool) (file : List ℕ) (r : ReplySeen) → NoProgram old new ports file r → Left old new r 1
program_left old new ports file r (inl h) = file_left old new file limit.Source 1 r h
program_left old new ports file (replied s text) (inr h) =
    record { reads = h.read.reads; calm = h.read.faults; shows = shown_as s (verdict_status h.verdict) h.status_is (verdict_shown h.verdict) }
program_left old new ports file unread (inr h) = absurd h
program_left old new ports file no_memory (inr h) = record { reads = h.reads; calm = h.faults; shows = tt }

data_left : (old new : FilesSeen) (data_ : List ℕ) (table : List MemEntry) (count : ℕ) (r : ReplySeen) → NoData old new data_ table count r → Left old new r count
data_left old new data_ table count r (inl h) = file_left old new data_ limit.Data count r h
data_left old new data_ table count (replied s text) (inr h) = record { reads = h.read.reads; calm = h.read.faults; shows = shown_as s status.BadData h.status_is tt }
data_left old new data_ table count unread (inr h) = absurd h
data_left old new data_ table count no_memory (inr h) = record { reads = h.reads; calm = h.faults; shows = tt }

outcome_shown : (o : Outcome) → IsShown (status_of o)
outcome_shown outcome.Going = tt
outcome_shown outcome.Ended = tt
outcome_shown (outcome.Faulted kind place) = tt
outcome_shown (outcome.Stuck memory bank place) = tt

run_left : (old new : FilesSeen) (e f : EngineSeen) (p : Program) (memories : List (List ℕ)) (clocks : ℕ) (r : ReplySeen) → HasReadFiles old new 2 → RunsNet e f p memories clocks r → Left old new r 2
run_left old new e f p memories clocks (replied s text) k h =
    record { reads = k.reads; calm = k.faults; shows = shown_as s (status_of h.1.finish.outcome) h.1.status_is (outcome_shown h.1.finish.outcome) }
run_left old new e f p memories clocks unread k h = absurd h
run_left old new e f p memories clocks no_memory k h = record { reads = k.reads; calm = k.faults; shows = tt }

run_asks : (e f : EngineSeen) (p : Program) (memories : List (List ℕ)) (clocks : ℕ) (r : ReplySeen) → RunsNet e f p memories clocks r → (f ≡ e) ⊎ Asks e f
run_asks e f p memories clocks (replied s text) h = inr h.0
run_asks e f p memories clocks unread h = absurd h
run_asks e f p memories clocks no_memory h = h

-- ---- the jobs

-- what a job leaves of all that it takes
pub record JobLeft (words : List (List ℕ)) (old new : InputsSeen) (o : Option Job) (r : ReplySeen) : Type 0 where
  pub calm : Calm old.files new.files r
  pub shows : Shows r
  pub reads : ReadsFor words old.files new.files o
  pub asks : AsksFor words old new o

module _ (words : List (List ℕ)) (old new : InputsSeen) (job : Job) (r : ReplySeen) where
  one_left : Left old.files new.files r 1 → AsksFor words old new (Some job) → JobLeft words old new (Some job) r
  one_left l a = record { calm = l.calm; shows = l.shows; reads = inl l.reads; asks = a }

  two_left : (place : ℕ) → data_at job ≡ Some place → (p : Program) → IsProgram old.files (asked_by job) (argument_word words (file_at job)) p → Left old.files new.files r 2 → AsksFor words old new (Some job)
      → JobLeft words old new (Some job) r
  two_left place e p h l a =
      let P : Option ℕ → Type 0 = λ x. ReadsSecond words old.files new.files job x in
      record { calm = l.calm; shows = l.shows; reads = inr (subst P (sym e) (l.reads, (p, h))); asks = a }

check_left : (words : List (List ℕ)) (old new : InputsSeen) (file : ℕ) (r : ReplySeen) → ChecksFile old new (argument_word words file) r → JobLeft words old new (Some (Check file)) r
check_left words old new file r (inl h) = one_left words old new (Check file) r (program_left old.files new.files checked (argument_word words file) r h.0) h.1
check_left words old new file r (inr (p, (is, (only, says)))) =
    one_left words old new (Check file) r (said_left IsOk old.files new.files r 1 (λ s text l. shown_as s status.Done l.0 tt) only.read says) only.idle

none_left : (old new : FilesSeen) (p : Program) (r : ReplySeen) → HasReadFiles old new 1 → NoNetOf p r → Left old new r 1
none_left old new p (replied s text) k h = record { reads = k.reads; calm = k.faults; shows = shown_as s status.TooLarge h.status_is tt }
none_left old new p unread k h = absurd h
none_left old new p no_memory k h = record { reads = k.reads; calm = k.faults; shows = tt }

lower_left : (words : List (List ℕ)) (old new : InputsSeen) (file : ℕ) (r : ReplySeen) → LowersFile old new (argument_word words file) r → JobLeft words old new (Some (Lower file)) r
lower_left words old new file r (inl h) = one_left words old new (Lower file) r (program_left old.files new.files checked (argument_word words file) r h.0) h.1
lower_left words old new file r (inr (p, (is, inl h))) = one_left words old new (Lower file) r (none_left old.files new.files p r h.0.read h.1) h.0.idle
lower_left words old new file r (inr (p, (is, inr (net, (plays, (only, says)))))) =
    one_left words old new (Lower file) r (said_left (IsNetText net) old.files new.files r 1 (λ s text l. shown_as s status.Done l.done tt) only.read says) only.idle

interpret_left : (words : List (List ℕ)) (old new : InputsSeen) (file data_ steps : ℕ) (unchecked : Bool) (r : ReplySeen) → InterpretsFiles old new (argument_word words file) (argument_word words data_) steps unchecked r
    → JobLeft words old new (Some (Interpret file data_ steps unchecked)) r
interpret_left words old new file data_ steps unchecked r (inl h) =
    one_left words old new (Interpret file data_ steps unchecked) r (program_left old.files new.files (interpreted unchecked) (argument_word words file) r h.0) h.1
interpret_left words old new file data_ steps unchecked r (inr (p, (is, inl h))) =
    two_left words old new (Interpret file data_ steps unchecked) r data_ refl p is (data_left old.files new.files (argument_word words data_) (table_of p) 2 r h.0) h.1
interpret_left words old new file data_ steps unchecked r (inr (p, (is, inr (m, (held, (only, says)))))) =
    two_left words old new (Interpret file data_ steps unchecked) r data_ refl p is
    (said_left (IsStandingReport p m steps) old.files new.files r 2 (λ s text l. shown_as s (status_of (stands_after p m steps).outcome) l.status_is (outcome_shown (stands_after p m steps).outcome)) only.read says) only.idle

simulate_left : (words : List (List ℕ)) (old new : InputsSeen) (file data_ clocks : ℕ) (r : ReplySeen) → SimulatesFiles old new (argument_word words file) (argument_word words data_) clocks r
    → JobLeft words old new (Some (Simulate file data_ clocks)) r
simulate_left words old new file data_ clocks r (inl h) =
    one_left words old new (Simulate file data_ clocks) r (program_left old.files new.files checked (argument_word words file) r h.0) (inl h.1)
simulate_left words old new file data_ clocks r (inr (p, (is, inl h))) =
    one_left words old new (Simulate file data_ clocks) r (none_left old.files new.files p r h.0.read h.1) (inl h.0.idle)
simulate_left words old new file data_ clocks r (inr (p, (is, inr (net, (plays, inl h))))) =
    two_left words old new (Simulate file data_ clocks) r data_ refl p is (data_left old.files new.files (argument_word words data_) (table_of p) 2 r h.0) (inl h.1)
simulate_left words old new file data_ clocks r (inr (p, (is, inr (net, (plays, inr (m, (held, (read, runs)))))))) =
    two_left words old new (Simulate file data_ clocks) r data_ refl p is (run_left old.files new.files old.engine new.engine p m clocks r read runs)
    (ports (run_asks old.engine new.engine p m clocks r runs))
  where
    ports : (new.engine ≡ old.engine) ⊎ Asks old.engine new.engine → AsksFor words old new (Some (Simulate file data_ clocks))
    ports (inl e) = inl e
    ports (inr a) = inr (record { program = p; is_program = is; memories = m; is_data = held; asks = a })

job_left : (words : List (List ℕ)) (old new : InputsSeen) (job : Job) (r : ReplySeen) → JobComes words old new job r → JobLeft words old new (Some job) r
job_left words old new (Check file) r h = check_left words old new file r h
job_left words old new (Lower file) r h = lower_left words old new file r h
job_left words old new (Interpret file data_ steps unchecked) r h = interpret_left words old new file data_ steps unchecked r h
job_left words old new (Simulate file data_ clocks) r h = simulate_left words old new file data_ clocks r h

usage_calm : (old new : InputsSeen) (r : ReplySeen) → new ≡ old → Calm old.files new.files r
usage_calm old new (replied s text) e = ap (λ x. x.files.faults) e
usage_calm old new unread e = tt
usage_calm old new no_memory e = ap (λ x. x.files.faults) e

said_shows : (P : Status → List ℕ → Type 0) (r : ReplySeen) → ((s : Status) (text : List ℕ) → P s text → IsShown s) → ReplySays P r → Shows r
said_shows P (replied s text) f h = f s text h
said_shows P unread f h = tt
said_shows P no_memory f h = tt

pub all_left : (words : List (List ℕ)) (old new : InputsSeen) (o : Option Job) (r : ReplySeen) → ComesFor words old new o r → JobLeft words old new o r
all_left words old new None r h =
    record { calm = usage_calm old new r h.0; shows = said_shows IsUsage r (λ s text l. shown_as s status.Usage l.0 tt) h.1; reads = ap (λ x. x.files.reads) h.0; asks = ap (λ x. x.engine) h.0 }
all_left words old new (Some job) r h = job_left words old new job r h
