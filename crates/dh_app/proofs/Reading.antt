-- From the bytes of a file to a program or to memories. What is known of the second file is known since
-- the call began: contents stay, and no count falls.
use Rattle.std.proofs.Common.{Bool, ◌≡◌, ℕ, ◌≤◌, List, Result, Ok, Err, ap, ◌∙◌, arith, subst, inl, inr}
use Rattle.dh_base.specs.Limits.{greatest_of}
use Rattle.dh_base.specs.Outside.{Told, FilesSeen, KeepsFiles, Rose, RoseBy, MayBe, IsAbsent, MayExceed, risen}
use Rattle.dh_base.specs.declared.limits.Limit.{Limit}
use Rattle.dh_base.specs.declared.limits.Limit.TheVariants as limit
use Rattle.dh_base.specs.declared.statuses.Status.TheVariants as status
use Rattle.dh_tree.specs.declared.tables.MemEntry.{MemEntry}
use Rattle.dh_tree.specs.declared.trees.typed.Typed.{Typed}
use Rattle.dh_ports.specs.declared.accepted.Accepted.{Accepted}
use Rattle.dh_check.specs.Verdicts.{refuses, exceeds, IsVerdict, FaultTells}
use Rattle.dh_check.specs.declared.checking.CheckFault.{CheckFault}
use Rattle.dh_check.specs.declared.checking.CheckFault.TheVariants as check_fault
use Rattle.dh_app.specs.Inputs.{HasReadFiles, HasBegun}
use Rattle.dh_app.specs.Lines.{refused_line, too_large_line}
use Rattle.dh_app.specs.Parts.{Line, SaysFault, RefusesText, ProgramOf, TypedOf, ProgramRead, TypedRead, BadBytes, DataOf, DataRead}
use Rattle.dh_app.specs.Replies.{ReplySeen, replied, unread, no_memory, reply_seen, ReplySays}
use Rattle.dh_app.specs.Sources.{MayRead, IsTooLong, FailsToRead, NoFile, NotAccepted, NotTaken}
use Rattle.dh_app.specs.declared.replies.Reply.{Reply}
use Rattle.dh_app.proofs.Lined.{says_as, none_said}

-- ---- the program

-- a text that a fault refuses
pub fault_refuses : (ports : Bool) (text : List ℕ) (f : CheckFault) (r : ReplySeen) → FaultTells (IsVerdict ports text) f → SaysFault f r → ReplySays (RefusesText ports text) r
fault_refuses ports text (check_fault.Refused rule place) r tells h =
    says_as (Line status.Refused (refused_line rule place)) (RefusesText ports text) r (λ s line l. record { verdict = refuses rule place; refuses_it = tt; judged = tells; status_is = l.0; line_is = l.1 }) h
fault_refuses ports text (check_fault.TooLarge exceeded count) r tells h =
    says_as (Line status.TooLarge (too_large_line exceeded count)) (RefusesText ports text) r (λ s line l. record { verdict = exceeds (record { limit = exceeded; count = count }); refuses_it = tt; judged = tells; status_is = l.0; line_is = l.1 }) h
fault_refuses ports text check_fault.NoMemory r tells h = none_said (RefusesText ports text) r h

refused_file : (old new : FilesSeen) (ports : Bool) (name text : List ℕ) (r : ReplySeen) → MayRead old name limit.Source text → HasReadFiles old new 1 → ReplySays (RefusesText ports text) r
    → NotAccepted old new ports name r
refused_file old new ports name text (replied s line) m k h =
    record { verdict = h.verdict; refuses_it = h.refuses_it; comes = record { text = text; read = m; verdict = h.judged }; read = k; status_is = h.status_is; text_is = h.line_is }
refused_file old new ports name text unread m k h = h
refused_file old new ports name text no_memory m k h = k

pub program_read : (old new : FilesSeen) (ports : Bool) (name text : List ℕ) (result : Result Accepted Reply) → MayRead old name limit.Source text → HasReadFiles old new 1 → ProgramOf ports text result
    → ProgramRead old new ports name result
program_read old new ports name text (Ok p) m k h = (record { text = text; read = m; verdict = h }, k)
program_read old new ports name text (Err r) m k h = inr (refused_file old new ports name text (reply_seen r) m k h)

pub typed_read : (old new : FilesSeen) (ports : Bool) (name text : List ℕ) (result : Result Typed Reply) → MayRead old name limit.Source text → HasReadFiles old new 1 → TypedOf ports text result
    → TypedRead old new ports name result
typed_read old new ports name text (Ok p) m k h = (record { text = text; read = m; verdict = h.0 }, (k, h.1))
typed_read old new ports name text (Err r) m k h = inr (refused_file old new ports name text (reply_seen r) m k h)

-- ---- the data

risen_twice : (a b c : ℕ) → b ≡ risen a 1 → c ≡ risen b 1 → c ≡ risen a 2
risen_twice a b c e f = omega (arith, e, f)

-- two reads, one after the other
read_since : (first mid new : FilesSeen) → HasBegun first mid → HasReadFiles mid new 1 → HasReadFiles first new 2
read_since first mid new b k = record { reads = risen_twice first.reads mid.reads new.reads b.read.reads k.reads; faults = k.faults ∙ b.read.faults }

-- what is known of a name stays
told_same : (old mid : FilesSeen) (name : List ℕ) → KeepsFiles old mid → mid.told name ≡ old.told name
told_same old mid name k = ap (λ (t : List ℕ → Told). t name) k.told

read_before : (old mid : FilesSeen) (name : List ℕ) (l : Limit) (bytes : List ℕ) → KeepsFiles old mid → MayRead mid name l bytes → MayRead old name l bytes
read_before old mid name l bytes k h =
    let P : Told → Type 0 = λ t. MayBe t bytes in
    record { contents = subst P (told_same old mid name k) h.contents; within = h.within }

rose_before : (a b c : ℕ) → a ≤ b → Rose b c → Rose a c
rose_before a b c l (inl r) = inl (omega arith)
rose_before a b c l (inr r) = inr r

rose_by_before : (more a b c : ℕ) → a ≤ b → RoseBy more b c → RoseBy more a c
rose_by_before more a b c l (inl r) = inl (omega arith)
rose_by_before more a b c l (inr r) = inr r

long_before : (old mid new : FilesSeen) (name : List ℕ) (l : Limit) → KeepsFiles old mid → IsTooLong mid new name l → IsTooLong old new name l
long_before old mid new name l k h =
    let P : Told → Type 0 = λ t. MayExceed t (greatest_of l) in
    record { longer = subst P (told_same old mid name k) h.longer; taken = rose_by_before (greatest_of l) old.taken mid.taken new.taken k.taken h.taken }

fails_before : (old mid new : FilesSeen) (name : List ℕ) → KeepsFiles old mid → FailsToRead mid new name → FailsToRead old new name
fails_before old mid new name k (inl r) = inl (rose_before old.faults mid.faults new.faults k.faults r)
fails_before old mid new name k (inr a) = let P : Told → Type 0 = IsAbsent in inr (subst P (told_same old mid name k) a)

-- the second file was not had
pub no_file_since : (first mid new : FilesSeen) (name : List ℕ) (l : Limit) (r : ReplySeen) → HasBegun first mid → NoFile mid new name l 1 r → NoFile first new name l 2 r
no_file_since first mid new name l (replied s text) b h =
    record { long = long_before first mid new name l b.keeps h.long; read = read_since first mid new b h.read; status_is = h.status_is; text_is = h.text_is }
no_file_since first mid new name l unread b h =
    record { fails = fails_before first mid new name b.keeps h.fails; reads = risen_twice first.reads mid.reads new.reads b.read.reads h.reads }
no_file_since first mid new name l no_memory b h = read_since first mid new b h

-- it was, and its bytes have a fault
not_taken : (first new : FilesSeen) (name bytes : List ℕ) (table : List MemEntry) (r : ReplySeen) → MayRead first name limit.Data bytes → HasReadFiles first new 2 → ReplySays (BadBytes bytes table) r
    → NotTaken first new name table 2 r
not_taken first new name bytes table (replied s line) m k h =
    record { fault = h.fault; bad_data = record { bytes = bytes; read = m; means = h.means; only = h.only }; read = k; status_is = h.status_is; text_is = h.line_is }
not_taken first new name bytes table unread m k h = h
not_taken first new name bytes table no_memory m k h = k

pub data_read : (first mid new : FilesSeen) (name bytes : List ℕ) (table : List MemEntry) (result : Result (List (List ℕ)) Reply) → HasBegun first mid → MayRead mid name limit.Data bytes
    → HasReadFiles mid new 1 → DataOf bytes table result → DataRead first new name table result
data_read first mid new name bytes table (Ok memories) b m k h =
    (record { bytes = bytes; read = read_before first mid name limit.Data bytes b.keeps m; holds = h.holds; only = h.only; fits = h.fits }, read_since first mid new b k)
data_read first mid new name bytes table (Err r) b m k h =
    inr (not_taken first new name bytes table (reply_seen r) (read_before first mid name limit.Data bytes b.keeps m) (read_since first mid new b k) h)
