-- What bytes mean for a table, or the line of their fault.
use Rattle.std.proofs.Common.{◌≡◌, ℕ, List, Result, Ok, Err, IfOk, Vec}
use Rattle.std.specs.declared.alloc.Global.{Global}
use Rattle.dh_base.specs.declared.lists.NoMemory.{NoMemory}
use Rattle.dh_base.specs.declared.statuses.Status.TheVariants as status
use Rattle.dh_tree.specs.Tables.{Fits}
use Rattle.dh_tree.specs.declared.tables.MemEntry.{MemEntry}
use Rattle.dh_data.specs.DataFiles.{Means, IfTold}
use Rattle.dh_data.specs.declared.data_files.DataFault.{DataFault}
use Rattle.dh_data.specs.declared.data_files.DataFault.TheVariants as fault
use Rattle.dh_app.specs.Lines.{bad_data_line}
use Rattle.dh_app.specs.Parts.{Line, RepliesWith, WritesFault, BadBytes, HoldsAlone}
use Rattle.dh_app.specs.Replies.{ReplySeen, ReplySays}
use Rattle.dh_app.proofs.Lined.{says_as, none_said, with_line}

-- a fault is the one meaning of the bytes
abbrev MeansAlone : List ℕ → List MemEntry → DataFault → Type 0
MeansAlone bytes table f = Means table bytes (Err f) × ((other : Result (List (List ℕ)) DataFault) → Means table bytes other → other ≡ Err f)

bad_line : (bytes : List ℕ) (table : List MemEntry) (f : DataFault) (line : Result (Vec ℕ Global) NoMemory) (r : ReplySeen) → MeansAlone bytes table f
    → IfOk line (λ v. v.items ≡ bad_data_line table f) → RepliesWith status.BadData line r → ReplySays (BadBytes bytes table) r
bad_line bytes table f line r m w h =
    says_as (Line status.BadData (bad_data_line table f)) (BadBytes bytes table) r (λ s text l. record { fault = f; means = m.0; only = m.1; status_is = l.0; line_is = l.1 }) (with_line status.BadData (bad_data_line table f) line r w h)

no_line : (bytes : List ℕ) (table : List MemEntry) (line : Result (Vec ℕ Global) NoMemory) (r : ReplySeen) → IfOk line (λ v. ⊥) → RepliesWith status.BadData line r → ReplySays (BadBytes bytes table) r
no_line bytes table (Ok v) r w h = absurd w
no_line bytes table (Err e) r w h = none_said (BadBytes bytes table) r h

pub bad_bytes : (bytes : List ℕ) (table : List MemEntry) (f : DataFault) (line : Result (Vec ℕ Global) NoMemory) (r : ReplySeen) → IfTold {A = List (List ℕ)} (Err f) (Means table bytes (Err f))
    → ((other : Result (List (List ℕ)) DataFault) → Means table bytes other → IfTold {A = List (List ℕ)} (Err f) (other ≡ Err f)) → WritesFault table f line → RepliesWith status.BadData line r
    → ReplySays (BadBytes bytes table) r
bad_bytes bytes table fault.NotJson line r h g w l = bad_line bytes table fault.NotJson line r (h, g) w l
bad_bytes bytes table (fault.Missing i) line r h g w l = bad_line bytes table (fault.Missing i) line r (h, g) w l
bad_bytes bytes table (fault.Unknown n) line r h g w l = bad_line bytes table (fault.Unknown n) line r (h, g) w l
bad_bytes bytes table (fault.Format i) line r h g w l = bad_line bytes table (fault.Format i) line r (h, g) w l
bad_bytes bytes table (fault.Size i) line r h g w l = bad_line bytes table (fault.Size i) line r (h, g) w l
bad_bytes bytes table (fault.Value i p) line r h g w l = bad_line bytes table (fault.Value i p) line r (h, g) w l
bad_bytes bytes table fault.NoMemory line r h g w l = no_line bytes table line r w l

-- bytes with contents
pub good_bytes : (bytes : List ℕ) (table : List MemEntry) (m : List (List ℕ)) → Means table bytes (Ok m) → ((other : Result (List (List ℕ)) DataFault) → Means table bytes other → other ≡ Ok m) → Fits table m
    → HoldsAlone bytes table m
good_bytes bytes table m h g f = record { holds = h; only = λ others held. same_ok others m (g (Ok others) held); fits = f }
  where
    same_ok : (a b : List (List ℕ)) → ◌≡◌ {A = Result (List (List ℕ)) DataFault} (Ok a) (Ok b) → a ≡ b
    same_ok a b e = cc
