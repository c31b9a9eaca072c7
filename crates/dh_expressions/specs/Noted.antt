-- What is noted of accesses: those of which operations were made, and what their reads gave at which path.
use Rattle.std.specs.Prelude.{◌≡◌, ℕ, ◌==◌, Bool, true, false, if◌then◌else◌, List, [], ◌∷◌, ◌++◌, length, replicate, slice_get, slice_set, slice_index_or, Option, Some, None}
use Rattle.dh_expressions.specs.declared.accesses.Accesses.{Accesses}
use Rattle.dh_expressions.specs.declared.accesses.Touched.{Touched}
use Rattle.dh_expressions.specs.declared.copies.AccessAt.{AccessAt}

abbrev pub touched_of : Option (Option Touched) → Option Touched
touched_of None = None
touched_of (Some t) = t

-- the access of a number, where it has operations
abbrev pub touched_in : Accesses → (number : ℕ) → Option Touched
touched_in a number = touched_of (slice_get a.touched.items number)

abbrev pub is_bare_of : Option (Option Touched) → Bool
is_bare_of None = false
is_bare_of (Some None) = true
is_bare_of (Some (Some t)) = false

-- there is an access of this number, and it has no operations
abbrev pub has_no_operations : Accesses → (number : ℕ) → Bool
has_no_operations a number = is_bare_of (slice_get a.touched.items number)

-- none of so many accesses has operations
pub record IsUntouched (a : Accesses) (count : ℕ) : Type 0 where
  pub touched : a.touched.items ≡ replicate count None
  pub counts : a.counts.items ≡ []

-- What reads gave.

abbrev pub given_to : Option Touched → (path : ℕ) → Option ℕ
given_to None path = None
given_to (Some t) path = slice_get t.given path

-- what a read gives at a path
abbrev pub given_in : Accesses → (number path : ℕ) → Option ℕ
given_in a number path = given_to (touched_in a number) path

-- the same of an access and a path that may lack
abbrev pub given_by : Accesses → Option (ℕ × ℕ) → Option ℕ
given_by a None = None
given_by a (Some s) = given_in a s.0 s.1

-- one more, where the path is the next one
abbrev pub given_then : List ℕ → (path value : ℕ) → List ℕ
given_then given path value = if length given == path then given ++ value ∷ [] else given

abbrev pub noted_in : Option Touched → (path value : ℕ) → Option Touched
noted_in None path value = None
noted_in (Some t) path value = Some (record { fault = t.fault; copies = t.copies; given = given_then t.given path value })

-- what a read gives at a path is noted, where it is the next one
pub record Notes (before after : Accesses) (number path value : ℕ) : Type 0 where
  pub touched : after.touched.items ≡ slice_set before.touched.items number (noted_in (slice_index_or before.touched.items number None) path value)
  pub counts : after.counts.items ≡ before.counts.items

-- Copies.

-- an access that has no copies stands for itself
abbrev pub copy_alone : (path : ℕ) → AccessAt
copy_alone path = record { leader = path; bank = 0; place = 0; guard = None }

abbrev pub copy_or_alone : (path : ℕ) → Option AccessAt → AccessAt
copy_or_alone path None = copy_alone path
copy_or_alone path (Some c) = c

abbrev pub copied_of : Option Touched → (path : ℕ) → AccessAt
copied_of None path = copy_alone path
copied_of (Some t) path = copy_or_alone path (slice_get t.copies path)

-- an access at a path
abbrev pub copied_in : Accesses → (number path : ℕ) → AccessAt
copied_in a number path = copied_of (touched_in a number) path

abbrev pub fault_of_touched : Option Touched → ℕ
fault_of_touched None = 0
fault_of_touched (Some t) = t.fault

-- the number of its fault
abbrev pub fault_in : Accesses → (number : ℕ) → ℕ
fault_in a number = fault_of_touched (touched_in a number)
