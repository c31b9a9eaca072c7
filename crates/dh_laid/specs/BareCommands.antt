-- Commands whose accesses have no operations yet, and stand one behind the other.
use Rattle.std.specs.Prelude.{◌≡◌, ℕ, ◌+◌, ◌<◌, ◌≤◌, ◌^◌, List, [], ◌∷◌, length, None}
use Rattle.dh_meaning.specs.AccessNumbers.{accesses_of}
use Rattle.dh_meaning.specs.Phases.{Located}
use Rattle.dh_expressions.specs.declared.accesses.Accesses.{Accesses}
use Rattle.dh_expressions.specs.Noted.{touched_in}

-- the accesses of each command have numbers above those of the commands before it, which are few
abbrev pub AreRising : (from : ℕ) → List Located → Type 0
AreRising from [] = Unit {0}
AreRising from (c ∷ cs) = (from ≤ c.first) × ((c.first + accesses_of c.command < 2 ^ 32) × AreRising (c.first + accesses_of c.command) cs)

-- so many accesses are there from a first one on, and have no operations yet
abbrev pub IsBareFrom : Accesses → (first count : ℕ) → Type 0
IsBareFrom a first count = (i : ℕ) → i < count → (first + i < length a.touched.items) × (touched_in a (first + i) ≡ None)

-- those of a command
abbrev pub IsBare : Accesses → Located → Type 0
IsBare a c = IsBareFrom a c.first (accesses_of c.command)
