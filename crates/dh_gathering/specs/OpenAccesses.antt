-- Accesses that have no operations yet, by their numbers: those of what is still to be made.
use Rattle.std.specs.Prelude.{◌≡◌, ◌⊎◌, ℕ, ◌+◌, ◌<◌, ◌≤◌, List, [], ◌∷◌, length, None}
use Rattle.dh_meaning.specs.AccessNumbers.{accesses_of}
use Rattle.dh_phases.specs.GatheredPhases.{Numbered}
use Rattle.dh_expressions.specs.declared.accesses.Accesses.{Accesses}
use Rattle.dh_expressions.specs.Noted.{touched_in}

-- those of these numbers, from the first one on and before the last, have none
abbrev pub AreUntouched : Accesses → (first last : ℕ) → Type 0
AreUntouched a first last = (number : ℕ) → first ≤ number → number < last → (number < length a.touched.items) × (touched_in a number ≡ None)

-- there are as many as before, and only those of these numbers have got operations
pub record TouchesWithin (old new : Accesses) (first last : ℕ) : Type 0 where
  pub long : length new.touched.items ≡ length old.touched.items
  pub only : (number : ℕ) → (number < first) ⊎ (last ≤ number) → touched_in new number ≡ touched_in old number

-- these commands have accesses of these numbers, one behind the other, without operations
abbrev pub AreOpen : Accesses → (first last : ℕ) → List Numbered → Type 0
AreOpen a first last [] = first ≤ last
AreOpen a first last (c ∷ cs) = (first ≤ c.first) × (AreUntouched a c.first (c.first + accesses_of c.command) × AreOpen a (c.first + accesses_of c.command) last cs)
