-- The course of what is left of one slot through what happens, from the charges of numbered accesses.
use Rattle.std.specs.Prelude.{◌≡◌, ℕ, suc, ◌+◌, ◌-◌, ◌<◌, ◌≤◌, ◌==◌, if◌then◌else◌, List, [], ◌∷◌, min}
use Rattle.dh_tree.specs.Meets.{Meets, In, load, upto}
use Rattle.dh_ports.specs.Levels.{Level, slot_level, begun, kept_back, settled_slot_level}
use Rattle.dh_events.specs.Incidents.{PortEvent, touches, assigned, arm_begins, arm_ends, begins, next, ends}

-- how many accesses happen
abbrev pub access_count : List PortEvent → ℕ
access_count [] = 0
access_count (touches t writes site ∷ xs) = suc (access_count xs)
access_count (assigned entity ∷ xs) = access_count xs
access_count (arm_begins ∷ xs) = access_count xs
access_count (arm_ends ∷ xs) = access_count xs
access_count (begins ∷ xs) = access_count xs
access_count (next ∷ xs) = access_count xs
access_count (ends ∷ xs) = access_count xs

abbrev pub less : ℕ → Level → Level
less charge l = slot_level (l.now - charge) l.base l.low l.outer

-- what is left after incidents of which the first access has this number
abbrev pub course : (ℕ → ℕ) → ℕ → Level → List PortEvent → Level
course c n l [] = l
course c n l (touches t writes site ∷ xs) = course c (suc n) (less (c n) l) xs
course c n l (assigned entity ∷ xs) = course c n l xs
course c n l (arm_begins ∷ xs) = course c n l xs
course c n l (arm_ends ∷ xs) = course c n l xs
course c n l (begins ∷ xs) = course c n (begun l) xs
course c n l (next ∷ xs) = course c n (kept_back l) xs
course c n l (ends ∷ xs) = course c n (settled_slot_level (kept_back l)) xs

-- what is left before the access of number k
abbrev pub before_at : (ℕ → ℕ) → ℕ → Level → List PortEvent → (k : ℕ) → ℕ
before_at c n l [] k = 0
before_at c n l (touches t writes site ∷ xs) k = if n == k then l.now else before_at c (suc n) (less (c n) l) xs k
before_at c n l (assigned entity ∷ xs) k = before_at c n l xs k
before_at c n l (arm_begins ∷ xs) k = before_at c n l xs k
before_at c n l (arm_ends ∷ xs) k = before_at c n l xs k
before_at c n l (begins ∷ xs) k = before_at c n (begun l) xs k
before_at c n l (next ∷ xs) k = before_at c n (kept_back l) xs k
before_at c n l (ends ∷ xs) k = before_at c n (settled_slot_level (kept_back l)) xs k

-- Incidents are a tree's: its accesses are theirs, its load is taken, and each access finds what the loads
-- before it leave.
pub record Ties (c : ℕ → ℕ) (n : ℕ) (xs : List PortEvent) (t : Meets) : Type 0 where
  pub first : (k : ℕ) → In k t → n ≤ k
  pub last : (k : ℕ) → In k t → k < n + access_count xs
  pub after : (l : Level) → course c n l xs ≡ less (load c t) l
  pub during : (l : Level) (k : ℕ) → In k t → before_at c n l xs k ≡ l.now - (upto c k t - c k)

-- the same of parts, each of which starts from what was left at the begin
pub record PartsTie (c : ℕ → ℕ) (n : ℕ) (xs : List PortEvent) (t : Meets) : Type 0 where
  pub first : (k : ℕ) → In k t → n ≤ k
  pub last : (k : ℕ) → In k t → k < n + access_count xs
  pub after : (l : Level) → l.now ≡ l.base → l.low ≤ l.base → course c n l xs ≡ slot_level l.base l.base (min l.low (l.base - load c t)) l.outer
  pub during : (l : Level) (k : ℕ) → l.now ≡ l.base → In k t → before_at c n l xs k ≡ l.base - (upto c k t - c k)
