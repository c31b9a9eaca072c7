-- Steps that accesses make one behind the other: of each access, by its number, some steps that take of slots.
use Rattle.std.specs.Prelude.{ℕ, suc, ◌+◌, ◌==◌, if◌then◌else◌, List, [], ◌∷◌, ◌++◌, length}
use Rattle.dh_ports.specs.declared.levels.Step.{Step}
use Rattle.dh_ports.specs.declared.levels.Step.TheVariants as step
use Rattle.dh_events.specs.Incidents.{PortEvent, touches, assigned, arm_begins, arm_ends, begins, next, ends}
use Rattle.dh_ports.specs.Levels.{Level, advance}

-- the level of a slot behind steps
abbrev pub level_behind : (slot : ℕ) → Level → List Step → Level
level_behind slot l [] = l
level_behind slot l (s ∷ ss) = level_behind slot (advance slot s l) ss

-- how much a step takes of a slot, and steps together
abbrev pub taken_by : (slot : ℕ) → Step → ℕ
taken_by slot (step.Access other takes) = if other == slot then takes else 0
taken_by slot step.Other = 0
taken_by slot step.Begin = 0
taken_by slot step.Next = 0
taken_by slot step.End = 0
taken_by slot step.Back = 0

abbrev pub all_taken : (slot : ℕ) → List Step → ℕ
all_taken slot [] = 0
all_taken slot (s ∷ ss) = taken_by slot s + all_taken slot ss

-- steps that begin and end nothing
abbrev pub IsTaking : Step → Type 0
IsTaking (step.Access slot takes) = Unit {0}
IsTaking step.Other = Unit {0}
IsTaking step.Begin = ⊥
IsTaking step.Next = ⊥
IsTaking step.End = ⊥
IsTaking step.Back = ⊥

abbrev pub AreTaking : List Step → Type 0
AreTaking [] = Unit {0}
AreTaking (s ∷ ss) = IsTaking s × AreTaking ss

-- the steps of incidents of which the first access has this number
abbrev pub expand : (ℕ → List Step) → ℕ → List PortEvent → List Step
expand f n [] = []
expand f n (touches t writes site ∷ xs) = f n ++ expand f (suc n) xs
expand f n (assigned entity ∷ xs) = expand f n xs
expand f n (arm_begins ∷ xs) = expand f n xs
expand f n (arm_ends ∷ xs) = expand f n xs
expand f n (begins ∷ xs) = step.Begin ∷ expand f n xs
expand f n (next ∷ xs) = step.Next ∷ expand f n xs
expand f n (ends ∷ xs) = step.End ∷ expand f n xs

-- how many steps stand before those of an access
abbrev pub steps_before : (ℕ → List Step) → ℕ → List PortEvent → (k : ℕ) → ℕ
steps_before f n [] k = 0
steps_before f n (touches t writes site ∷ xs) k = if n == k then 0 else length (f n) + steps_before f (suc n) xs k
steps_before f n (assigned entity ∷ xs) k = steps_before f n xs k
steps_before f n (arm_begins ∷ xs) k = steps_before f n xs k
steps_before f n (arm_ends ∷ xs) k = steps_before f n xs k
steps_before f n (begins ∷ xs) k = suc (steps_before f n xs k)
steps_before f n (next ∷ xs) k = suc (steps_before f n xs k)
steps_before f n (ends ∷ xs) k = suc (steps_before f n xs k)
