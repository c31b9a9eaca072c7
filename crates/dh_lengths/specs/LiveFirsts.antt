-- The first read of each class of which all arms are open, class by class, while reads are met.
use Rattle.std.specs.Prelude.{◌≡◌, ℕ, ◌+◌, ◌==◌, if◌then◌else◌, List, [], ◌∷◌, map, reverse, slice_index_or, Option, Some, None, Vec}
use Rattle.std.specs.Global.{Global}
use Rattle.dh_lengths.specs.declared.live.Live.{Live}
use Rattle.dh_lengths.specs.declared.sharing.Met.{Met}
use Rattle.dh_lengths.specs.declared.sharing.Met.TheVariants as met

-- the first read of one class, now and as each open arm began, from the inside
pub record FirstRead : Type 0 where
  pub now : Option ℕ
  pub outer : List (Option ℕ)

abbrev pub first_read : Option ℕ → List (Option ℕ) → FirstRead
first_read now outer = record { now = now; outer = outer }

-- where nothing was read and no arm is open
abbrev pub none_read : (class : ℕ) → FirstRead
none_read class = first_read None []

abbrev pub number_or_else : Option ℕ → Option ℕ → Option ℕ
number_or_else None b = b
number_or_else (Some a) b = Some a

-- a read of a class, as another or this one has it
abbrev pub met_read : (class number : ℕ) → (other : ℕ) → FirstRead → FirstRead
met_read class number other f = if class == other then first_read (number_or_else f.now (Some number)) f.outer else f

abbrev pub opened : FirstRead → FirstRead
opened f = first_read f.now (f.now ∷ f.outer)

abbrev pub closed_in : FirstRead → List (Option ℕ) → FirstRead
closed_in f [] = f
closed_in f (o ∷ os) = first_read o os

abbrev pub arm_closed : FirstRead → FirstRead
arm_closed f = closed_in f f.outer

-- of each access among what is met, of which the first has this number, the read that it shares
abbrev pub shares_of : (ℕ → FirstRead) → (number : ℕ) → List Met → List (Option ℕ)
shares_of firsts number [] = []
shares_of firsts number (met.Read class ∷ ms) = (firsts class).now ∷ shares_of (λ other. met_read class number other (firsts other)) (number + 1) ms
shares_of firsts number (met.Alone ∷ ms) = None ∷ shares_of firsts (number + 1) ms
shares_of firsts number (met.Begins ∷ ms) = shares_of (λ class. opened (firsts class)) number ms
shares_of firsts number (met.Ends ∷ ms) = shares_of (λ class. arm_closed (firsts class)) number ms
shares_of firsts number (met.Other ∷ ms) = shares_of firsts number ms

-- What the code holds.

abbrev pub live_first : List (Option ℕ) → (class : ℕ) → Option ℕ
live_first firsts class = slice_index_or firsts class None

-- without the reads of these classes
abbrev pub cleared : List ℕ → (class : ℕ) → Option ℕ → Option ℕ
cleared [] class o = o
cleared (c ∷ cs) class o = cleared cs class (if c == class then None else o)

-- as each open arm began, from what was read as the innermost one began and from the logs of those round it
abbrev pub bases : List (Vec ℕ Global) → (class : ℕ) → Option ℕ → List (Option ℕ)
bases [] class base = []
bases (log ∷ logs) class base = base ∷ bases logs class (cleared log.items class base)

abbrev pub first_read_from : (firsts : List (Option ℕ)) → (log : List ℕ) → (outer : List (Vec ℕ Global)) → (class : ℕ) → FirstRead
first_read_from firsts log outer class = first_read (live_first firsts class) (bases (reverse outer) class (cleared log class (live_first firsts class)))

abbrev pub first_read_at : Live → (class : ℕ) → FirstRead
first_read_at live class = first_read_from live.firsts.items live.log.items live.outer.items class

-- each class has this of what it had before
abbrev pub FirstsAre : (old new : Live) → (ℕ → FirstRead → FirstRead) → Type 0
FirstsAre old new change = (class : ℕ) → first_read_at new class ≡ change class (first_read_at old class)
