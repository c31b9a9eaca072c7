-- The levels of variables, as functions, while they are put back and joined.
use Rattle.std.specs.Prelude.{◌≡◌, ℕ, ◌==◌, ◌||◌, max, Bool, false, List, [], ◌∷◌, map}
use Rattle.dh_events.specs.Tables.{table_at, with_number}
use Rattle.dh_lengths.specs.declared.undoing.LevelMark.{LevelMark}

abbrev pub mark : (entity level : ℕ) → LevelMark
mark entity level = record { entity = entity; level = level }

-- what they were before the changes of a log, which holds what was before each
abbrev pub undone_levels : List LevelMark → (ℕ → ℕ) → ℕ → ℕ
undone_levels [] f = f
undone_levels (m ∷ ms) f = with_number (undone_levels ms f) m.entity m.level

-- set to what marks say
abbrev pub redone : List LevelMark → (ℕ → ℕ) → ℕ → ℕ
redone [] f = f
redone (m ∷ ms) f = redone ms (with_number f m.entity m.level)

-- the variables of marks have these levels
abbrev pub marks_with_levels : (ℕ → ℕ) → List LevelMark → List LevelMark
marks_with_levels f ms = map (λ m. mark m.entity (f m.entity)) ms

-- raised to the levels of marks and of a test
abbrev pub joined_all : (test : ℕ) → List LevelMark → (ℕ → ℕ) → ℕ → ℕ
joined_all test [] f = f
joined_all test (m ∷ ms) f = joined_all test ms (with_number f m.entity (max test (max (f m.entity) m.level)))

abbrev pub JoinsLevels : (test : ℕ) → List LevelMark → (old new : List ℕ) → Type 0
JoinsLevels test ms old new = table_at new ≡ joined_all test ms (table_at old)

-- a variable is marked
abbrev pub has_mark : (entity : ℕ) → List LevelMark → Bool
has_mark entity [] = false
has_mark entity (m ∷ ms) = (m.entity == entity) || has_mark entity ms
