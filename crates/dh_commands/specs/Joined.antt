-- The variables that are chosen behind an `if`, each once, from what both arms left: as they are noted one after the
-- other, by marks. The mark of a register is the number, and 1, of its choice.
use Rattle.std.specs.Prelude.{◌≡◌, ◌⊎◌, ℕ, ◌+◌, ◌-◌, ◌<◌, ◌&&◌, ◌==◌, nat_lt, Bool as Truth, if◌then◌else◌, List, [], ◌∷◌, ◌++◌, length, slice_get, slice_index, slice_set, Option, Some, None}
use Rattle.std.specs.List.{AllByRecursion}
use Rattle.dh_commands.specs.declared.assignments.Values.{Values}
use Rattle.dh_commands.specs.declared.choices.Choice.{Choice}
use Rattle.dh_commands.specs.declared.choices.Left.{Left}
use Rattle.dh_commands.specs.Undone.{AreReady, IsChoiceOfArms, first_left}

-- no choice of a register is noted yet, and it can be
abbrev pub is_unmarked : (marks : List ℕ) → (register : ℕ) → Truth
is_unmarked marks register = nat_lt register (length marks) && (slice_index marks register == 0)

abbrev pub first_choice : Left → Choice
first_choice l = record { register = l.register; path = l.path; chosen = l.value; other = None }

abbrev pub second_choice : Left → Choice
second_choice l = record { register = l.register; path = l.path; chosen = None; other = l.value }

-- what the first arm left of a variable is noted
abbrev pub chosen_noted : (marks : List ℕ) → List Choice → Left → List Choice
chosen_noted marks choices l = if is_unmarked marks l.register then choices ++ first_choice l ∷ [] else choices

-- a new choice is marked
abbrev pub chosen_marked : (marks : List ℕ) → List Choice → Left → List ℕ
chosen_marked marks choices l = if is_unmarked marks l.register then slice_set marks l.register (length choices + 1) else marks

-- the last value of the other arm is the one that is noted first
abbrev pub other_or : Option ℕ → Option ℕ → Option ℕ
other_or None value = value
other_or (Some v) value = Some v

abbrev pub with_other : (value : Option ℕ) → Choice → Choice
with_other value c = record { register = c.register; path = c.path; chosen = c.chosen; other = other_or c.other value }

abbrev pub other_put : List Choice → (number : ℕ) → (value : Option ℕ) → Option Choice → List Choice
other_put choices number value None = choices
other_put choices number value (Some c) = slice_set choices number (with_other value c)

-- what the second arm left of a variable is noted
abbrev pub other_marked : (marks : List ℕ) → List Choice → Left → List Choice
other_marked marks choices l =
    if nat_lt l.register (length marks) then other_put choices (slice_index marks l.register - 1) l.value (slice_get choices (slice_index marks l.register - 1)) else choices

abbrev pub other_noted : (marks : List ℕ) → List Choice → Left → List Choice
other_noted marks choices l = if is_unmarked marks l.register then choices ++ second_choice l ∷ [] else other_marked marks choices l

-- the marks of choices are taken back
abbrev pub all_unmarked : List Choice → (marks : List ℕ) → List ℕ
all_unmarked [] marks = marks
all_unmarked (c ∷ cs) marks = all_unmarked cs (slice_set marks c.register 0)

-- no two choices are of one register
abbrev pub AreApartChoices : List Choice → Type 0
AreApartChoices choices = (k m : ℕ) (c d : Choice) → slice_get choices k ≡ Some c → slice_get choices m ≡ Some d → c.register ≡ d.register → k ≡ m

-- The variables that arms left, each once.
pub record AreChoices (chosen other : List Left) (choices : List Choice) : Type 0 where
  pub are : (k : ℕ) (c : Choice) → slice_get choices k ≡ Some c → IsChoiceOfArms chosen other c
  -- each stands at the path at which its register was left
  pub left : (k : ℕ) (c : Choice) → slice_get choices k ≡ Some c
      → (l : Left) × ((l.path ≡ c.path) × ((first_left chosen c.register ≡ Some l) ⊎ (first_left other c.register ≡ Some l)))
  pub one : AreApartChoices choices
  pub all : (register : ℕ) (l : Left) → (first_left chosen register ≡ Some l) ⊎ (first_left other register ≡ Some l)
      → (k : ℕ) × ((c : Choice) × ((slice_get choices k ≡ Some c) × (c.register ≡ register)))

-- an arm left a value
pub record IsLeft (current : List (Option ℕ)) (l : Left) : Type 0 where
  pub room : l.register < length current
  pub value : ℕ
  pub value_is : l.value ≡ Some value

pub record JoinsArms (old new : Values) (chosen other : List Left) (choices : List Choice) : Type 0 where
  pub current : new.current ≡ old.current
  pub log : new.log ≡ old.log
  pub marks : AreReady old → AllByRecursion (IsLeft old.current.items) chosen → AllByRecursion (IsLeft old.current.items) other → new.marks.items ≡ old.marks.items
  pub are : AreReady old → AllByRecursion (IsLeft old.current.items) chosen → AllByRecursion (IsLeft old.current.items) other → AreChoices chosen other choices
