-- Assignments that are taken back, and what an arm left behind.
use Rattle.std.specs.Prelude.{◌≡◌, ℕ, ◌<◌, ◌==◌, if◌then◌else◌, List, [], ◌∷◌, ◌++◌, length, replicate, take, drop, slice_set, slice_index, slice_index_or, Option, Some, None}
use Rattle.std.specs.List.{AllByRecursion}
use Rattle.dh_expressions.specs.declared.scenes.Around.{Around}
use Rattle.dh_expressions.specs.declared.scenes.Scene.{Scene}
use Rattle.dh_commands.specs.declared.assignments.Change.{Change}
use Rattle.dh_commands.specs.declared.assignments.Values.{Values}
use Rattle.dh_commands.specs.declared.choices.Choice.{Choice}
use Rattle.dh_commands.specs.declared.choices.Left.{Left}
use Rattle.dh_commands.specs.LanesRun.{paths_counted}
use Rattle.dh_commands.specs.ShownVariables.{register_in}

-- so many registers, none of which is given a value
pub record NoneGiven (v : Values) (registers : ℕ) : Type 0 where
  pub current : v.current.items ≡ replicate registers None
  pub log : v.log.items ≡ []
  pub marks : v.marks.items ≡ replicate registers 0

-- what the variable of a register was given
abbrev pub given_at : List (Option ℕ) → (register : ℕ) → Option ℕ
given_at current register = slice_index_or current register None

abbrev pub change_at : List (Option ℕ) → (register path : ℕ) → Change
change_at current register path = record { register = register; path = path; before = given_at current register }

-- a register is given a value, which is noted
pub record Assigns (old new : Values) (register path value : ℕ) : Type 0 where
  pub current : new.current.items ≡ slice_set old.current.items register (Some value)
  pub log : register < length old.current.items → new.log.items ≡ old.log.items ++ change_at old.current.items register path ∷ []
  pub past : (register < length old.current.items → ⊥) → new.log.items ≡ old.log.items
  pub marks : new.marks.items ≡ old.marks.items

-- a variable was given a value
abbrev pub IsGiven : Option ℕ → Type 0
IsGiven None = ⊥
IsGiven (Some value) = Unit {0}

-- the values before these assignments, the last of which is taken back first
abbrev pub undone : List Change → List (Option ℕ) → List (Option ℕ)
undone [] current = current
undone (c ∷ cs) current = slice_set (undone cs current) c.register c.before

-- a change sets a variable of these at a path of these
pub record IsChange (scene : Scene) (around : Around) (May : ℕ → Type 0) (c : Change) : Type 0 where
  pub entity : ℕ
  pub may : May entity
  pub within : c.path < paths_counted around
  pub register_is : c.register ≡ register_in scene around entity c.path

-- what is taken back had a value until then
abbrev pub AreGiven : List Change → List (Option ℕ) → Type 0
AreGiven [] current = Unit {0}
AreGiven (c ∷ cs) current = IsGiven (given_at (undone cs current) c.register) × AreGiven cs current

-- its register is one of these
abbrev pub HasRoom : List (Option ℕ) → Change → Type 0
HasRoom current c = c.register < length current

-- variables are given values, each as this says, which can be taken back
pub record Logs (P : Change → Type 0) (old new : Values) : Type 0 where
  pub more : List Change
  pub log : new.log.items ≡ old.log.items ++ more
  pub back : undone more new.current.items ≡ old.current.items
  pub long : length new.current.items ≡ length old.current.items
  pub marks : new.marks.items ≡ old.marks.items
  pub each : AllByRecursion P more
  pub room : AllByRecursion (HasRoom old.current.items) more
  pub given : AreGiven more new.current.items

-- variables of these are given values, which can be taken back
pub record Changes (scene : Scene) (around : Around) (May : ℕ → Type 0) (old new : Values) : Type 0 where
  pub more : List Change
  pub log : new.log.items ≡ old.log.items ++ more
  pub back : undone more new.current.items ≡ old.current.items
  pub long : length new.current.items ≡ length old.current.items
  pub marks : new.marks.items ≡ old.marks.items
  pub each : AllByRecursion (IsChange scene around May) more
  pub room : AllByRecursion (HasRoom old.current.items) more
  pub given : AreGiven more new.current.items

-- no choice is marked, and each register can be
pub record AreReady (v : Values) : Type 0 where
  pub unmarked : (register : ℕ) → slice_index v.marks.items register ≡ 0
  pub long : length v.marks.items ≡ length v.current.items

-- what assignments left, the last of them first
abbrev pub left_at : Change → List (Option ℕ) → Left
left_at c current = record { register = c.register; path = c.path; value = given_at current c.register }

abbrev pub lefts_of : List Change → List (Option ℕ) → List Left
lefts_of [] current = []
lefts_of (c ∷ cs) current = lefts_of cs current ++ left_at c (undone cs current) ∷ []

-- an arm that began behind so many assignments is taken back
pub record EndsArm (old new : Values) (floor : ℕ) (lefts : List Left) : Type 0 where
  pub current : new.current.items ≡ undone (drop floor old.log.items) old.current.items
  pub log : new.log.items ≡ take floor old.log.items
  pub marks : new.marks.items ≡ old.marks.items
  pub lefts_are : AllByRecursion (HasRoom old.current.items) (drop floor old.log.items) → lefts ≡ lefts_of (drop floor old.log.items) old.current.items

-- the first of what was left of a register
abbrev pub first_left : List Left → (register : ℕ) → Option Left
first_left [] register = None
first_left (l ∷ ls) register = if l.register == register then Some l else first_left ls register

abbrev pub value_left : Option Left → Option ℕ
value_left None = None
value_left (Some l) = l.value

-- a choice stands for what both arms left of its register
pub record IsChoiceOfArms (chosen other : List Left) (c : Choice) : Type 0 where
  pub chosen_is : c.chosen ≡ value_left (first_left chosen c.register)
  pub other_is : c.other ≡ value_left (first_left other c.register)
