-- Of the accesses of commands: which are reads, and of which level the tests round them are. Levels of a whole command
-- are those behind its straight commands in the core.
use Rattle.std.specs.Prelude.{◌⊎◌, ℕ, ◌+◌, ◌<◌, ◌≤◌, max, nat_lt, if◌then◌else◌, List, [], ◌∷◌, Option, Some, None}
use Rattle.dh_tree.specs.Indices.{form_of}
use Rattle.dh_tree.specs.PlainTrees.{Term, Action, action, ActionForm, lets, lets_memory, views, assigns, stores, reduces, calls, blocks, decides, repeats, counts, MaybeAction, no_action, one_action, Actions, no_actions, action_then, Groups, no_groups, group_then, ViewPlan}
use Rattle.dh_meaning.specs.AccessNumbers.{accesses_of, part_accesses, term_accesses, plan_accesses}
use Rattle.dh_meaning.specs.Core.{no_commands}
use Rattle.dh_meaning.specs.CoreOf.{Known, core_action, core_groups, core_other, core_part, core_term, way_of}
use Rattle.dh_meaning.specs.Levels.{Leveled, Levels, commands_leveled, term_leveled, with_variables}
use Rattle.dh_meaning.specs.Phases.{Located}
use Rattle.dh_meaning.specs.Ways.{Hidden, hidden_in}
use Rattle.dh_laid.specs.Laid.{aim_accesses}

-- Reads.

-- of accesses from a first one on, so many
abbrev pub IsIn : (first count number : ℕ) → Type 0
IsIn first count number = (first ≤ number) × (number < first + count)

-- of the offsets of a view, where a variable keeps one on its way
abbrev pub IsReadOfView : List Hidden → (first : ℕ) → ViewPlan → (number : ℕ) → Type 0
IsReadOfView [] first form number = ⊥
IsReadOfView (h ∷ hs) first form number = IsIn first (plan_accesses form) number

module _ (known : Known) where
  abbrev mutual
    -- a read of a command whose accesses are numbered from `first` on: each access is one but the writes of stores
    pub IsReadIn : (first : ℕ) → Action → (number : ℕ) → Type 0
    IsReadIn first (action id place form) number = IsReadOf first form number

    pub IsReadOf : (first : ℕ) → ActionForm → (number : ℕ) → Type 0
    IsReadOf first (lets name declared (Some value)) number = IsIn first (term_accesses value) number
    IsReadOf first (lets name declared None) number = ⊥
    IsReadOf first (assigns target value) number = IsIn first (term_accesses value) number
    IsReadOf first (stores target value) number = IsIn first (term_accesses value + aim_accesses (form_of target)) number
    IsReadOf first (reduces target op value) number = IsIn first (term_accesses value) number
    IsReadOf first (decides test chosen other) number =
        IsIn first (term_accesses test) number
        ⊎ (IsReadIn (first + term_accesses test) chosen number ⊎ IsReadOther (first + term_accesses test + accesses_of chosen) other number)
    IsReadOf first (blocks body) number = IsReadGroups first body number
    IsReadOf first (lets_memory name shape shape_places value) number = ⊥
    IsReadOf first (views name parent form) number = IsReadOfView (hidden_in (way_of known name)) first form number
    IsReadOf first (calls function arguments) number = ⊥
    -- a loop in a straight command has no turn
    IsReadOf first (repeats test body) number = ⊥
    IsReadOf first (counts iterator declared low high factor body combine combine_place) number = ⊥

    pub IsReadOther : (first : ℕ) → MaybeAction → (number : ℕ) → Type 0
    IsReadOther first no_action number = ⊥
    IsReadOther first (one_action a) number = IsReadIn first a number

    pub IsReadPart : (first : ℕ) → Actions → (number : ℕ) → Type 0
    IsReadPart first no_actions number = ⊥
    IsReadPart first (action_then a rest) number = IsReadIn first a number ⊎ IsReadPart (first + accesses_of a) rest number

    pub IsReadGroups : (first : ℕ) → Groups → (number : ℕ) → Type 0
    IsReadGroups first no_groups number = ⊥
    IsReadGroups first (group_then part rest) number = IsReadPart first part number ⊎ IsReadGroups (first + part_accesses part) rest number

-- an access, or a read, of one of these commands
abbrev pub IsOfEach : List Located → (number : ℕ) → Type 0
IsOfEach [] number = ⊥
IsOfEach (c ∷ cs) number = IsIn c.first (accesses_of c.command) number ⊎ IsOfEach cs number

abbrev pub IsReadOfEach : Known → List Located → (number : ℕ) → Type 0
IsReadOfEach known [] number = ⊥
IsReadOfEach known (c ∷ cs) number = IsReadIn known c.first c.command number ⊎ IsReadOfEach known cs number

-- Levels.

module _ (known : Known) (shared : ℕ → Option ℕ) where
  -- behind a command, and behind parts of a block, whose accesses are numbered from `first` on, under tests of a level
  abbrev pub action_levels : (outer first : ℕ) → Action → Levels → Levels
  action_levels outer first a l = commands_leveled shared outer (core_action known first a no_commands) l

  abbrev pub other_levels : (outer first : ℕ) → MaybeAction → Levels → Levels
  other_levels outer first other l = commands_leveled shared outer (core_other known first other) l

  abbrev pub part_levels : (outer first : ℕ) → Actions → Levels → Levels
  part_levels outer first part l = commands_leveled shared outer (core_part known first part no_commands) l

  abbrev pub groups_levels : (outer first : ℕ) → Groups → Levels → Levels
  groups_levels outer first body l = commands_leveled shared outer (core_groups known first body no_commands) l

  abbrev pub term_levels : (outer first : ℕ) → Term → Levels → Leveled
  term_levels outer first t l = term_leveled shared outer (core_term known first t) l

  -- behind the first arm of an `if`: the second begins with the variables as they were before it
  abbrev pub between_arms : (outer first : ℕ) → (test : Term) → (chosen : Action) → Levels → Levels
  between_arms outer first test chosen l =
      with_variables (action_levels (max outer (term_levels outer first test l).level) (first + term_accesses test) chosen (term_levels outer first test l).levels) (term_levels outer first test l).levels.variables

  abbrev mutual
    -- the level of the tests round an access of a command
    pub outer_in : (outer first : ℕ) → Action → Levels → (number : ℕ) → ℕ
    outer_in outer first (action id place form) l number = outer_of outer first form l number

    pub outer_of : (outer first : ℕ) → ActionForm → Levels → (number : ℕ) → ℕ
    outer_of outer first (lets name declared value) l number = outer
    outer_of outer first (assigns target value) l number = outer
    outer_of outer first (stores target value) l number = outer
    outer_of outer first (reduces target op value) l number = outer
    outer_of outer first (decides test chosen other) l number =
        if nat_lt number (first + term_accesses test) then outer
        else (if nat_lt number (first + term_accesses test + accesses_of chosen)
        then outer_in (max outer (term_levels outer first test l).level) (first + term_accesses test) chosen (term_levels outer first test l).levels number
        else outer_other (max outer (term_levels outer first test l).level) (first + term_accesses test + accesses_of chosen) other (between_arms outer first test chosen l) number)
    outer_of outer first (blocks body) l number = outer_groups outer first body l number
    outer_of outer first (lets_memory name shape shape_places value) l number = outer
    outer_of outer first (views name parent form) l number = outer
    outer_of outer first (calls function arguments) l number = outer
    outer_of outer first (repeats test body) l number = outer
    outer_of outer first (counts iterator declared low high factor body combine combine_place) l number = outer

    pub outer_other : (outer first : ℕ) → MaybeAction → Levels → (number : ℕ) → ℕ
    outer_other outer first no_action l number = outer
    outer_other outer first (one_action a) l number = outer_in outer first a l number

    pub outer_part : (outer first : ℕ) → Actions → Levels → (number : ℕ) → ℕ
    outer_part outer first no_actions l number = outer
    outer_part outer first (action_then a rest) l number =
        if nat_lt number (first + accesses_of a) then outer_in outer first a l number
        else outer_part outer (first + accesses_of a) rest (action_levels outer first a l) number

    pub outer_groups : (outer first : ℕ) → Groups → Levels → (number : ℕ) → ℕ
    outer_groups outer first no_groups l number = outer
    outer_groups outer first (group_then part rest) l number =
        if nat_lt number (first + part_accesses part) then outer_part outer first part l number
        else outer_groups outer (first + part_accesses part) rest (part_levels outer first part l) number

  -- behind commands of a block, one after the other, and round their accesses
  abbrev pub each_levels : List Located → Levels → Levels
  each_levels [] l = l
  each_levels (c ∷ cs) l = each_levels cs (action_levels 0 c.first c.command l)

  abbrev pub outer_each : List Located → Levels → (number : ℕ) → ℕ
  outer_each [] l number = 0
  outer_each (c ∷ cs) l number =
      if nat_lt number (c.first + accesses_of c.command) then outer_in 0 c.first c.command l number
      else outer_each cs (action_levels 0 c.first c.command l) number
