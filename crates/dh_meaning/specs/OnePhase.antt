-- Which accesses stand in one Straight phase, by their numbers. The test of a `while`, or of an `if` that is not
-- straight, is a phase of its own; a loop without turns has no phase, but the phases of its turn by itself
-- count.
use Rattle.std.specs.Prelude.{ℕ, ◌+◌, ◌&&◌, ◌||◌, nat_le, nat_lt, Bool, true, false, List, [], ◌∷◌, ◌++◌}
use Rattle.std.specs.List.{list_any}
use Rattle.dh_tree.specs.PlainTrees.{Action, action, ActionForm, lets, lets_memory, views, assigns, stores, reduces, calls, blocks, decides, repeats, counts, MaybeAction, no_action, one_action, Actions, no_actions, action_then, Groups, no_groups, group_then, Program}
use Rattle.dh_meaning.specs.AccessNumbers.{term_accesses, own_accesses, accesses_of, part_accesses}
use Rattle.dh_meaning.specs.Phases.{Located, Phase, straight, turns, repeated, decided, Phases, no_phases, phase, phases_of, idle_phases_of}

-- it is one of `count` numbers from n on
abbrev pub is_between : (k n count : ℕ) → Bool
is_between k n count = nat_le n k && nat_lt k (n + count)

abbrev mutual
  -- whether a straight command, whose accesses are numbered from n on, makes the access of this number, itself or
  -- in an arm
  pub makes : (k n : ℕ) → Action → Bool
  makes k n (action id place form) = form_makes k n form

  pub form_makes : (k n : ℕ) → ActionForm → Bool
  form_makes k n (lets name declared value) = is_between k n (own_accesses (lets name declared value))
  form_makes k n (assigns target value) = is_between k n (own_accesses (assigns target value))
  form_makes k n (stores target value) = is_between k n (own_accesses (stores target value))
  form_makes k n (reduces target op value) = is_between k n (own_accesses (reduces target op value))
  form_makes k n (decides test chosen other) =
      is_between k n (term_accesses test) || (makes k (n + term_accesses test) chosen || other_makes k (n + term_accesses test + accesses_of chosen) other)
  form_makes k n (blocks body) = groups_make k n body
  form_makes k n (lets_memory name shape shape_places value) = false
  form_makes k n (views name parent form) = is_between k n (own_accesses (views name parent form))
  form_makes k n (calls function arguments) = false
  form_makes k n (repeats test body) = false
  form_makes k n (counts iterator declared low high factor body combine combine_place) = false

  pub other_makes : (k n : ℕ) → MaybeAction → Bool
  other_makes k n no_action = false
  other_makes k n (one_action a) = makes k n a

  pub groups_make : (k n : ℕ) → Groups → Bool
  groups_make k n no_groups = false
  groups_make k n (group_then part rest) = part_makes k n part || groups_make k (n + part_accesses part) rest

  pub part_makes : (k n : ℕ) → Actions → Bool
  part_makes k n no_actions = false
  part_makes k n (action_then a rest) = makes k n a || part_makes k (n + accesses_of a) rest

-- one of these commands makes it
abbrev pub any_makes : ℕ → List Located → Bool
any_makes k cs = list_any (λ c. makes k c.first c.command) cs

-- the test of a command makes it
abbrev pub form_tests : (k n : ℕ) → ActionForm → Bool
form_tests k n (decides test chosen other) = is_between k n (term_accesses test)
form_tests k n (repeats test body) = is_between k n (term_accesses test)
form_tests k n (lets name declared value) = false
form_tests k n (lets_memory name shape shape_places value) = false
form_tests k n (views name parent form) = false
form_tests k n (assigns target value) = false
form_tests k n (stores target value) = false
form_tests k n (reduces target op value) = false
form_tests k n (calls function arguments) = false
form_tests k n (blocks body) = false
form_tests k n (counts iterator declared low high factor body combine combine_place) = false

abbrev pub tests_make : (k n : ℕ) → Action → Bool
tests_make k n (action id place form) = form_tests k n form

abbrev pub test_makes : ℕ → Located → Bool
test_makes k c = tests_make k c.first c.command

abbrev mutual
  -- whether one Straight phase of this phase has the accesses of both numbers
  pub holds_both : (j k : ℕ) → Phase → Bool
  holds_both j k (straight cs) = any_makes j cs && any_makes k cs
  holds_both j k (turns loop count body) = hold_both j k body
  holds_both j k (repeated loop body) = (test_makes j loop && test_makes k loop) || hold_both j k body
  holds_both j k (decided choice chosen other) = (test_makes j choice && test_makes k choice) || (hold_both j k chosen || hold_both j k other)

  pub hold_both : (j k : ℕ) → Phases → Bool
  hold_both j k no_phases = false
  hold_both j k (phase p ps) = holds_both j k p || hold_both j k ps

-- the accesses of both numbers stand in one Straight phase of the program, or of a loop without phases by itself
abbrev pub in_one_phase : Program → (j k : ℕ) → Bool
in_one_phase p j k = list_any (holds_both j k) (phases_of p ++ idle_phases_of p)
