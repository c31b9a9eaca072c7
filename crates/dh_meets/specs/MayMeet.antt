-- Which accesses of a command may meet, numbered in order of evaluation: any two but those in different parts
-- of a block between `---`, in opposite arms of an `if` that stands in no unrolled loop, and in the test and
-- in the body of a `while`. In an unrolled loop copies may take different arms. (The idea that `;` spends
-- ports together and `---` gives them back is of Nigam and others, PLDI 2020.)
use Rattle.std.specs.Prelude.{ℕ, suc, ◌+◌, ◌||◌, nat_lt, Bool, true, false, if◌then◌else◌, zero}
use Rattle.dh_meaning.specs.AccessNumbers.{term_accesses, own_accesses, accesses_of, part_accesses}
use Rattle.dh_tree.specs.Meets.{Meets, nothing, access, all, one}
use Rattle.dh_tree.specs.PlainTrees.{Action, action, ActionForm, lets, lets_memory, views, assigns, stores, reduces, calls, blocks, decides, repeats, counts, MaybeAction, no_action, one_action, Actions, no_actions, action_then, Groups, no_groups, group_then, Program}

-- `count` accesses, numbered from n on, of which any two may meet
abbrev pub row_of_accesses : (n count : ℕ) → Meets
row_of_accesses n zero = nothing
row_of_accesses n (suc count) = all (access n) (row_of_accesses (suc n) count)

-- the arms of an `if`
abbrev pub arms_meet : (unrolled : Bool) → (chosen other : Meets) → Meets
arms_meet true chosen other = all chosen other
arms_meet false chosen other = one chosen other

abbrev mutual
  -- those of a command, numbered from n on, that stands in an unrolled loop or does not
  pub meets : (unrolled : Bool) → (n : ℕ) → Action → Meets
  meets unrolled n (action id place form) = command_meets unrolled n form

  pub command_meets : (unrolled : Bool) → (n : ℕ) → ActionForm → Meets
  command_meets unrolled n (lets name declared value) = row_of_accesses n (own_accesses (lets name declared value))
  command_meets unrolled n (lets_memory name shape shape_places value) = nothing
  command_meets unrolled n (views name parent form) = row_of_accesses n (own_accesses (views name parent form))
  command_meets unrolled n (assigns target value) = row_of_accesses n (own_accesses (assigns target value))
  command_meets unrolled n (stores target value) = row_of_accesses n (own_accesses (stores target value))
  command_meets unrolled n (reduces target op value) = row_of_accesses n (own_accesses (reduces target op value))
  command_meets unrolled n (calls function arguments) = nothing
  command_meets unrolled n (blocks body) = groups_meet unrolled n body
  command_meets unrolled n (decides test chosen other) =
      all (row_of_accesses n (term_accesses test))
      (arms_meet unrolled (meets unrolled (n + term_accesses test) chosen) (other_meets unrolled (n + term_accesses test + accesses_of chosen) other))
  command_meets unrolled n (repeats test body) = one (row_of_accesses n (term_accesses test)) (meets unrolled (n + term_accesses test) body)
  command_meets unrolled n (counts iterator declared low high factor body combine combine_place) =
      all (meets (unrolled || nat_lt 1 factor.value) n body) (other_meets (unrolled || nat_lt 1 factor.value) (n + accesses_of body) combine)

  pub other_meets : (unrolled : Bool) → (n : ℕ) → MaybeAction → Meets
  other_meets unrolled n no_action = nothing
  other_meets unrolled n (one_action a) = meets unrolled n a

  -- nothing meets across `---`
  pub groups_meet : (unrolled : Bool) → (n : ℕ) → Groups → Meets
  groups_meet unrolled n no_groups = nothing
  groups_meet unrolled n (group_then part rest) = one (part_meets unrolled n part) (groups_meet unrolled (n + part_accesses part) rest)

  pub part_meets : (unrolled : Bool) → (n : ℕ) → Actions → Meets
  part_meets unrolled n no_actions = nothing
  part_meets unrolled n (action_then a rest) = all (meets unrolled n a) (part_meets unrolled (n + accesses_of a) rest)

-- which accesses of a program's body may meet
abbrev pub meets_in : Program → Meets
meets_in p = meets false 0 p.body
