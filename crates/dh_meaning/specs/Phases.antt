-- The phases of a command: what it does in each of its logical steps. Each command in a phase comes with where
-- it stands: the number of its first access, and what is round it. A list has at most one stepped part for
-- now. A view that moves is a straight command; another is a declaration alone and has no phase, nor have calls, which
-- are not built.
use Rattle.std.specs.Prelude.{ℕ, ◌+◌, ◌==◌, ◌&&◌, Bool, true, false, if◌then◌else◌, List, [], ◌∷◌, ◌++◌}
use Rattle.dh_base.specs.declared.places.Place.{Place}
use Rattle.dh_tree.specs.PlainTrees.{Action, action, ActionForm, lets, lets_memory, views, assigns, stores, reduces, calls, blocks, decides, repeats, counts, MaybeAction, no_action, one_action, Actions, no_actions, action_then, Groups, no_groups, group_then, Program}
pub use Rattle.dh_tree.specs.Counters.{turn_count}
use Rattle.dh_meaning.specs.AccessNumbers.{term_accesses, accesses_of, part_accesses}
use Rattle.dh_tree.specs.ViewOffsets.{moves}
use Rattle.dh_meaning.specs.Sites.{Around, nothing_around, in_arm, in_loop, loop_of}

-- a command where it stands
pub record Located : Type 0 where
  pub command : Action
  pub first : ℕ
  pub around : Around

mutual
  pub data Phase : Type 0 where
    -- straight commands that are done in one logical step
    straight : (commands : List Located) → Phase
    -- a `for` of so many turns, and the phases of a turn
    turns : (loop : Located) → (count : ℕ) → (body : Phases) → Phase
    -- a `while`, and the phases of its body; each evaluation of its test takes a logical step
    repeated : (loop : Located) → (body : Phases) → Phase
    -- an `if` that is not straight, and the phases of its arms; its test takes a logical step
    decided : (choice : Located) → (chosen other : Phases) → Phase

  -- phases in order
  pub data Phases : Type 0 where
    no_phases : Phases
    phase : Phase → Phases → Phases

abbrev pub of_list : List Phase → Phases
of_list [] = no_phases
of_list (p ∷ ps) = phase p (of_list ps)

-- the phase of commands that are done together; none where there is no command
abbrev pub one_straight : List Located → List Phase
one_straight [] = []
one_straight (c ∷ cs) = straight (c ∷ cs) ∷ []

-- The phases of an unordered list, from those of its parts, behind straight commands that have no
-- part without phases between them: parts without phases are dropped, straight parts that then
-- stand side by side are one Straight phase, and a stepped part gives its phases.
abbrev pub joined : List Located → List (List Phase) → List Phase
joined cs [] = one_straight cs
joined cs ([] ∷ parts) = joined cs parts
joined cs ((straight ds ∷ []) ∷ parts) = joined (cs ++ ds) parts
joined cs ((turns loop count body ∷ []) ∷ parts) = one_straight cs ++ (turns loop count body ∷ joined [] parts)
joined cs ((repeated loop body ∷ []) ∷ parts) = one_straight cs ++ (repeated loop body ∷ joined [] parts)
joined cs ((decided choice chosen other ∷ []) ∷ parts) = one_straight cs ++ (decided choice chosen other ∷ joined [] parts)
joined cs ((p ∷ q ∷ ps) ∷ parts) = one_straight cs ++ ((p ∷ q ∷ ps) ++ joined [] parts)

-- no phase, or one Straight phase
abbrev pub are_straight : List Phase → Bool
are_straight [] = true
are_straight (straight cs ∷ []) = true
are_straight (turns loop count body ∷ []) = false
are_straight (repeated loop body ∷ []) = false
are_straight (decided choice chosen other ∷ []) = false
are_straight (p ∷ q ∷ ps) = false

abbrev pub one_command : Located → List Phase
one_command c = straight (c ∷ []) ∷ []

-- The phases of a turn: those of the body, at the end of whose last one the commands of `combine` are done
-- where that is straight; else they are a phase of their own.
abbrev pub folded : (body fold : List Phase) → List Phase
folded [] fold = fold
folded (straight cs ∷ []) fold = joined cs (fold ∷ [])
folded (turns loop count body ∷ []) fold = turns loop count body ∷ fold
folded (repeated loop body ∷ []) fold = repeated loop body ∷ fold
folded (decided choice chosen other ∷ []) fold = decided choice chosen other ∷ fold
folded (p ∷ q ∷ ps) fold = p ∷ folded (q ∷ ps) fold

-- a `for` has no phase where it has no turn, or a turn no phase
abbrev pub turn_phases : Located → (count : ℕ) → (turn : List Phase) → List Phase
turn_phases loop count [] = []
turn_phases loop count (p ∷ ps) = if count == 0 then [] else turns loop count (of_list (p ∷ ps)) ∷ []

-- an `if` is straight where its arms are
abbrev pub choice_phases : Located → (chosen other : List Phase) → List Phase
choice_phases choice chosen other = if are_straight chosen && are_straight other then one_command choice else decided choice (of_list chosen) (of_list other) ∷ []

abbrev pub located : Around → (n : ℕ) → Action → Located
located r n a = record { command = a; first = n; around = r }

abbrev mutual
  -- The phases of a command with this round it, whose accesses are numbered from n on: a straight one is one
  -- phase, a block has those of its content.
  pub phases : Around → (n : ℕ) → Action → List Phase
  phases r n (action id place form) = form_phases r n id place form

  pub form_phases : Around → (n : ℕ) → ℕ → Place → ActionForm → List Phase
  form_phases r n id place (lets name declared value) = one_command (located r n (action id place (lets name declared value)))
  form_phases r n id place (assigns target value) = one_command (located r n (action id place (assigns target value)))
  form_phases r n id place (stores target value) = one_command (located r n (action id place (stores target value)))
  form_phases r n id place (reduces target op value) = one_command (located r n (action id place (reduces target op value)))
  form_phases r n id place (decides test chosen other) =
      choice_phases (located r n (action id place (decides test chosen other)))
      (phases (in_arm r id true) (n + term_accesses test) chosen) (other_phases (in_arm r id false) (n + term_accesses test + accesses_of chosen) other)
  form_phases r n id place (repeats test body) =
      repeated (located r n (action id place (repeats test body))) (of_list (phases r (n + term_accesses test) body)) ∷ []
  form_phases r n id place (counts iterator declared low high factor body combine combine_place) =
      turn_phases (located r n (action id place (counts iterator declared low high factor body combine combine_place))) (turn_count low.value high.value factor.value)
      (folded (phases (in_loop r (loop_of iterator low high factor)) n body) (other_phases (in_loop r (loop_of iterator low high factor)) (n + accesses_of body) combine))
  form_phases r n id place (blocks body) = groups_phases r n body
  form_phases r n id place (lets_memory name shape shape_places value) = []
  form_phases r n id place (views name parent form) = if moves form then one_command (located r n (action id place (views name parent form))) else []
  form_phases r n id place (calls function arguments) = []

  pub other_phases : Around → (n : ℕ) → MaybeAction → List Phase
  other_phases r n no_action = []
  other_phases r n (one_action a) = phases r n a

  -- nothing is joined across `---`
  pub groups_phases : Around → (n : ℕ) → Groups → List Phase
  groups_phases r n no_groups = []
  groups_phases r n (group_then part rest) = joined [] (parts_phases r n part) ++ groups_phases r (n + part_accesses part) rest

  pub parts_phases : Around → (n : ℕ) → Actions → List (List Phase)
  parts_phases r n no_actions = []
  parts_phases r n (action_then a rest) = phases r n a ∷ parts_phases r (n + accesses_of a) rest

-- the phases of a program's body
abbrev pub phases_of : Program → List Phase
phases_of p = phases nothing_around 0 p.body

-- Loops that have no phase: the phases of a turn of each, by itself.
abbrev pub unless_turns : (dead turned : List Phase) → List Phase
unless_turns dead [] = dead
unless_turns dead (p ∷ ps) = []

abbrev mutual
  pub idle_phases : Around → (n : ℕ) → Action → List Phase
  idle_phases r n (action id place form) = idle_form_phases r n id place form

  pub idle_form_phases : Around → (n : ℕ) → ℕ → Place → ActionForm → List Phase
  idle_form_phases r n id place (lets name declared value) = []
  idle_form_phases r n id place (assigns target value) = []
  idle_form_phases r n id place (stores target value) = []
  idle_form_phases r n id place (reduces target op value) = []
  idle_form_phases r n id place (lets_memory name shape shape_places value) = []
  idle_form_phases r n id place (views name parent form) = []
  idle_form_phases r n id place (calls function arguments) = []
  idle_form_phases r n id place (decides test chosen other) =
      idle_phases (in_arm r id true) (n + term_accesses test) chosen ++ idle_other_phases (in_arm r id false) (n + term_accesses test + accesses_of chosen) other
  idle_form_phases r n id place (repeats test body) = idle_phases r (n + term_accesses test) body
  idle_form_phases r n id place (counts iterator declared low high factor body combine combine_place) =
      unless_turns
      (folded (phases (in_loop r (loop_of iterator low high factor)) n body) (other_phases (in_loop r (loop_of iterator low high factor)) (n + accesses_of body) combine))
      (form_phases r n id place (counts iterator declared low high factor body combine combine_place))
      ++ (idle_phases (in_loop r (loop_of iterator low high factor)) n body ++ idle_other_phases (in_loop r (loop_of iterator low high factor)) (n + accesses_of body) combine)
  idle_form_phases r n id place (blocks body) = idle_groups_phases r n body

  pub idle_other_phases : Around → (n : ℕ) → MaybeAction → List Phase
  idle_other_phases r n no_action = []
  idle_other_phases r n (one_action a) = idle_phases r n a

  pub idle_groups_phases : Around → (n : ℕ) → Groups → List Phase
  idle_groups_phases r n no_groups = []
  idle_groups_phases r n (group_then part rest) = idle_part_phases r n part ++ idle_groups_phases r (n + part_accesses part) rest

  pub idle_part_phases : Around → (n : ℕ) → Actions → List Phase
  idle_part_phases r n no_actions = []
  idle_part_phases r n (action_then a rest) = idle_phases r n a ++ idle_part_phases r (n + accesses_of a) rest

abbrev pub idle_phases_of : Program → List Phase
idle_phases_of p = idle_phases nothing_around 0 p.body
