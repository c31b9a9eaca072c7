-- What the walk that gathers phases does in each of its steps.
use Rattle.std.specs.Prelude.{◌≡◌, ℕ, ◌-◌, ◌^◌, ◌≤◌, ◌==◌, ◌&&◌, Bool, true, false, if◌then◌else◌, List, [], ◌∷◌, ◌++◌, map, Option, Some, None, Vec}
use Rattle.std.specs.Global.{Global}
use Rattle.std.specs.Option.{is_some}
use Rattle.dh_tree.specs.declared.trees.commands.Command.{Command}
use Rattle.dh_tree.specs.PlainTrees.{Action, MaybeAction, Groups, Term}
use Rattle.dh_tree.specs.declared.trees.commands.ViewForm.{ViewForm}
use Rattle.dh_tree.specs.Seen.{action_seen, view_plan}
use Rattle.dh_tree.specs.ViewOffsets.{moves}
use Rattle.dh_meaning.specs.Sites.{nothing_around}
use Rattle.dh_meaning.specs.Phases.{phases, groups_phases, other_phases}
use Rattle.dh_phases.specs.declared.gathering.NumberedCommand.{NumberedCommand}
use Rattle.dh_phases.specs.declared.gathering.Phase.{Phase}
use Rattle.dh_phases.specs.GatheredPhases.{Gathered, Header, Numbered, straight_phase, turns_phase, loop_phase, choice_phase, all_gathered, gathered_list, as_numbered, numbered_seen, phase_list}

-- The phases of a command, of those of parts and of a block that may lack, whose accesses are numbered from `first` on.
-- What stands round them does not matter: nothing does here.
abbrev pub phases_in : (first : ℕ) → Action → List Gathered
phases_in first a = gathered_list (phases nothing_around first a)

abbrev pub phases_in_groups : (first : ℕ) → Groups → List Gathered
phases_in_groups first gs = gathered_list (groups_phases nothing_around first gs)

abbrev pub phases_in_other : (first : ℕ) → MaybeAction → List Gathered
phases_in_other first other = gathered_list (other_phases nothing_around first other)

-- the phase of commands that are done together; none where there is no command
abbrev pub one_phase : List Numbered → List Gathered
one_phase [] = []
one_phase (c ∷ cs) = straight_phase (c ∷ cs) ∷ []

abbrev pub lone_phase : Numbered → List Gathered
lone_phase c = straight_phase (c ∷ []) ∷ []

-- that of a view, which is a command where it moves
abbrev pub view_phases : (moves : Bool) → Numbered → List Gathered
view_phases true c = lone_phase c
view_phases false c = []

-- of a view of this form, a command of the code
abbrev pub viewed_phases : ViewForm → Command → (first : ℕ) → List Gathered
viewed_phases form c first = view_phases (moves (view_plan form)) (as_numbered (action_seen c) first)

-- the commands of a straight phase
abbrev pub straight_commands : Gathered → Option (List Numbered)
straight_commands (straight_phase cs) = Some cs
straight_commands (turns_phase loop header count body) = None
straight_commands (loop_phase loop test body) = None
straight_commands (choice_phase choice test chosen other) = None

-- the commands of phases that are none, or one of straight commands
abbrev pub straight_part : List Gathered → Option (List Numbered)
straight_part [] = Some []
straight_part (p ∷ []) = straight_commands p
straight_part (p ∷ q ∷ ps) = None

abbrev pub gathered_are_straight : List Gathered → Bool
gathered_are_straight ps = is_some (straight_part ps)

abbrev pub gathered_turn_phases : Numbered → Option Header → (count : ℕ) → (turn : List Gathered) → List Gathered
gathered_turn_phases loop header count [] = []
gathered_turn_phases loop header count (p ∷ ps) = if count == 0 then [] else turns_phase loop header count (all_gathered (p ∷ ps)) ∷ []

abbrev pub gathered_choice_phases : Numbered → Option Term → (chosen other : List Gathered) → List Gathered
gathered_choice_phases choice test chosen other =
    if gathered_are_straight chosen && gathered_are_straight other then lone_phase choice else choice_phase choice test (all_gathered chosen) (all_gathered other) ∷ []

-- The phases that are done when a command with these phases comes behind straight commands that stand
-- open, and the commands that then stand open: straight commands join those, other phases end them.
abbrev pub ended_by : List Numbered → List Gathered → Option (List Numbered) → List Gathered
ended_by current ps (Some cs) = []
ended_by current ps None = one_phase current ++ ps

abbrev pub left_by : List Numbered → Option (List Numbered) → List Numbered
left_by current (Some cs) = current ++ cs
left_by current None = []

abbrev pub done_by : List Numbered → List Gathered → List Gathered
done_by current ps = ended_by current ps (straight_part ps)

abbrev pub current_after : List Numbered → List Gathered → List Numbered
current_after current ps = left_by current (straight_part ps)

-- the commands of a list of the code
abbrev pub command_list : Vec NumberedCommand Global → List Numbered
command_list cs = map numbered_seen cs.items

-- both of lists of the code
abbrev pub done_behind : (current : Vec NumberedCommand Global) → (next : Vec Phase Global) → List Gathered
done_behind current next = done_by (command_list current) (phase_list next)

abbrev pub open_behind : (current : Vec NumberedCommand Global) → (next : Vec Phase Global) → List Numbered
open_behind current next = current_after (command_list current) (phase_list next)

-- the phases of the rest of a list, from those of its commands, behind commands that stand open
abbrev pub gathered : List Numbered → List (List Gathered) → List Gathered
gathered current [] = one_phase current
gathered current (ps ∷ rest) = done_by current ps ++ gathered (current_after current ps) rest

-- The phases of a turn, from those of the body and of `combine`: the last phase of the body is joined by the
-- commands of `combine` where both are straight.
abbrev pub folded_last : (last : Gathered) → Option (List Numbered) → (fold : List Gathered) → List Gathered
folded_last last (Some cs) fold = gathered cs (fold ∷ [])
folded_last last None fold = last ∷ fold

abbrev pub folded_phases : (body fold : List Gathered) → List Gathered
folded_phases [] fold = fold
folded_phases (p ∷ []) fold = folded_last p (straight_commands p) fold
folded_phases (p ∷ q ∷ ps) fold = p ∷ folded_phases (q ∷ ps) fold

-- the same of lists of the code
abbrev pub turn_of : (body fold : Vec Phase Global) → List Gathered
turn_of body fold = folded_phases (phase_list body) (phase_list fold)

-- a command is a phase alone, wherever its accesses begin
abbrev pub IsPhaseAlone : Command → Type 0
IsPhaseAlone c = (first : ℕ) → first ≤ 2 ^ 32 - 1 → phases_in first (action_seen c) ≡ lone_phase (as_numbered (action_seen c) first)
