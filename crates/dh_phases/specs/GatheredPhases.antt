-- The phases of a command as they are gathered: its straight commands, its loops and its tests, each with the number of
-- its first access. They are those of `dh_meaning`, of which only what stands round a command is left out; a number of
-- the code is cut at the greatest one.
use Rattle.std.specs.Prelude.{◌≡◌, ℕ, ◌-◌, ◌^◌, min, List, [], ◌∷◌, ◌++◌, map, Option, Some, None, Result, IfOk, OnOk, Vec}
use Rattle.std.specs.Global.{Global}
use Rattle.dh_tree.specs.declared.trees.commands.LoopHeader.{LoopHeader}
use Rattle.dh_tree.specs.declared.trees.expressions.Ref.{Ref}
use Rattle.dh_tree.specs.PlainTrees.{Action, ActionForm, Term, lets, lets_memory, views, assigns, stores, reduces, calls, blocks, decides, repeats, counts}
use Rattle.dh_tree.specs.Seen.{action_seen, term_seen}
use Rattle.dh_meaning.specs.CoreOf.{action_form_of, test_of}
use Rattle.dh_meaning.specs.Phases as source
use Rattle.dh_meaning.specs.Phases.{straight, turns, repeated, decided, no_phases, phase, phases}
use Rattle.dh_meaning.specs.Sites.{Around}
use Rattle.dh_phases.specs.declared.gathering.NumberedCommand.{NumberedCommand}
use Rattle.dh_phases.specs.declared.gathering.Phase.{Phase}
use Rattle.dh_phases.specs.declared.gathering.Phase.TheVariants.{Straight, Turns', Loop', Choice'}
use Rattle.dh_phases.specs.declared.gathering.Phase.TheBlock.{Row_of-Phase, end_of-Phase, more_of-Phase}

-- a command, and the number of its first access
pub record Numbered : Type 0 where
  pub command : Action
  pub first : ℕ

abbrev pub as_numbered : Action → (first : ℕ) → Numbered
as_numbered a first = record { command = a; first = first }

-- what is known of a loop before its body is looked at
pub record Header : Type 0 where
  pub iterator : Ref
  pub low : ℕ
  pub factor : ℕ

abbrev pub header_of : ActionForm → Option Header
header_of (counts iterator declared low high factor body combine combine_place) = Some (record { iterator = iterator; low = low.value; factor = factor.value })
header_of (lets name declared value) = None
header_of (lets_memory name shape shape_places value) = None
header_of (views name parent form) = None
header_of (assigns target value) = None
header_of (stores target value) = None
header_of (reduces target op value) = None
header_of (calls function arguments) = None
header_of (blocks body) = None
header_of (decides test chosen other) = None
header_of (repeats test body) = None

mutual
  pub data Gathered : Type 0 where
    -- straight commands that are done in one logical step
    straight_phase : (commands : List Numbered) → Gathered
    -- a `for` of so many turns, with the header that its command has, and the phases of a turn
    turns_phase : (loop : Numbered) → (header : Option Header) → (count : ℕ) → (body : AllGathered) → Gathered
    -- a `while` with its test, and the phases of its body
    loop_phase : (loop : Numbered) → (test : Option Term) → (body : AllGathered) → Gathered
    -- an `if` with its test, and the phases of its arms
    choice_phase : (choice : Numbered) → (test : Option Term) → (chosen other : AllGathered) → Gathered

  -- such phases in order
  pub data AllGathered : Type 0 where
    none_gathered : AllGathered
    gathered_then : Gathered → AllGathered → AllGathered

abbrev pub all_gathered : List Gathered → AllGathered
all_gathered [] = none_gathered
all_gathered (p ∷ ps) = gathered_then p (all_gathered ps)

-- a number of accesses as the code has it
abbrev pub code_number : ℕ → ℕ
code_number n = min n (2 ^ 32 - 1)

abbrev pub command_gathered : source.Located → Numbered
command_gathered c = as_numbered c.command (code_number c.first)

abbrev mutual
  pub phase_gathered : source.Phase → Gathered
  phase_gathered (straight commands) = straight_phase (map command_gathered commands)
  phase_gathered (turns loop count body) = turns_phase (command_gathered loop) (header_of (action_form_of loop.command)) count (phases_gathered body)
  phase_gathered (repeated loop body) = loop_phase (command_gathered loop) (test_of (action_form_of loop.command)) (phases_gathered body)
  phase_gathered (decided choice chosen other) = choice_phase (command_gathered choice) (test_of (action_form_of choice.command)) (phases_gathered chosen) (phases_gathered other)

  pub phases_gathered : source.Phases → AllGathered
  phases_gathered no_phases = none_gathered
  phases_gathered (phase p ps) = gathered_then (phase_gathered p) (phases_gathered ps)

-- phases of the definition as they are gathered
abbrev pub gathered_list : List source.Phase → List Gathered
gathered_list ps = map phase_gathered ps

-- What clauses see of the code's phases.
abbrev pub numbered_seen : NumberedCommand → Numbered
numbered_seen c = as_numbered (action_seen c.command.now) c.first

abbrev pub header_seen : LoopHeader → Header
header_seen h = record { iterator = h.iterator; low = h.low; factor = h.factor }

unfoldable mutual
  pub phase_seen : Phase → Gathered
  phase_seen (Straight commands) = straight_phase (map numbered_seen commands.items)
  phase_seen (Turns' command header count shape body) = turns_phase (numbered_seen command) (Some (header_seen header.now)) count (phase_row_seen body)
  phase_seen (Loop' command test shape body) = loop_phase (numbered_seen command) (Some (term_seen test.now)) (phase_row_seen body)
  phase_seen (Choice' command test shape chosen shape' other) = choice_phase (numbered_seen command) (Some (term_seen test.now)) (phase_row_seen chosen) (phase_row_seen other)

  pub phase_row_seen : {m : _} → Row_of-Phase m → AllGathered
  phase_row_seen end_of-Phase = none_gathered
  phase_row_seen (more_of-Phase p rest) = gathered_then (phase_seen p) (phase_row_seen rest)

abbrev pub phases_seen : List Phase → List Gathered
phases_seen ps = map phase_seen ps

-- such phases, in a list of the code
abbrev pub phase_list : Vec Phase Global → List Gathered
phase_list ps = phases_seen ps.items

-- these phases are given, where no memory was refused
abbrev pub GivesPhases : {E : Type 0} → Result (Vec Phase Global) E → List Gathered → Type 0
GivesPhases result given = IfOk result (λ ps. phase_list ps ≡ given)

-- these phases are put behind those that are done, where no memory was refused
abbrev pub AddsPhases : {E : Type 0} → Result (Unit {0}) E → (old new : Vec Phase Global) → List Gathered → Type 0
AddsPhases result old new added = OnOk result (phase_list new ≡ phase_list old ++ added)

-- the phases of a command, whatever stands round it, its accesses numbered from 0
abbrev pub ArePhasesOf : Vec Phase Global → Action → Type 0
ArePhasesOf ps a = (r : Around) → phase_list ps ≡ gathered_list (phases r 0 a)

-- they are gathered, where no memory was refused
abbrev pub GathersPhases : {E : Type 0} → Result (Vec Phase Global) E → Action → Type 0
GathersPhases result a = IfOk result (λ ps. ArePhasesOf ps a)
