-- Programs as the checked semantics runs them: accesses by their number in order of evaluation and memories by
-- number, variables by the number of their entity and their depth, kinds filled in and operands extended.
-- (The core language of Nigam and others, PLDI 2020, in this profile.)
use Rattle.std.specs.Prelude.{ℕ, suc, Bool, List}
use Rattle.dh_base.specs.declared.places.Place.{Place}
use Rattle.dh_value.specs.declared.kinds.Kind.{Kind}
use Rattle.dh_value.specs.declared.operators.Op.{Op}
use Rattle.dh_tree.specs.declared.tables.MemEntry.{MemEntry}
use Rattle.dh_meaning.specs.Ways.{WayStep}

-- an access of the program: its number in order of evaluation, where it stands, and the memory that it
-- leads to, by its number in the table
pub record Reach : Type 0 where
  pub number : ℕ
  pub place : Place
  pub memory : ℕ

mutual
  -- an expression
  pub data CoreTerm : Type 0 where
    -- a number of a kind
    literal : (kind : Kind) → (negative : Bool) → (value : ℕ) → CoreTerm
    truth_literal : (value : Bool) → CoreTerm
    -- a variable, of which there is one in each copy of so many unrolled loops from the outside
    variable : (kind : Kind) → (depth : ℕ) → (entity : ℕ) → CoreTerm
    -- an element of a memory
    read : (reach : Reach) → (target : Target) → CoreTerm
    -- an operation; its operands are extended already
    binary : (op : Op) → (left right : CoreTerm) → CoreTerm
    -- the value of an expression, modulo 2^width of an integer kind
    convert : (to : Kind) → (inner : CoreTerm) → CoreTerm

  -- which element: by indices, or by a row of a bank
  pub data Target : Type 0 where
    by_indices : (indices : CoreTerms) → Target
    by_row : (bank : ℕ) → (row : CoreTerm) → Target
    -- by indices of a view, the first so many of these terms, through the views on the way, the named one first; the
    -- other terms are their offsets, in the same order
    by_views : (steps : List WayStep) → (indices : ℕ) → (terms : CoreTerms) → Target

  pub data CoreTerms : Type 0 where
    no_terms : CoreTerms
    term_and : CoreTerm → CoreTerms → CoreTerms

abbrev pub count_terms : CoreTerms → ℕ
count_terms no_terms = 0
count_terms (term_and t ts) = suc (count_terms ts)

mutual
  -- a straight command: it takes one logical step, with its neighbours
  pub data CoreCommand : Type 0 where
    store : (reach : Reach) → (target : Target) → (value : CoreTerm) → CoreCommand
    assign : (depth entity : ℕ) → (value : CoreTerm) → CoreCommand
    choose : (test : CoreTerm) → (chosen other : CoreCommands) → CoreCommand
    -- variables of one depth, whose entities follow one another from a first one on: at each path all values are
    -- evaluated in order, and then kept
    keep : (depth first : ℕ) → (values : CoreTerms) → CoreCommand

  -- commands, one after the other
  pub data CoreCommands : Type 0 where
    no_commands : CoreCommands
    command_and : CoreCommand → CoreCommands → CoreCommands

-- a `for`: its iterator is a variable of this depth. Copy c of turn t, both from 0, has the value
-- low + t * factor + c.
pub record Turning : Type 0 where
  pub iterator : ℕ
  pub depth : ℕ
  pub low : ℕ
  pub factor : ℕ
  pub count : ℕ

mutual
  -- a phase, which takes at least one logical step
  pub data CorePhase : Type 0 where
    -- commands that are done in one logical step
    straightly : (commands : CoreCommands) → CorePhase
    -- the turns of a `for`
    turning : (loop : Turning) → (body : CorePhases) → CorePhase
    -- a `while`: a test, which takes a logical step, and where it holds the body and the loop again
    looping : (test : CoreTerm) → (body : CorePhases) → CorePhase
    -- an `if` whose arms are not straight: a test, which takes a logical step, and then an arm
    choosing : (test : CoreTerm) → (chosen other : CorePhases) → CorePhase

  -- phases in order
  pub data CorePhases : Type 0 where
    no_core_phases : CorePhases
    phase_and : CorePhase → CorePhases → CorePhases

-- a program: its memories, and the phases of its body in order
pub record CoreProgram : Type 0 where
  pub table : List MemEntry
  pub phases : CorePhases
