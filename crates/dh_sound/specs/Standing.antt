-- Where a run stands: at a block of the program, at the paths inside the loops round it, each of which is in a
-- turn. What a program has to keep for that, and what its steps have to keep for it never to be stuck.
use Rattle.std.specs.Prelude.{◌≡◌, ℕ, ◌≤◌, false, List, [], ◌∷◌, ◌++◌}
use Rattle.dh_base.specs.declared.outcomes.Outcome.TheVariants.{Going}
use Rattle.dh_tree.specs.Elements.{ports_at}
use Rattle.dh_meaning.specs.Paths.{Path}
use Rattle.dh_meaning.specs.Core.{CoreCommands, Turning, CorePhase, straightly, turning, looping, choosing, CorePhases, no_core_phases, phase_and, CoreProgram}
use Rattle.dh_meaning.specs.Effects.{Variables, Block, commands, block_run, spent}
use Rattle.dh_meaning.specs.Levels.{any_assigns}
use Rattle.dh_meaning.specs.Runs.{RunPlace, ended, at, run_state, step_effect}
use Rattle.dh_sound.specs.Blocks.{StandsIn, paths_inside, AreInTurn}

-- commands assign to the iterator of none of these loops
abbrev pub Spares : CoreCommands → List Turning → Type 0
Spares cs [] = Unit {0}
Spares cs (loop ∷ loops) = (any_assigns loop.iterator cs ≡ false) × Spares cs loops

-- it is the iterator of none of these loops
abbrev pub IsFresh : (iterator : ℕ) → List Turning → Type 0
IsFresh iterator [] = Unit {0}
IsFresh iterator (loop ∷ loops) = (loop.iterator ≡ iterator → ⊥) × IsFresh iterator loops

abbrev mutual
  -- in these phases, which stand in loops, no loop has the iterator of one round it
  pub PhasesAreApart : (round : List Turning) → CorePhases → Type 0
  PhasesAreApart round no_core_phases = Unit {0}
  PhasesAreApart round (phase_and p ps) = IsApart round p × PhasesAreApart round ps

  pub IsApart : (round : List Turning) → CorePhase → Type 0
  IsApart round (straightly cs) = Unit {0}
  IsApart round (turning loop body) = IsFresh loop.iterator round × PhasesAreApart (round ++ loop ∷ []) body
  IsApart round (looping test body) = PhasesAreApart round body
  IsApart round (choosing test chosen other) = PhasesAreApart round chosen × PhasesAreApart round other

-- What a program keeps of its iterators: names are resolved, each `for` declares its own, and nothing may
-- assign to an iterator.
pub record KeepsIterators (c : CoreProgram) : Type 0 where
  -- commands assign to the iterator of no loop in which they stand
  pub keeps : (loops : List Turning) (cs : CoreCommands) → StandsIn [] c.phases loops (commands cs) → Spares cs loops
  -- loops that stand one in the other have iterators that differ
  pub apart : PhasesAreApart [] c.phases

-- a block of the program is done at these paths: it stands in loops, these are the paths inside them, and each
-- of the loops is in a turn
pub record StandsInTurn (c : CoreProgram) (paths : List Path) (b : Block) (variables : Variables) : Type 0 where
  pub loops : List Turning
  pub block : StandsIn [] c.phases loops b
  pub copies : paths ≡ paths_inside loops
  pub turns : AreInTurn [] loops variables

-- a run that stands at this place stands so, or is at its end
abbrev pub IsPlaceInTurn : CoreProgram → RunPlace → Variables → Type 0
IsPlaceInTurn c ended variables = Unit {0}
IsPlaceInTurn c (at paths b k) variables = StandsInTurn c paths b variables

-- in each step that a run does, each bank spends at most its ports
abbrev pub StepsKeepPorts : CoreProgram → (memories : List (List ℕ)) → Type 0
StepsKeepPorts c memories =
    (n : ℕ) → (run_state c memories n).outcome ≡ Going → (memory bank : ℕ)
    → spent (step_effect c.table (run_state c memories n)).events memory bank ≤ ports_at c.table memory

-- A block of the program, done at the paths inside the loops in which it stands while each of them is in a turn,
-- spends on each bank at most its ports.
pub record BlocksKeepPorts (c : CoreProgram) : Type 0 where
  pub within : (loops : List Turning) (b : Block) → StandsIn [] c.phases loops b
      → (memories : List (List ℕ)) (variables : Variables) → AreInTurn [] loops variables → (memory bank : ℕ)
      → spent (block_run (record { table = c.table; memories = memories }) (paths_inside loops) b (record { variables = variables; events = [] })).events memory bank
      ≤ ports_at c.table memory
