-- What the compiler promises: a net that plays the program, or that the program is too large, and how large it is.
use Rattle.std.specs.Prelude.{◌≤◌, ℕ, List, Result, Ok, Err}
use Rattle.dh_tree.specs.Memories.{table_of}
use Rattle.dh_tree.specs.PlainTrees.{Program}
use Rattle.dh_tree.specs.Tables.{Fits}
use Rattle.dh_net.specs.declared.nets.Net.{Net}
use Rattle.dh_net.specs.Valid.{HasReadsZero}
use Rattle.dh_cells.specs.NarrowShifts.{HasNarrowShifts}
use Rattle.dh_plan.specs.Passes.{IsTooLarge}
use Rattle.dh_plan.specs.PlanSizes.{plan_size_of, most_plan}
use Rattle.dh_plan.specs.PlayedPlans.{program_run, WritesLast, PlaysItsProgram}
use Rattle.dh_swept.specs.NeededCells.{NeedsAll}
use Rattle.dh_compile.specs.declared.compiling.CompileFault.{CompileFault}
use Rattle.dh_compile.specs.declared.compiling.CompileFault.TheVariants as fault

-- A net of a program whose plan is within the limit: valid, with its table, it plays the checked run from all fitting
-- memories; its reads have data 0, a driver that writes is active only in the last clock of a step without fault,
-- no cell shifts by a constant of at least its width, and each cell and each register is needed.
pub record IsNetOfProgram (p : Program) (net : Net) : Type 0 where
  pub small : plan_size_of p ≤ most_plan
  pub plays : PlaysItsProgram p net
  pub zero_reads : HasReadsZero net
  pub shifts : HasNarrowShifts net.cells
  pub needed : NeedsAll net
  pub writes : (start : List (List ℕ)) → Fits (table_of p) start → WritesLast net (program_run p start) start

-- want of memory is free
abbrev pub Compiles : Program → Result Net CompileFault → Type 0
Compiles p (Ok net) = IsNetOfProgram p net
Compiles p (Err (fault.TooLarge size)) = IsTooLarge p size
Compiles p (Err fault.NoMemory) = Unit {0}
