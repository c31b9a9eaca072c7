-- What a net does of which some cells and registers are kept: what the whole net does.
use Rattle.std.specs.Prelude.{◌≡◌, List, ℕ}
use Rattle.dh_net.specs.declared.nets.Net.{Net}
use Rattle.dh_net.specs.Plays.{Run, Plays}
use Rattle.dh_net.specs.Valid.{IsValid, HasReadsZero}
use Rattle.dh_plan.specs.PlayedPlans.{WritesLast}
use Rattle.dh_cells.specs.NarrowShifts.{HasNarrowShifts}
use Rattle.dh_swept.specs.NeededCells.{NeedsAll}
use Rattle.dh_swept.specs.SweptNets.{IsSwept}

pub record NetDoesTheSame (old new : Net) : Type 0 where
  pub valid : IsValid new
  pub table : new.table ≡ old.table
  pub faults : new.faults ≡ old.faults
  pub zero_reads : HasReadsZero new
  pub shifts : HasNarrowShifts old.cells → HasNarrowShifts new.cells
  pub plays : (r : Run) (start : List (List ℕ)) → Plays old r start → Plays new r start
  pub writes : (r : Run) (start : List (List ℕ)) → WritesLast old r start → WritesLast new r start

-- what a net becomes without the cells and registers that it does not need
pub record IsSweptOf (old new : Net) : Type 0 where
  pub same : NetDoesTheSame old new
  pub needed : NeedsAll new

abbrev pub SweptNetsDoTheSame : Type 0
SweptNetsDoTheSame = (old new : Net) → IsValid old → IsSwept old new → NetDoesTheSame old new
