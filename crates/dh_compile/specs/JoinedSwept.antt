-- What functions of this crate promise one another of a net: its drivers are joined, and then what is not needed is
-- left out.
use Rattle.std.specs.Prelude.{ℕ, List}
use Rattle.dh_net.specs.declared.nets.Net.{Net}
use Rattle.dh_net.specs.Valid.{HasReadsZero}
use Rattle.dh_plan.specs.PlainPlans.{PlainPlan}
use Rattle.dh_plan.specs.PlayedPlans.{PlaysPlan}
use Rattle.dh_cells.specs.NarrowShifts.{HasNarrowShifts}
use Rattle.dh_swept.specs.NeededCells.{NeedsAll}
use Rattle.dh_join.specs.JoinedNets.{IsJoined}
use Rattle.dh_swept.specs.SweptLaws.{IsSweptOf}

pub record IsJoinedSwept (old new : Net) : Type 0 where
  pub between : Net
  pub joined : IsJoined old between
  pub swept : IsSweptOf between new

-- The net of a plan that comes of it: it plays the plan, its reads have data 0, no cell shifts by a constant of at least its
-- width, and each cell and each register is needed.
pub record IsPlanNet (plan : PlainPlan) (lengths : List ℕ) (net : Net) : Type 0 where
  pub plays : PlaysPlan plan lengths net
  pub zero_reads : HasReadsZero net
  pub shifts : HasNarrowShifts net.cells
  pub needed : NeedsAll net
