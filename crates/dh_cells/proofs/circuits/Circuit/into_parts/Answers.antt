use Rattle.dh_cells.proofs.NarrowCells.{shifts_as}
use Rattle.dh_cells.proofs.SuitingRegisters.{suit_as}
use Rattle.dh_cells.proofs.circuits.Circuit.into_parts.Goals as goal

pub returns-clause-suit : goal.returns-clause-suit
returns-clause-suit c = suit_as _ _ c.self.view_is c.self.invariant.cells

pub returns-clause-shifts : goal.returns-clause-shifts
returns-clause-shifts c = shifts_as _ _ c.self.view_is c.self.invariant
