use Rattle.dh_cells.proofs.WiresFitWidths.{cell_found, made_found}
use Rattle.dh_cells.proofs.circuits.Circuit.is_at.Goals as goal

pub returns-clause-shows : goal.returns-clause-shows
returns-clause-shows c =
    let there = c.in-Some.ensures.lookup in
    λ same. cell_found c.args.self.now c.self.inside.table c.self.inside.widths c.self.inside.cells _ c.args.wire c.args.cell.width c.args.cell.form c.in-Some.found.now
    c.self.view_is c.self.invariant c.as_slice.ensures there.3.0 there.1 (c.is_same.ensures.0 same)

pub returns-clause-made : goal.returns-clause-made
returns-clause-made c =
    let there = c.in-Some.ensures.lookup in
    λ same. made_found c.args.self.now c.self.inside.table c.self.inside.widths c.self.inside.cells _ c.args.wire c.args.cell.width c.args.cell.form c.in-Some.found.now
    c.self.view_is c.as_slice.ensures there.3.0 there.1 (c.is_same.ensures.0 same)
