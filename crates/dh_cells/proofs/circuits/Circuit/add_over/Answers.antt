use Rattle.dh_cells.proofs.WiresFitWidths.{valid_push, adds_push, made_push, adds_one}
use Rattle.dh_cells.proofs.circuits.Circuit.add_over.Goals as goal

pub invariant_of-self-2 : goal.invariant_of-self-2
invariant_of-self-2 c =
    valid_push c.args.self.now c.self.inside.table c.self.inside.widths c.self.inside.cells c.push.new.self c.args.cell.width c.args.cell.form c.self.view_is c.in_ok-push.ensures c.self.invariant c.requires

pub returns-clause-shows : goal.returns-clause-shows
returns-clause-shows c =
    adds_push c.args.self.now c.self.inside.table c.self.inside.widths c.self.inside.cells c.push.new.self c.len-wire.result c.args.cell.width c.args.cell.form c.self.view_is c.in_ok-push.ensures c.len-wire.ensures c.self.invariant c.requires

pub returns-clause-made : goal.returns-clause-made
returns-clause-made c = made_push c.self.inside.table c.self.inside.widths c.self.inside.cells c.push.new.self c.len-wire.result c.args.cell.width c.args.cell.form c.in_ok-push.ensures c.len-wire.ensures

pub returns-clause-adds : goal.returns-clause-adds
returns-clause-adds c = adds_one c.args.self.now c.self.inside.table c.self.inside.widths c.self.inside.cells c.push.new.self c.args.cell.width c.args.cell.form c.self.view_is c.in_ok-push.ensures
