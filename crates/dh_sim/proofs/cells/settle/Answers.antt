use Rattle.std.proofs.Common.{◌≡◌, ◌<◌, ◌≤◌, length, arith, ap, ◌∙◌}
use Rattle.dh_sim.proofs.Operands.{rooms_in, words_in}
use Rattle.dh_sim.proofs.Settling.{walk_on, all_hold, cell_there}
use Rattle.dh_sim.proofs.cells.settle.Goals as goal

pub cell_value-value-requires-clause-rooms : goal.cell_value-value-requires-clause-rooms
cell_value-value-requires-clause-rooms c =
    let there = cell_there c.args.net.now.cells c.as_slice-cell-items.result.now c.loop-i.i _ c.as_slice-cell-items.ensures c.loop-i-test.true in
    rooms_in c.args.net.now c.requires.valid c.args.registers.now c.args.held.now c.loop-i.wires c.loop-i.i _ c.requires.registers c.requires.held
    (c.loop-i.auto.wires ∙ c.requires.wires) _ (c.requires.valid.cells c.loop-i.i _ there).form

pub cell_value-value-requires-clause-words : goal.cell_value-value-requires-clause-words
cell_value-value-requires-clause-words c =
    let there = cell_there c.args.net.now.cells c.as_slice-cell-items.result.now c.loop-i.i _ c.as_slice-cell-items.ensures c.loop-i-test.true in
    words_in c.args.net.now c.requires.valid c.loop-i.wires c.loop-i.i _ c.loop-i.invariant.fits _ (c.requires.valid.cells c.loop-i.i _ there).form

pub loop-i-preserved : goal.loop-i-preserved
loop-i-preserved c =
    let items = c.as_slice-cell-items.result.now in
    let same : items ≡ c.args.net.now.cells = c.as_slice-cell-items.ensures in
    let many = ap length same in
    let inside : c.loop-i.i < length c.loop-i.wires = omega (arith, c.loop-i.auto.wires, c.requires.wires, many, c.loop-i-test.true) in
    walk_on c.args.net.now c.requires.valid _ _ c.loop-i.wires c.loop-i.i _ _ (cell_there _ items c.loop-i.i _ same c.loop-i-test.true) inside c.requires.fit c.loop-i.invariant
    c.cell_value-value.ensures

pub returns : goal.returns
returns c =
    let items = c.as_slice-cell-items.result.now in
    let many = ap length c.as_slice-cell-items.ensures in
    let past : length c.args.net.now.cells ≤ c.loop-i.i = omega (arith, many, c.loop-i-test.false) in
    all_hold _ _ _ c.loop-i.wires c.loop-i.i (c.loop-i.auto.wires ∙ c.requires.wires) past c.loop-i.invariant
