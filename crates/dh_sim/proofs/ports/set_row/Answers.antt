use Rattle.std.proofs.Common.{◌<◌, length, arith}
use Rattle.std.proofs.lemmas.Option.{slice_get_within}
use Rattle.dh_sim.proofs.Serving.{row_written}
use Rattle.dh_sim.proofs.ports.set_row.Goals as goal

pub returns-then-row-port : goal.returns-then-row-port
returns-then-row-port c =
    let placed = c.requires.placed in
    let within = slice_get_within c.args.table.now c.args.port.memory placed.entry placed.there in
    let inside : c.args.port.memory < length c.args.memories.now = (let long = c.requires.memories in omega (arith, within, long)) in
    row_written c.args.table.now c.args.port c.args.memories.now c.args.row c.args.value c.place_of_row-place.result c.index-memories-port.result c.set_element.new.list
    c.if-row-port.true c.place_of_row-place.ensures inside c.set_element.ensures
