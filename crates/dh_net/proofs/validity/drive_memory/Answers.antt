use Rattle.std.proofs.Common.{List, sym, subst}
use Rattle.dh_net.specs.declared.nets.Driver.{Driver}
use Rattle.dh_net.specs.Parts.{DrivePort}
use Rattle.dh_net.proofs.PortWalks.{port_passed, port_refused}
use Rattle.dh_net.proofs.validity.drive_memory.Goals as goal

pub returns-then-not-are_drivers : goal.returns-then-not-are_drivers
returns-then-not-are_drivers c =
    let refused = port_refused c.args.cells.now c.args.memory c.args.entry.now c.args.lists.now c.loop-k.k _ c.memory_port.result c.index-lists-k.result c.loop-k-test.true c.requires.ports
    c.index-lists-k.is c.memory_port.ensures
    (λ good.
    let holds = c.are_drivers.ensures.1 (subst (λ (x : List Driver). DrivePort c.args.cells.now c.memory_port.result x) (sym c.as_slice.ensures) good) in
    let fails = c.if-not-are_drivers.true in
    cc) c.loop-k.invariant in
    (λ false_is. absurd (cc), λ whole. absurd (refused whole))

pub loop-k-preserved : goal.loop-k-preserved
loop-k-preserved c =
    port_passed c.args.cells.now c.args.memory c.args.entry.now c.args.lists.now c.loop-k.k _ c.memory_port.result c.index-lists-k.result c.loop-k-test.true c.requires.ports
    c.index-lists-k.is c.memory_port.ensures
    (subst (λ (x : List Driver). DrivePort c.args.cells.now c.memory_port.result x) c.as_slice.ensures (c.are_drivers.ensures.0 c.if-not-are_drivers.false)) c.loop-k.invariant
