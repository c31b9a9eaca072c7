use Rattle.std.proofs.Common.{ℕ, ◌<◌, length, subst}
use Rattle.std.specs.List.{IsSplitAt}
use Rattle.dh_net.proofs.PortWalks.{memory_passed, memory_refused, too_few}
use Rattle.dh_net.proofs.validity.have_drivers.Goals as goal

pub returns-then-not-drive_memory : goal.returns-then-not-drive_memory
returns-then-not-drive_memory c =
    let split = subst (λ (n : ℕ). IsSplitAt c.loop-memory.rest.now n c.in-Some.own.now c.in-Some.others.now) c.count_ports.ensures.is c.in-Some.ensures.cases in
    let refused = memory_refused c.args.cells.now c.args.table.now c.loop-memory.memory c.index-table-memory.result c.loop-memory.rest.now _ c.loop-memory-test.true c.index-table-memory.is c.loop-memory.invariant
    c.in-Some.own.now c.in-Some.others.now split (λ good. let holds = c.drive_memory.ensures.1 good in let fails = c.if-not-drive_memory.true in cc) in
    (λ false_is. absurd (cc), λ whole. absurd (refused whole))

pub returns-in-None : goal.returns-in-None
returns-in-None c =
    let short = subst (λ (n : ℕ). length c.loop-memory.rest.now < n) c.count_ports.ensures.is c.in-None.ensures.cases in
    let refused = too_few c.args.cells.now c.args.table.now c.loop-memory.memory c.index-table-memory.result c.loop-memory.rest.now _ c.loop-memory-test.true c.index-table-memory.is c.loop-memory.invariant short in
    (λ false_is. absurd (cc), λ whole. absurd (refused whole))

pub loop-memory-preserved : goal.loop-memory-preserved
loop-memory-preserved c =
    let split = subst (λ (n : ℕ). IsSplitAt c.loop-memory.rest.now n c.in-Some.own.now c.in-Some.others.now) c.count_ports.ensures.is c.in-Some.ensures.cases in
    memory_passed c.args.cells.now c.args.table.now c.loop-memory.memory c.index-table-memory.result c.loop-memory.rest.now _ c.loop-memory-test.true c.index-table-memory.is c.loop-memory.invariant
    c.in-Some.own.now c.in-Some.others.now split (c.drive_memory.ensures.0 c.if-not-drive_memory.false)
