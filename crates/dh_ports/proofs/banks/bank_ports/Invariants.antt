use Rattle.std.proofs.Common.{◌≡◌, ◌++◌, drop, replicate}
use Rattle.std.specs.List.{AllByRecursion}
use Rattle.dh_tree.specs.Shapes.{IsMemory}
use Rattle.dh_ports.specs.Claims.{bank_ports_in}
use Rattle.dh_ports.proofs.banks.bank_ports.Given as goal

abbrev pub invariant-loop : goal.invariant-loop
invariant-loop l = l.ports.items ≡ l.initial.ports.items ++ replicate l.counter l.entry.shape.ports

abbrev pub invariant-loop-entry : goal.invariant-loop-entry
invariant-loop-entry l =
    (l.ports.items ++ bank_ports_in (drop l.entry-index l.table) ≡ bank_ports_in l.table)
    × AllByRecursion IsMemory (drop l.entry-index l.table)
