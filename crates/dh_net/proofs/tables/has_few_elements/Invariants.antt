use Rattle.std.proofs.Common.{drop, ◌+◌, ◌≡◌, ◌≤◌}
use Rattle.std.specs.List.{AllByRecursion}
use Rattle.dh_tree.specs.Shapes.{IsMemory}
use Rattle.dh_tree.specs.Tables.{elements_in, most_elements}
use Rattle.dh_net.proofs.tables.has_few_elements.Given as goal

-- what room is left for the rest
abbrev pub invariant-loop-entry : goal.invariant-loop-entry
invariant-loop-entry l =
    record {
      entries : AllByRecursion IsMemory (drop l.entry-index l.entries);
      within : l.room ≤ most_elements;
      room : elements_in l.entries + l.room ≡ elements_in (drop l.entry-index l.entries) + most_elements;
    }
