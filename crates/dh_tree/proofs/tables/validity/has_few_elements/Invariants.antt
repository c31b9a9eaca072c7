use Rattle.std.proofs.Common.{drop, ◌+◌, ◌≡◌}
use Rattle.std.specs.List.{AllByRecursion}
use Rattle.dh_tree.specs.Tables.{IsEntry, elements_in, most_elements}
use Rattle.dh_tree.proofs.tables.validity.has_few_elements.Given as goal

-- what room is left for the rest, all of which can stand in a net
abbrev pub invariant-loop-entry : goal.invariant-loop-entry
invariant-loop-entry l =
    record {
      entries : AllByRecursion IsEntry (drop l.entry-index l.entries);
      room : elements_in l.entries + l.room ≡ elements_in (drop l.entry-index l.entries) + most_elements;
    }
