use Rattle.std.proofs.Common.{◌≡◌, ◌+◌, ◌≤◌, min, drop}
use Rattle.dh_tree.specs.Excesses.{most_counted}
use Rattle.dh_tree.specs.Tables.{elements_in}
use Rattle.dh_shape.proofs.limits.all_elements.Given as goal

-- the rest with the count so far is the whole
abbrev pub invariant-loop-entry : goal.invariant-loop-entry
invariant-loop-entry l =
    record {
      small : l.count ≤ most_counted;
      makes : min (l.count + elements_in (drop l.entry-index l.entries)) most_counted ≡ min (elements_in l.entries) most_counted;
    }
