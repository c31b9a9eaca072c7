use Rattle.std.proofs.Common.{◌≡◌, ◌-◌, ◌*◌, ◌<◌, ◌^◌, ◌++◌, length, map}
use Rattle.std.specs.List.{AllByRecursion}
use Rattle.serde_json.specs.View.{view}
use Rattle.dh_tree.specs.Tables.{elements_of}
use Rattle.dh_value.specs.Words.{width_of}
use Rattle.dh_data.specs.Reports.{nested_data, rows}
use Rattle.dh_data.proofs.reports.+nested.Given as goal

abbrev pub decreases-nested : goal.decreases-nested
decreases-nested l = length l.dims.now

abbrev pub invariant-loop : goal.invariant-loop
invariant-loop l = record {
  same : map view l.lists.items ++ rows (l.end - l.counter) (elements_of l.rest) (nested_data l.kind l.rest) l.left ≡ rows l.end (elements_of l.rest) (nested_data l.kind l.rest) l.values;
  small : AllByRecursion (λ v. v < 2 ^ width_of l.kind) l.left;
  long : length l.left ≡ (l.end - l.counter) * elements_of l.rest;
}
