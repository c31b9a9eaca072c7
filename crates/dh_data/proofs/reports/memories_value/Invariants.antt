use Rattle.std.proofs.Common.{◌≡◌, drop, map}
use Rattle.std.specs.List.{AllByRecursion}
use Rattle.serde_json.specs.Data.{no_members}
use Rattle.serde_json.specs.View.{members_view}
use Rattle.dh_tree.specs.Tables.{Fits}
use Rattle.dh_data.specs.Reading.{HasCountableNumbers}
use Rattle.dh_data.specs.Reports.{outside_data}
use Rattle.dh_data.proofs.reports.memories_value.Given as goal

abbrev pub invariant-loop-i : goal.invariant-loop-i
invariant-loop-i l = record {
  same : outside_data (drop l.i l.entries) (drop l.i (map (λ v. v.items) l.lists)) (members_view l.members.entries) ≡ outside_data l.entries (map (λ v. v.items) l.lists) no_members;
  table : AllByRecursion HasCountableNumbers (drop l.i l.entries);
  fits : Fits (drop l.i l.entries) (drop l.i (map (λ v. v.items) l.lists));
}
