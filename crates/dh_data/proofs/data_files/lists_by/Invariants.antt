use Rattle.std.proofs.Common.{take, map}
use Rattle.serde_json.specs.View.{members_view}
use Rattle.dh_data.specs.DataFiles.{AreContents}
use Rattle.dh_data.proofs.data_files.lists_by.Given as goal

abbrev pub invariant-loop-i : goal.invariant-loop-i
invariant-loop-i l = AreContents (members_view l.members.entries) (take l.i l.entries) (map (λ v. v.items) l.lists.items)
