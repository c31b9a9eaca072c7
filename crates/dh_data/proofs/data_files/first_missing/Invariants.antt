use Rattle.std.proofs.Common.{drop}
use Rattle.serde_json.specs.View.{members_view}
use Rattle.dh_data.proofs.Names.{Leads}
use Rattle.dh_data.proofs.data_files.first_missing.Given as goal

abbrev pub invariant-loop-i : goal.invariant-loop-i
invariant-loop-i l = Leads (members_view l.members.entries) (drop l.i l.entries) l.entries l.i
