use Rattle.std.proofs.Common.{◌≡◌}
use Rattle.serde_json.specs.View.{members_view}
use Rattle.dh_data.specs.DataFiles.{names_of, outside_names}
use Rattle.dh_data.specs.Reading.{first_other}
use Rattle.dh_data.proofs.data_files.least_unknown.Given as goal

abbrev pub invariant-loop-name : goal.invariant-loop-name
invariant-loop-name l = first_other (outside_names l.entries) (names_of (members_view l.name-iterator)) ≡ first_other (outside_names l.entries) (names_of (members_view l.members.entries))
