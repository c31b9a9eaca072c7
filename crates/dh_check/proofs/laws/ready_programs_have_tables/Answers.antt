use Rattle.dh_tree.specs.Ready.{most_tokens}
use Rattle.dh_check.proofs.laws.ready_programs_have_tables.Goals as goal

pub returns : goal.returns
returns c p ready = c.kept_programs_have_tables.ensures p most_tokens ready.of_text ready.names ready.built ready.indices ready.limits ready.placements
