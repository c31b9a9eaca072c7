use Rattle.dh_sound.proofs.CopiesFew.{few_copies}
use Rattle.dh_sound.proofs.IndicesKeep.{banks_named}
use Rattle.dh_sound.proofs.ready_accesses_are_told.Goals as goal

pub returns-clause-copies : goal.returns-clause-copies
returns-clause-copies c = few_copies

pub returns-clause-banks : goal.returns-clause-banks
returns-clause-banks c = banks_named
