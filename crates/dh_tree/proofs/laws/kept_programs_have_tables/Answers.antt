use Rattle.dh_tree.proofs.ProgramTables.{program_table}
use Rattle.dh_tree.proofs.laws.kept_programs_have_tables.Goals as goal

pub returns : goal.returns
returns c = program_table
