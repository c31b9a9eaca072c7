use Rattle.std.proofs.Common.{[]}
use Rattle.dh_parser.proofs.AgainPrograms.{program_again, one_tree}
use Rattle.dh_parser.proofs.laws.programs_are_read_again.Goals as goal

-- src/laws.rt:24:1
pub returns-clause-again : goal.returns-clause-again
returns-clause-again c = λ p f. program_again p [] f

-- src/laws.rt:24:1
pub returns-clause-one : goal.returns-clause-one
returns-clause-one c = one_tree
