use Rattle.dh_code.proofs.LinksPassed.{trimmed_same}
use Rattle.dh_code.proofs.passing.trimmed.Goals as goal

pub returns-clause-numbers : goal.returns-clause-numbers
returns-clause-numbers c e = trimmed_same c.args.numbers.at c.args.numbers.len c.args.count e
