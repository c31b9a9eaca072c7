use Rattle.dh_parser.proofs.StepsOfPrograms.{program_answered}
use Rattle.dh_parser.proofs.laws.reading_is_answered.Goals as goal

-- src/laws.rt:14:1
pub returns : goal.returns
returns c = program_answered
