use Rattle.dh_parser.proofs.SoundPrograms.{program_sound}
use Rattle.dh_parser.proofs.laws.reading_is_sound.Goals as goal

-- src/laws.rt:9:1
pub returns : goal.returns
returns c = program_sound
