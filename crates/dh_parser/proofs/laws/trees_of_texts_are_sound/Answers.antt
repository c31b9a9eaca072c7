use Rattle.dh_parser.proofs.TextsSound.{texts_are_sound}
use Rattle.dh_parser.proofs.laws.trees_of_texts_are_sound.Goals as goal

pub returns : goal.returns
returns c = texts_are_sound
