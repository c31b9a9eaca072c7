use Rattle.dh_value.proofs.WordLaws.{binary_is_word, binary_kind, word_of_is_word}
use Rattle.dh_value.proofs.laws.operations_give_words.Goals as goal

pub returns : goal.returns
returns c = record { word = binary_is_word; kind = binary_kind; cast = word_of_is_word }
