use Rattle.dh_value.proofs.WordLaws.{value_fits, value_again, word_again, same_word, widened}
use Rattle.dh_value.proofs.laws.values_stay_in_words.Goals as goal

pub returns : goal.returns
returns c = record { within = λ a h i. value_fits a.kind a.bits i h.fits; kept = value_again; again = word_again; distinct = same_word; widened = widened }
