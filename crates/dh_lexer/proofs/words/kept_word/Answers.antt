-- A word is looked up among those of its length.
use Rattle.std.proofs.Common.{◌≡◌, ◌∙◌, length, rules, refl}
use Rattle.dh_lexer.proofs.WordLengths.{kept_by_length, no_word}
use Rattle.dh_lexer.proofs.words.kept_word.Goals as goal

pub returns-in-2 : goal.returns-in-2
returns-in-2 c =
    let long : length c.args.text.now ≡ 2 = search rules in
    c.word_of_two.ensures ∙ kept_by_length c.args.text.now 2 long

pub returns-in-3 : goal.returns-in-3
returns-in-3 c =
    let long : length c.args.text.now ≡ 3 = search rules in
    c.word_of_three.ensures ∙ kept_by_length c.args.text.now 3 long

pub returns-in-4 : goal.returns-in-4
returns-in-4 c =
    let long : length c.args.text.now ≡ 4 = search rules in
    c.word_of_four.ensures ∙ kept_by_length c.args.text.now 4 long

pub returns-in-5 : goal.returns-in-5
returns-in-5 c =
    let long : length c.args.text.now ≡ 5 = search rules in
    c.word_of_five.ensures ∙ kept_by_length c.args.text.now 5 long

pub returns-in-6 : goal.returns-in-6
returns-in-6 c =
    let long : length c.args.text.now ≡ 6 = search rules in
    c.word_of_six.ensures ∙ kept_by_length c.args.text.now 6 long

pub returns-in-7 : goal.returns-in-7
returns-in-7 c =
    let long : length c.args.text.now ≡ 7 = search rules in
    c.word_of_seven.ensures ∙ kept_by_length c.args.text.now 7 long

pub returns-in_default : goal.returns-in_default
returns-in_default c = no_word c.args.text.now _ refl (search rules) (search rules) (search rules) (search rules) (search rules) (search rules)
