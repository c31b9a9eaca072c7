-- The word that is read is the one at the position.
use Rattle.std.proofs.Common.{◌∙◌, sym, string_bytes}
use Rattle.dh_app.proofs.Naming.{word_is}
use Rattle.dh_app.proofs.words.word.Goals as goal

pub returns : goal.returns
returns c = c.as_str.ensures.value ∙ sym (word_is string_bytes c.args.words.now c.args.position c.index-words-position.result c.requires c.index-words-position.is)
