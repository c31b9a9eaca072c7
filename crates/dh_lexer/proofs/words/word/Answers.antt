-- Letters, digits and `_` are text.
use Rattle.std.proofs.lemmas.Str.{IsUtf8-from_ascii}
use Rattle.dh_lexer.proofs.Runs.{IsAscii-run}
use Rattle.dh_lexer.proofs.words.word.Goals as goal

pub returns-in_default-from_utf8 : goal.returns-in_default-from_utf8
returns-in_default-from_utf8 c = absurd (c.in_default-from_utf8.ensures.cases.0 (IsUtf8-from_ascii _ (IsAscii-run _ c.requires)))
