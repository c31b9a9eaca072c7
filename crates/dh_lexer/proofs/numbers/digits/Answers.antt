-- Letters, digits and `_` are text, and std reads their digits.
use Rattle.std.proofs.Common.{◌∙◌}
use Rattle.std.proofs.lemmas.Str.{IsUtf8-from_ascii}
use Rattle.dh_lexer.proofs.Runs.{IsAscii-run}
use Rattle.dh_lexer.proofs.Numerals.{digits_read}
use Rattle.dh_lexer.proofs.numbers.digits.Goals as goal

pub returns-in_default : goal.returns-in_default
returns-in_default c = absurd (c.in_default.ensures.cases.0 (IsUtf8-from_ascii _ (IsAscii-run _ c.requires.1.1)))

pub returns : goal.returns
returns c =
    let same = c.in-Ok.ensures.cases.0 in
    let reads = c.from_str_radix.ensures.value in
    c.ok.ensures.value ∙ digits_read c.args.radix c.args.bytes.now c.from_str_radix.result c.requires.1.1 (rw same at reads)
