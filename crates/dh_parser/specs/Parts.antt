-- Parts of texts that the parser reads by themselves.
use Rattle.std.specs.Prelude.{List}
use Rattle.dh_base.specs.declared.places.Place.{Place}
use Rattle.dh_lexer.specs.declared.tokens.Token.{Token}
use Rattle.dh_parser.specs.declared.parsing.reading.Mark.{Mark}
use Rattle.dh_parser.specs.declared.parsing.reading.Mark.TheVariants as mark
use Rattle.dh_parser.specs.Grammar.{NumberText, IndexText, BlockText, ElseText}
use Rattle.dh_parser.specs.Reading.{Outcome, good, outcome_bind, ExpressionReader, TestText, the, the_number, the_index, the_test, the_block, whole_else}

-- `{bank}`
pub record BankText : Type 0 where
  pub opener : Place
  pub bank : NumberText
  pub closer : Place

abbrev pub bank_text : Place → NumberText → Place → BankText
bank_text opener bank closer = record { opener = opener; bank = bank; closer = closer }

abbrev pub the_bank : List Token → Outcome BankText
the_bank ts =
    outcome_bind (the mark.OpenBrace ts) λ opener r.
    outcome_bind (the_number r) λ bank r.
    outcome_bind (the mark.CloseBrace r) λ closer r.
    good (bank_text opener bank closer) r

-- a bank and a row of it, `{bank}[row]`
abbrev pub the_row : ExpressionReader → List Token → Outcome (BankText × IndexText)
the_row read ts =
    outcome_bind (the_bank ts) λ b r.
    outcome_bind (the_index read r) λ i r.
    good (b, i) r

-- the word of an `if` or a `while`, and its test
abbrev pub the_asked : Mark → List Token → Outcome (Place × TestText)
the_asked word ts =
    outcome_bind (the word ts) λ p r.
    outcome_bind (the_test r) λ t r.
    good (p, t) r

-- the block of an `if`, and what follows it
abbrev pub the_arms : List Token → Outcome (BlockText × ElseText)
the_arms ts =
    outcome_bind (the_block ts) λ b r.
    outcome_bind (whole_else r) λ e r.
    good (b, e) r
