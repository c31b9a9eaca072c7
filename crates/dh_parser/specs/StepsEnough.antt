-- Readers of lists that are given steps enough: those as which the parsers of the code answer that
-- read as many as there are.
use Rattle.std.specs.Prelude.{List}
use Rattle.dh_lexer.specs.declared.tokens.Token.{Token}
use Rattle.dh_parser.specs.Grammar.{DimsText, PartsText, PartText, CombineText, ItemsText}
use Rattle.dh_parser.specs.Reading.{Outcome, steps, the_dims, the_parts, the_part, the_block, the_combine, the_items}

-- all dimensions of a type
abbrev pub all_dims : List Token → Outcome DimsText
all_dims ts = the_dims (steps ts) ts

-- all parts of a block, between `---`
abbrev pub all_parts : List Token → Outcome PartsText
all_parts ts = the_parts the_block (steps ts) ts

-- all commands of a part
abbrev pub whole_part : List Token → Outcome PartText
whole_part ts = the_part the_block (steps ts) ts

-- what follows the block of a `for`
abbrev pub whole_combine : List Token → Outcome CombineText
whole_combine ts = the_combine the_block ts

-- all that stands before the body of a program
abbrev pub all_items : List Token → Outcome ItemsText
all_items ts = the_items (steps ts) ts
