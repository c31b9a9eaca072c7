use Rattle.dh_parser.proofs.PlacedTokens.{programs_are_placed}
use Rattle.dh_parser.proofs.laws.refused_tokens_are_out_of_place.Goals as goal

-- src/laws.rt:33:1
pub returns : goal.returns
returns c = programs_are_placed
