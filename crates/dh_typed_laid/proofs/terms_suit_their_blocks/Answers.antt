use Rattle.dh_typed_laid.proofs.TermsSuit.{terms_suit_blocks}
use Rattle.dh_typed_laid.proofs.terms_suit_their_blocks.Goals as goal

pub returns : goal.returns
returns c = terms_suit_blocks
