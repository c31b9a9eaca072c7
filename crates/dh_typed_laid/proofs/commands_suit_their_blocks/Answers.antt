use Rattle.dh_typed_laid.proofs.EachFormed.{each_forms, made_commands_suit}
use Rattle.dh_typed_laid.proofs.commands_suit_their_blocks.Goals as goal

pub returns-clause-suit : goal.returns-clause-suit
returns-clause-suit c = made_commands_suit

pub returns-clause-form : goal.returns-clause-form
returns-clause-form c scene around cs old new m few = each_forms scene around cs old new m few
