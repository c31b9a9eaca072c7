use Rattle.dh_gathering.proofs.BlocksPlanned.{first_is, none_at_begin, operations_are}
use Rattle.dh_gathering.proofs.laws.made_blocks_are_whole.Goals as goal

pub returns : goal.returns
returns c = λ final blocks block before after cut stands. record {
  first = first_is final blocks cut block before after stands;
  own = operations_are final blocks cut block before after stands;
  none = none_at_begin final block before after stands;
}
