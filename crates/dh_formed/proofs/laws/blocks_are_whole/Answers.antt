use Rattle.dh_formed.proofs.BlocksWhole.{blocks_agree, blocks_agree_in_time, blocks_are_formed, blocks_have_lengths}
use Rattle.dh_formed.proofs.laws.blocks_are_whole.Goals as goal

pub returns-clause-agree : goal.returns-clause-agree
returns-clause-agree c = blocks_agree

pub returns-clause-formed : goal.returns-clause-formed
returns-clause-formed c = blocks_are_formed

pub returns-clause-time : goal.returns-clause-time
returns-clause-time c = blocks_agree_in_time

pub returns-clause-lengths : goal.returns-clause-lengths
returns-clause-lengths c = blocks_have_lengths
