use Rattle.dh_ways.proofs.MemoriesUnled.{memory_unled}
use Rattle.dh_ways.proofs.laws.memories_have_no_way.Goals as goal

pub returns : goal.returns
returns c = memory_unled
