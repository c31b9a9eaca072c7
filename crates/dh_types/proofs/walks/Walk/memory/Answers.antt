use Rattle.std.proofs.Common.{option_map}
use Rattle.dh_tree.specs.Seen.{term_seen}
use Rattle.dh_types.specs.Walks.{typing_state_of}
use Rattle.dh_types.proofs.Wanting.{last_fact}
use Rattle.dh_types.proofs.FormsDone.{memory_done}
use Rattle.dh_types.proofs.walks.Walk.memory.Goals as goal

pub returns : goal.returns
returns c = last_fact _ c.learn.result c.learn.ensures λ learns name places.
    memory_done (typing_state_of c.args.self.now) (typing_state_of c.value.new.self) (typing_state_of c.learn.new.self) name c.args.shape.now places (option_map term_seen c.args.value.now) (option_map term_seen c.value.new.value) _
    c.value.ensures.tree c.value.ensures.state c.memory_fact.ensures learns
