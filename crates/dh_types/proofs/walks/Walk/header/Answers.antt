use Rattle.dh_types.specs.Walks.{typing_state_of}
use Rattle.dh_types.proofs.Wanting.{last_fact}
use Rattle.dh_types.proofs.FormsDone.{header_done}
use Rattle.dh_types.proofs.walks.Walk.header.Goals as goal

pub returns : goal.returns
returns c = last_fact _ c.learn.result c.learn.ensures λ learns.
    header_done (typing_state_of c.args.self.now) (typing_state_of c.bounds.new.self) (typing_state_of c.learn.new.self) c.args.header.now c.iterator_kind-kind.result c.iterator_kind-kind.ensures c.bounds.ensures learns
