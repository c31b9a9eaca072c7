use Rattle.dh_tree.specs.Seen.{term_seen}
use Rattle.dh_types.specs.Walks.{typing_state_of}
use Rattle.dh_types.proofs.FormsDone.{stores_done}
use Rattle.dh_types.proofs.walks.Walk.sides.Goals as goal

pub returns : goal.returns
returns c =
    stores_done (typing_state_of c.args.self.now) (typing_state_of c.access.new.self) (typing_state_of c.right_side.new.self)
    (term_seen c.args.sides.now.target) (term_seen c.access.new.target) (term_seen c.args.sides.now.value) (term_seen c.right_side.new.value)
    c.access.ensures.tree c.access.ensures.state c.right_side.ensures.tree c.right_side.ensures.state
