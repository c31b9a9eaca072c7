use Rattle.dh_tree.specs.Seen.{term_seen}
use Rattle.dh_names.specs.Walks.{state_of}
use Rattle.dh_names.proofs.FormsDone.{stores_done}
use Rattle.dh_names.proofs.walks.NameWalk.sides.Goals as goal

pub returns : goal.returns
returns c =
    stores_done (state_of c.args.self.now) (state_of c.expression.new.self) (state_of c.expression-2.new.self)
    (term_seen c.args.sides.now.target) (term_seen c.expression.new.term) (term_seen c.args.sides.now.value) (term_seen c.expression-2.new.term)
    c.expression.ensures.tree c.expression.ensures.state c.expression-2.ensures.tree c.expression-2.ensures.state
