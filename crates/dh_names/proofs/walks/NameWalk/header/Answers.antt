use Rattle.std.proofs.Common.{ap}
use Rattle.std.proofs.lemmas.Result.{on_ok_weaker}
use Rattle.dh_names.specs.Walks.{with_iterator}
use Rattle.dh_names.proofs.walks.NameWalk.header.Goals as goal

pub returns-clause-tree : goal.returns-clause-tree
returns-clause-tree c = on_ok_weaker c.declare.result (λ number room. ap (with_iterator c.args.header.now) (number room)) c.declare.ensures.tree
