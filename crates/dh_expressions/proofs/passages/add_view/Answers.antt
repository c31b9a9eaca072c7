use Rattle.std.proofs.Common.{arith}
use Rattle.dh_expressions.proofs.WaysShown.{view_added}
use Rattle.dh_expressions.proofs.passages.add_view.Goals as goal

pub front-own-requires : goal.front-own-requires
front-own-requires c = let e = c.within-count.ensures in omega (arith, e)

pub returns : goal.returns
returns c =
    view_added c.args.steps.now c.add_step.new.steps c.args.number c.args.link.now c.args.rest.now c.front-own.result.now c.offsets_taken-most.result c.within-count.result c.offsets_taken-most.ensures c.within-count.ensures c.front-own.ensures c.in_ok-add_step.ensures
