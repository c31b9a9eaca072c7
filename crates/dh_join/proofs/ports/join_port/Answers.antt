use Rattle.std.proofs.lemmas.Result.{IfOk-weaker}
use Rattle.dh_join.proofs.PortsListed.{port_kept, port_joined}
use Rattle.dh_join.proofs.ports.join_port.Goals as goal

pub returns-then-count-le-MOST_KEPT : goal.returns-then-count-le-MOST_KEPT
returns-then-count-le-MOST_KEPT c =
    IfOk-weaker c.copied.result _ _ (λ kept is. port_kept _ c.args.port c.args.drivers.now kept c.if-count-le-MOST_KEPT.true is c.requires) c.copied.ensures

pub returns-else-count-le-MOST_KEPT : goal.returns-else-count-le-MOST_KEPT
returns-else-count-le-MOST_KEPT c =
    IfOk-weaker c.join_both.result _ _ (λ joined h. port_joined _ _ c.args.port c.args.drivers.now joined c.if-count-le-MOST_KEPT.false h) c.join_both.ensures
