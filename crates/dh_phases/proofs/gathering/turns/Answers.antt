use Rattle.std.proofs.lemmas.Result.{IfOk-weaker}
use Rattle.dh_phases.proofs.SeenPhases.{turns_more}
use Rattle.dh_phases.proofs.gathering.turns.Goals as goal

pub returns : goal.returns
returns c =
    IfOk-weaker c.alone.result _ _ (λ ps is. turns_more ps.items c.args.command c.args.header c.args.count c.args.turn c.args.turn.len c.is_empty.result is c.args.turn.ok.0 c.is_empty.ensures c.if-count-eq0.false.0 c.if-count-eq0.false.1) c.alone.ensures
