use Rattle.std.proofs.Common.{arith}
use Rattle.dh_bind.proofs.LedgerFacts.{back_turn}
use Rattle.dh_bind.proofs.ledgers.go_back.Goals as goal

pub loop-i-preserved : goal.loop-i-preserved
loop-i-preserved c =
    let t = back_turn c.args.log.now c.loop-i.i c.index-log-i.result c.loop-i.ledgers c.args.ledgers.now c.back_to.new.self (omega arith) (omega arith) c.index-log-i.is c.requires
    c.loop-i.invariant.back c.loop-i.invariant.alike c.back_to.ensures.back in
    record { back = t.0; alike = t.1 }
