use Rattle.std.proofs.Common.{◌≡◌, arith, sym, ap, ◌∙◌, get_or}
use Rattle.dh_ledger.specs.Spending.{Spending}
use Rattle.dh_bind.proofs.LedgerFacts.{ends_turn}
use Rattle.dh_bind.proofs.ledgers.note_ends.Goals as goal

pub loop-mark-preserved : goal.loop-mark-preserved
loop-mark-preserved c =
    let e : c.mark.result ≡ c.index-ledgers-mark.result = c.mark.ensures.holds in
    ends_turn c.args.ledgers.now c.args.log.now c.loop-mark.mark-index c.mark-item.result c.mark.result c.loop-mark.ends.items c.push.new.self.items _ (omega arith) c.mark-item.is c.requires
    c.loop-mark.invariant (e ∙ (c.index-ledgers-mark.is ∙ ap (λ (d : Spending). get_or c.args.ledgers.now c.mark-item.result.memory d) (sym e))) c.in_ok-push.ensures.items
