use Rattle.std.proofs.Common.{sym, subst}
use Rattle.dh_ledger.specs.Calls.{Grants}
use Rattle.dh_ledger.specs.Spending.{Spending}
use Rattle.dh_bind.proofs.LedgerFacts.{grants_at}
use Rattle.dh_bind.proofs.ledgers.grant_at.Goals as goal

pub returns : goal.returns
returns c =
    grants_at c.args.ledgers.now c.args.memory c.args.bank c.args.count c.index-ledgers-memory.result c.grant.new.l c.grant.result c.requires.memory c.index-ledgers-memory.is c.requires.bank
    (subst (λ (x : Spending). Grants x c.grant.new.l c.args.memory c.args.bank c.args.count c.grant.result) (sym c.index-ledgers-memory.is) c.grant.ensures.answer)
