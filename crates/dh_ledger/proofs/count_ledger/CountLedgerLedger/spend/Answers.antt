use Rattle.std.proofs.Common.{refl}
use Rattle.dh_ledger.proofs.Kept.{spend_fits, spent_before}
use Rattle.dh_ledger.proofs.count_ledger.CountLedgerLedger.spend.Goals as goal

pub returns-clause-answer : goal.returns-clause-answer
returns-clause-answer c =
    (spent_before _ _ c.self.view_is c.self.invariant _, spend_fits _ _ c.self.view_is c.self.invariant _ _ _ c.requires.bank c.if-count-self.false refl)
