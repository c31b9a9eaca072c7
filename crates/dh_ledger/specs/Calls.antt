-- What a call that spends answers, and in which state it leaves the ledger.
use Rattle.std.specs.Prelude.{ℕ, ◌+◌, ◌<◌, ◌≤◌, ◌≡◌, Result, Ok, Err}
use Rattle.dh_ledger.specs.declared.ledgers.Full.{Full}
use Rattle.dh_ledger.specs.Spending.{Spending, spent_on, raised}
use Rattle.dh_ledger.specs.Granted.{Granted}

-- the ports that are left suffice, and the bank's number rises by the count
pub record SpendingFits (old new : Spending) (bank count : ℕ) : Type 0 where
  pub fits : spent_on old bank + count ≤ old.ports
  pub new_is : new ≡ raised old bank count

-- they do not suffice, the refusal says what is spent, and nothing changes
pub record IsFull (old new : Spending) (bank count : ℕ) (full : Full) : Type 0 where
  pub beyond : old.ports < spent_on old bank + count
  pub bank_is : full.bank ≡ bank
  pub spent_is : full.spent ≡ spent_on old bank
  pub new_is : new ≡ old

-- spending so many ports of a bank answers so
abbrev pub SpendsPorts : Spending → Spending → ℕ → ℕ → Result ℕ Full → Type 0
SpendsPorts old new bank count (Ok first) = (first ≡ spent_on old bank) × SpendingFits old new bank count
SpendsPorts old new bank count (Err full) = IsFull old new bank count full

-- granting so many ports of a memory's bank answers so
abbrev pub Grants : Spending → Spending → ℕ → ℕ → ℕ → Result Granted Full → Type 0
Grants old new memory bank count (Ok token) =
    (token ≡ record { memory = memory; bank = bank; first = spent_on old bank; count = count }) × SpendingFits old new bank count
Grants old new memory bank count (Err full) = IsFull old new bank count full
