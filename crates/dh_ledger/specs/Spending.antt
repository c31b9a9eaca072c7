-- What a ledger of ports holds, and how such states compare.
use Rattle.std.specs.Prelude.{ℕ, ◌+◌, ◌≤◌, ◌≡◌, List, length, max, replicate, slice_index, slice_set}

-- the ports of each bank, and how many of them are spent on each bank, from bank 0
pub record Spending : Type 0 where
  pub ports : ℕ
  pub spent : List ℕ

abbrev pub banks : Spending → ℕ
banks s = length s.spent

-- so many zeros: the numbers of so many banks where nothing is spent
abbrev pub zero_counts : ℕ → List ℕ
zero_counts n = replicate n 0

-- how many ports of a bank are spent; 0 past the last bank
abbrev pub spent_on : Spending → ℕ → ℕ
spent_on s bank = slice_index s.spent bank

-- the state after so many more ports of one bank
abbrev pub raised : Spending → ℕ → ℕ → Spending
raised s bank count = record { ports = s.ports; spent = slice_set s.spent bank (spent_on s bank + count) }

-- no bank has spent more than its ports
abbrev pub IsWithinPorts : Spending → Type 0
IsWithinPorts s = (bank : ℕ) → spent_on s bank ≤ s.ports

-- they are of the same banks and ports
pub record SpendingsAreAlike (a b : Spending) : Type 0 where
  pub banks : banks a ≡ banks b
  pub ports : a.ports ≡ b.ports

-- what is true of every call: banks and ports stay, and no bank has spent more than its ports
pub record KeepsPortLimits (old new : Spending) : Type 0 where
  pub alike : SpendingsAreAlike old new
  pub within : IsWithinPorts new

-- each bank has the larger of its two numbers
pub record IsLarger (a b larger : Spending) : Type 0 where
  pub alike : SpendingsAreAlike a larger
  pub each : (bank : ℕ) → spent_on larger bank ≡ max (spent_on a bank) (spent_on b bank)

-- no bank has spent less in the upper one
pub record IsSpendingBelow (lower upper : Spending) : Type 0 where
  pub alike : SpendingsAreAlike lower upper
  pub each : (bank : ℕ) → spent_on lower bank ≤ spent_on upper bank

-- it is the least state above both
pub record IsLeastAbove (a b above : Spending) : Type 0 where
  pub first : IsSpendingBelow a above
  pub second : IsSpendingBelow b above
  pub least : (s : Spending) → IsSpendingBelow a s → IsSpendingBelow b s → IsSpendingBelow above s
