-- A ledger keeps its numbers in a longer list that ends in zeros. So the number of a bank is found at
-- its place, past the last bank too: there both lists give 0. A number that is set below the cut is
-- set in the cut list.
use Rattle.std.proofs.Common.{arith, ap, sym, subst, ◌∙◌, ℕ, ◌+◌, ◌-◌, ◌<◌, ◌≤◌, ◌≡◌, length, take, slice_index, slice_set, inl, inr}
use Rattle.std.proofs.lemmas.Bool.{cases_lt}
use Rattle.std.proofs.lemmas.List.{get_or-take, get_or_past, get_or-replicate, length-replicate, length-take-le}
use Rattle.std.proofs.Math.Seq.{take-set-lt}
use Rattle.dh_ledger.specs.declared.count_ledger.CountLedger.TheInside.{Inside}
use Rattle.dh_ledger.specs.Spending.{Spending, zero_counts, banks, spent_on, raised}
use Rattle.dh_ledger.specs.Calls.{SpendingFits}
use Rattle.dh_ledger.specs.Counts.{held_spending, HasFittingCounts}

-- there are as many banks as the field says
pub banks_of : (l : Inside) → HasFittingCounts l → banks (held_spending l) ≡ l.banks
banks_of l h = let long = h.long in let fit = h.banks_fit in length-take-le l.banks l.counts (omega arith)

-- the number of a bank is the one at its place
pub number : (l : Inside) → HasFittingCounts l → (bank : ℕ) → spent_on (held_spending l) bank ≡ slice_index l.counts bank
number l h bank = elim (cases_lt bank l.banks) [
  | inl below ↦ get_or-take l.banks l.counts bank 0 below
  | inr past ↦ let cut = banks_of l h in get_or_past (take l.banks l.counts) bank 0 (omega arith) ∙ sym (h.none_past bank past)
]

-- a number that rises within the ports
pub spend_fits : (l : Inside) (s : Spending) → held_spending l ≡ s → HasFittingCounts l → (bank count number_then : ℕ) → bank < banks s → count ≤ l.ports - slice_index l.counts bank → number_then ≡ slice_index l.counts bank + count → SpendingFits s (held_spending (record { counts = slice_set l.counts bank number_then; banks = l.banks; ports = l.ports })) bank count
spend_fits l s is h bank count number_then below left rises =
    let same = number l h bank in
    let most = h.within bank in
    let total : banks s ≡ l.banks = ap (λ t. banks t) (sym is) ∙ banks_of l h in
    let inside : bank < l.banks = omega (arith, below, total) in
    let raise : Spending → Spending = λ t. raised t bank count in
    let fits : spent_on (held_spending l) bank + count ≤ l.ports = omega arith in
    let then_is : number_then ≡ spent_on (held_spending l) bank + count = rises ∙ ap (λ n. n + count) (sym same) in
    let set_is : take l.banks (slice_set l.counts bank number_then) ≡ slice_set (take l.banks l.counts) bank (spent_on (held_spending l) bank + count) =
    take-set-lt l.banks l.counts bank number_then inside ∙ ap (λ n. slice_set (take l.banks l.counts) bank n) then_is in
    let new_is : held_spending (record { counts = slice_set l.counts bank number_then; banks = l.banks; ports = l.ports }) ≡ raised (held_spending l) bank count =
    ap (λ xs. record { ports = l.ports; spent = xs }) set_is in
    record { fits = subst (λ t. spent_on t bank + count ≤ t.ports) is fits; new_is = new_is ∙ ap raise is }

-- the number answered is that of the bank
pub spent_before : (l : Inside) (s : Spending) → held_spending l ≡ s → HasFittingCounts l → (bank : ℕ) → slice_index l.counts bank ≡ spent_on s bank
spent_before l s is h bank = sym (number l h bank) ∙ ap (λ t. spent_on t bank) is

-- zeros are 0 everywhere
pub zero_everywhere : (n place : ℕ) → slice_index (zero_counts n) place ≡ 0
zero_everywhere n place = elim (cases_lt place n) [
  | inl below ↦ get_or-replicate n place 0 0 below
  | inr past ↦ let many : length (zero_counts n) ≡ n = length-replicate _ _ in get_or_past (zero_counts n) place 0 (omega arith)
]
