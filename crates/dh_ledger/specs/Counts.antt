-- The fields of a ledger that keeps one number for each bank.
use Rattle.std.specs.Prelude.{ℕ, ◌+◌, ◌-◌, ◌≤◌, ◌≡◌, List, ◌++◌, length, take, drop, max, slice_index}
use Rattle.std.proofs.Common.{arith, ap, sym, ◌∙◌}
use Rattle.std.proofs.lemmas.List.{ext_get_or, get_or-replicate, get_or-drop, take-append-drop, length-take-le, length-replicate, length-drop}
use Rattle.dh_ledger.specs.declared.count_ledger.CountLedger.TheInside.{Inside}
use Rattle.dh_ledger.specs.Spending.{Spending, zero_counts, banks}

-- the state that the fields hold
abbrev pub held_spending : Inside → Spending
held_spending l = record { ports = l.ports; spent = take l.banks l.counts }

-- the numbers fit, and past the last bank they are 0
pub record HasFittingCounts (l : Inside) : Type 0 where
  pub banks_fit : l.banks ≤ 64
  pub ports_fit : l.ports ≤ 8
  pub long : length l.counts ≡ 64
  pub within : (bank : ℕ) → slice_index l.counts bank ≤ l.ports
  pub none_past : (bank : ℕ) → l.banks ≤ bank → slice_index l.counts bank ≡ 0

-- the fields for a state
abbrev pub spending_fields : Spending → Inside
spending_fields s = record { counts = s.spent ++ zero_counts (64 - banks s); banks = banks s; ports = s.ports }

-- each number of the last list is the larger of the two at its place
pub record AreLarger (a b larger : List ℕ) : Type 0 where
  pub long : length larger ≡ length a
  pub each : (place : ℕ) → slice_index larger place ≡ max (slice_index a place) (slice_index b place)

-- numbers that are 0 past a place are those before it, and zeros
pub padded : (counts : List ℕ) (n : ℕ) → length counts ≡ 64 → n ≤ 64 → ((i : ℕ) → n ≤ i → slice_index counts i ≡ 0) → take n counts ++ zero_counts (64 - length (take n counts)) ≡ counts
padded counts n long fits none =
    let cut : length (take n counts) ≡ n = length-take-le n counts (omega (arith, long, fits)) in
    let many : length (zero_counts (64 - n)) ≡ 64 - n = length-replicate _ _ in
    let room : length (zero_counts (64 - n)) ≡ length (drop n counts) = many ∙ sym (length-drop n counts ∙ ap (λ k. k - n) long) in
    let rest : zero_counts (64 - n) ≡ drop n counts = ext_get_or 0 _ _ room (λ i h.
    get_or-replicate (64 - n) i 0 0 (omega (arith, h, many)) ∙ sym (get_or-drop n counts i 0 ∙ none (n + i) (omega arith))) in
    ap (λ k. take n counts ++ zero_counts (64 - k)) cut ∙ ap (λ r. take n counts ++ r) rest ∙ take-append-drop n counts
