-- The places passed have the larger number, and the others stand as they were.
use Rattle.std.proofs.Common.{ℕ, ◌≡◌, ◌<◌, ◌≤◌, length, max, slice_index}
use Rattle.dh_ledger.proofs.count_ledger.join.Given as goal

abbrev pub invariant-loop-bank : goal.invariant-loop-bank
invariant-loop-bank l =
    (length l.counts ≡ length l.fn.counts)
    × (((k : ℕ) → k < l.bank → slice_index l.counts k ≡ max (slice_index l.fn.counts k) (slice_index l.others k))
    × ((k : ℕ) → l.bank ≤ k → slice_index l.counts k ≡ slice_index l.fn.counts k))
