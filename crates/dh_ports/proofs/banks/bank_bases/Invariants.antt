use Rattle.std.proofs.Common.{◌≡◌, ℕ, ◌<◌, length, slice_index}
use Rattle.dh_ports.specs.Claims.{first_bank_of}
use Rattle.dh_ports.proofs.banks.bank_bases.Given as goal

abbrev pub invariant-loop-entry : goal.invariant-loop-entry
invariant-loop-entry l =
    (length l.bases.items ≡ l.entry-index)
    × ((l.base ≡ first_bank_of l.table l.entry-index)
    × ((memory : ℕ) → memory < l.entry-index → slice_index l.bases.items memory ≡ first_bank_of l.table memory))
