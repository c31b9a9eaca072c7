-- The bank so far and that of the spans to come are the whole, in 64 bits.
use Rattle.std.proofs.Common.{◌≡◌, ◌+◌, ◌-◌, ◌^◌, drop}
use Rattle.std.specs.Prelude.{min}
use Rattle.dh_expressions.specs.ReachedBanks.{spans_bank, spans_number}
use Rattle.dh_expressions.proofs.banks.bank_at.Given as goal

abbrev pub invariant-loop-span : goal.invariant-loop-span
invariant-loop-span l = min (l.bank + spans_bank (drop l.span-index l.spans) l.levels l.number) (2 ^ 64 - 1) ≡ min (spans_number l.spans l.levels l.named l.number) (2 ^ 64 - 1)
