-- The spans so far tell the bank of the dimensions from this one on.
use Rattle.std.proofs.Common.{◌≡◌, ℕ, ◌-◌, ◌^◌, drop, map}
use Rattle.std.specs.Prelude.{min}
use Rattle.dh_tree.specs.Counters.{counters_of}
use Rattle.dh_tree.specs.Elements.{bank_of, banks_of}
use Rattle.dh_tree.specs.Seen.{program_seen, term_seen}
use Rattle.dh_expressions.specs.ReachedBanks.{spans_bank, term_first}
use Rattle.dh_expressions.proofs.banks.spans_of.Given as goal

abbrev pub invariant-loop-i : goal.invariant-loop-i
invariant-loop-i l = record {
  tells : (path : ℕ) → min (spans_bank l.spans.items l.levels path) (2 ^ 64 - 1)
      ≡ min (bank_of (drop l.i l.dims) (drop l.i (map (λ t. term_first (counters_of (program_seen l.scene.program.now)) l.levels path t) (map term_seen l.indices)))) (2 ^ 64 - 1);
  times : l.times ≡ min (banks_of (drop l.i l.dims)) (2 ^ 64 - 1);
}
