use Rattle.std.proofs.Common.{◌≡◌, ◌++◌, drop}
use Rattle.dh_lengths.specs.HeldLevels.{suffixes_accesses, zero_levels}
use Rattle.dh_lengths.proofs.skipping.skip_suffixes.Given as goal

abbrev pub invariant-loop-pair : goal.invariant-loop-pair
invariant-loop-pair l = l.reads.items ++ zero_levels (suffixes_accesses (drop l.pair-index l.by)) ≡ l.fn.reads.items ++ zero_levels (suffixes_accesses l.by)
