use Rattle.std.proofs.Common.{◌≡◌, ◌++◌, drop}
use Rattle.dh_bind.specs.Drafts.{all_operations, all_pairs}
use Rattle.dh_bind.proofs.binder.Binder.ports.Given as goal

abbrev pub invariant-loop-block : goal.invariant-loop-block
invariant-loop-block l = l.all ++ all_pairs l.wide l.firsts.items (all_operations (drop l.block-index l.block-items)) ≡ all_pairs l.wide l.firsts.items (all_operations l.block-items)
