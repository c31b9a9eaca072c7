use Rattle.std.proofs.Common.{◌≡◌, drop, max}
use Rattle.dh_bind.specs.Drafts.{all_operations, operations_width}
use Rattle.dh_bind.proofs.operations.width_needed.Given as goal

abbrev pub invariant-loop-block : goal.invariant-loop-block
invariant-loop-block l = max l.wide (operations_width (all_operations (drop l.block-index l.blocks))) ≡ operations_width (all_operations l.blocks)
