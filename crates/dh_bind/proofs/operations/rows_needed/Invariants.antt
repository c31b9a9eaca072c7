use Rattle.std.proofs.Common.{◌≡◌, ◌≤◌, ◌^◌, drop, max}
use Rattle.dh_bind.specs.Drafts.{all_operations, operations_rows}
use Rattle.dh_bind.proofs.operations.rows_needed.Given as goal

abbrev pub invariant-loop-block : goal.invariant-loop-block
invariant-loop-block l = record {
  number : max l.rows (operations_rows (all_operations (drop l.block-index l.blocks))) ≡ operations_rows (all_operations l.blocks);
  fits : l.rows ≤ 2 ^ 32;
}
