use Rattle.std.proofs.Common.{◌≡◌, ◌≤◌, ◌^◌, drop, max}
use Rattle.dh_bind.specs.Drafts.{operations_rows}
use Rattle.dh_bind.proofs.operations.rows_in.Given as goal

abbrev pub invariant-loop-operation : goal.invariant-loop-operation
invariant-loop-operation l = record {
  number : max l.rows (operations_rows (drop l.operation-index l.operations)) ≡ operations_rows l.operations;
  fits : l.rows ≤ 2 ^ 32;
}
