use Rattle.std.proofs.Common.{◌≡◌, drop, max}
use Rattle.dh_bind.specs.Drafts.{operations_width}
use Rattle.dh_bind.proofs.operations.width_among.Given as goal

abbrev pub invariant-loop-operation : goal.invariant-loop-operation
invariant-loop-operation l = max l.wide (operations_width (drop l.operation-index l.operations)) ≡ operations_width l.operations
