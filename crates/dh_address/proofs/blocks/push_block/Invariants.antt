-- Whatever the rest of the operations become from here, all become from the start.
use Rattle.std.specs.Prelude.{ℕ, List, drop}
use Rattle.dh_plan.specs.declared.operations.Operation.{Operation}
use Rattle.dh_address.specs.Images.{ArePieces}
use Rattle.dh_address.specs.SeenAround.{around_first, around_seen}
use Rattle.dh_address.proofs.blocks.push_block.Given as goal

abbrev pub invariant-loop-operation : goal.invariant-loop-operation
invariant-loop-operation l =
    (new : List Operation) (numbers : List ℕ) → ArePieces l.registers (around_seen l.old l.known) (drop l.operation-index l.old.operations.now) l.list new numbers
    → ArePieces l.registers (around_first l.old l.fn.first) l.old.operations.now l.fn.list new numbers
