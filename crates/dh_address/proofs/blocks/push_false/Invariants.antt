-- What is put down for the rest, from here, is what is put down for all.
use Rattle.std.specs.Prelude.{◌≡◌, drop, None}
use Rattle.dh_plan.specs.declared.operations.OperationForm.TheVariants.{Constant}
use Rattle.dh_rows.specs.MadeOperations.{made, pushed}
use Rattle.dh_address.specs.Pieces.{false_behind_all, false_word}
use Rattle.dh_address.proofs.blocks.push_false.Given as goal

abbrev pub invariant-loop-value : goal.invariant-loop-value
invariant-loop-value l =
    false_behind_all (made l.list l.so_far) (drop l.value-index l.values) ≡ false_behind_all (pushed l.fn.list None (Constant false_word)) l.values
