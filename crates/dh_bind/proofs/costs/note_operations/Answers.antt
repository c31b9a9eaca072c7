use Rattle.std.proofs.Common.{arith}
use Rattle.dh_bind.specs.Costs.{costs_in}
use Rattle.dh_bind.proofs.Noting.{noted_turn}
use Rattle.dh_bind.proofs.costs.note_operations.Goals as goal

pub loop-operation-preserved : goal.loop-operation-preserved
loop-operation-preserved c =
    noted_turn c.args.wide c.args.operations.now c.loop-operation.operation-index c.operation-item.result (costs_in c.args.wide c.args.memories.now c.args.counts.now) (costs_in c.args.wide c.loop-operation.memories c.loop-operation.counts)
    (costs_in c.args.wide c.note_operation.new.memories c.note_operation.new.counts) (omega arith) c.operation-item.is c.loop-operation.invariant c.note_operation.ensures
