use Rattle.std.proofs.Common.{take}
use Rattle.dh_bind.specs.Costs.{Noted, costs_in}
use Rattle.dh_bind.proofs.costs.note_operations.Given as goal

abbrev pub invariant-loop-operation : goal.invariant-loop-operation
invariant-loop-operation l = Noted l.wide (take l.operation-index l.operations) (costs_in l.wide l.initial.memories l.initial.counts) (costs_in l.wide l.memories l.counts)
