use Rattle.std.proofs.Common.{take}
use Rattle.dh_bind.specs.Costs.{Noted, costs_in}
use Rattle.dh_bind.specs.Drafts.{all_operations}
use Rattle.dh_bind.proofs.costs.note_blocks.Given as goal

abbrev pub invariant-loop-block : goal.invariant-loop-block
invariant-loop-block l = Noted l.wide (all_operations (take l.block-index l.blocks)) (costs_in l.wide l.initial.memories l.initial.counts) (costs_in l.wide l.memories l.counts)
