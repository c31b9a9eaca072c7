-- What is put down of the blocks so far.
use Rattle.dh_plan.specs.SeenPlans.{plan_seen}
use Rattle.dh_address.proofs.PlanBlocks.{Laid}
use Rattle.dh_address.proofs.addressing.address_blocks.Given as goal

abbrev pub invariant-loop-block : goal.invariant-loop-block
invariant-loop-block l = Laid (plan_seen l.plan) l.block-index l.list l.starts.items l.first
