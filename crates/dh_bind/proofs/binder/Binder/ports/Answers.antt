-- One turn over the blocks of the plan.
use Rattle.std.proofs.Common.{arith, ap, ◌∙◌, ◌++◌, List, Option, ℕ}
use Rattle.dh_plan.specs.declared.operations.Operation.{Operation}
use Rattle.dh_bind.specs.Drafts.{all_pairs}
use Rattle.dh_bind.proofs.Driven.{row_narrow}
use Rattle.dh_bind.proofs.Paired.{ports_need, blocks_step}
use Rattle.dh_bind.proofs.binder.Binder.ports.Goals as goal

pub push_pairs-requires-clause-wide : goal.push_pairs-requires-clause-wide
push_pairs-requires-clause-wide c = row_narrow (record { plan = c.self.inside.plan.now; firsts = c.self.inside.firsts.items }) c.self.invariant.draft c.self.inside.wide c.self.invariant.wide

pub push_pairs-requires-clause-fits : goal.push_pairs-requires-clause-fits
push_pairs-requires-clause-fits c =
    ports_need c.args.self (record { plan = c.self.inside.plan.now; firsts = c.self.inside.firsts.items }) c.self.view_is c.self.invariant.draft c.requires
    c.as_slice-block-items.result.now c.as_slice-block-items.ensures c.loop-block.block-index c.block-item.result (omega arith) c.block-item.is
    c.as_slice-in-loop-block.result.now c.as_slice-in-loop-block.ensures c.self.inside.wide c.self.invariant.wide c.as_slice.result.now c.as_slice.ensures.value

pub loop-block-preserved : goal.loop-block-preserved
loop-block-preserved c =
    blocks_step c.self.inside.wide c.self.inside.firsts.items c.as_slice-block-items.result.now c.loop-block.block-index c.block-item.result c.loop-block.all c.push_pairs.new.all _ (omega arith) c.block-item.is c.loop-block.invariant
    (c.in_ok-push_pairs.ensures ∙ (ap (λ (x : List (Option ℕ)). c.loop-block.all ++ all_pairs c.self.inside.wide x c.as_slice-in-loop-block.result.now) c.as_slice.ensures.value
    ∙ ap (λ (x : List Operation). c.loop-block.all ++ all_pairs c.self.inside.wide c.self.inside.firsts.items x) c.as_slice-in-loop-block.ensures))
