use Rattle.std.proofs.Common.{ℕ, List, [], length, drop, slice_index_or, ap, sym, ◌∙◌, arith}
use Rattle.std.specs.Prelude.{slice_get, slice_index}
use Rattle.dh_cells.proofs.CellsAppended.{wire_stays, wires_stay}
use Rattle.dh_plan.specs.Passes.{uses_seen}
use Rattle.dh_plan.specs.SeenPlans.{plan_seen}
use Rattle.dh_plan.specs.declared.operations.Operation.{Operation}
use Rattle.dh_plan.specs.declared.operations.PlanBlock.{PlanBlock}
use Rattle.dh_datapath.proofs.BlocksMade.{own_operations}
use Rattle.dh_datapath.proofs.PartsByBlock.{before_first, rest_long, rest_front, rest_next}
use Rattle.dh_control.specs.BlockUses.{times_at}
use Rattle.dh_control.proofs.StandsTell.{wires_at}
use Rattle.dh_control.proofs.UsesMade.{use_suits_stay}
use Rattle.dh_build.specs.DrivenUsers.{plan_times}
use Rattle.dh_build.proofs.PlanDriven.{driven_starts, driven_goes}
use Rattle.dh_build.proofs.drivers.push_uses.Goals as goal

pub loop-i-init : goal.loop-i-init
loop-i-init c = record {
  ports_left = c.as_slice-ports.ensures ∙ ap (λ (k : ℕ). drop k c.args.binding.now.ports) (sym (before_first (plan_seen c.args.plan.now)));
  times_left = ap (λ (k : ℕ). drop k c.args.clocks.now) (sym (before_first (plan_seen c.args.plan.now)));
  driven = driven_starts (plan_seen c.args.plan.now) (uses_seen c.args.binding.now) c.args.kinds.now c.args.wires.now
      (plan_times (plan_seen c.args.plan.now) c.args.active.now c.args.commits.now c.args.at.now c.args.clocks.now) c.args.circuit.now c.args.drivers.now;
}

pub split_at-own_ports-requires : goal.split_at-own_ports-requires
split_at-own_ports-requires c =
    let same = ap (λ (l : List PlanBlock). length l) c.as_slice-blocks.ensures in
    let less = c.loop-i-test.true in
    rest_long (plan_seen c.args.plan.now) c.loop-i.i c.args.binding.now.ports c.loop-i.ports.now c.as_slice-operations.result.now (omega (arith, same, less)) c.requires.ports c.loop-i.invariant.ports_left
    (own_operations (plan_seen c.args.plan.now) c.as_slice-blocks.result.now c.loop-i.i c.index-blocks-i.result c.as_slice-operations.result.now c.as_slice-blocks.ensures less c.index-blocks-i.is (c.as_slice-operations.ensures ∙ ap (λ (b : PlanBlock). b.operations) (sym c.index-blocks-i.is)))

pub push_block_uses-requires-clause-active : goal.push_block_uses-requires-clause-active
push_block_uses-requires-clause-active c =
    let same = ap (λ (l : List PlanBlock). length l) c.as_slice-blocks.ensures in
    let less = c.loop-i-test.true in
    let each = c.requires.each_active in
    wire_stays c.args.circuit.now c.loop-i.circuit (slice_index c.args.active.now c.loop-i.i) 1 c.loop-i.invariant.driven.grows
    (wires_at c.args.circuit.now c.args.active.now 1 c.loop-i.i c.requires.active (omega (arith, same, less, each)))

pub push_block_uses-requires-clause-commit : goal.push_block_uses-requires-clause-commit
push_block_uses-requires-clause-commit c =
    let same = ap (λ (l : List PlanBlock). length l) c.as_slice-blocks.ensures in
    let less = c.loop-i-test.true in
    let each = c.requires.each_commit in
    wire_stays c.args.circuit.now c.loop-i.circuit (slice_index c.args.commits.now c.loop-i.i) 1 c.loop-i.invariant.driven.grows
    (wires_at c.args.circuit.now c.args.commits.now 1 c.loop-i.i c.requires.commits (omega (arith, same, less, each)))

pub push_block_uses-requires-clause-at : goal.push_block_uses-requires-clause-at
push_block_uses-requires-clause-at c = wires_stay c.args.circuit.now c.loop-i.circuit c.args.at.now 1 c.loop-i.invariant.driven.grows c.requires.at

pub push_block_uses-requires-clause-suits : goal.push_block_uses-requires-clause-suits
push_block_uses-requires-clause-suits c =
    let own = own_operations (plan_seen c.args.plan.now) c.as_slice-blocks.result.now c.loop-i.i c.index-blocks-i.result c.as_slice-operations.result.now c.as_slice-blocks.ensures c.loop-i-test.true c.index-blocks-i.is
    (c.as_slice-operations.ensures ∙ ap (λ (b : PlanBlock). b.operations) (sym c.index-blocks-i.is)) in
    λ i o at.
    use_suits_stay c.args.circuit.now c.loop-i.circuit c.args.kinds.now c.args.wires.now c.args.memories.now _ (slice_index_or c.split_at-own_ports.result.0.now i []) o c.loop-i.invariant.driven.grows
    (ap (λ (l : List (List (ℕ × ℕ))). slice_index_or l i [])
    (rest_front (plan_seen c.args.plan.now) c.loop-i.i c.args.binding.now.ports c.loop-i.ports.now c.split_at-own_ports.result.0.now c.as_slice-operations.result.now c.loop-i.invariant.ports_left own c.split_at-own_ports.ensures.front))
    (c.requires.suit c.loop-i.i i o (ap (λ (l : List Operation). slice_get l i) (sym own) ∙ at))

pub loop-i-preserved : goal.loop-i-preserved
loop-i-preserved c =
    let plan = plan_seen c.args.plan.now in
    let own = own_operations plan c.as_slice-blocks.result.now c.loop-i.i c.index-blocks-i.result c.as_slice-operations.result.now c.as_slice-blocks.ensures c.loop-i-test.true c.index-blocks-i.is (c.as_slice-operations.ensures ∙ ap (λ (b : PlanBlock). b.operations) (sym c.index-blocks-i.is)) in
    record {
      ports_left = rest_next plan c.loop-i.i c.args.binding.now.ports c.loop-i.ports.now c.split_at-own_ports.result.1.now c.as_slice-operations.result.now c.loop-i.invariant.ports_left own c.split_at-own_ports.ensures.back;
      times_left = rest_next plan c.loop-i.i c.args.clocks.now c.loop-i.times.now c.split_at-own_times.result.1.now c.as_slice-operations.result.now c.loop-i.invariant.times_left own c.split_at-own_times.ensures.back;
      driven =
          driven_goes plan (uses_seen c.args.binding.now) c.args.kinds.now c.args.wires.now (plan_times plan c.args.active.now c.args.commits.now c.args.at.now c.args.clocks.now) c.args.memories.now c.requires.memories
          c.args.circuit.now c.loop-i.circuit c.push_block_uses.new.circuit c.requires.suit c.loop-i.i c.as_slice-blocks.result.now c.index-blocks-i.result
          (times_at (slice_index c.args.active.now c.loop-i.i) (slice_index c.args.commits.now c.loop-i.i) c.args.at.now c.split_at-own_times.result.0.now) c.split_at-own_ports.result.0.now c.as_slice-operations.result.now
          c.args.drivers.now c.loop-i.drivers c.push_block_uses.new.drivers c.as_slice-blocks.ensures c.loop-i-test.true c.index-blocks-i.is (c.as_slice-operations.ensures ∙ ap (λ (b : PlanBlock). b.operations) (sym c.index-blocks-i.is))
          (ap (λ (l : List ℕ). times_at (slice_index c.args.active.now c.loop-i.i) (slice_index c.args.commits.now c.loop-i.i) c.args.at.now l)
          (rest_front plan c.loop-i.i c.args.clocks.now c.loop-i.times.now c.split_at-own_times.result.0.now c.as_slice-operations.result.now c.loop-i.invariant.times_left own c.split_at-own_times.ensures.front))
          (rest_front plan c.loop-i.i c.args.binding.now.ports c.loop-i.ports.now c.split_at-own_ports.result.0.now c.as_slice-operations.result.now c.loop-i.invariant.ports_left own c.split_at-own_ports.ensures.front)
          c.loop-i.invariant.driven c.in_ok-push_block_uses.ensures;
    }
