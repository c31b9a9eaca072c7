-- One block on: its ports stand at the front of those that are left, and its wires are put behind those so far.
use Rattle.std.proofs.Common.{ℕ, List, arith, ap, sym, ◌∙◌, subst, drop, length, ◌++◌}
use Rattle.dh_value.specs.declared.kinds.Kind.{Kind}
use Rattle.dh_plan.specs.Passes.{uses_seen}
use Rattle.dh_plan.specs.SeenPlans.{plan_seen}
use Rattle.dh_plan.specs.declared.operations.PlanBlock.{PlanBlock}
use Rattle.dh_datapath.specs.RegistersShown.{ShowRegisters}
use Rattle.dh_datapath.proofs.BlocksMade.{blocks_begin, blocks_turn, blocks_end, own_operations, formed_as, added_as}
use Rattle.dh_datapath.proofs.PartsByBlock.{before_first, rest_long, rest_front, rest_next}
use Rattle.dh_datapath.proofs.PortsOfRows.{formed_row}
use Rattle.dh_datapath.proofs.blocks.push_blocks.Goals as goal

pub loop-block-init : goal.loop-block-init
loop-block-init c = record {
  rest = c.as_slice-rest.ensures ∙ ap (λ (k : ℕ). drop k c.args.binding.now.ports) (sym (before_first (plan_seen c.args.plan.now)));
  so_far = blocks_begin c.args.circuit.now c.push_registers.new.circuit (plan_seen c.args.plan.now) (uses_seen c.args.binding.now) c.in_ok-registers.registers c.in_ok-kinds.kinds c.in_ok-values.values
      c.in_ok-kinds.ensures c.in_ok-values.ensures c.in_ok-registers.ensures.grows
      (subst (λ (ks : List Kind). ShowRegisters c.push_registers.new.circuit ks c.in_ok-registers.registers) c.as_slice.ensures c.in_ok-registers.ensures.show);
}

pub split_at-parts-requires : goal.split_at-parts-requires
split_at-parts-requires c =
    let items_are = ap (λ (l : List PlanBlock). length l) c.as_slice-block-items.ensures in
    rest_long (plan_seen c.args.plan.now) c.loop-block.block-index c.args.binding.now.ports c.loop-block.rest.now c.as_slice-operations.result.now (omega (arith, items_are)) c.requires.all_ports c.loop-block.invariant.rest
    (own_operations (plan_seen c.args.plan.now) c.as_slice-block-items.result.now c.loop-block.block-index c.block-item.result c.as_slice-operations.result.now c.as_slice-block-items.ensures (omega arith) c.block-item.is c.as_slice-operations.ensures)

pub push_row-requires-clause-formed : goal.push_row-requires-clause-formed
push_row-requires-clause-formed c =
    let operations = own_operations (plan_seen c.args.plan.now) c.as_slice-block-items.result.now c.loop-block.block-index c.block-item.result c.as_slice-operations.result.now c.as_slice-block-items.ensures (omega arith) c.block-item.is
    c.as_slice-operations.ensures in
    formed_as (plan_seen c.args.plan.now) (uses_seen c.args.binding.now) c.loop-block.block-index c.split_at-parts.result.0.now c.len-first.result c.as_slice-operations.result.now
    (rest_front (plan_seen c.args.plan.now) c.loop-block.block-index c.args.binding.now.ports c.loop-block.rest.now c.split_at-parts.result.0.now c.as_slice-operations.result.now c.loop-block.invariant.rest operations c.split_at-parts.ensures.front)
    (c.len-first.ensures ∙ c.loop-block.invariant.so_far.values_long) operations
    (formed_row (plan_seen c.args.plan.now) (uses_seen c.args.binding.now) c.requires.formed c.requires.ports c.loop-block.block-index)

pub loop-block-preserved : goal.loop-block-preserved
loop-block-preserved c =
    let operations = own_operations (plan_seen c.args.plan.now) c.as_slice-block-items.result.now c.loop-block.block-index c.block-item.result c.as_slice-operations.result.now c.as_slice-block-items.ensures (omega arith) c.block-item.is
    c.as_slice-operations.ensures in
    record {
      rest = rest_next (plan_seen c.args.plan.now) c.loop-block.block-index c.args.binding.now.ports c.loop-block.rest.now c.split_at-parts.result.1.now c.as_slice-operations.result.now c.loop-block.invariant.rest operations
          c.split_at-parts.ensures.back;
      so_far = blocks_turn c.args.circuit.now c.loop-block.circuit c.push_row.new.circuit (plan_seen c.args.plan.now) (uses_seen c.args.binding.now) c.in_ok-registers.registers c.loop-block.block-index c.loop-block.kinds
          c.loop-block.values c.in_ok-row.row c.append.new.list c.append-in-loop-block.new.list c.loop-block.invariant.so_far
          (added_as c.loop-block.circuit c.push_row.new.circuit (plan_seen c.args.plan.now) (uses_seen c.args.binding.now) c.in_ok-registers.registers.offset c.loop-block.block-index c.split_at-parts.result.0.now c.len-first.result
          c.as_slice-operations.result.now c.in_ok-row.row
          (rest_front (plan_seen c.args.plan.now) c.loop-block.block-index c.args.binding.now.ports c.loop-block.rest.now c.split_at-parts.result.0.now c.as_slice-operations.result.now c.loop-block.invariant.rest operations
          c.split_at-parts.ensures.front)
          (c.len-first.ensures ∙ c.loop-block.invariant.so_far.values_long) operations c.in_ok-row.ensures)
          (c.in_ok-append.ensures ∙ ap (λ (l : List Kind). c.loop-block.kinds ++ l) c.as_slice-in-loop-block.ensures)
          (c.in_ok-append-2.ensures ∙ ap (λ (l : List ℕ). c.loop-block.values ++ l) c.as_slice-in-loop-block-2.ensures);
    }

pub returns : goal.returns
returns c =
    let items_are = ap (λ (l : List PlanBlock). length l) c.as_slice-block-items.ensures in
    blocks_end c.args.circuit.now c.loop-block.circuit (plan_seen c.args.plan.now) (uses_seen c.args.binding.now) c.args.offset c.loop-block.block-index _ (omega (arith, items_are)) c.in_ok-registers.ensures.from c.loop-block.invariant.so_far
