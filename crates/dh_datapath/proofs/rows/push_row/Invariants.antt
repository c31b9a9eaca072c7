use Rattle.dh_plan.specs.SeenPlans.{plan_seen}
use Rattle.dh_datapath.proofs.RowsMade.{RowSoFar}
use Rattle.dh_datapath.proofs.rows.push_row.Given as goal

abbrev pub invariant-loop-i : goal.invariant-loop-i
invariant-loop-i l = RowSoFar l.initial.circuit l.circuit (plan_seen l.plan) l.registers.offset l.used l.first l.operations l.i l.kinds l.wires
