-- What the nodes from one on take, and the marks that they left.
use Rattle.std.proofs.Common.{drop}
use Rattle.dh_plan.specs.SeenPlans.{nodes_seen}
use Rattle.dh_flow.specs.Measured.{all_lists_seen, Measures, MeasuresLists}
use Rattle.dh_flow.proofs.measuring.+measure.Given as goal

abbrev pub invariant-measure-loop-i : goal.invariant-measure-loop-i
invariant-measure-loop-i l = Measures (nodes_seen (drop l.i l.nodes)) l.fn.marks.items l.marks.items l.whole

abbrev pub invariant-measure_lists-loop-i : goal.invariant-measure_lists-loop-i
invariant-measure_lists-loop-i l = MeasuresLists (all_lists_seen (drop l.i l.lists)) l.fn.marks.items l.marks.items l.whole

abbrev pub invariant-measure_lists-loop-j : goal.invariant-measure_lists-loop-j
invariant-measure_lists-loop-j l = Measures (nodes_seen (drop l.j l.list)) l.initial.marks.items l.marks.items l.footprint
