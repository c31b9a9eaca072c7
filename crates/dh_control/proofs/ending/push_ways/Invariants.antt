-- The ways of the states before the index are there, and the wires of registers are as they were.
use Rattle.std.proofs.Common.{◌≡◌, length}
use Rattle.dh_control.specs.AllBlocks.{WaysAdded, state_ways}
use Rattle.dh_control.proofs.ending.push_ways.Given as goal

abbrev pub invariant-loop-i : goal.invariant-loop-i
invariant-loop-i l = record {
  added : WaysAdded l.fn.circuit l.circuit l.widths l.width (length l.states) l.state l.commit l.fn.after.items (state_ways l.states) l.i l.fn.moves l.moves l.fn.leads l.leads;
  kept : l.after.items ≡ l.fn.after.items;
}
